-- Leaks that are sorted by lane and serial are in the order of a report.
use Rattle.std.proofs.Common.{◌≡◌, ℕ, ◌<◌, false, List, get_or, AllPairs, IsSortedByKey, inl, inr, arith}
use Rattle.std.specs.declared.cmp.Ordering.{Ordering}
use Rattle.std.specs.declared.cmp.Ordering.TheVariants.{Less, Equal, Greater}
use Rattle.std.specs.Cmp.{IsTotalOrder, nat_cmp_total, on_total, ranks, then_total}
use Rattle.std.specs.Ordering.{MatchOrdering, nat_cmp, ordering_then, is_lt}
use Rattle.std.proofs.lemmas.List.Sorted.{ranks_by, sorted_far}
use Rattle.pool_law.specs.declared.report.Leak.{Leak}
use Rattle.leak_records.specs.Reports.{IsNotAfter}

-- lane and serial of a leak
abbrev pub key_of : Leak → ℕ × ℕ
key_of leak = (leak.lane, leak.serial)

-- the order of such keys
abbrev pub by_key : ℕ × ℕ → ℕ × ℕ → Ordering
by_key a b = ordering_then (nat_cmp a.0 b.0) (nat_cmp a.1 b.1)

by_key_total : IsTotalOrder by_key
by_key_total = then_total (on_total (λ (k : ℕ × ℕ). k.0) nat_cmp_total) (on_total (λ (k : ℕ × ℕ). k.1) nat_cmp_total)

-- a leak that has no lower key than another is not before it
not_before : (a b : Leak) (lanes serials : Ordering)
    → MatchOrdering lanes (b.lane < a.lane) (b.lane ≡ a.lane) (a.lane < b.lane)
    → MatchOrdering serials (b.serial < a.serial) (b.serial ≡ a.serial) (a.serial < b.serial)
    → is_lt (ordering_then lanes serials) ≡ false → IsNotAfter a b
not_before a b Less serials lane serial is = cc
not_before a b Greater serials lane serial is = inl lane
not_before a b Equal Less lane serial is = cc
not_before a b Equal Equal lane serial is = inr (omega (arith, lane), omega (arith, serial))
not_before a b Equal Greater lane serial is = inr (omega (arith, lane), omega (arith, serial))

pub in_order : (leaks : List Leak) → IsSortedByKey key_of by_key leaks → AllPairs IsNotAfter leaks
in_order leaks up i j d before within =
    let far = sorted_far _ (ranks_by by_key_total key_of) leaks up i j d (omega arith) within in
    let a : Leak = get_or leaks i d in
    let b : Leak = get_or leaks j d in
    not_before a b (nat_cmp b.lane a.lane) (nat_cmp b.serial a.serial)
    (ranks b.lane a.lane) (ranks b.serial a.serial) far
