-- The totals of the roots that were born.
use Rattle.std.proofs.Common.{◌≡◌, ℕ, zero, suc, ◌+◌, ◌<◌, Bool, true, false, List, [], ◌∷◌, map, refl, sym, ap, subst, arith, ⊎_elim}
use Rattle.std.specs.Prelude.{◌⊎◌, ◌||◌}
use Rattle.std.specs.List.{AllZip, list_any}
use Rattle.pool_law.specs.declared.id.RootId.{RootId}
use Rattle.pool_law.specs.declared.note.Note.{Note}
use Rattle.pool_law.specs.declared.run.LaneLog.{LaneLog}
use Rattle.pool_law.specs.Logs.{Logs, ToldNote, of_lane}
use Rattle.pool_law.specs.Counts.{count_in, count_over, is_birth, TotalHolds}
use Rattle.pool_law.specs.Legal.{one_if}
use Rattle.run_check.specs.declared.tally.Totals.{Totals}
use Rattle.run_check.specs.declared.tally.Tally.{Tally}
use Rattle.run_check.specs.ByObject.{notes_in}
use Rattle.run_check.specs.Tallying.{total_sums, IsTally, AreTotals, EachHolds}
use Rattle.run_check.proofs.TallyLemmas.{counted_over, totals-counted}

some-part : (a b : ℕ) → 0 < a + b → (0 < a) ⊎ (0 < b)
some-part a b h = grind arith

module _ (g : Note → ToldNote) (bare : (n : Note) → (g n).note ≡ n) (test : RootId → Note → Bool) (Right : RootId →
    Type 0)
  where
    first-counted : (root : RootId) (n : Note) (ns : List Note) →
        count_in (test root) (map g (n ∷ ns)) ≡ one_if (test root n) + count_in (test root) (map g ns)
    first-counted root n ns = ap (λ (m : Note). one_if (test root m) + count_in (test root) (map g ns)) (bare n)

    pub each-hold : (ns : List Note) →
        ((root : RootId) → 0 < count_in (test root) (map g ns) → Right root) → EachHolds test Right ns
    each-hold [] f = tt
    each-hold (n ∷ ns) f = (
      λ root e.
          let one : one_if (test root n) ≡ 1 = ap one_if e in
          f root (omega (arith, first-counted root n ns, one)),
      each-hold ns (λ root some. f root (omega (arith, first-counted root n ns, some))),
    )

    pub each-back : (ns : List Note) → EachHolds test Right ns → (root : RootId) →
        0 < count_in (test root) (map g ns) → Right root
    each-back [] holds root some = absurd (omega (arith, some))
    each-back (n ∷ ns) holds root some =
        go (λ later. each-back ns holds.1 root later) (test root n) refl
      where
        go : (0 < count_in (test root) (map g ns) → Right root) → (b : Bool) → test root n ≡ b → Right root
        go rest true e = holds.0 root e
        go rest false e =
            let none : one_if (test root n) ≡ 0 = ap one_if e in
            rest (omega (arith, first-counted root n ns, none, some))

    pub over-back : (logs : Logs) → ((k : ℕ) → EachHolds test Right (of_lane logs k)) → (root : RootId) →
        0 < count_over (test root) (map (map g) logs) → Right root
    over-back [] holds root some = absurd (omega (arith, some))
    over-back (log ∷ logs) holds root some =
        ⊎_elim
        (λ here. each-back log (holds 0) root here)
        (λ there. over-back logs (λ k. holds (suc k)) root there)
        (some-part (count_in (test root) (map g log)) (count_over (test root) (map (map g) logs)) some)

    some-over : (root : RootId) (logs : Logs) (k : ℕ) → 0 < count_in (test root) (map g (of_lane logs k)) →
        0 < count_over (test root) (map (map g) logs)
    some-over root [] k some = absurd (omega (arith, some))
    some-over root (log ∷ logs) zero some = omega (arith, some)
    some-over root (log ∷ logs) (suc k) some = omega (arith, some-over root logs k some)

    any-counted : (root : RootId) (ns : List Note) → list_any (test root) ns ≡ true →
        0 < count_in (test root) (map g ns)
    any-counted root [] any = absurd (cc any)
    any-counted root (n ∷ ns) any = go (λ later. any-counted root ns later) (test root n) refl any
      where
        go : (list_any (test root) ns ≡ true → 0 < count_in (test root) (map g ns)) → (b : Bool) → test root n ≡ b →
            (b || list_any (test root) ns) ≡ true → 0 < count_in (test root) (map g (n ∷ ns))
        go rest true e h =
            let one : one_if (test root n) ≡ 1 = ap one_if e in
            omega (arith, first-counted root n ns, one)
        go rest false e h = omega (arith, first-counted root n ns, rest h)

    -- a root that passes the test with a note of a lane is counted over all lanes
    pub any-over : (root : RootId) (logs : Logs) (k : ℕ) → list_any (test root) (of_lane logs k) ≡ true →
        0 < count_over (test root) (map (map g) logs)
    any-over root logs k any = some-over root logs k (any-counted root (of_lane logs k) any)

module _ (g : Note → ToldNote) (bare : (n : Note) → (g n).note ≡ n) (tallies : List Tally) where
  module _ (root : RootId) (logs : List LaneLog) (are : AllZip IsTally tallies logs) where
    pub totals-on : AreTotals (total_sums tallies root) → TotalHolds root (map (map g) (notes_in logs))
    totals-on t =
        let u : AreTotals (counted_over root (map (map g) (notes_in logs))) =
        subst (λ (s : Totals). AreTotals s) (totals-counted g bare root tallies logs are) t in
        record {
          never_below = u.never_below;
          born_once = u.born_once;
          ends_once = u.ends_once;
          ends_at_zero =
              u.ends_at_zero;
        }

    pub totals-back : TotalHolds root (map (map g) (notes_in logs)) → AreTotals (total_sums tallies root)
    totals-back t =
        let u : AreTotals (counted_over root (map (map g) (notes_in logs))) =
        record {
          never_below = t.never_below;
          born_once = t.born_once;
          ends_once = t.ends_once;
          ends_at_zero =
              t.ends_at_zero;
        } in
        subst (λ (s : Totals). AreTotals s) (sym (totals-counted g bare root tallies logs are)) u

    pub births-are : (total_sums tallies root).births ≡ count_over (is_birth root) (map (map g) (notes_in logs))
    births-are = ap (λ (s : Totals). s.births) (totals-counted g bare root tallies logs are)

-- what one lane counts is counted over all
pub lane-over : (test : Note → Bool) (logs : List (List ToldNote)) (k : ℕ) → 0 < count_in test (of_lane logs k) →
    0 < count_over test logs
lane-over test [] k some = absurd (omega (arith, some))
lane-over test (es ∷ logs) zero some = omega (arith, some)
lane-over test (es ∷ logs) (suc k) some = omega (arith, lane-over test logs k some)

-- what follows of a count by one lane follows of the count over all
pub over-born : {Q : Type 0} (test : Note → Bool) (logs : List (List ToldNote)) →
    ((k : ℕ) → 0 < count_in test (of_lane logs k) → Q) → 0 < count_over test logs → Q
over-born test [] each some = absurd (omega (arith, some))
over-born test (es ∷ logs) each some =
    ⊎_elim (λ here. each 0 here) (λ there. over-born test logs (λ k here. each (suc k) here) there)
    (some-part (count_in test es) (count_over test logs) some)
