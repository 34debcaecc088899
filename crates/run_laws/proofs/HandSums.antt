-- A lane's regions, counted.
use Rattle.std.proofs.Common.{eqb-true, eq-eqb, ne_eqb, ◌≡◌, ℕ, ◌+◌, ◌≤◌, [], ◌∷◌, sym, ap, subst, arith, true, false, Some, None, ◌∙◌}
use Rattle.std.specs.Prelude.{◌==◌, ◌&&◌, if◌then◌else◌, Option}
use Rattle.pool_law.specs.declared.id.RegionId.{RegionId}
use Rattle.pool_law.specs.declared.note.Did.{Did}
use Rattle.pool_law.specs.declared.note.Did.TheVariants.{Take, Give, Hit, Kept, Shed, Birth, Grow, End}
use Rattle.pool_law.specs.Same.{same_taking, same_region}
use Rattle.run_laws.specs.CacheCounts.{one_of}
use Rattle.pool_law.specs.Readers.{ToldNotes}
use Rattle.pool_law.specs.Patterns.{one_more}
use Rattle.run_laws.specs.Hands.{did_of, Source, Got, Ended, Dropped, Hand, hand_by, hand_if, hand_step, hand_after}
use Rattle.run_laws.specs.HandCounts.{tally_if, tally, got_by, used_by, ended_by, shed_by, kept_by, given_by, HandsBalance}
use Rattle.run_laws.proofs.Readings.{bind-some}
use Rattle.pool_law.proofs.SameLemmas.{same_region-is}
use Rattle.std.proofs.lemmas.Bool.{cond_both}

pub next-same : (a b : ℕ) → ((a + 1) == (b + 1)) ≡ (a == b)
next-same a b =
    cond_both {A = ℕ} (a == b) 1 0 (λ _. ((a + 1) == (b + 1)) ≡ (a == b))
    (λ same. eq-eqb (a + 1) (b + 1) (omega (arith, eqb-true a b same)) ∙ sym same)
    (λ other. ne_eqb (a + 1) (b + 1)
    (λ e. let both : true ≡ false = sym (eq-eqb a b (omega (arith, e))) ∙ other in cc both) ∙ sym other)

pub more-same : (r x : RegionId) → same_region (one_more r) (one_more x) ≡ same_region r x
more-same r x = ap (λ b. same_taking r x && b) (next-same r.uses x.uses)

-- how often a region is in hand: from anywhere, as got, and as shed
abbrev pub in_hand : RegionId → Hand → ℕ
in_hand r None = 0
in_hand r (Some (from, x)) = one_of (same_region r x)

abbrev pub fresh : RegionId → Hand → ℕ
fresh r None = 0
fresh r (Some (Got, x)) = one_of (same_region r x)
fresh r (Some (Ended, x)) = 0
fresh r (Some (Dropped, x)) = 0

abbrev pub shed : RegionId → Hand → ℕ
shed r None = 0
shed r (Some (Got, x)) = 0
shed r (Some (Ended, x)) = 0
shed r (Some (Dropped, x)) = one_of (same_region r x)

-- from one hand to another with these sums of what is got, ended, shed, used, kept and given
abbrev pub Balance : RegionId → Hand → Hand → (got ended shed_ used kept given : ℕ) → Type 0
Balance r h k got ended shed_ used kept given =
    (in_hand r h + (got + (ended + shed_)) ≡ used + (kept + given) + in_hand r k)
    × ((used + fresh r k ≤ fresh r h + got) × (shed r h + shed_ ≤ given + shed r k))

abbrev pub Balanced : RegionId → Hand → Hand → Option RegionId → Did → Type 0
Balanced r h k t d =
    Balance r h k (got_by r t d) (ended_by r t d) (shed_by r t d) (used_by r t d) (kept_by r t d) (given_by r t d)

-- what is used of a region is what was got of it
used-count : (r x y : RegionId) → same_region x (one_more y) ≡ true
    → one_of (same_region (one_more r) x) ≡ one_of (same_region r y)
used-count r x y test =
    ap (λ v. one_of (same_region (one_more r) v)) (same_region-is x (one_more y) test) ∙ ap one_of (more-same r y)

-- a region in hand is put away
put-balanced : (r x : RegionId) (from : Source) (y : RegionId) (k : Hand) (t : Option RegionId) (d : Did)
    → ((same_region y x ≡ true) → Balanced r (Some (from, y)) None t d)
    → (if same_region y x then Some None else None) ≡ Some k → Balanced r (Some (from, y)) k t d
put-balanced r x from y k t d so e =
    cond_both (same_region y x) (Some None) None (λ z. z ≡ Some k → Balanced r (Some (from, y)) k t d)
    (λ test is. let none : None ≡ k = cc is in subst (λ v. Balanced r (Some (from, y)) v t d) none (so test))
    (λ _ is. absurd (cc is)) e

same-count : (r x y : RegionId) → same_region y x ≡ true → one_of (same_region r y) ≡ one_of (same_region r x)
same-count r x y test = ap (λ v. one_of (same_region r v)) (same_region-is y x test)

pub step-balanced : (r : RegionId) (h k : Hand) (t : Option RegionId) (d : Did) → hand_by h t d ≡ Some k
    → Balanced r h k t d
step-balanced r None k t (Take class x) e =
    let same : Some (Got, x) ≡ k = cc e in
    subst (λ y. Balanced r None y t (Take class x)) same (omega arith, (omega arith, omega arith))
step-balanced r (Some held) k t (Take class x) e = absurd (cc e)
step-balanced r None k t (Hit x) e =
    let same : Some (Got, x) ≡ k = cc e in
    subst (λ y. Balanced r None y t (Hit x)) same (omega arith, (omega arith, omega arith))
step-balanced r (Some held) k t (Hit x) e = absurd (cc e)
step-balanced r None k t (Shed x) e =
    let same : Some (Dropped, x) ≡ k = cc e in
    subst (λ y. Balanced r None y t (Shed x)) same (omega arith, (omega arith, omega arith))
step-balanced r (Some held) k t (Shed x) e = absurd (cc e)
step-balanced r None k None (End root) e = absurd (cc e)
step-balanced r None k (Some x) (End root) e =
    let same : Some (Ended, x) ≡ k = cc e in
    subst (λ y. Balanced r None y (Some x) (End root)) same (omega arith, (omega arith, omega arith))
step-balanced r (Some held) k None (End root) e = absurd (cc e)
step-balanced r (Some held) k (Some x) (End root) e = absurd (cc e)
step-balanced r None k t (Birth root x) e = absurd (cc e)
step-balanced r (Some (Got, y)) k t (Birth root x) e =
    cond_both (same_region x (one_more y)) (Some None) None
    (λ z. z ≡ Some k → Balanced r (Some (Got, y)) k t (Birth root x))
    (λ test is.
    let none : None ≡ k = cc is in
    let count = used-count r x y test in
    subst (λ v. Balanced r (Some (Got, y)) v t (Birth root x)) none
    (omega (arith, count), (omega (arith, count), omega arith)))
    (λ _ is. absurd (cc is)) e
step-balanced r (Some (Ended, y)) k t (Birth root x) e = absurd (cc e)
step-balanced r (Some (Dropped, y)) k t (Birth root x) e = absurd (cc e)
step-balanced r None k t (Grow c x) e = absurd (cc e)
step-balanced r (Some (Got, y)) k None (Grow c x) e =
    cond_both {A = Option Hand} (same_region x (one_more y)) None None
    (λ z. z ≡ Some k → Balanced r (Some (Got, y)) k None (Grow c x))
    (λ _ is. absurd (cc is)) (λ _ is. absurd (cc is)) e
step-balanced r (Some (Got, y)) k (Some o) (Grow c x) e =
    cond_both (same_region x (one_more y)) (Some (Some (Ended, o))) None
    (λ z. z ≡ Some k → Balanced r (Some (Got, y)) k (Some o) (Grow c x))
    (λ test is.
    let held : Some (Ended, o) ≡ k = cc is in
    let count = used-count r x y test in
    subst (λ v. Balanced r (Some (Got, y)) v (Some o) (Grow c x)) held
    (omega (arith, count), (omega (arith, count), omega arith)))
    (λ _ is. absurd (cc is)) e
step-balanced r (Some (Ended, y)) k t (Grow c x) e = absurd (cc e)
step-balanced r (Some (Dropped, y)) k t (Grow c x) e = absurd (cc e)
step-balanced r None k t (Kept x) e = absurd (cc e)
step-balanced r (Some (Got, y)) k t (Kept x) e =
    put-balanced r x Got y k t (Kept x)
    (λ test. (omega (arith, same-count r x y test), (omega arith, omega arith))) e
step-balanced r (Some (Ended, y)) k t (Kept x) e =
    put-balanced r x Ended y k t (Kept x)
    (λ test. (omega (arith, same-count r x y test), (omega arith, omega arith))) e
step-balanced r (Some (Dropped, y)) k t (Kept x) e = absurd (cc e)
step-balanced r None k t (Give x) e = absurd (cc e)
step-balanced r (Some (Got, y)) k t (Give x) e =
    put-balanced r x Got y k t (Give x)
    (λ test. (omega (arith, same-count r x y test), (omega arith, omega arith))) e
step-balanced r (Some (Ended, y)) k t (Give x) e =
    put-balanced r x Ended y k t (Give x)
    (λ test. (omega (arith, same-count r x y test), (omega arith, omega arith))) e
step-balanced r (Some (Dropped, y)) k t (Give x) e =
    put-balanced r x Dropped y k t (Give x)
    (λ test. (
      omega (arith, same-count r x y test),
      (omega arith, omega (arith, same-count r x y test)),
    )) e
step-balanced r h k t _ e =
    let same : h ≡ k = cc e in
    subst (λ y. Balance r h y 0 0 0 0 0 0) same (omega arith, (omega arith, omega arith))

abbrev pub BalanceOver : RegionId → Hand → Hand → ToldNotes → Type 0
BalanceOver r h k es =
    Balance r h k (tally (got_by r) es) (tally (ended_by r) es) (tally (shed_by r) es) (tally (used_by r) es)
    (tally (kept_by r) es) (tally (given_by r) es)

pub after-balanced : (r : RegionId) (es : ToldNotes) (h k : Hand) → hand_after h es ≡ Some k → BalanceOver r h k es
after-balanced r [] h k e =
    let same : h ≡ k = cc e in
    subst (λ y. Balance r h y 0 0 0 0 0 0) same (omega arith, (omega arith, omega arith))
after-balanced r (e ∷ es) h k is =
    let f : (m : Hand) × (hand_step h e ≡ Some m) × (hand_after m es ≡ Some k) =
    bind-some (hand_step h e) (λ m. hand_after m es) k is in
    go (did_of e.note) f.0 f.1 (after-balanced r es f.0 k f.2)
  where
    go : (o : Option Did) (m : Hand) → hand_if h e.region o ≡ Some m → BalanceOver r m k es →
        Balance r h k (tally_if (got_by r) e.region o + tally (got_by r) es)
        (tally_if (ended_by r) e.region o + tally (ended_by r) es)
        (tally_if (shed_by r) e.region o + tally (shed_by r) es)
        (tally_if (used_by r) e.region o + tally (used_by r) es)
        (tally_if (kept_by r) e.region o + tally (kept_by r) es)
        (tally_if (given_by r) e.region o + tally (given_by r) es)
    go None m same rest =
        let hand : h ≡ m = cc same in
        subst (λ y. Balance r y k (0 + tally (got_by r) es) (0 + tally (ended_by r) es) (0 + tally (shed_by r) es)
        (0 + tally (used_by r) es) (0 + tally (kept_by r) es) (0 + tally (given_by r) es)) (sym hand)
        (omega (arith, rest.0), (omega (arith, rest.1.0), omega (arith, rest.1.1)))
    go (Some d) m same rest =
        let b : Balanced r h m e.region d = step-balanced r h m e.region d same in
        (omega (arith, b.0, rest.0), (omega (arith, b.1.0, rest.1.0), omega (arith, b.1.1, rest.1.1)))

pub hands-balance : (r : RegionId) (es : ToldNotes) → hand_after None es ≡ Some None → HandsBalance r es
hands-balance r es e =
    let b : BalanceOver r None None es = after-balanced r es None None e in
    record { through = omega (arith, b.0); got = omega (arith, b.1.0); given = omega (arith, b.1.1) }
