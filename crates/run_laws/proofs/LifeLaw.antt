-- How often a region is used: at most once after so many uses.
use Rattle.std.proofs.Common.{inl, inr, ◌≡◌, ℕ, zero, suc, ◌+◌, ◌≤◌, refl, sym, ap, subst, arith, true, Some, ◌∙◌, eq-eqb}
use Rattle.std.specs.Prelude.{◌⊎◌, ◌<◌, ◌==◌, slice_get}
use Rattle.pool_law.specs.declared.id.RootId.{RootId}
use Rattle.pool_law.specs.declared.id.RegionId.{RegionId}
use Rattle.pool_law.specs.declared.note.Object.{Object}
use Rattle.pool_law.specs.declared.note.Did.{Did}
use Rattle.pool_law.specs.declared.note.Did.TheVariants.{Birth, Grow}
use Rattle.pool_law.specs.declared.note.Note.{Note}
use Rattle.pool_law.specs.declared.note.Note.TheVariants.{At, Ref, Busy}
use Rattle.pool_law.specs.declared.run.Shape.{Shape}
use Rattle.pool_law.specs.Same.{same_taking, same_region}
use Rattle.pool_law.specs.Logs.{Logs, of_lane}
use Rattle.pool_law.specs.Lives.{with_uses}
use Rattle.pool_law.specs.Patterns.{one_more}
use Rattle.run_laws.specs.Hands.{Source, Got, Ended, Dropped}
use Rattle.pool_law.proofs.SameLemmas.{same_region-is}
use Rattle.pool_law.proofs.PatternLemmas.{both_true}
use Rattle.run_laws.proofs.PagedHistories.{HistoriesPaged}
use Rattle.run_laws.proofs.LogEntries.{LanesAct}
use Rattle.run_laws.proofs.Sums.{over-found}
use Rattle.run_laws.proofs.Placed.{one-of-true}
use Rattle.run_laws.proofs.Totals.{note_tally, born_by, takes_in, gives_in, births_in, ends_in}
use Rattle.run_laws.proofs.HandTotals.{uses-less, takes-most, takes-unused, ends-born}
use Rattle.run_laws.proofs.HandSteps.{Empties, IsOut}
use Rattle.run_laws.proofs.HandNotes.{held-to}

pub same_taking-uses : (a b : RegionId) → same_taking a b ≡ true → b ≡ with_uses a b.uses
same_taking-uses a b e =
    sym (same_region-is (with_uses a b.uses) b
    (both_true (same_taking a b) (b.uses == b.uses) e (eq-eqb b.uses b.uses refl)))

-- what was done begins a use of the region
abbrev pub Uses : RegionId → Did → Type 0
Uses r d = ((root : RootId) × (d ≡ Birth root r)) ⊎ ((c : ℕ) × (d ≡ Grow c r))

module _ (shape : Shape) (logs : Logs) (holds : HistoriesPaged shape logs) (acts : LanesAct logs) where
  -- what is used was got, with one use less
  pub used-got : (lane i k : ℕ) (o : Object) (d : Did) (r : RegionId)
      → slice_get (of_lane logs lane) i ≡ Some (At o k d) → Uses r d → (y : RegionId) × (r ≡ one_more y)
  used-got lane i k o d r is uses =
      let h = held-to logs acts lane i k o d is (comes-out uses) in by uses h.1 h.2 h.4
    where
      comes-out : Uses r d → IsOut d
      comes-out (inl u) = subst IsOut (sym u.1) tt
      comes-out (inr u) = subst IsOut (sym u.1) tt

      by : Uses r d → (from : Source) (y : RegionId) → Empties from y d → (y : RegionId) × (r ≡ one_more y)
      by (inl u) Got y e = (y, subst (Empties Got y) u.1 e)
      by (inl u) Ended y e = absurd (subst (Empties Ended y) u.1 e)
      by (inl u) Dropped y e = absurd (subst (Empties Dropped y) u.1 e)
      by (inr u) Got y e = (y, subst (Empties Got y) u.1 e)
      by (inr u) Ended y e = absurd (subst (Empties Ended y) u.1 e)
      by (inr u) Dropped y e = absurd (subst (Empties Dropped y) u.1 e)

  -- a note that counts as a use
  used-note : (r : RegionId) (n : Note) → 1 ≤ note_tally logs (born_by r) n
      → (o : Object) × (k : ℕ) × (d : Did) × (n ≡ At o k d) × Uses r d
  used-note r (At o k (Birth root x)) h = (
    o,
    k,
    Birth root x,
    refl,
    inl (root, ap (Birth root) (sym (same_region-is r x (one-of-true (same_region r x) h)))),
  )
  used-note r (At o k (Grow c x)) h = (
    o,
    k,
    Grow c x,
    refl,
    inr (c, ap (Grow c) (sym (same_region-is r x (one-of-true (same_region r x) h)))),
  )
  used-note r (At o k _) h = absurd (omega (arith, h))
  used-note r (Ref root did) h = absurd (omega (arith, h))
  used-note r (Busy held) h = absurd (omega (arith, h))

  pub use-there : (r : RegionId) → 1 ≤ births_in logs r
      → (lane : ℕ) × (i : ℕ) × (o : Object) × (k : ℕ) × (d : Did)
      × (slice_get (of_lane logs lane) i ≡ Some (At o k d)) × Uses r d
  use-there r h =
      let f = over-found (note_tally logs (born_by r)) logs h in
      let n = used-note r f.2 f.4 in
      (f.0, f.1, n.0, n.1, n.2, f.3 ∙ ap (λ x. Some x) n.3, n.4)

  pub unused-none : (r : RegionId) → r.uses ≡ 0 → births_in logs r ≡ 0
  unused-none r unused = go (births_in logs r) refl
    where
      go : (n : ℕ) → births_in logs r ≡ n → births_in logs r ≡ 0
      go zero e = e
      go (suc n) e =
          let f = use-there r (omega (arith, e)) in
          let y = used-got f.0 f.1 f.3 f.2 f.4 r f.5 f.6 in
          absurd (omega (arith, ap (λ x. x.uses) y.1, unused))

  -- what is taken or ended of one that is used at most once
  source-by : (r : RegionId) (n : ℕ) → r.uses ≡ n → births_in logs r ≤ 1 → takes_in logs r + ends_in logs r ≤ 1
  source-by r zero e most =
      omega (
        arith,
        takes-most shape logs holds acts r,
        ends-born shape logs holds acts r,
        unused-none r e,
      )
  source-by r (suc n) e most =
      omega (
        arith,
        takes-unused shape logs holds acts r (omega (arith, e)),
        ends-born shape logs holds acts r,
        most,
      )

  -- after so many uses a region has at most one more
  pub born-most : (n : ℕ) (r : RegionId) → births_in logs (with_uses r n) ≤ 1
  born-most zero r = omega (arith, unused-none (with_uses r 0) refl)
  born-most (suc n) r =
      let number : suc n ≡ n + 1 = omega arith in
      omega (
        arith,
        ap (λ m. births_in logs (with_uses r m)) number,
        uses-less shape logs holds acts (with_uses r n),
        source-by (with_uses r n) n refl (born-most n r),
      )

  pub source-most : (r : RegionId) → takes_in logs r + ends_in logs r ≤ 1
  source-most r = source-by r r.uses refl (born-most r.uses r)

  pub ends-most_of : (r : RegionId) → ends_in logs r ≤ 1
  ends-most_of r = omega (arith, source-most r)

  -- a region that is used was taken
  pub taken-of : (n : ℕ) (r : RegionId) → 1 ≤ births_in logs (with_uses r n) → 1 ≤ takes_in logs (with_uses r 0)
  taken-of zero r h = absurd (omega (arith, unused-none (with_uses r 0) refl, h))
  taken-of (suc n) r h =
      let number : suc n ≡ n + 1 = omega arith in
      go n (λ more. taken-of n r more)
      (omega (
        arith,
        h,
        uses-less shape logs holds acts (with_uses r n),
        ends-born shape logs holds acts (with_uses r n),
        ap (λ m. births_in logs (with_uses r m)) number,
      ))
    where
      go : (n : ℕ) → (1 ≤ births_in logs (with_uses r n) → 1 ≤ takes_in logs (with_uses r 0))
          → 1 ≤ takes_in logs (with_uses r n) + births_in logs (with_uses r n) → 1 ≤ takes_in logs (with_uses r 0)
      go zero again some = omega (arith, some, unused-none (with_uses r 0) refl)
      go (suc m) again some =
          again (omega (arith, some, takes-unused shape logs holds acts (with_uses r (suc m)) (omega arith)))

  -- where a region is not used any more, it is not used later
  pub none-later : (r : RegionId) (n m : ℕ) → 1 ≤ n → births_in logs (with_uses r n) ≡ 0
      → births_in logs (with_uses r (n + m)) ≡ 0
  none-later r n zero used none = ap (λ k. births_in logs (with_uses r k)) (let e : n + 0 ≡ n = omega arith in e) ∙ none
  none-later r n (suc m) used none =
      let number : n + suc m ≡ n + m + 1 = omega arith in
      omega (
        arith,
        ap (λ k. births_in logs (with_uses r k)) number,
        uses-less shape logs holds acts (with_uses r (n + m)),
        takes-unused shape logs holds acts (with_uses r (n + m)) (omega arith),
        ends-born shape logs holds acts (with_uses r (n + m)),
        none-later r n m used none,
      )

  pub later-by : (a b : ℕ) → a < b → (m : ℕ) × (b ≡ a + 1 + m)
  later-by a zero h = absurd (omega (arith, h))
  later-by zero (suc b) h = (b, omega arith)
  later-by (suc a) (suc b) h = let r = later-by a b (omega (arith, h)) in (r.0, omega (arith, r.1))

  -- no use is later than one that came back
  pub given-last : (r : RegionId) (n : ℕ) → r.uses < n → 1 ≤ gives_in logs r → births_in logs (with_uses r n) ≡ 0
  given-last r n less given =
      let rest = later-by r.uses n less in
      ap (λ k. births_in logs (with_uses r k)) rest.1
      ∙ none-later r (r.uses + 1) rest.0 (omega arith)
      (omega (arith, uses-less shape logs holds acts r, source-most r, given))
