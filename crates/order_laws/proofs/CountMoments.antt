-- From its birth to its end somebody counts a root, and from then on nobody does.
use Rattle.std.proofs.Common.{⊎_elim, inl, inr, ◌≡◌, ℕ, zero, suc, ◌+◌, ◌-◌, ◌≤◌, Bool, true, false, List, length, take, refl, sym, ap, subst, arith, Some, ◌∙◌, eq-eqb}
use Rattle.std.specs.Prelude.{◌<◌, ◌⊎◌, ◌&&◌, slice_get}
use Rattle.std.proofs.lemmas.Bool.{cases_lt}
use Rattle.pool_law.specs.declared.id.RootId.{RootId}
use Rattle.pool_law.specs.declared.note.RefDid.{RefDid}
use Rattle.pool_law.specs.declared.note.RefDid.TheVariants.{Born, Retain, Ended, Vacated, Look}
use Rattle.pool_law.specs.declared.note.Note.{Note}
use Rattle.pool_law.specs.declared.note.Note.TheVariants.{At, Ref, Busy}
use Rattle.pool_law.specs.Same.{same_root}
use Rattle.pool_law.specs.Logs.{Logs}
use Rattle.pool_law.specs.Counts.{is_born, is_retain, is_release, ends_root}
use Rattle.pool_law.specs.Legal.{one_if}
use Rattle.pool_law.proofs.SameLemmas.{same_root-is}
use Rattle.pool_law.proofs.PatternLemmas.{same_root-refl}
use Rattle.pool_law.proofs.ListLemmas.{item-at}
use Rattle.run_order.specs.Order.{Step, made, is_born_at, Leave, Fits, InOneOrder}
use Rattle.run_order.proofs.Fronts.{made-next, made-more, made-found}
use Rattle.run_order.proofs.Positions.{fits-there}
use Rattle.order_laws.specs.Moments.{LivesWhileCounted}

-- what was done to the count of a root, by the numbers of its births, retains, releases and ends:
-- nothing, or it is counted, or it has ended
abbrev pub Phase : ℕ → ℕ → ℕ → ℕ → Type 0
Phase born retained released ended =
    ((born ≡ 0) × (retained ≡ 0) × (released ≡ 0) × (ended ≡ 0))
    ⊎ (((0 < born) × (ended ≡ 0) × (released < born + retained))
    ⊎ ((0 < born) × (0 < ended) × (born + retained ≡ released)))

-- a note more
abbrev pub PhaseWith : RootId → Note → ℕ → ℕ → ℕ → ℕ → Type 0
PhaseWith root n born retained released ended =
    Phase (born + one_if (is_born root n)) (retained + one_if (is_retain root n))
    (released + one_if (is_release root n)) (ended + one_if (ends_root root n))

-- a root is born once
pub born-is : (root : RootId) (n : Note) → is_born root n ≡ true → n ≡ Ref root Born
born-is root (Ref r Born) e = ap (λ z. Ref z Born) (same_root-is r root e)
born-is root _ e = absurd (cc e)

-- a note that does nothing to the count leaves the phase
quiet : (b r l e p q s t : ℕ) → p ≡ 0 → q ≡ 0 → s ≡ 0 → t ≡ 0 → Phase b r l e
    → Phase (b + p) (r + q) (l + s) (e + t)
quiet b r l e p q s t p0 q0 s0 t0 (inl h) =
    inl (omega (arith, h.0, p0), omega (arith, h.1, q0), omega (arith, h.2, s0), omega (arith, h.3, t0))
quiet b r l e p q s t p0 q0 s0 t0 (inr (inl h)) =
    inr (inl (omega (arith, h.0), omega (arith, h.1, t0), omega (arith, h.2, s0)))
quiet b r l e p q s t p0 q0 s0 t0 (inr (inr h)) =
    inr (inr (omega (arith, h.0), omega (arith, h.1), omega (arith, h.2, p0, q0, s0)))

-- a step on the count leads from one phase to the next
counted : (front : List Step) (root : RootId) (did : RefDid) → Fits front (Ref root did)
    → (did ≡ Born → made (is_born root) front ≡ 0) →
    Phase (made (is_born root) front) (made (is_retain root) front) (made (is_release root) front)
    (made (ends_root root) front) →
    PhaseWith root (Ref root did) (made (is_born root) front) (made (is_retain root) front)
    (made (is_release root) front) (made (ends_root root) front)
counted front root Born fits once phase =
    let one : one_if (same_root root root) ≡ 1 = ap one_if (same_root-refl root) in
    let none : one_if (same_root root root && false) ≡ 0 = ap (λ z. one_if (z && false)) (same_root-refl root) in
    let new : made (is_born root) front ≡ 0 = once refl in
    ⊎_elim
    (λ h. inr (inl (omega (arith, one), omega (arith, h.3), omega (arith, one, none, h.1, h.2))))
    (λ h. ⊎_elim (λ g. absurd (omega (arith, new, g.0))) (λ g. absurd (omega (arith, new, g.0))) h)
    phase
counted front root Retain fits once phase =
    let one : one_if (same_root root root) ≡ 1 = ap one_if (same_root-refl root) in
    let none : one_if (same_root root root && false) ≡ 0 = ap (λ z. one_if (z && false)) (same_root-refl root) in
    let some : 0 < fits.0 = fits.1 in
    let sum : made (is_born root) front + made (is_retain root) front ≡ made (is_release root) front + fits.0 =
    fits.2 in
    ⊎_elim
    (λ h. absurd (omega (arith, some, sum, h.0, h.1)))
    (λ h. ⊎_elim (λ g. inr (inl (omega (arith, g.0), omega (arith, g.1), omega (arith, g.2, one, none))))
    (λ g. absurd (omega (arith, some, sum, g.2))) h)
    phase
counted front root RefDid.Kept fits once phase =
    let one : one_if (same_root root root && true) ≡ 1 = ap (λ z. one_if (z && true)) (same_root-refl root) in
    let some : 1 < fits.0 = fits.1 in
    let sum : made (is_born root) front + made (is_retain root) front ≡ made (is_release root) front + fits.0 =
    fits.2 in
    ⊎_elim
    (λ h. absurd (omega (arith, some, sum, h.0, h.1)))
    (λ h. ⊎_elim (λ g. inr (inl (omega (arith, g.0), omega (arith, g.1), omega (arith, some, sum, one))))
    (λ g. absurd (omega (arith, some, sum, g.2))) h)
    phase
counted front root Ended fits once phase =
    let one : one_if (same_root root root && true) ≡ 1 = ap (λ z. one_if (z && true)) (same_root-refl root) in
    let end : one_if (same_root root root) ≡ 1 = ap one_if (same_root-refl root) in
    let sum : made (is_born root) front + made (is_retain root) front ≡ made (is_release root) front + 1 = fits in
    ⊎_elim
    (λ h. absurd (omega (arith, sum, h.0, h.1)))
    (λ h. ⊎_elim (λ g. inr (inr (omega (arith, g.0), omega (arith, end), omega (arith, sum, one))))
    (λ g. absurd (omega (arith, sum, g.2))) h)
    phase
counted front root Vacated fits once phase =
    quiet _ _ _ _ 0 0 (one_if (same_root root root && false)) 0 refl refl
    (ap (λ z. one_if (z && false)) (same_root-refl root)) refl phase
counted front root (Look found) fits once phase =
    quiet _ _ _ _ 0 0 (one_if (same_root root root && false)) 0 refl refl
    (ap (λ z. one_if (z && false)) (same_root-refl root)) refl phase

-- a note on another root's count does nothing to this one's
others : (r root : RootId) (did : RefDid) → same_root r root ≡ false →
    (one_if (is_born root (Ref r did)) ≡ 0) × (one_if (is_retain root (Ref r did)) ≡ 0)
    × (one_if (is_release root (Ref r did)) ≡ 0) × (one_if (ends_root root (Ref r did)) ≡ 0)
others r root Born e = (ap one_if e, refl, ap (λ z. one_if (z && false)) e, refl)
others r root Retain e = (refl, ap one_if e, ap (λ z. one_if (z && false)) e, refl)
others r root RefDid.Kept e = (refl, refl, ap (λ z. one_if (z && true)) e, refl)
others r root Ended e = (refl, refl, ap (λ z. one_if (z && true)) e, ap one_if e)
others r root Vacated e = (refl, refl, ap (λ z. one_if (z && false)) e, refl)
others r root (Look found) e = (refl, refl, ap (λ z. one_if (z && false)) e, refl)

phase-with : (front : List Step) (root : RootId) (n : Note) → Fits front n
    → (n ≡ Ref root Born → made (is_born root) front ≡ 0) →
    Phase (made (is_born root) front) (made (is_retain root) front) (made (is_release root) front)
    (made (ends_root root) front) →
    PhaseWith root n (made (is_born root) front) (made (is_retain root) front) (made (is_release root) front)
    (made (ends_root root) front)
phase-with front root (At object number did) fits once phase = quiet _ _ _ _ 0 0 0 0 refl refl refl refl phase
phase-with front root (Busy held) fits once phase = quiet _ _ _ _ 0 0 0 0 refl refl refl refl phase
phase-with front root (Ref r did) fits once phase =
    by-root (same_root r root) refl
  where
    by-root : (b : Bool) → same_root r root ≡ b →
        PhaseWith root (Ref r did) (made (is_born root) front) (made (is_retain root) front)
        (made (is_release root) front) (made (ends_root root) front)
    by-root true e =
        let same : r ≡ root = same_root-is r root e in
        subst (λ z. PhaseWith root (Ref z did) (made (is_born root) front) (made (is_retain root) front)
        (made (is_release root) front) (made (ends_root root) front)) (sym same)
        (counted front root did (subst (λ z. Fits front (Ref z did)) same fits)
        (λ is. once (λ i. Ref (same i) (is i))) phase)
    by-root false e =
        let h = others r root did e in quiet _ _ _ _ _ _ _ _ h.0 h.1 h.2 h.3 phase

module _ (logs : Logs) (o : InOneOrder logs) where
  pub born-new : (root : RootId) (k : ℕ) (x : Step) → slice_get o.steps k ≡ Some x → x.note ≡ Ref root Born
      → made (is_born root) (take k o.steps) ≡ 0
  born-new root k x e is =
      ⊎_elim again (λ none. omega (arith, none)) (cases_lt 0 (made (is_born root) (take k o.steps)))
    where
      again : 0 < made (is_born root) (take k o.steps) → made (is_born root) (take k o.steps) ≡ 0
      again more =
          let f = made-found (is_born root) o.steps k more in
          let first : f.1.note ≡ Ref root Born = born-is root f.1.note f.4 in
          let before : root.generation ≡ made (is_born_at root.place) (take f.0 o.steps) + 1 =
          (subst (Fits (take f.0 o.steps)) first (fits-there logs o f.0 f.1 f.3)).0 in
          let now : root.generation ≡ made (is_born_at root.place) (take k o.steps) + 1 =
          (subst (Fits (take k o.steps)) is (fits-there logs o k x e)).0 in
          let next : made (is_born_at root.place) (take (suc f.0) o.steps)
          ≡ made (is_born_at root.place) (take f.0 o.steps) + one_if (is_born_at root.place f.1.note) =
          made-next (is_born_at root.place) o.steps f.0 f.1 f.3 in
          let one : one_if (is_born_at root.place f.1.note) ≡ 1 =
          ap (λ n. one_if (is_born_at root.place n)) first
          ∙ ap one_if (eq-eqb root.place root.place refl) in
          absurd (omega (
            arith,
            before,
            now,
            next,
            one,
            made-more (is_born_at root.place) o.steps (suc f.0) k (omega (arith, f.2)),
          ))

  abbrev pub PhaseAt : RootId → ℕ → Type 0
  PhaseAt root k =
      Phase (made (is_born root) (take k o.steps)) (made (is_retain root) (take k o.steps))
      (made (is_release root) (take k o.steps)) (made (ends_root root) (take k o.steps))

  pub phase-at : (root : RootId) (k : ℕ) → k ≤ length o.steps → PhaseAt root k
  phase-at root zero low = inl (refl, refl, refl, refl)
  phase-at root (suc k) low =
      let x = item-at o.steps k (omega (arith, low)) in
      let next = phase-with (take k o.steps) root x.0.note (fits-there logs o k x.0 x.1) (born-new root k x.0 x.1)
      (phase-at root k (omega (arith, low))) in
      moved (sym (made-next (is_born root) o.steps k x.0 x.1)) (sym (made-next (is_retain root) o.steps k x.0 x.1))
      (sym (made-next (is_release root) o.steps k x.0 x.1)) (sym (made-next (ends_root root) o.steps k x.0 x.1)) next
    where
      moved : {b r l e b' r' l' e' : ℕ} → b ≡ b' → r ≡ r' → l ≡ l' → e ≡ e' → Phase b r l e → Phase b' r' l' e'
      moved p q s t h =
          subst (λ (z : ℕ × ℕ × ℕ × ℕ). Phase z.0 z.1 z.2 z.3) (λ i. (p i, q i, s i, t i)) h

  -- a counted root has its birth in the front
  pub counted-born : (root : RootId) (k n : ℕ) → k ≤ length o.steps → 0 < n → Leave (take k o.steps) root n
      → 0 < made (is_born root) (take k o.steps)
  counted-born root k n low some leave =
      ⊎_elim (λ h. absurd (omega (arith, some, leave, h.0, h.1))) (⊎_elim (λ g. g.0) (λ g. g.0)) (phase-at root k low)

  pub lives-at : (root : RootId) (k : ℕ) → k ≤ length o.steps → LivesWhileCounted (take k o.steps) root
  lives-at root k low =
      record {
        counted =
            λ born lasts.
            ⊎_elim (λ h. absurd (omega (arith, born, h.0)))
            (⊎_elim (λ g. difference g.2) (λ g. absurd (omega (arith, lasts, g.1)))) (phase-at root k low);
        ended =
            λ end.
            ⊎_elim (λ h. absurd (omega (arith, end, h.3)))
            (⊎_elim (λ g. absurd (omega (arith, end, g.1))) (λ g. omega (arith, g.2))) (phase-at root k low);
      }
    where
      difference : {a b : ℕ} → a < b → (n : ℕ) × (0 < n) × (b ≡ a + n)
      difference {a} {b} less = (b - a, omega (arith, less), omega (arith, less))
