-- One more note of an object, read from behind a reference.
use Rattle.std.proofs.Common.{◌≡◌, ℕ, zero, suc, ◌+◌, ◌<◌, ◌≤◌, List, [], ◌∷◌, length, drop, get_or, Option, Some, refl, sym, ap, arith, ◌∙◌}
use Rattle.std.specs.Prelude.{option_and_then}
use denote.Ref.{Bor}
use Rattle.pool_law.specs.declared.note.Did.{Did}
use Rattle.pool_law.specs.Histories.{after}
use Rattle.object_steps.specs.Behind.{dids_behind}

next-did : (dids : List (Bor Did)) (i : ℕ) (did : Bor Did) → i < length dids → did ≡ get_or dids i did →
    drop i (dids_behind dids) ≡ did.now ∷ drop (suc i) (dids_behind dids)
next-did [] i did there is = absurd (omega (arith, there))
next-did (d ∷ dids) zero did there is = ap (λ (x : Bor Did). x.now ∷ dids_behind dids) (sym is)
next-did (d ∷ dids) (suc i) did there is = next-did dids i did (omega (arith, there)) is

pub at-did : (dids : List (Bor Did)) (i : ℕ) (did : Bor Did) → i < length dids → did ≡ get_or dids i did →
    drop i (dids_behind dids) ≡ did.now ∷ drop (i + 1) (dids_behind dids)
at-did dids i did there is =
    let next : suc i ≡ i + 1 = omega arith in
    next-did dids i did there is ∙ ap (λ (k : ℕ). did.now ∷ drop k (dids_behind dids)) next

pub past-dids : (dids : List (Bor Did)) (i : ℕ) → length dids ≤ i → drop i (dids_behind dids) ≡ []
past-dids [] zero past = refl
past-dids [] (suc i) past = refl
past-dids (d ∷ dids) zero past = absurd (omega (arith, past))
past-dids (d ∷ dids) (suc i) past = past-dids dids i (omega (arith, past))

module _ {S : Type 0} (step : S → Did → Option S) (dids : List (Bor Did)) (i : ℕ) (s : S) where
  pub after-one : (did : Bor Did) → i < length dids → did ≡ get_or dids i did → (o : Option S) →
      o ≡ step s did.now →
      after step s (drop i (dids_behind dids)) ≡ option_and_then (λ t. after step t (drop (i + 1) (dids_behind dids))) o
  after-one did there is o e =
      ap (λ (ds : List Did). after step s ds) (at-did dids i did there is)
      ∙ ap (λ (x : Option S). option_and_then (λ t. after step t (drop (i + 1) (dids_behind dids))) x) (sym e)

  pub after-all : length dids ≤ i → after step s (drop i (dids_behind dids)) ≡ Some s
  after-all past = ap (λ (ds : List Did). after step s ds) (past-dids dids i past)
