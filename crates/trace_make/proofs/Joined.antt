-- Lists that are joined, and places in them.
use Rattle.std.proofs.Common.{◌≡◌, ℕ, zero, suc, ◌+◌, ◌<◌, List, [], ◌∷◌, ◌++◌, length, map, take, refl, sym, ◌∙◌, ap, subst, arith, inl, inr, append_assoc, append-nil, length-append}
use Rattle.std.specs.Prelude.{Some, option_map, slice_get, All}
use Rattle.std.proofs.lemmas.Bool.{cases_lt}
use Rattle.std.proofs.lemmas.List.{map-append}
use Rattle.std.proofs.lemmas.List.Elements.{All-nil, All-append, All-push}
use Rattle.std.proofs.lemmas.Option.{slice_get-map}
use Rattle.std.proofs.Math.Seq.{take-append-add}
use Rattle.pool_law.proofs.ListLemmas.{get-further}
use Rattle.pool_law.proofs.NumberLemmas.{get-below}
use Rattle.size_classes.specs.Sizes.{below}
use Rattle.trace_make.specs.Generated.{joined}

-- ---- Places in lists.

-- a place behind a front of n elements
pub slice_get-at : {X : Type 0} (all front back : List X) (n r : ℕ) → all ≡ front ++ back → length front ≡ n
    → slice_get all (n + r) ≡ slice_get back r
slice_get-at all front back n r is long =
    ap (λ xs. slice_get xs (n + r)) is
    ∙ subst (λ (k : ℕ). slice_get (front ++ back) (k + r) ≡ slice_get back r) long (get-further front back r)

pub take-at : {X : Type 0} (all front back : List X) (n r : ℕ) → all ≡ front ++ back → length front ≡ n
    → take (n + r) all ≡ front ++ take r back
take-at all front back n r is long =
    ap (λ xs. take (n + r) xs) is
    ∙ subst (λ (k : ℕ). take (k + r) (front ++ back) ≡ front ++ take r back) long (take-append-add front back r)

-- ---- Lists that are joined.

-- list j stands behind those before it, and something behind it
pub joined-split : {X : Type 0} (list : ℕ → List X) (n j : ℕ) → j < n
    → (rest : List X) × (joined list n ≡ joined list j ++ (list j ++ rest))
joined-split list zero j less = absurd (omega arith)
joined-split list (suc n) j less = elim (cases_lt j n) [
  | inl before ↦
      let (rest, is) = joined-split list n j before in (
        rest ++ list n,
        ap (λ xs. xs ++ list n) is
            ∙ (append_assoc (joined list j) (list j ++ rest) (list n)
            ∙ ap (λ xs. joined list j ++ xs) (append_assoc (list j) rest (list n))),
      )
  | inr last ↦
      let same : n ≡ j = omega arith in (
        [],
        subst (λ (k : ℕ). joined list n ++ list n ≡ joined list k ++ (list k ++ [])) same
            (ap (λ xs. joined list n ++ xs) (sym (append-nil (list n)))),
      )
]

pub All-joined : {X : Type 0} (P : X → Type 0) (list : ℕ → List X) (n : ℕ) → ((j : ℕ) → All P (list j))
    → All P (joined list n)
All-joined P list zero each = All-nil P
All-joined P list (suc n) each = All-append P (joined list n) (list n) (All-joined P list n each) (each n)

-- ---- What is given for each number below n.

pub slice_get-given : {X : Type 0} (f : ℕ → X) (n i : ℕ) → i < n → slice_get (map f (below n)) i ≡ Some (f i)
slice_get-given f n i less = slice_get-map f (below n) i ∙ ap (option_map f) (get-below n i less)

pub All-given : {X : Type 0} (P : X → Type 0) (f : ℕ → X) (n : ℕ) → ((i : ℕ) → i < n → P (f i))
    → All P (map f (below n))
All-given P f zero each = All-nil P
All-given {X = X} P f (suc n) each =
    subst (λ (xs : List X). All P xs) (sym (map-append f (below n) (n ∷ [])))
    (All-push P (map f (below n)) (f n) (All-given P f n (λ i less. each i (omega arith))) (each n (omega arith)))

pub length-given : {X : Type 0} (f : ℕ → X) (n : ℕ) → length (map f (below n)) ≡ n
length-given f zero = refl
length-given f (suc n) =
    let shorter = length-given f n in
    ap length (map-append f (below n) (n ∷ [])) ∙ omega (arith, shorter, length-append (map f (below n)) (f n ∷ []))
