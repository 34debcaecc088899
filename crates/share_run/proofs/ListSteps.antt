-- A list whose items are changed one after another.
use Rattle.std.proofs.Common.{◌≡◌, ℕ, zero, suc, ◌+◌, ◌<◌, List, [], ◌∷◌, ◌++◌, length, length-append, drop, subst, get_or, set, refl, sym, ap, ◌∙◌, arith, add-one}
use Rattle.std.specs.Prelude.{All}
use Rattle.std.proofs.lemmas.List.{drop-set-lt, get_or-drop}

pub length_set : {X : Type 0} (xs : List X) (i : ℕ) (x : X) → length (set xs i x) ≡ length xs
length_set [] i x = refl
length_set (y ∷ ys) zero x = refl
length_set (y ∷ ys) (suc i) x = ap suc (length_set ys i x)

later : {X : Type 0} (n : ℕ) (xs : List X) → drop (suc n) xs ≡ drop 1 (drop n xs)
later zero xs = refl
later (suc n) [] = refl
later (suc n) (x ∷ xs) = later n xs

-- the items from there on are as they were
pub next_item : {X : Type 0} (at : ℕ) (old new : List X) (d : X) → drop at new ≡ drop at old
    → get_or new at d ≡ get_or old at d
next_item {X} at old new d left =
    let a : at + 0 ≡ at = omega arith in
    ap (λ (n : ℕ). get_or new n d) (sym a)
    ∙ sym (get_or-drop at new 0 d)
    ∙ ap (λ (xs : List X). get_or xs 0 d) left
    ∙ get_or-drop at old 0 d
    ∙ ap (λ (n : ℕ). get_or old n d) a

pub left_more : {X : Type 0} (at : ℕ) (old new : List X) (x : X) → drop at new ≡ drop at old
    → drop (at + 1) (set new at x) ≡ drop (at + 1) old
left_more {X} at old new x left =
    drop-set-lt (at + 1) new at x (omega arith)
    ∙ ap (λ (n : ℕ). drop n new) (add-one at)
    ∙ later at new
    ∙ ap (drop 1) left
    ∙ sym (later at old)
    ∙ ap (λ (n : ℕ). drop n old) (sym (add-one at))

-- ---- The last item, and those before it.

pub all_front : {X : Type 0} (P : X → Type 0) (xs : List X) (x : X) → All P (xs ++ x ∷ []) → All P xs
all_front {X} P xs x all k d lt =
    subst P (before xs k d lt) (all k d (let a = length-append xs (x ∷ []) in omega (arith, a, lt)))
  where
    before : (ys : List X) (k : ℕ) (d : X) → k < length ys → get_or (ys ++ x ∷ []) k d ≡ get_or ys k d
    before [] k d lt = absurd (omega (arith, lt))
    before (y ∷ ys) zero d lt = refl
    before (y ∷ ys) (suc k) d lt = before ys k d (omega (arith, lt))

pub all_last : {X : Type 0} (P : X → Type 0) (xs : List X) (x : X) → All P (xs ++ x ∷ []) → P x
all_last {X} P xs x all =
    subst P (last xs) (all (length xs) x (let a = length-append xs (x ∷ []) in omega (arith, a)))
  where
    last : (ys : List X) → get_or (ys ++ x ∷ []) (length ys) x ≡ x
    last [] = refl
    last (y ∷ ys) = last ys
