-- Lists cut at one of their elements, and lists of two.
use Rattle.std.proofs.Common.{◌≡◌, ◌⊎◌, inl, inr, ⊎_elim, ℕ, ◌<◌, List, [], ◌∷◌, ◌++◌, length, refl, sym, ap, ◌∙◌, subst, arith, length-append}
use Rattle.std.specs.Prelude.{All, HoldsAt}
use Rattle.std.proofs.lemmas.List.Elements.{All-nil, All-cons, All-head, All-tail}

-- where a list with one element more is cut: at that element, or before it
pub cut_last : {X : Type 0} (xs before after : List X) (e x : X) → xs ++ e ∷ [] ≡ before ++ x ∷ after →
    ((xs ≡ before) × (e ≡ x) × (after ≡ [])) ⊎ ((rest : List X) × (after ≡ rest ++ e ∷ []) × (xs ≡ before ++ x ∷ rest))
cut_last {X} [] [] after e x is = let f : e ≡ x = cc is in let g : [] ≡ after = cc is in inl (refl, f, sym g)
cut_last {X} [] (b ∷ []) after e x is = let g : [] ≡ x ∷ after = cc is in absurd (cc g)
cut_last {X} [] (b ∷ (c ∷ bs)) after e x is = let g : [] ≡ c ∷ (bs ++ x ∷ after) = cc is in absurd (cc g)
cut_last {X} (y ∷ xs) [] after e x is =
    let f : y ≡ x = cc is in let g : xs ++ e ∷ [] ≡ after = cc is in inr (xs, sym g, ap (λ (z : X). z ∷ xs) f)
cut_last {X} (y ∷ xs) (b ∷ bs) after e x is =
    let f : y ≡ b = cc is in let g : xs ++ e ∷ [] ≡ bs ++ x ∷ after = cc is in
    ⊎_elim
    (λ (w : (xs ≡ bs) × (e ≡ x) × (after ≡ [])). inl ((λ i. f i ∷ w.0 i), w.1, w.2))
    (λ (w : (rest : List X) × (after ≡ rest ++ e ∷ []) × (xs ≡ bs ++ x ∷ rest)). inr (w.0, w.1, λ i. f i ∷ w.2 i))
    (cut_last xs bs after e x g)

pub none_cut : {X : Type 0} {Y : Type 0} (before after : List X) (x : X) → [] ≡ before ++ x ∷ after → Y
none_cut [] after x is = absurd (cc is)
none_cut (b ∷ bs) after x is = absurd (cc is)

-- a fact of all elements, at the cut and before it
pub at_cut : {X : Type 0} (P : X → Type 0) (before after : List X) (x : X) → All P (before ++ x ∷ after)
    → P x × All P before
at_cut P [] after x all = (All-head P x after all, All-nil P)
at_cut P (b ∷ bs) after x all =
    let rest = at_cut P bs after x (All-tail P b (bs ++ x ∷ after) all) in
    (rest.0, All-cons P b bs (All-head P b (bs ++ x ∷ after) all) rest.1)

-- two facts of all elements
pub all_two : {X : Type 0} (P Q R : X → Type 0) → ((x : X) → P x → Q x → R x) → (xs : List X) → All P xs → All Q xs
    → All R xs
all_two P Q R f [] a b = All-nil R
all_two P Q R f (x ∷ xs) a b =
    All-cons R x xs (f x (All-head P x xs a) (All-head Q x xs b))
    (all_two P Q R f xs (All-tail P x xs a) (All-tail Q x xs b))

-- the last two of two elements
pub two_last : {X : Type 0} (P : ℕ → X → Type 0) (items rest less : List X) (a b : X) → length items ≡ 2
    → items ≡ rest ++ b ∷ [] → rest ≡ less ++ a ∷ [] →
    ((k : ℕ) → k < 2 → HoldsAt (P k) items k) → P 0 a × P 1 b
two_last {X} P items rest less a b many e f each = go less (e ∙ ap (λ (r : List X). r ++ b ∷ []) f)
  where
    go : (less : List X) → items ≡ (less ++ a ∷ []) ++ b ∷ [] → P 0 a × P 1 b
    go [] is =
        let all : (k : ℕ) → k < 2 → HoldsAt (P k) (a ∷ b ∷ []) k =
        subst (λ (l : List X). (k : ℕ) → k < 2 → HoldsAt (P k) l k) is each in
        (all 0 (omega arith) a, all 1 (omega arith) a)
    go (x ∷ xs) is =
        let n = ap (λ (l : List X). length l) is in let u = length-append ((x ∷ xs) ++ a ∷ []) (b ∷ []) in let v =
        length-append (x ∷ xs) (a ∷ []) in
        absurd (omega (arith, n, u, v, many))
