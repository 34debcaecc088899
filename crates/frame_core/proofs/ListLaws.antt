-- The first of a list, and those behind them.
use Rattle.std.proofs.Common.{◌≡◌, ℕ, zero, suc, ◌+◌, List, [], ◌∷◌, ◌++◌, take, drop, refl, sym, ap, ◌∙◌, arith}

-- the first n of a list of which the first n are known
pub take-append-again : (n : ℕ) (xs ys : List ℕ) → take n (take n xs ++ ys) ≡ take n (xs ++ ys)
take-append-again zero xs ys = refl
take-append-again (suc n) [] ys = refl
take-append-again (suc n) (x ∷ xs) ys = ap (λ zs. x ∷ zs) (take-append-again n xs ys)

take-nil : (n : ℕ) → take {A = ℕ} n [] ≡ []
take-nil zero = refl
take-nil (suc n) = refl

-- bytes before a place and some behind it
pub take-split : (m n : ℕ) (xs : List ℕ) → take m xs ++ take n (drop m xs) ≡ take (m + n) xs
take-split zero n xs =
    let e : n ≡ zero + n = omega arith in
    ap (λ k. take k xs) e
take-split (suc m) n [] = take-nil n ∙ sym (take-nil (suc m + n))
take-split (suc m) n (x ∷ xs) =
    let e : suc m + n ≡ suc (m + n) = omega arith in
    ap (λ zs. x ∷ zs) (take-split m n xs) ∙ ap (λ k. take k (x ∷ xs)) (sym e)
