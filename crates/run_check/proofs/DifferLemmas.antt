-- The first place where two lists differ.
use Rattle.std.proofs.Common.{◌≡◌, ℕ, zero, suc, ◌<◌, ◌≤◌, List, [], ◌∷◌, ◌++◌, length, get_or, take, Some, None, ⊎_elim, refl, sym, subst, arith, ◌∙◌}
use Rattle.std.specs.Prelude.{min, slice_get}
use Rattle.std.proofs.lemmas.List.{take_at, take_all, length-take-le}
use Rattle.std.proofs.lemmas.Bool.{cases_lt}
use Rattle.run_check.specs.Placing.{DifferAt}
use Rattle.pool_law.proofs.ListLemmas.{slice_get-past, get-behind}

pub get-there : {X : Type 0} (xs : List X) (i : ℕ) (d : X) → i < length xs → slice_get xs i ≡ Some (get_or xs i d)
get-there [] i d there = absurd (omega (arith, there))
get-there (x ∷ xs) zero d there = refl
get-there (x ∷ xs) (suc i) d there = get-there xs i d (omega (arith, there))

-- a list that goes on otherwise behind what both have
pub differ-here : {X : Type 0} (xs : List X) (at : ℕ) (y : X) (ys : List X) → at ≤ length xs →
    (slice_get xs at ≡ Some y → ⊥) → DifferAt xs (take at xs ++ y ∷ ys) at
differ-here {X = X} xs at y ys inside unlike =
    let long : length (take at xs) ≡ at = length-take-le at xs inside in
    let there : slice_get (take at xs ++ y ∷ ys) at ≡ Some y =
    subst (λ (n : ℕ). slice_get (take at xs ++ y ∷ ys) n ≡ Some y) long (get-behind (take at xs) y ys) in
    record {
      same = sym (take_at (take at xs) (y ∷ ys) at long);
      unlike = λ e. unlike (e ∙ there);
    }

there-some : {X : Type 0} (xs : List X) (i : ℕ) → i < length xs → slice_get xs i ≡ None → ⊥
there-some [] i there e = absurd (omega (arith, there))
there-some (x ∷ xs) zero there e = absurd (cc e)
there-some (x ∷ xs) (suc i) there e = there-some xs i (omega (arith, there)) e

-- a list that ends behind what both have
pub differ-lengths : {X : Type 0} (xs ys : List X) (n : ℕ) → n ≡ min (length xs) (length ys) →
    take n xs ≡ take n ys → (length xs ≡ length ys → ⊥) → DifferAt xs ys n
differ-lengths xs ys n least same other = record {
  same = same;
  unlike = λ e.
      ⊎_elim
      (λ less.
      there-some ys n (omega (arith, least, less)) (sym e ∙ slice_get-past xs n (omega (arith, least, less))))
      (λ more.
      let past : length ys ≤ n = omega (arith, least, more) in
      there-some xs n (omega (arith, least, more, other)) (e ∙ slice_get-past ys n past))
      (cases_lt (length xs) (length ys));
}

pub differ-longer : {X : Type 0} (xs : List X) (at : ℕ) → at < length xs → DifferAt xs (take at xs) at
differ-longer xs at inside =
    let long : length (take at xs) ≡ at = length-take-le at xs (omega (arith, inside)) in
    record {
      same = sym (take_all at (take at xs) (omega (arith, long)));
      unlike = λ e. there-some xs at inside (e ∙ slice_get-past (take at xs) at (omega (arith, long)));
    }

-- two lists of which all of the one is all of the other
pub same-whole : {X : Type 0} (xs ys : List X) (n : ℕ) → length xs ≡ length ys → length xs ≤ n →
    take n xs ≡ take n ys → xs ≡ ys
same-whole xs ys n as_many past same =
    sym (take_all n xs past) ∙ same ∙ take_all n ys (omega (arith, as_many, past))
