-- The lane of a seat is the one that its number says.
use Rattle.std.proofs.Common.{◌≡◌, ℕ, ◌<◌, subst}
use Rattle.std.specs.Prelude.{Option, Some}

pub one_number : (n : Option ℕ) (a b : ℕ) → n ≡ Some a → n ≡ Some b → a ≡ b
one_number n a b x y = cc

pub below : (n : Option ℕ) (a b lanes : ℕ) → n ≡ Some a → n ≡ Some b → a < lanes → b < lanes
below n a b lanes x y lt = subst (λ (k : ℕ). k < lanes) (one_number n a b x y) lt
