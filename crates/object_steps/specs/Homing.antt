-- The places of a bin, in a queue and in a set.
use Rattle.std.specs.Prelude.{◌≡◌, ℕ, false, List, [], ◌∷◌}
use Rattle.std.specs.Ordering.{nat_cmp}
use Rattle.std.specs.BTreeSet.{BTreeSet, contains}
use Rattle.pool_law.specs.Caches.{has_place}

-- each place is there once
abbrev pub AreOnce : List ℕ → Type 0
AreOnce [] = Unit {0}
AreOnce (place ∷ rest) = (has_place place rest ≡ false) × AreOnce rest

-- each place is there once, and the set has just these
abbrev pub AreAtHome : BTreeSet ℕ → List ℕ → Type 0
AreAtHome home places =
    AreOnce places × ((place : ℕ) → contains nat_cmp home place ≡ has_place place places)
