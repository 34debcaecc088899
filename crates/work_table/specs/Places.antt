-- The places of machines, from which they are taken and to which they come back.
use Rattle.std.specs.Prelude.{◌≡◌, ◌↔◌, ℕ, suc, List, [], ◌∷◌, Option, Some, None, slice_get}

-- the machine may stand at place i: it has come of the one that stood there first
abbrev pub BelongsAt : {M : Type 0} → (M → M → Type 0) → List M → ℕ → M → Type 0
BelongsAt {M} comes firsts i m = (first : M) × (slice_get firsts i ≡ Some first) × comes first m

-- each machine has come of the one that stood at its place first
abbrev pub EachCame : {M : Type 0} → (M → M → Type 0) → List M → List M → Type 0
EachCame {M} comes firsts machines =
    (i : ℕ) (m : M) → slice_get machines i ≡ Some m → BelongsAt comes firsts i m

-- the one relation holds exactly where the other does
abbrev pub IsSameRelation : {M : Type 0} → (M → M → Type 0) → (M → M → Type 0) → Type 0
IsSameRelation {M} R S = (first m : M) → R first m ↔ S first m

-- the same of places, of which some may be empty
abbrev pub AllStand : {M : Type 0} → (M → M → Type 0) → List M → List (Option M) → Type 0
AllStand {M} comes firsts places =
    (i : ℕ) (m : M) → slice_get places i ≡ Some (Some m) → BelongsAt comes firsts i m

-- how many places are empty
abbrev pub empties : {M : Type 0} → List (Option M) → ℕ
empties [] = 0
empties (Some m ∷ places) = empties places
empties (None ∷ places) = suc (empties places)
