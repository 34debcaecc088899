-- What a call on a section of a root place makes of its home value.
use Rattle.std.specs.Prelude.{ℕ, List, []}
use Rattle.pool_law.specs.declared.note.Did.{Did}
use Rattle.pool_law.specs.declared.report.Access.{Access}
use Rattle.shared_pool.specs.RootPlaces.{PlaceState}
use Rattle.shared_pool.specs.PlaceSteps.{Accesses, shown}
use Rattle.shared_pool.specs.Standing.{IfPlace}
use Rattle.shared_pool.specs.declared.home.Home.{Home}
use Rattle.shared_pool.specs.declared.home.Home.TheVariants.{Root}

-- what holds of two root places
abbrev pub IfPlaces : Home → Home → (PlaceState → PlaceState → Type 0) → Type 0
IfPlaces old new P = IfPlace old (λ s. IfPlace new (P s))

-- the root of the place has an access more
abbrev pub IsAccessed : Home → Did → Access → Home → Type 0
IsAccessed old did access new = IfPlaces old new (λ s t. Accesses s did access t)

-- the bytes of the region of the root that is present
abbrev pub home_bytes : Home → List ℕ
home_bytes (Root s) = shown s.value
home_bytes _ = []
