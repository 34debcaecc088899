-- What a put into a cache answered, and where the regions of a cache lie.
use Rattle.std.specs.Prelude.{◌≡◌, ℕ, List, [], ◌∷◌, ◌++◌}
use Rattle.step_law.specs.Settings.{Setting}
use Rattle.pool_law.specs.declared.id.Region.{Region}
use Rattle.pool_law.specs.declared.id.RegionId.{RegionId}
use Rattle.pool_law.specs.declared.note.Did.{Did}
use Rattle.pool_law.specs.declared.note.Noted.{Noted}
use Rattle.pool_law.specs.Places.{IsInPlace}
use Rattle.shared_pool.specs.declared.home.Home.{Home}
use Rattle.shared_pool.specs.declared.went.Put.{Put}
use Rattle.shared_pool.specs.declared.went.Put.TheVariants.{Kept, Back}
use Rattle.shared_pool.specs.Standing.{HomeStands, HasClassLength}

-- what it noted
abbrev pub was_put : RegionId → Put → Did
was_put id Kept = Did.Kept id
was_put id (Back r why) = Did.Back id why

-- the region came back, and this holds of it
abbrev pub IfBack : Put → (Region → Type 0) → Type 0
IfBack Kept P = Unit {0}
IfBack (Back r why) P = P r

-- wherever the value stands for a history, the region has the memory of its place, and is as long
-- as its class says
abbrev pub WasInPlace : Home → Region → Type 0
WasInPlace home r =
    (measures : List ℕ) (setting : Setting) (h : List Noted) →
    HomeStands measures setting h home →
    IsInPlace setting.grounds r.id.place r.piece × HasClassLength r.id

-- whatever the value stood for, it stands for the longer with a note of this, where the region has
-- the memory of its place, and is as long as its class says
abbrev pub StandsMoreWith : Region → Home → Did → Home → Type 0
StandsMoreWith r old did new =
    (measures : List ℕ) (setting : Setting) (h : List Noted) (n : Noted) → n.did ≡ did →
    IsInPlace setting.grounds r.id.place r.piece → HasClassLength r.id →
    HomeStands measures setting h old → HomeStands measures setting (h ++ n ∷ []) new
