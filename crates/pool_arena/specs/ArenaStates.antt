-- What contracts see of an `Arena`: the law's arena without the takings that are out, which no
-- memory of the arena holds, and the grounds on which its chunks stand.
use Rattle.std.specs.Prelude.{◌≡◌, ℕ, not, List, [], ◌∷◌, ◌++◌, length, filter, Option, Some, None, slice_get, unwrap_or}
use Rattle.ground.specs.Ground.{Origin, Segment}
use Rattle.ground.specs.Grounds.{Grounds}
use Rattle.size_classes.specs.Sizes.{Geometry, of_pages}
use Rattle.pool_law.specs.declared.id.RegionId.{RegionId}
use Rattle.pool_law.specs.declared.report.ChunkEnd.{ChunkEnd}
use Rattle.pool_law.specs.Chunks.{Chunk}
use Rattle.pool_law.specs.ChunkLists.{Lists}
use Rattle.pool_law.specs.Same.{same_taking}
use Rattle.pool_law.specs.Arenas.{Arena, new_arena, chunk_at, take, give, chunk_end}
use Rattle.pool_law.specs.Places.{IsInPlace}
use Rattle.arena_laws.specs.Slots.{IsLocated}
use Rattle.arena_laws.specs.Orderly.{ChunkAtRest}

pub record ArenaState : Type 0 where
  pub number : ℕ
  pub geometry : Geometry
  pub grounds : List Origin  -- of each chunk place
  pub chunks : List (Option Chunk)
  pub lists : Lists
  pub fronts : List (List (ℕ × ℕ))
  pub takings : ℕ

-- the law's arena, with these takings out
abbrev pub law_of : ArenaState → List RegionId → Arena
law_of a out =
    record {
      chunks = a.chunks;
      lists = a.lists;
      fronts = a.fronts;
      takings = a.takings;
      out = out;
    }

-- an arena at first: so many chunk places, each with a ground
pub record IsNew (number page order chunks : ℕ) (a : ArenaState) : Type 0 where
  pub number_is : a.number ≡ number
  pub geometry : a.geometry ≡ of_pages order page
  pub grounds : length a.grounds ≡ chunks
  pub law : law_of a [] ≡ new_arena (of_pages order page) chunks

-- these are the grounds of the arena's chunk places
abbrev pub AreGroundsOf : Grounds → ArenaState → Type 0
AreGroundsOf grounds a = slice_get grounds a.number ≡ Some a.grounds

-- the region has the memory of its place, under all lists of grounds that have the arena's
abbrev pub IsInPlaceAt : ArenaState → RegionId → Segment → Type 0
IsInPlaceAt a id piece =
    (grounds : Grounds) → AreGroundsOf grounds a → IsInPlace grounds id.place piece

-- the region has the memory of its place, under a list of grounds that has the arena's
pub record IsInPlaceUnder (a : ArenaState) (id : RegionId) (piece : Segment) : Type 0 where
  pub grounds : Grounds
  pub are : AreGroundsOf grounds a
  pub place : IsInPlace grounds id.place piece

-- the region is a run or an element that is in use
abbrev pub IsOutOf : ArenaState → RegionId → Type 0
IsOutOf a r = IsLocated a.geometry a.number (law_of a []) r

-- what never changes of an arena
pub record IsSameArena (old new : ArenaState) : Type 0 where
  pub number : new.number ≡ old.number
  pub geometry : new.geometry ≡ old.geometry
  pub grounds : new.grounds ≡ old.grounds
  pub places : length new.chunks ≡ length old.chunks

-- the arena gives an owner this region for a class
pub record Takes (old : ArenaState) (class owner : ℕ) (new : ArenaState) (r : RegionId) : Type 0
  where
    pub step : (out : List RegionId) →
        take old.geometry old.number (law_of old out) class owner
        ≡ Some (r, law_of new (out ++ r ∷ []))
    pub same : IsSameArena old new

-- it has nothing for the class
abbrev pub IsFullFor : ArenaState → ℕ → ℕ → Type 0
IsFullFor a class owner =
    (out : List RegionId) → take a.geometry a.number (law_of a out) class owner ≡ None

-- the takings without one
abbrev pub without_taking : RegionId → List RegionId → List RegionId
without_taking r out = filter (λ other. not (same_taking r other)) out

-- the region comes back
pub record Gives (old : ArenaState) (r : RegionId) (new : ArenaState) : Type 0 where
  pub step : (out : List RegionId) →
      give old.geometry (law_of old out) r ≡ law_of new (without_taking r out)
  pub same : IsSameArena old new

-- nothing of a chunk is out
abbrev pub AtRest : ArenaState → Type 0
AtRest a = (c : ℕ) → ChunkAtRest (chunk_at (law_of a []) c)

-- what a report tells of a chunk place
abbrev pub end_of : ArenaState → ℕ → List ChunkEnd
end_of a chunk =
    chunk_end a.geometry a.number (law_of a []) chunk (unwrap_or (slice_get a.chunks chunk) None)
