-- When an arena stands for a list of notes, and which note may come next.
use Rattle.std.specs.Prelude.{◌≡◌, ℕ, ⊤, true, List, [], ◌∷◌, ◌++◌, length, Option, Some, None, IsSome}
use Rattle.ground.specs.Grounds.{Grounds}
use Rattle.size_classes.specs.Sizes.{Geometry}
use Rattle.pool_law.specs.declared.id.Region.{Region}
use Rattle.pool_law.specs.declared.id.RegionId.{RegionId}
use Rattle.pool_law.specs.declared.note.Did.{Did}
use Rattle.pool_law.specs.declared.note.Did.TheVariants.{Take, Full, Give}
use Rattle.pool_law.specs.declared.note.Noted.{Noted}
use Rattle.pool_law.specs.Arenas.{Arena, new_arena, is_out_of, arena_step}
use Rattle.pool_law.specs.Histories.{after}
use Rattle.pool_law.specs.NotedHistories.{noted_dids}
use Rattle.pool_arena.specs.ArenaStates.{ArenaState, law_of, AreGroundsOf, IsOutOf}

-- what the notes make of a new arena of this number
abbrev pub arena_told : Geometry → ℕ → ℕ → List Noted → Option Arena
arena_told g number chunks notes =
    after (arena_step g number) (new_arena g chunks) (noted_dids notes)

-- the notes make this arena of a new one, with these takings out, and the grounds have its own
pub record StandsFor (grounds : Grounds) (notes : List Noted) (a : ArenaState) : Type 0 where
  pub out : List RegionId
  pub told : arena_told a.geometry a.number (length a.chunks) notes ≡ Some (law_of a out)
  pub on : AreGroundsOf grounds a

-- what is done may come next at an arena: a region that comes back is a run or an element in use
-- (that its taking is out is known by the notes, and not by the arena)
abbrev pub MayDo : ArenaState → Did → Type 0
MayDo a (Give region) = IsOutOf a region
MayDo a did = IsSome (arena_step a.geometry a.number (law_of a []) did)

abbrev pub MayFollow : ArenaState → List Noted → Noted → Type 0
MayFollow a notes n = MayDo a n.did

-- of two lists for which an arena stands, the same notes may follow
pub MayFollow-decided : (grounds : Grounds) (a : ArenaState) (xs ys : List Noted) →
    StandsFor grounds xs a → StandsFor grounds ys a →
    (n : Noted) → MayFollow a xs n → MayFollow a ys n
MayFollow-decided grounds a xs ys left right n may = may

-- what a take of a class does
abbrev pub taken_or_full : ℕ → Option Region → Did
taken_or_full class (Some r) = Take class r.id
taken_or_full class None = Full class

-- if a region comes back, its taking is out
abbrev pub IsOutIfGiven : Arena → Did → Type 0
IsOutIfGiven a (Give r) = is_out_of a r ≡ true
IsOutIfGiven a did = ⊤

-- whatever notes the old arena stands for, the new one stands for these and a note of this
abbrev pub StandsMore : ArenaState → Did → ArenaState → Type 0
StandsMore old did new =
    (grounds : Grounds) (h : List Noted) (n : Noted) → n.did ≡ did →
    (stands : StandsFor grounds h old) → IsOutIfGiven (law_of old stands.out) did →
    StandsFor grounds (h ++ n ∷ []) new
