-- The takings of arenas as blocks: bytes of a chunk, from the note that took them to the note that
-- gave them back.
use Rattle.std.specs.Prelude.{ℕ, ◌+◌, ◌<◌, ◌≤◌, if◌then◌else◌, List, [], ◌∷◌, ◌++◌, Option, Some, None}
use Rattle.pool_law.specs.declared.id.RegionId.{RegionId}
use Rattle.pool_law.specs.declared.note.Did.{Did}
use Rattle.pool_law.specs.declared.note.Did.TheVariants.{Take}
use Rattle.pool_law.specs.declared.note.Object.{Object}
use Rattle.pool_law.specs.declared.run.Run.{Run}
use Rattle.pool_law.specs.Arenas.{listed}
use Rattle.pool_law.specs.Places.{Overlap}
use Rattle.pool_law.specs.Logs.{History, history_of}
use Rattle.pool_law.specs.Legal.{logs_of}
use Rattle.arena_laws.specs.Returns.{gives}
use Rattle.arena_laws.specs.Slots.{EachTwo}
use Rattle.run_picture.specs.declared.blocks.Return.{Return}
use Rattle.run_picture.specs.declared.blocks.Block.{Block}

-- the first of these notes, numbered from k on, that gives the taking back, and its lane
abbrev pub return_from : RegionId → ℕ → History → Option Return
return_from r k [] = None
return_from r k (e ∷ h) =
    if gives r e.1 then Some (record { number = k; lane = e.0 }) else return_from r (k + 1) h

-- what a note takes, if it takes anything
abbrev pub region_taken : Did → Option RegionId
region_taken (Take class region) = Some region
region_taken _ = None

-- the block of a taking, by the note of this number and lane, before these
abbrev pub block_of : ℕ → ℕ → History → RegionId → Block
block_of k lane later region =
    record { region = region; number = k; lane = lane; back = return_from region (k + 1) later }

-- the takings in these notes, numbered from k on: each once, in order
abbrev pub blocks_from : ℕ → History → List Block
blocks_from k [] = []
blocks_from k (e ∷ h) = listed (region_taken e.1) (block_of k e.0 h) ++ blocks_from (k + 1) h

-- the takings of an arena of a run
abbrev pub arena_blocks : Run → ℕ → List Block
arena_blocks run arena = blocks_from 1 (history_of (Object.Arena arena) (logs_of run))

-- a taking has come back before there were so many notes, or is out
abbrev pub IsLaterThan : ℕ → Option Return → Type 0
IsLaterThan m None = Unit {0}
IsLaterThan m (Some back) = m < back.number

-- behind so many notes of its arena the taking is out
abbrev pub IsOutBehind : ℕ → Block → Type 0
IsOutBehind m b = (b.number ≤ m) × IsLaterThan m b.back

-- two takings share a byte at no moment
abbrev pub NeverMeet : Block → Block → Type 0
NeverMeet a b =
    (m : ℕ) → IsOutBehind m a → IsOutBehind m b → Overlap a.region.place b.region.place → ⊥

-- no two of them ever do
abbrev pub LieApart : List Block → Type 0
LieApart blocks = EachTwo NeverMeet blocks
