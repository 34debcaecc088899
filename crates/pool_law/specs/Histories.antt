-- Histories of the objects: what a list of notes makes of an object, and which list the logs give.
use Rattle.std.specs.Prelude.{ℕ, Bool, false, List, [], ◌∷◌, ◌++◌, Option, Some, is_some, IsTrue, option_and_then}
use Rattle.pool_law.specs.declared.note.Object.{Object}
use Rattle.pool_law.specs.declared.note.Did.{Did}
use Rattle.pool_law.specs.declared.run.Shape.{Shape}
use Rattle.pool_law.specs.Limits.{geometry_of}
use Rattle.pool_law.specs.Arenas.{Arena, new_arena, arena_step}
use Rattle.pool_law.specs.Caches.{Cache, new_cache, lane_cache_step, new_bin, bin_step}
use Rattle.pool_law.specs.Roots.{RootPlace, new_place, place_step}

-- what the notes make of a state, one after another; none where one of them may not stand
abbrev pub after : {S : Type 0} → (S → Did → Option S) → S → List Did → Option S
after step s [] = Some s
after step s (d ∷ ds) = option_and_then (λ t. after step t ds) (step s d)

-- an arena after these notes
abbrev pub arena_after : Shape → ℕ → List Did → Option Arena
arena_after shape number ds =
    let g = geometry_of shape in after (arena_step g number) (new_arena g shape.chunks) ds

-- the cache of a lane and class after these notes
abbrev pub cache_after : ℕ → ℕ → List Did → Option Cache
cache_after lane class ds = after (lane_cache_step lane class) new_cache ds

-- the bin of a lane after these notes
abbrev pub bin_after : Shape → ℕ → List Did → Option (List ℕ)
bin_after shape lane ds = after (bin_step lane shape.handles) (new_bin lane shape.handles) ds

-- a root place after these notes
abbrev pub place_after : ℕ → List Did → Option RootPlace
place_after place ds = after (place_step place) new_place ds

-- whether the notes are a history of the object; a mail has none (`Mails`)
abbrev pub accepts : Shape → Object → List Did → Bool
accepts shape (Object.Arena number) ds = is_some (arena_after shape number ds)
accepts shape (Object.Cache lane class) ds = is_some (cache_after lane class ds)
accepts shape (Object.Bin lane) ds = is_some (bin_after shape lane ds)
accepts shape (Object.Mail from to) ds = false
accepts shape (Object.Root place) ds = is_some (place_after place ds)

-- the notes are a history of the object
abbrev pub IsAccepted : Shape → Object → List Did → Type 0
IsAccepted shape object ds = IsTrue (accepts shape object ds)

-- a note may come next
abbrev pub MayFollow : Shape → Object → List Did → Did → Type 0
MayFollow shape object ds d = IsAccepted shape object (ds ++ d ∷ [])
