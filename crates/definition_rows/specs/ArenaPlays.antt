-- Plays on an arena: what is asked of it, and what it gives.
use Rattle.std.specs.Prelude.{ℕ, zero, suc, ◌==◌, List, [], ◌∷◌, map, Option, Some, None, unwrap_or, find}
use Rattle.size_classes.specs.Sizes.{Geometry, of_order, class_of}
use Rattle.pool_law.specs.declared.id.RegionId.{RegionId}
use Rattle.pool_law.specs.declared.note.Did.{Did}
use Rattle.pool_law.specs.declared.note.Did.TheVariants.{Take, Full, Give}
use Rattle.pool_law.specs.declared.report.ListName.{ListName}
use Rattle.pool_law.specs.ChunkLists.{list_of}
use Rattle.pool_law.specs.Chunks.{used_bytes, free_bytes}
use Rattle.pool_law.specs.Arenas.{Arena, new_arena, take, arena_step, chunk_at}
use Rattle.pool_law.specs.Histories.{arena_after}
use Rattle.definition_rows.specs.Notes.{one_chunk, place, region}

-- what is asked of an arena: so many bytes, or that the taking with this number comes back
pub data Ask : Type 0 where
  Want : (size : ℕ) → Ask
  Return : (taking : ℕ) → Ask

-- the note of a taking, or that the arena is full
abbrev pub taking_note : ℕ → Option (RegionId × Arena) → Did
taking_note class None = Full class
taking_note class (Some t) = Take class t.0

-- a taking that no arena makes
abbrev pub no_region : RegionId
no_region = region (place 0 0) 0 0 0

-- the note that an ask makes
abbrev pub note_of : Geometry → Arena → Ask → Did
note_of g a (Want size) =
    let class = unwrap_or (class_of g size) 0 in taking_note class (take g 0 a class 0)
note_of g a (Return taking) =
    Give (unwrap_or (find (λ r. r.taking == taking) a.out) no_region)

-- an arena, and the notes so far, the last first
abbrev pub Played : Type 0
Played = Arena × List Did

-- what one ask makes of an arena
abbrev pub play_one : Geometry → Played → Ask → Played
play_one g p ask =
    let d = note_of g p.0 ask in (unwrap_or (arena_step g 0 p.0 d) p.0, d ∷ p.1)

-- what asks make of it, one after another
abbrev pub play : Geometry → Played → List Ask → Played
play g p [] = p
play g p (ask ∷ asks) = play g (play_one g p ask) asks

-- what becomes of a new arena of so many chunks, each of 2 ^ order pages
abbrev pub played : ℕ → ℕ → List Ask → Played
played order chunks asks =
    play (of_order order) (new_arena (of_order order) chunks, []) asks

-- chunk and offset of what a note takes; none where the arena is full, or takes back
abbrev pub taken_at : Did → Option (ℕ × ℕ)
taken_at (Take class region) = Some (region.place.chunk, region.place.offset)
taken_at _ = None

-- what was taken, the last first
abbrev pub places_taken : Played → List (Option (ℕ × ℕ))
places_taken p = map taken_at p.1

-- the first of a list, if it is there
abbrev pub first_of_all : {X : Type 0} → List (Option X) → Option X
first_of_all [] = None
first_of_all (x ∷ xs) = x

-- what was taken last
abbrev pub latest_taken : Played → Option (ℕ × ℕ)
latest_taken p = first_of_all (places_taken p)

-- the list, the used and the free bytes of a chunk
abbrev pub state_of : ℕ → Played → ℕ → Option ListName × ℕ × ℕ
state_of order p c = (
  list_of p.0.lists c,
  used_bytes (of_order order) (chunk_at p.0 c),
  free_bytes (of_order order) (chunk_at p.0 c),
)

-- the same size, so many times
abbrev pub wants : ℕ → ℕ → List Ask
wants zero size = []
wants (suc n) size = Want size ∷ wants n size

-- so many takings come back, in order from a number on
abbrev pub returns : ℕ → ℕ → List Ask
returns taking zero = []
returns taking (suc n) = Return taking ∷ returns (suc taking) n

-- what these notes make of an arena of one chunk of eight pages
abbrev pub notes_of_one_chunk : List Did → Option Arena
notes_of_one_chunk ds = arena_after (one_chunk 3) 0 ds
