-- A lane that has bound two names: 0 to a view of a root that it counts, and 1 to one of a root
-- that it counts no more. What it answers to one more command.
use Rattle.std.specs.Prelude.{ℕ, List, [], ◌∷◌, map, Option, Some, option_map}
use Rattle.pool_law.specs.declared.id.RootId.{RootId}
use Rattle.pool_law.specs.declared.id.RegionId.{RegionId}
use Rattle.pool_law.specs.declared.id.ViewData.{ViewData}
use Rattle.pool_law.specs.declared.command.Command.{Command}
use Rattle.pool_law.specs.declared.note.CacheNo.{CacheNo}
use Rattle.pool_law.specs.declared.note.Did.{Did}
use Rattle.pool_law.specs.declared.note.Note.{Note}
use Rattle.pool_law.specs.declared.note.Object.{Object}
use Rattle.pool_law.specs.declared.note.RefDid.{RefDid}
use Rattle.pool_law.specs.declared.run.Reply.{Reply}
use Rattle.pool_law.specs.Logs.{ToldNote}
use Rattle.pool_law.specs.Readers.{ToldNotes, Log}
use Rattle.pool_law.specs.Names.{Names, Plain}
use Rattle.pool_law.specs.LaneStates.{LaneState, log_at}
use Rattle.pool_law.specs.Lanes.{Answer, answer, answer_of}
use Rattle.pool_law.specs.LaneLaw.{sweep_period, lane_step, lane_run, closes}
use Rattle.definition_rows.specs.Notes.{default_shape, place, region, root, view, arena, cache, bin, root_place}
use Rattle.definition_rows.specs.Entries.{alone, on, access, end, mark}

-- the root that it counts
abbrev pub held : RootId
held = root 0 1 8

-- the root that it counts no more
abbrev pub gone : RootId
gone = root 1 1 8

-- a view of the first: two bytes are read, and six are written
abbrev pub held_view : ViewData
held_view = view held 0 8 2 6

-- a view of the second
abbrev pub gone_view : ViewData
gone_view = view gone 0 8 0 0

-- the two names
abbrev pub bound : Names
bound = (0, Plain held_view) ∷ (1, Plain gone_view) ∷ []

-- the lane
abbrev pub lane : LaneState
lane =
    record {
      names = bound;
      seen = on held RefDid.Born ∷ on gone RefDid.Born ∷ on gone RefDid.Ended ∷ [];
      asked = 0;
    }

-- an answer, and the notes behind those of the command; none where the command makes other notes
abbrev pub Answers : Type 0
Answers = Option (Answer × ToldNotes)

-- the notes that are left
abbrev pub with_left : Option (Answer × Log) → Answers
with_left got = option_map (λ g. (g.0, g.1.left)) got

-- its answer to a command whose notes begin these
abbrev pub answers : Command → ToldNotes → Answers
answers command es = with_left (answer_of (default_shape 2) 0 lane command (log_at lane es))

-- a reply with these names, and the notes behind
abbrev pub gives : Reply → Names → ToldNotes → Answers
gives reply names rest = Some (answer reply names, rest)

-- a reply that changes no name, and the notes behind
abbrev pub replies : Reply → ToldNotes → Answers
replies reply rest = gives reply bound rest

-- another lane is in the section of the held root
abbrev pub held_mark : ToldNote
held_mark = alone (mark (Object.Root 0) 5)

-- ---- An allocation of eight bytes, which takes the third root place.

-- the new root
abbrev pub third_root : RootId
third_root = root 2 1 8

-- its region, after so many uses
abbrev pub third_region : ℕ → RegionId
third_region uses = region (place 32 16) 0 3 uses

-- its place comes out of the bin
abbrev pub handle : ToldNote
handle = alone (bin 0 3 (Did.Handle 2))

-- the bin is empty
abbrev pub no_handle : ToldNote
no_handle = alone (bin 0 3 Did.NoHandle)

-- its place goes home
abbrev pub home : ToldNote
home = alone (bin 0 4 (Did.Home 2))

-- the lane's cache gives a region
abbrev pub hit : ToldNote
hit = alone (cache 0 0 3 (Did.Hit (third_region 1)))

-- the lane's cache is empty
abbrev pub miss : ToldNote
miss = alone (cache 0 0 3 Did.Miss)

-- another lane is in the lane's cache
abbrev pub cache_mark : ToldNote
cache_mark = alone (mark (Object.Cache 0 0) 2)

-- an arena gives a region
abbrev pub taken_from : ℕ → ToldNote
taken_from number = alone (arena number 3 (Did.Take 0 (third_region 0)))

-- the arena has nothing of a class
abbrev pub full : ℕ → ToldNote
full class = alone (arena 0 3 (Did.Full class))

-- the birth with so many uses
abbrev pub birth : ℕ → ToldNote
birth uses = alone (root_place 2 1 (Did.Birth third_root (third_region uses)))

-- the word of the new root is set
abbrev pub born : ToldNote
born = on third_root RefDid.Born

-- the new name is bound to the whole root
abbrev pub third_bound : Answers
third_bound =
    gives (Reply.OkPlace 16 (place 32 16)) ((2, Plain (view third_root 0 8 0 0)) ∷ bound) []

-- ---- The end of the held root.

-- its region
abbrev pub held_region : RegionId
held_region = region (place 0 16) 0 1 1

-- a region that the second lane took
abbrev pub far_region : RegionId
far_region = record held_region { owner = 1 }

-- a region of five pages, of a class without a cache
abbrev pub large_region : RegionId
large_region = region (place 0 40960) 40 1 1

-- the release that ends the count, the end that takes a region out, the word, and then the rest
abbrev pub ends_with : RegionId → ToldNotes → ToldNotes
ends_with region rest =
    on held RefDid.Ended ∷ end held region 2 ∷ on held RefDid.Vacated ∷ rest

-- a lane's cache keeps a region
abbrev pub kept_at : ℕ → RegionId → ToldNote
kept_at lane region = alone (cache lane 0 3 (Did.Kept region))

-- the cache sends the region back
abbrev pub sent_back : ToldNote
sent_back = alone (cache 0 0 3 (Did.Back held_region CacheNo.Full))

-- the arena takes a region back
abbrev pub gave : RegionId → ToldNote
gave region = alone (arena 0 3 (Did.Give region))

-- its place goes home
abbrev pub held_home : ToldNote
held_home = alone (bin 0 3 (Did.Home 0))

-- ---- The held root is asked for seventeen bytes, and its region holds sixteen.

-- the region that is taken for it, after so many uses
abbrev pub next_region : ℕ → RegionId
next_region uses = region (place 32 32) 1 3 uses

-- the notes until it is there
abbrev pub asks_for_seventeen : ToldNotes
asks_for_seventeen =
    access held 2 (Did.Room 17 8)
    ∷ alone (cache 0 1 3 Did.Miss)
    ∷ alone (arena 0 3 (Did.Take 1 (next_region 0)))
    ∷ []

-- it is kept unused
abbrev pub next_kept : Note
next_kept = cache 0 1 4 (Did.Kept (next_region 0))

-- the view of the held root reaches so far
abbrev pub reached : ℕ → Answers
reached capacity =
    gives (Reply.OkNumber capacity) ((0, Plain (view held 0 capacity 2 6)) ∷ (1, Plain gone_view) ∷ []) []

-- ---- The law of a log.

-- the reply to one command that has exactly these notes
abbrev pub step_reply : Command → ToldNotes → Option Reply
step_reply command es =
    option_map (λ p. p.0) (lane_step sweep_period (default_shape 2) 0 lane command es)

-- the replies to commands that have these notes
abbrev pub replies_of_run : List Command → List ToldNotes → Option (List Reply)
replies_of_run commands groups =
    option_map (λ p. p.0) (lane_run sweep_period (default_shape 2) 0 lane commands groups)

-- whether these notes close the caches of the first lane
abbrev pub closes_with : List Note → Option (Unit {0})
closes_with notes = closes 0 (map alone notes)
