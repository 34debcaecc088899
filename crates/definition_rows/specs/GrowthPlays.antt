-- Roots that grow: in their region, out of it, and where the arena is full.
use Rattle.std.specs.Prelude.{ℕ, List, [], ◌∷◌, ◌++◌, Option, option_map, option_and_then, Some, Result}
use Rattle.pool_law.specs.declared.id.RootId.{RootId}
use Rattle.pool_law.specs.declared.id.RegionId.{RegionId}
use Rattle.pool_law.specs.declared.note.Did.{Did}
use Rattle.pool_law.specs.declared.note.RefDid.{RefDid}
use Rattle.pool_law.specs.declared.note.Note.{Note}
use Rattle.pool_law.specs.declared.note.Note.TheVariants.{Ref}
use Rattle.pool_law.specs.declared.note.Object.{Object}
use Rattle.pool_law.specs.declared.run.Reply.{Reply}
use Rattle.pool_law.specs.Roots.{RootPlace}
use Rattle.pool_law.specs.Histories.{place_after}
use Rattle.pool_law.specs.Logs.{Logs, ToldNote}
use Rattle.pool_law.specs.Readers.{ToldNotes, read_all}
use Rattle.pool_law.specs.LaneStates.{new_lane, log_at}
use Rattle.pool_law.specs.Patterns.{regrow}
use Rattle.pool_law.specs.Lives.{Move, Takes, Gives, Keeps, Hits, Sheds, Begins, Leaves, Happening}
use Rattle.definition_rows.specs.Notes.{default_shape, place, region, least_region, root, arena, cache, bin, root_place, closes}
use Rattle.definition_rows.specs.Entries.{alone, access}
use Rattle.definition_rows.specs.LifeRows.{happening, first_arena, least_cache}

-- a root of the least class, and the region that it grows into, after so many uses
abbrev pub sixteen : RootId
sixteen = root 0 1 16

abbrev pub wider : ℕ → RegionId
wider uses = region (place 8192 112) 6 2 uses

-- a root that its region of 32 bytes holds with more
abbrev pub seventeen : RootId
seventeen = root 0 1 17

abbrev pub second_class : ℕ → RegionId
second_class uses = region (place 0 32) 1 1 uses

-- a root of five pages, and a whole chunk of eight
abbrev pub five_pages : RootId
five_pages = root 0 1 40960

abbrev pub five_region : ℕ → RegionId
five_region uses = region (place 0 40960) 40 1 uses

abbrev pub whole_chunk : RegionId
whole_chunk = region (place 0 65536) 43 2 1

-- a run of six pages
abbrev pub six_region : RegionId
six_region = region (place 0 49152) 41 2 1

-- ---- Places.

-- the place after the first root's birth in the least class and these notes
abbrev pub after_sixteen : List Did → Option RootPlace
after_sixteen ds = place_after 0 (Did.Birth sixteen (least_region 1) ∷ ds)

-- and after the other births
abbrev pub after_seventeen : List Did → Option RootPlace
after_seventeen ds = place_after 0 (Did.Birth seventeen (second_class 1) ∷ ds)

abbrev pub after_five : List Did → Option RootPlace
after_five ds = place_after 0 (Did.Birth five_pages (five_region 1) ∷ ds)

-- the region of the root that is present
abbrev pub present_region : Option RootPlace → Option RegionId
present_region place =
    option_map (λ p. p.region) (option_and_then (λ s. s.present) place)

-- what is asked of the first root and written to it before it grows
abbrev pub grown_with : List Did → Option RootPlace
grown_with ds =
    after_sixteen
    (Did.Set 0 (255 ∷ []) ∷ Did.Room 10 16 ∷ Did.Room 100 16 ∷ Did.Grow 100 (wider 1) ∷ ds)

-- ---- A lane that makes a root grow.

-- what a lane comes to whose notes are these
abbrev pub regrown : RootId → ℕ → ToldNotes → Option (Result ℕ Reply)
regrown root size es =
    option_map (λ got. got.0) (read_all (regrow (default_shape 1) 0 root size) (log_at new_lane es))

-- the growth of a root, which leaves its region
abbrev pub growth : RootId → ℕ → ℕ → RegionId → RegionId → ToldNote
growth grower number capacity from into =
    record {
      note = root_place grower.place number (Did.Grow capacity into);
      root = Some grower;
      region = Some from;
    }

-- the notes before the growth: the cache has nothing, and the arena gives a region
abbrev pub takes_wider : ToldNotes
takes_wider =
    access sixteen 4 (Did.Room 100 16)
    ∷ alone (cache 0 6 1 Did.Miss)
    ∷ alone (arena 0 2 (Did.Take 6 (wider 0)))
    ∷ []

-- the growth
abbrev pub grows_wider : ToldNote
grows_wider = growth sixteen 5 100 (least_region 1) (wider 1)

-- the region that it leaves is kept
abbrev pub keeps_least : ToldNote
keeps_least = alone (cache 0 0 2 (Did.Kept (least_region 1)))

-- what the lane has noted once it has grown
abbrev pub has_grown : ToldNotes
has_grown =
    alone (root_place 0 1 (Did.Birth sixteen (least_region 1)))
    ∷ access sixteen 3 (Did.Room 10 16)
    ∷ takes_wider
    ++ grows_wider ∷ keeps_least ∷ []

-- ---- A whole log.

-- a root is born, grows and ends; its two regions return and are shed at the end
abbrev pub grown_notes : List Note
grown_notes =
    bin 0 1 (Did.Handle 0)
    ∷ cache 0 0 1 Did.Miss
    ∷ arena 0 1 (Did.Take 0 (least_region 0))
    ∷ root_place 0 1 (Did.Birth sixteen (least_region 1))
    ∷ Ref sixteen RefDid.Born
    ∷ root_place 0 2 (Did.Set 0 (255 ∷ []))
    ∷ root_place 0 3 (Did.Room 10 16)
    ∷ root_place 0 4 (Did.Room 100 16)
    ∷ cache 0 6 1 Did.Miss
    ∷ arena 0 2 (Did.Take 6 (wider 0))
    ∷ root_place 0 5 (Did.Grow 100 (wider 1))
    ∷ cache 0 0 2 (Did.Kept (least_region 1))
    ∷ root_place 0 6 (Did.Get 0 (255 ∷ 0 ∷ []))
    ∷ root_place 0 7 (Did.Get 99 (0 ∷ []))
    ∷ Ref sixteen RefDid.Ended
    ∷ root_place 0 8 (Did.End sixteen)
    ∷ Ref sixteen RefDid.Vacated
    ∷ cache 0 6 2 (Did.Kept (wider 1))
    ∷ bin 0 2 (Did.Home 0)
    ∷ cache 0 0 3 (Did.Close 1)
    ∷ cache 0 0 4 (Did.Shed (least_region 1))
    ∷ arena 0 3 (Did.Give (least_region 1))
    ∷ closes 0 1 5
    ++ cache 0 6 3 (Did.Close 1)
    ∷ cache 0 6 4 (Did.Shed (wider 1))
    ∷ arena 0 4 (Did.Give (wider 1))
    ∷ closes 0 7 33

-- the lane is alone
abbrev pub grown_logs : Logs
grown_logs = grown_notes ∷ []

-- the growth, as an event of both regions
abbrev pub growing : Move → Happening
growing move = happening 0 10 (Object.Root 0) 5 (Did.Grow 100 (wider 1)) move

-- the region that it leaves
abbrev pub left_taken : Happening
left_taken =
    happening 0 2 first_arena 1 (Did.Take 0 (least_region 0)) (Takes 0 (least_region 0))

abbrev pub left_used : List Happening
left_used =
    happening 0 3 (Object.Root 0) 1 (Did.Birth sixteen (least_region 1))
    (Begins sixteen (least_region 1))
    ∷ growing (Leaves sixteen (least_region 1))
    ∷ happening 0 11 least_cache 2 (Did.Kept (least_region 1)) (Keeps (least_region 1))
    ∷ happening 0 20 least_cache 4 (Did.Shed (least_region 1)) (Sheds (least_region 1))
    ∷ happening 0 21 first_arena 3 (Did.Give (least_region 1)) (Gives (least_region 1))
    ∷ []

-- the region that it goes on in
abbrev pub wider_cache : Object
wider_cache = Object.Cache 0 6

abbrev pub wider_taken : Happening
wider_taken = happening 0 9 first_arena 2 (Did.Take 6 (wider 0)) (Takes 6 (wider 0))

abbrev pub wider_used : List Happening
wider_used =
    growing (Begins sixteen (wider 1))
    ∷ happening 0 15 (Object.Root 0) 8 (Did.End sixteen) (Leaves sixteen (wider 1))
    ∷ happening 0 17 wider_cache 2 (Did.Kept (wider 1)) (Keeps (wider 1))
    ∷ happening 0 28 wider_cache 4 (Did.Shed (wider 1)) (Sheds (wider 1))
    ∷ happening 0 29 first_arena 4 (Did.Give (wider 1)) (Gives (wider 1))
    ∷ []

-- what a lane that another outran does with the region that it took: it is kept unused, and hit for
-- another root
abbrev pub outrun : List Move
outrun =
    Keeps (wider 0)
    ∷ Hits (wider 0)
    ∷ Keeps (wider 0)
    ∷ Hits (wider 0)
    ∷ Begins (root 1 1 100) (wider 1)
    ∷ []
