-- What is done with the regions of worked runs, from their takings on.
use Rattle.std.specs.Prelude.{ℕ, List, [], ◌∷◌}
use Rattle.pool_law.specs.declared.note.Object.{Object}
use Rattle.pool_law.specs.declared.note.Did.{Did}
use Rattle.pool_law.specs.Lives.{Event, Move, Takes, Gives, Keeps, Hits, Sheds, Begins, Leaves, Happening}
use Rattle.definition_rows.specs.Notes.{least_region}
use Rattle.definition_rows.specs.RootRuns.{first_root, second_root}
use Rattle.definition_rows.specs.ArenaRuns.{five, five_region, ten, ten_region}
use Rattle.definition_rows.specs.LaneRuns.{four}

-- what a lane did at this place of its log, with this number at the object
abbrev pub event : ℕ → ℕ → Object → ℕ → Did → Event
event lane at object number did =
    record { object = object; did = did; lane = lane; at = at; number = number }

-- and what it did to a region
abbrev pub happening : ℕ → ℕ → Object → ℕ → Did → Move → Happening
happening lane at object number did move =
    record { event = event lane at object number did; move = move }

-- the cache of the first lane's least class, and the first arena
abbrev pub least_cache : Object
least_cache = Object.Cache 0 0

abbrev pub first_arena : Object
first_arena = Object.Arena 0

-- the region that two roots use in turn
abbrev pub twice_taken : Happening
twice_taken = happening 0 2 first_arena 1 (Did.Take 0 (least_region 0)) (Takes 0 (least_region 0))

abbrev pub twice_used : List Happening
twice_used =
    happening 0 3 (Object.Root 0) 1 (Did.Birth first_root (least_region 1))
    (Begins first_root (least_region 1))
    ∷ happening 0 8 (Object.Root 0) 3 (Did.End first_root) (Leaves first_root (least_region 1))
    ∷ happening 0 10 least_cache 2 (Did.Kept (least_region 1)) (Keeps (least_region 1))
    ∷ happening 0 13 least_cache 3 (Did.Hit (least_region 1)) (Hits (least_region 1))
    ∷ happening 0 14 (Object.Root 0) 4 (Did.Birth second_root (least_region 2))
    (Begins second_root (least_region 2))
    ∷ happening 0 18 (Object.Root 0) 6 (Did.End second_root) (Leaves second_root (least_region 2))
    ∷ happening 0 20 least_cache 4 (Did.Kept (least_region 2)) (Keeps (least_region 2))
    ∷ happening 0 23 least_cache 6 (Did.Shed (least_region 2)) (Sheds (least_region 2))
    ∷ happening 0 24 first_arena 2 (Did.Give (least_region 2)) (Gives (least_region 2))
    ∷ []

-- the region that is given back at once, and the larger one that lies on it later
abbrev pub once_taken : Happening
once_taken = happening 0 5 first_arena 2 (Did.Take 40 (five_region 1 0))
    (Takes 40 (five_region 1 0))

abbrev pub once_used : List Happening
once_used =
    happening 0 6 (Object.Root 1) 1 (Did.Birth (five 1) (five_region 1 1))
    (Begins (five 1) (five_region 1 1))
    ∷ happening 0 18 (Object.Root 1) 2 (Did.End (five 1)) (Leaves (five 1) (five_region 1 1))
    ∷ happening 0 20 first_arena 5 (Did.Give (five_region 1 1)) (Gives (five_region 1 1))
    ∷ []

abbrev pub larger_taken : Event
larger_taken = event 0 23 first_arena 6 (Did.Take 44 (ten_region 0))

abbrev pub larger_born : Event
larger_born = event 0 24 (Object.Root 3) 1 (Did.Birth ten (ten_region 1))

-- the region whose root another lane ends
abbrev pub handed_taken : Happening
handed_taken = happening 0 2 first_arena 1 (Did.Take 0 (least_region 0))
    (Takes 0 (least_region 0))

abbrev pub handed_used : List Happening
handed_used =
    happening 0 3 (Object.Root 0) 1 (Did.Birth four (least_region 1))
    (Begins four (least_region 1))
    ∷ happening 1 3 (Object.Root 0) 4 (Did.End four) (Leaves four (least_region 1))
    ∷ happening 1 5 least_cache 2 (Did.Kept (least_region 1)) (Keeps (least_region 1))
    ∷ happening 0 8 least_cache 4 (Did.Shed (least_region 1)) (Sheds (least_region 1))
    ∷ happening 0 9 first_arena 2 (Did.Give (least_region 1)) (Gives (least_region 1))
    ∷ []
