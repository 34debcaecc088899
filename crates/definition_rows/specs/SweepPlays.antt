-- A lane that sweeps its caches once three allocations asked one.
use Rattle.std.specs.Prelude.{ℕ, zero, suc, ◌+◌, Bool, List, [], ◌∷◌, ◌++◌, map, Option, option_map}
use Rattle.pool_law.specs.declared.id.RootId.{RootId}
use Rattle.pool_law.specs.declared.id.RegionId.{RegionId}
use Rattle.pool_law.specs.declared.command.Command.{Command}
use Rattle.pool_law.specs.declared.note.Did.{Did}
use Rattle.pool_law.specs.declared.note.Note.{Note}
use Rattle.pool_law.specs.declared.note.Object.{Object}
use Rattle.pool_law.specs.declared.note.RefDid.{RefDid}
use Rattle.pool_law.specs.declared.note.Note.TheVariants.{Ref}
use Rattle.pool_law.specs.declared.run.Reply.{Reply}
use Rattle.pool_law.specs.Histories.{accepts}
use Rattle.pool_law.specs.Logs.{dids, history_of, entry_of}
use Rattle.pool_law.specs.Readers.{ToldNotes}
use Rattle.pool_law.specs.LaneStates.{LaneState, new_lane}
use Rattle.pool_law.specs.LaneLaw.{lane_step, lane_run, pieces, behind}
use Rattle.definition_rows.specs.Notes.{default_shape, place, region, root, arena, cache, bin, root_place}
use Rattle.pool_law.specs.LaneLaw as law
use Rattle.definition_rows.specs.LanePlays.{lane}
use Rattle.definition_rows.specs.CompositePlays.{lane as composing_lane}

-- so many allocations bring a sweep
abbrev pub period : ℕ
period = 3

-- the reply to a command of a lane of which so many allocations asked a cache, and how many then
abbrev pub step_of : LaneState → ℕ → Command → ToldNotes → Option (Reply × ℕ)
step_of s asked command es =
    option_map (λ p. (p.0, p.1.asked))
    (lane_step period (default_shape 2) 0 (record s { asked = asked }) command es)

-- the same of the lane that has bound two views
abbrev pub asking : ℕ → Command → ToldNotes → Option (Reply × ℕ)
asking asked command es = step_of lane asked command es

-- and of the lane that has bound composites
abbrev pub asking_composed : ℕ → Command → ToldNotes → Option (Reply × ℕ)
asking_composed asked command es = step_of composing_lane asked command es

-- so many caches of a lane, from a class on, are trimmed as this number at each, and shed nothing
abbrev pub trims : ℕ → ℕ → ℕ → ℕ → List Note
trims owner class number zero = []
trims owner class number (suc n) =
    cache owner class number (Did.Trim 0) ∷ trims owner (class + 1) number n

-- ---- A whole log: two roots of 32 bytes are released, and then one of 16 bytes is born.

-- the first root of 32 bytes
abbrev pub first : RootId
first = root 0 1 32

-- the second
abbrev pub second : RootId
second = root 1 1 32

-- the root of 16 bytes
abbrev pub third : RootId
third = root 2 1 16

-- their regions, after so many uses
abbrev pub first_region : ℕ → RegionId
first_region uses = region (place 0 32) 1 1 uses

abbrev pub second_region : ℕ → RegionId
second_region uses = region (place 32 32) 1 2 uses

abbrev pub third_region : ℕ → RegionId
third_region uses = region (place 8192 16) 0 3 uses

-- two births
abbrev pub births : List Note
births =
    bin 0 1 (Did.Handle 0)
    ∷ cache 0 1 1 Did.Miss
    ∷ arena 0 1 (Did.Take 1 (first_region 0))
    ∷ root_place 0 1 (Did.Birth first (first_region 1))
    ∷ Ref first RefDid.Born
    ∷ bin 0 2 (Did.Handle 1)
    ∷ cache 0 1 2 Did.Miss
    ∷ arena 0 2 (Did.Take 1 (second_region 0))
    ∷ root_place 1 1 (Did.Birth second (second_region 1))
    ∷ Ref second RefDid.Born
    ∷ []

-- two ends
abbrev pub ends : List Note
ends =
    Ref first RefDid.Ended
    ∷ root_place 0 2 (Did.End first)
    ∷ Ref first RefDid.Vacated
    ∷ cache 0 1 3 (Did.Kept (first_region 1))
    ∷ bin 0 3 (Did.Home 0)
    ∷ Ref second RefDid.Ended
    ∷ root_place 1 2 (Did.End second)
    ∷ Ref second RefDid.Vacated
    ∷ cache 0 1 4 (Did.Kept (second_region 1))
    ∷ bin 0 4 (Did.Home 1)
    ∷ []

-- the third birth
abbrev pub third_birth : List Note
third_birth =
    bin 0 5 (Did.Handle 2)
    ∷ cache 0 0 1 Did.Miss
    ∷ arena 0 3 (Did.Take 0 (third_region 0))
    ∷ root_place 2 1 (Did.Birth third (third_region 1))
    ∷ Ref third RefDid.Born
    ∷ []

-- the sweep behind it
abbrev pub swept : List Note
swept =
    cache 0 0 2 (Did.Trim 0)
    ∷ cache 0 1 5 (Did.Trim 2)
    ∷ cache 0 1 6 (Did.Shed (first_region 1))
    ∷ arena 0 4 (Did.Give (first_region 1))
    ∷ cache 0 1 7 (Did.Shed (second_region 1))
    ∷ arena 0 5 (Did.Give (second_region 1))
    ∷ trims 0 2 1 38

-- the end of the third root
abbrev pub third_end : List Note
third_end =
    Ref third RefDid.Ended
    ∷ root_place 2 2 (Did.End third)
    ∷ Ref third RefDid.Vacated
    ∷ cache 0 0 3 (Did.Kept (third_region 1))
    ∷ bin 0 6 (Did.Home 2)
    ∷ []

-- so many caches are closed as this number at each
abbrev pub closes_from : ℕ → ℕ → ℕ → List Note
closes_from class number zero = []
closes_from class number (suc n) =
    cache 0 class number (Did.Close 0) ∷ closes_from (class + 1) number n

-- the closing
abbrev pub closed : List Note
closed =
    cache 0 0 4 (Did.Close 1)
    ∷ cache 0 0 5 (Did.Shed (third_region 1))
    ∷ arena 0 6 (Did.Give (third_region 1))
    ∷ cache 0 1 8 (Did.Close 0)
    ∷ closes_from 2 2 38

-- the whole log
abbrev pub log : List Note
log = births ++ ends ++ third_birth ++ swept ++ third_end ++ closed

-- how many notes each command owns
abbrev pub counts : List ℕ
counts = 5 ∷ 5 ∷ 5 ∷ 5 ∷ 49 ∷ 5 ∷ []

-- the entries
abbrev pub entries : ToldNotes
entries = map (entry_of (log ∷ [])) log

-- the replies that they give to the commands, in a lane of this period
abbrev pub replies_in_period : ℕ → Option (List Reply)
replies_in_period n =
    option_map (λ p. p.0)
    (lane_run n (default_shape 1) 0 new_lane
    (Command.Alloc 0 32 ∷ Command.Alloc 1 32 ∷ Command.Release 0 ∷ Command.Release 1
    ∷ Command.Alloc 2 16 ∷ Command.Release 2 ∷ [])
    (pieces counts entries))

-- what is behind them closes the caches
abbrev pub closes_at_the_end : Option (Unit {0})
closes_at_the_end = law.closes 0 (behind counts entries)

-- the object accepts what the log has of it
abbrev pub accepts_log : Object → Bool
accepts_log object = accepts (default_shape 1) object (dids (history_of object (log ∷ [])))
