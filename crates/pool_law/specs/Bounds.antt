-- The most notes that a lane makes.
use Rattle.std.specs.Prelude.{ℕ, ◌+◌, ◌*◌, ◌/◌, Bool, true, false, if◌then◌else◌, List, map, sum}
use Rattle.std.specs.List.{list_any}
use Rattle.pool_law.specs.declared.command.Command.{Command}
use Rattle.pool_law.specs.declared.command.Command.TheVariants.{Alloc, Set, Get, Write, Read, Slice, Dup, Retain, Release, Refcnt, Touch, Forget, Send, Recv, Compose, Add, Capacity}
use Rattle.pool_law.specs.Limits.{cached_classes}
use Rattle.pool_law.specs.LaneLaw.{sweep_period}

-- a command makes a composite
abbrev pub composes : Command → Bool
composes (Compose new vs) = true
composes _ = false

-- a command may ask a cache
abbrev pub may_ask : Command → ℕ
may_ask (Alloc new n) = 1
may_ask (Compose new vs) = 1
may_ask (Add c v) = 1
may_ask (Capacity v n) = 1
may_ask (Set v i bytes tries) = 0
may_ask (Get v i n tries) = 0
may_ask (Write v bytes) = 0
may_ask (Read v n) = 0
may_ask (Slice new v i n retained) = 0
may_ask (Dup new v) = 0
may_ask (Retain v) = 0
may_ask (Release v) = 0
may_ask (Refcnt v) = 0
may_ask (Touch v) = 0
may_ask (Forget v) = 0
may_ask (Send v to) = 0
may_ask (Recv new from) = 0

-- the most notes of a command, in a lane that makes composites or in one that makes none
abbrev pub most_notes : Bool → Command → ℕ
most_notes composites (Alloc new n) = 5
most_notes composites (Set v i bytes false) = if composites then 16 else 1
most_notes composites (Set v i bytes true) = 1
most_notes composites (Get v i n false) = if composites then 16 else 1
most_notes composites (Get v i n true) = 1
most_notes composites (Write v bytes) = if composites then 16 else 1
most_notes composites (Read v n) = if composites then 16 else 1
most_notes composites (Slice new v i n retained) = if retained then 1 else 0
most_notes composites (Dup new v) = 0
most_notes composites (Retain v) = 1
most_notes composites (Release v) = if composites then 96 else 6
most_notes composites (Refcnt v) = 1
most_notes composites (Touch v) = 1
most_notes composites (Forget v) = 0
most_notes composites (Send v to) = 1
most_notes composites (Recv new from) = 1
most_notes composites (Compose new vs) = 197
most_notes composites (Add c v) = 141
most_notes composites (Capacity v n) = 6

-- the most notes of the sweeps and of the closing, after so many commands that may ask a cache
abbrev pub most_drained : ℕ → ℕ
most_drained asking = cached_classes * (1 + asking / sweep_period) + 2 * asking

-- the most notes of a lane
abbrev pub note_bound : List Command → ℕ
note_bound commands =
    sum (map (most_notes (list_any composes commands)) commands)
    + most_drained (sum (map may_ask commands))
