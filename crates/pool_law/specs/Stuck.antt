-- Which traces get stuck.
use Rattle.std.specs.Prelude.{ℕ, zero, suc, ◌+◌, Bool, true, false, ◌==◌, nat_lt, if◌then◌else◌, List, [], ◌∷◌, length, take, Option, Some, None, slice_get, slice_index, replicate}
use Rattle.pool_law.specs.declared.command.Command.{Command}
use Rattle.pool_law.specs.Logs.{of_lane}

-- whether a command sends to this lane, and whether it receives from it
abbrev pub sends_to : ℕ → Command → Bool
sends_to lane (Command.Send name to) = to == lane
sends_to lane _ = false

-- a command receives from this lane
abbrev pub receives_from : ℕ → Command → Bool
receives_from lane (Command.Recv fresh from) = from == lane
receives_from lane _ = false

-- how many of the commands pass a test
abbrev pub how_many : (Command → Bool) → List Command → ℕ
how_many test [] = 0
how_many test (c ∷ cs) = (if test c then 1 else 0) + how_many test cs

-- the commands that a lane has passed
abbrev pub passed : List (List Command) → List ℕ → ℕ → List Command
passed lanes at lane = take (slice_index at lane) (of_lane lanes lane)

-- a lane passes its k-th receive from a lane once that one passed its k-th send to it, and any
-- other command at once
abbrev pub may_pass : List (List Command) → List ℕ → ℕ → Option Command → Bool
may_pass lanes at lane None = false
may_pass lanes at lane (Some (Command.Recv fresh from)) =
    nat_lt (how_many (receives_from from) (passed lanes at lane))
    (how_many (sends_to lane) (passed lanes at from))
may_pass lanes at lane (Some _) = true

-- the next command of a lane
abbrev pub next_of : List (List Command) → List ℕ → ℕ → Option Command
next_of lanes at lane = slice_get (of_lane lanes lane) (slice_index at lane)

-- each lane passes its next command, if it may
abbrev pub moved : List (List Command) → List ℕ → ℕ → List ℕ → List ℕ
moved lanes at lane [] = []
moved lanes at lane (k ∷ ks) =
    (if may_pass lanes at lane (next_of lanes at lane) then k + 1 else k)
    ∷ moved lanes at (lane + 1) ks

-- where the lanes are after so many moves
abbrev pub moves : ℕ → List (List Command) → List ℕ → List ℕ
moves zero lanes at = at
moves (suc n) lanes at = moves n lanes (moved lanes at 0 at)

-- the commands of all lanes
abbrev pub command_count : List (List Command) → ℕ
command_count [] = 0
command_count (cs ∷ rest) = length cs + command_count rest

-- where the lanes are when nothing moves: each move that is one passes a command
abbrev pub resting : List (List Command) → List ℕ
resting lanes = moves (command_count lanes) lanes (replicate (length lanes) 0)

-- the least lane that has not passed its last command, with the line at which it waits
abbrev pub first_waiting : ℕ → List (List Command) → List ℕ → Option (ℕ × ℕ)
first_waiting lane [] at = None
first_waiting lane (cs ∷ rest) [] = None
first_waiting lane (cs ∷ rest) (k ∷ ks) =
    if nat_lt k (length cs) then Some (lane, k) else first_waiting (lane + 1) rest ks

-- the lane and the line at which a trace is stuck; none where it is not
abbrev pub stuck_at : List (List Command) → Option (ℕ × ℕ)
stuck_at lanes = first_waiting 0 lanes (resting lanes)
