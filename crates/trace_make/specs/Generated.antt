-- Generated traces: lanes in a ring, each of which hands what it makes on to the next.
use Rattle.std.specs.Prelude.{ℕ, zero, suc, ◌+◌, ◌-◌, ◌*◌, ◌/◌, ◌%◌, false, List, [], ◌∷◌, ◌++◌, map, replicate}
use Rattle.size_classes.specs.Sizes.{below}
use Rattle.pool_law.specs.declared.command.Command.{Command}
use Rattle.pool_law.specs.declared.command.Command.TheVariants.{Alloc, Set, Get, Slice, Release, Send, Recv}
use Rattle.trace_make.specs.Draws.{first_state, state_after, draw_after}

-- ---- The ring.

-- the lane that a lane sends to
abbrev pub lane_after : ℕ → ℕ → ℕ
lane_after lanes lane = (lane + 1) % lanes

-- the lane that it receives from
abbrev pub lane_before : ℕ → ℕ → ℕ
lane_before lanes lane = (lane + lanes - 1) % lanes

-- ---- Names. Block j names its buffer aj, its slice sj and what it receives rj. A reader numbers the
-- names of a lane from 0 in order of first mention, and that is a0, s0, r0, a1, s1, r1 and so on.

-- aj
abbrev pub buffer_name : ℕ → ℕ
buffer_name j = 3 * j

-- sj
abbrev pub slice_name : ℕ → ℕ
slice_name j = 3 * j + 1

-- rj
abbrev pub received_name : ℕ → ℕ
received_name j = 3 * j + 2

-- ---- Blocks.

-- the size of a block's buffer, and the byte that fills its front, each by what is drawn for it
abbrev pub drawn_size : ℕ → ℕ
drawn_size drawn = 16 + drawn % 1009

abbrev pub drawn_byte : ℕ → ℕ
drawn_byte drawn = drawn % 256

-- block j of a lane: it makes a buffer, looks at it through a slice and hands it on; then it takes
-- the next buffer of the lane before, looks at that and releases it
abbrev pub block_of : ℕ → ℕ → ℕ → ℕ → ℕ → List Command
block_of lanes lane j size byte =
    Alloc (buffer_name j) size
    ∷ Set (buffer_name j) 0 (replicate 4 byte) false
    ∷ Slice (slice_name j) (buffer_name j) 2 8 false
    ∷ Get (slice_name j) 0 4 false
    ∷ Send (buffer_name j) (lane_after lanes lane)
    ∷ Recv (received_name j) (lane_before lanes lane)
    ∷ Get (received_name j) 0 4 false
    ∷ Release (received_name j)
    ∷ []

-- block j of a lane whose first number is drawn from this state: each block draws its size first,
-- and then its byte
abbrev pub drawn_block : ℕ → ℕ → ℕ → ℕ → List Command
drawn_block lanes lane state j =
    block_of lanes lane j
    (drawn_size (draw_after (2 * j) state))
    (drawn_byte (draw_after (2 * j + 1) state))

-- ---- Traces.

-- the lists of the numbers below n, one behind the other
abbrev pub joined : {X : Type 0} → (ℕ → List X) → ℕ → List X
joined list zero = []
joined list (suc n) = joined list n ++ list n

-- as many blocks for each lane as the commands are enough for
abbrev pub blocks_in : ℕ → ℕ → ℕ
blocks_in lanes commands = commands / (8 * lanes)

-- the commands of a lane; it draws on where the lane before it ended
abbrev pub lane_of : ℕ → ℕ → ℕ → ℕ → List Command
lane_of start lanes blocks lane =
    joined (drawn_block lanes lane (state_after (2 * blocks * lane) (first_state start))) blocks

-- the trace
abbrev pub generated : ℕ → ℕ → ℕ → List (List Command)
generated start lanes commands =
    map (lane_of start lanes (blocks_in lanes commands)) (below lanes)
