-- The numbers that are drawn from a start, one after the other.
use Rattle.std.specs.Prelude.{ℕ, zero, suc, ◌+◌, ◌*◌, ◌/◌, ◌%◌, ◌^◌}

-- the state from which a start's first number is drawn
abbrev pub first_state : ℕ → ℕ
first_state start = start % 2 ^ 31

-- the state once a number is drawn
unfoldable pub next_state : ℕ → ℕ
next_state state = (state * 1103515245 + 12345) % 2 ^ 31

-- the state once so many are
abbrev pub state_after : ℕ → ℕ → ℕ
state_after zero state = state
state_after (suc n) state = next_state (state_after n state)

-- what is drawn after so many others: the state that the draw leaves, without its low byte
abbrev pub draw_after : ℕ → ℕ → ℕ
draw_after n state = state_after (suc n) state / 256
