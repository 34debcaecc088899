use Rattle.std.proofs.Common.{◌≡◌, ◌<◌, ℕ, false}
use Rattle.log_order.specs.Spots.{notes_in}
use Rattle.log_order.specs.Playing.{IsHeld, MovesOn}
use Rattle.log_order.specs.declared.playing.Eager.TheVariants.{Any}
use Rattle.log_order.proofs.playing.Playing.move_one.Given as goal

abbrev pub invariant-loop-lane : goal.invariant-loop-lane
invariant-loop-lane l =
    MovesOn (notes_in l.logs) l.fn.self l.self false
    (l.eager ≡ Any → (lane : ℕ) → lane < l.lane → IsHeld (notes_in l.logs) l.self lane)
