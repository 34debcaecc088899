use Rattle.std.proofs.Common.{◌≡◌, ◌<◌, ℕ, Some}
use Rattle.std.specs.Prelude.{slice_get}
use Rattle.log_order.specs.Spots.{notes_in}
use Rattle.log_order.specs.Filling.{Links, Grows}
use Rattle.log_order.proofs.making.link_all.Given as goal

abbrev pub invariant-loop-first : goal.invariant-loop-first
invariant-loop-first l =
    Grows (notes_in l.logs) l.fn.graph l.graph
    ((k first : ℕ) → k < l.first-index → slice_get l.firsts k ≡ Some first →
    Links (notes_in l.logs) l.graph first l.node)
