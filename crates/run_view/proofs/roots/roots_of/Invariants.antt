use Rattle.std.proofs.Common.{◌≡◌, map, string_bytes, length}
use Rattle.run_view.specs.Roots.{roots_in}
use Rattle.run_view.proofs.RootLaws.{behind}
use Rattle.run_view.proofs.roots.roots_of.Given as goal

abbrev pub invariant-loop-left : goal.invariant-loop-left
invariant-loop-left l =
    roots_in (map string_bytes l.words) ≡ behind l.roots.items (roots_in (map string_bytes l.left))

abbrev pub decreases-loop-left : goal.decreases-loop-left
decreases-loop-left l = length l.left
