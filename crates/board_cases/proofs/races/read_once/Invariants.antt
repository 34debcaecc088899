use Rattle.std.proofs.Common.{◌≡◌}
use Rattle.shared_composite.specs.Boards.{IsSeatOf, view_of}
use Rattle.board_cases.proofs.races.read_once.Given as goal

abbrev pub invariant-loop : goal.invariant-loop
invariant-loop g l = IsSeatOf l.board l.seat × (view_of l.seat ≡ view_of l.initial.seat)
