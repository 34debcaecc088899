use Rattle.std.proofs.Common.{[]}
use Rattle.shared_pool.specs.SeatViews.{view_of}
use Rattle.board_cases.proofs.Texts.{counts_more}
use Rattle.board_cases.proofs.cores.core.Goals as goal

pub core_before-requires-clause-counted : goal.core_before-requires-clause-counted
core_before-requires-clause-counted g c =
    counts_more c.filled-small.result [] (view_of c.args.seat) (view_of c.filled-small.new.seat)
    c.filled-small.ensures.proceeds.changes c.requires.counted
