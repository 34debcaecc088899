use Rattle.std.proofs.Common.{ap, arith, length}
use Rattle.board_table.specs.declared.views.BoardView.{BoardView}
use Rattle.board_table.specs.Views.{first_view}
use Rattle.share_text.specs.Inputs.{read_limit, reader_limit}
use Rattle.share_run.specs.declared.openings.TheConstants.{BOARD_MOVES, BOARD_TURNS}
use Rattle.share_run.proofs.DealLaws.{chief_first, chief_spent, view_is}
use Rattle.share_run.proofs.MeetLaws.{are_sized, have_seen}
use Rattle.share_run.proofs.PlayLaws.{moves_fit, shares_fit, wholes_many}
use Rattle.share_run.proofs.play.meet.Goals as goal

pub deal_all-requires-clause-many : goal.deal_all-requires-clause-many
deal_all-requires-clause-many g c =
    let a = wholes_many c.args.composites.now c.args.wholes.now c.requires.wholes in omega (arith, a)

pub deal_all-requires-clause-chief : goal.deal_all-requires-clause-chief
deal_all-requires-clause-chief g c =
    chief_first c.args.board (length c.args.composites.now) BOARD_MOVES BOARD_TURNS c.args.chief c.requires.own
    c.requires.view (let a = c.requires.few.1 in omega (arith, a))

pub deal_all-requires-clause-turns : goal.deal_all-requires-clause-turns
deal_all-requires-clause-turns g c =
    let many = length c.args.composites.now in
    let view = view_is c.args.chief (first_view many BOARD_MOVES BOARD_TURNS) c.requires.view in
    let turns = ap (λ (v : BoardView). v.turns) view in
    let shares = shares_fit many (length c.args.readers.now) BOARD_TURNS
    (let a = c.requires.few.1 in omega (arith, a)) in
    omega (arith, turns, shares)

pub deal_all-requires-clause-moves : goal.deal_all-requires-clause-moves
deal_all-requires-clause-moves g c =
    let many = length c.args.composites.now in
    let view = view_is c.args.chief (first_view many BOARD_MOVES BOARD_TURNS) c.requires.view in
    let moves = ap (λ (v : BoardView). v.moves) view in
    let fit = moves_fit c.args.readers.now read_limit reader_limit c.requires.few_reads c.requires.readers.1 in
    omega (arith, moves, fit)

pub run_all-requires-clause-sizes : goal.run_all-requires-clause-sizes
run_all-requires-clause-sizes g c κs within =
    are_sized c.args.composites.now c.args.wholes.now c.requires.wholes c.args.board c.args.pool.now
    c.requires.board

pub end_all-requires-clause-spent : goal.end_all-requires-clause-spent
end_all-requires-clause-spent g c =
    let first = chief_spent (length c.args.composites.now) BOARD_MOVES BOARD_TURNS c.args.chief c.requires.view in
    let dealt = c.deal_all.ensures.spent in let ran = c.run_all.ensures.spent in
    let back = c.gather.ensures.spent in omega (arith, first, dealt, ran, back)

pub returns-clause-seen : goal.returns-clause-seen
returns-clause-seen g c =
    have_seen c.args.composites.now c.args.wholes.now c.requires.wholes c.args.board c.args.readers.now
    c.deal_all.new.readers c.run_all.new.readers c.gather.new.readers c.deal_all.ensures.asked c.run_all.ensures
    c.gather.ensures.seen
