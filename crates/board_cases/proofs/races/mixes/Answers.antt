use Rattle.std.proofs.Common.{◌+◌, ◌-◌, ◌∙◌, arith}
use Rattle.board_cases.proofs.Going.{can_after, can_less, goes_from}
use Rattle.board_cases.proofs.races.mixes.Goals as goal

pub read_once-number-requires-clause-can : goal.read_once-number-requires-clause-can
read_once-number-requires-clause-can g c =
    let at = c.loop-round in
    can_less c.args.board.now (128 - at._round) (129 - at._round) 0 1 at.seat at.invariant.can (omega arith)
    (omega arith)

pub passes_once-requires : goal.passes_once-requires
passes_once-requires g c =
    let at = c.loop-round in let read = c.read_once-number in
    can_after c.args.board.now (128 - at._round) (129 - at._round) 0 1 1 1 at.seat read.new.seat at.invariant.can
    read.ensures.stays (omega arith) (omega arith)

pub loop-round-preserved : goal.loop-round-preserved
loop-round-preserved g c =
    let at = c.loop-round in let read = c.read_once-number in let once = c.passes_once in
    let mid = can_after c.args.board.now (128 - at._round) (129 - at._round) 0 1 (128 - at._round) (128 - at._round)
    at.seat read.new.seat at.invariant.can read.ensures.stays (omega arith) (omega arith) in
    record {
      can =
          can_after c.args.board.now (128 - at._round) (128 - at._round) 1 0 (128 - (at._round + 1))
          (129 - (at._round + 1)) read.new.seat once.new.seat mid once.ensures.stays (omega arith) (omega arith);
      within = omega arith;
      all = once.ensures.used ∙ read.ensures.used ∙ at.invariant.all;
    }

pub let_go-requires-clause-can : goal.let_go-requires-clause-can
let_go-requires-clause-can g c =
    let at = c.loop-round in
    can_less c.args.board.now (128 - at._round) (129 - at._round) 0 1 at.seat at.invariant.can (omega arith)
    (omega arith)

pub returns-clause-goes : goal.returns-clause-goes
returns-clause-goes g c =
    goes_from c.args.board.now c.args.seat.now c.loop-round.seat c.let_go.new.seat c.loop-round.invariant.all
    c.let_go.ensures.goes
