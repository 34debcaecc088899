use Rattle.std.proofs.Common.{sym, subst}
use Rattle.lane_context.specs.declared.context.Turn.{Turn}
use Rattle.lane_context.specs.declared.work.Work.{Work}
use Rattle.lane_context.specs.declared.work.Work.TheVariants.{Refused, Empty}
use Rattle.lane_context.specs.ContextSteps.{MayTurn}
use Rattle.lane_context.specs.Works.{IsReady, WorkTurns, left_of}
use Rattle.lane_context.proofs.CrossTurns.{cross_begun, empty_can, empty_work, may_begin_cross, refused_work}
use Rattle.lane_context.proofs.ContextLaws.{can_answer}
use Rattle.lane_context.proofs.WorkTurns.{bind_concludes, consolidation_begun, end_begun, may_consolidate, may_part}
use Rattle.lane_context.proofs.context.Context.work.Goals as goal

pub refuse-requires : goal.refuse-requires
refuse-requires c = can_answer c.args.pool.now (left_of c.args.work) c.args.self.now c.requires.may

pub answer-requires : goal.answer-requires
answer-requires c =
    let pool = c.args.pool.now in let old = c.args.self.now in let arm = c.in-Empty in
    let may = subst (λ (w : Work). MayTurn pool (left_of w) old) arm.is c.requires.may in
    let ready = subst (IsReady old) arm.is c.requires.ready in
    empty_can pool old c.mark.new.self arm.name arm.marks arm.reply may ready c.mark.ensures

pub cross-requires : goal.cross-requires
cross-requires c =
    let pool = c.args.pool.now in let old = c.args.self.now in let arm = c.in-Cross in
    let may = subst (λ (w : Work). MayTurn pool (left_of w) old) arm.is c.requires.may in
    let ready = subst (IsReady old) arm.is c.requires.ready in
    record { may = may_begin_cross pool old arm.name arm.marks arm.stage may ready }

pub part-requires : goal.part-requires
part-requires c =
    let pool = c.args.pool.now in let old = c.args.self.now in let arm = c.in-End in
    let may = subst (λ (w : Work). MayTurn pool (left_of w) old) arm.is c.requires.may in
    let ready = subst (IsReady old) arm.is c.requires.ready in
    record {
      may =
          may_part pool old arm.name arm.parts may ready c.all_of.result c.all_of.ensures.ending c.all_of.ensures.left;
    }

pub consolidate-requires : goal.consolidate-requires
consolidate-requires c =
    let pool = c.args.pool.now in let old = c.args.self.now in let arm = c.in-Consolidate in
    let may = subst (λ (w : Work). MayTurn pool (left_of w) old) arm.is c.requires.may in
    let ready = subst (IsReady old) arm.is c.requires.ready in
    record { may = may_consolidate pool old arm.plan may ready }

pub returns-in-Refused : goal.returns-in-Refused
returns-in-Refused c =
    let pool = c.args.pool.now in let old = c.args.self.now in let arm = c.in-Refused in
    let may = subst (λ (w : Work). MayTurn pool (left_of w) old) arm.is c.requires.may in
    subst (λ (w : Work). WorkTurns pool old c.refuse.new.self w c.refuse.result) (sym arm.is)
    (subst (λ (t : Turn). WorkTurns pool old c.refuse.new.self (Refused arm.refusal) t) (sym c.refuse.ensures.ready)
    (refused_work pool old c.refuse.new.self arm.refusal may c.refuse.ensures.replied))

pub returns-in-Empty : goal.returns-in-Empty
returns-in-Empty c =
    let pool = c.args.pool.now in let old = c.args.self.now in let arm = c.in-Empty in
    let may = subst (λ (w : Work). MayTurn pool (left_of w) old) arm.is c.requires.may in
    let ready = subst (IsReady old) arm.is c.requires.ready in
    subst (λ (w : Work). WorkTurns pool old c.answer.new.self w c.answer.result) (sym arm.is)
    (subst (λ (t : Turn). WorkTurns pool old c.answer.new.self (Empty arm.name arm.marks arm.reply) t) (sym
    c.answer.ensures.ready)
    (empty_work pool old c.mark.new.self arm.name arm.marks arm.reply may ready c.mark.ensures c.answer.new.self
    c.answer.ensures.replied))

pub returns-in-Cross : goal.returns-in-Cross
returns-in-Cross c =
    let pool = c.args.pool.now in let old = c.args.self.now in let arm = c.in-Cross in
    let may = subst (λ (w : Work). MayTurn pool (left_of w) old) arm.is c.requires.may in
    let ready = subst (IsReady old) arm.is c.requires.ready in
    subst (λ (w : Work). WorkTurns pool old c.cross.new.self w c.cross.result) (sym arm.is)
    (cross_begun pool old arm.name arm.marks arm.stage may ready c.cross.new.self c.cross.result c.cross.ensures)

pub returns-in-End : goal.returns-in-End
returns-in-End c =
    let pool = c.args.pool.now in let old = c.args.self.now in let arm = c.in-End in
    let may = subst (λ (w : Work). MayTurn pool (left_of w) old) arm.is c.requires.may in
    let ready = subst (IsReady old) arm.is c.requires.ready in
    subst (λ (w : Work). WorkTurns pool old c.part.new.self w c.part.result) (sym arm.is)
    (end_begun pool old arm.name arm.parts may ready c.all_of.result c.all_of.ensures.ending c.all_of.ensures.left
    c.part.new.self c.part.result c.part.ensures)

pub returns-in-Bind : goal.returns-in-Bind
returns-in-Bind c =
    let pool = c.args.pool.now in let old = c.args.self.now in let arm = c.in-Bind in
    let may = subst (λ (w : Work). MayTurn pool (left_of w) old) arm.is c.requires.may in
    let ready = subst (IsReady old) arm.is c.requires.ready in
    subst (λ (w : Work). WorkTurns pool old c.bind.new.self w c.bind.result) (sym arm.is)
    (bind_concludes pool old c.bind.new.self arm.name arm.whole may ready c.bind.result c.bind.ensures)

pub returns-in-Consolidate : goal.returns-in-Consolidate
returns-in-Consolidate c =
    let pool = c.args.pool.now in let old = c.args.self.now in let arm = c.in-Consolidate in
    let may = subst (λ (w : Work). MayTurn pool (left_of w) old) arm.is c.requires.may in
    let ready = subst (IsReady old) arm.is c.requires.ready in
    subst (λ (w : Work). WorkTurns pool old c.consolidate.new.self w c.consolidate.result) (sym arm.is)
    (consolidation_begun pool old arm.plan may ready c.consolidate.new.self c.consolidate.result
    c.consolidate.ensures)
