use Rattle.std.proofs.Common.{refl, sym, subst, arith, ℕ, ◌+◌, ap}
use Rattle.pool_law.specs.declared.command.Command.{Command}
use Rattle.pool_law.specs.Composites.{Composite}
use Rattle.pool_law.specs.declared.run.Reply.{Reply}
use Rattle.lane_context.specs.ContextSteps.{HasReplied, recounted}
use Rattle.lane_context.specs.declared.context.Context.{Context}
use Rattle.lane_context.specs.declared.context.Stage.TheVariants.{Ready}
use Rattle.lane_context.specs.declared.context.Turn.{Turn}
use Rattle.lane_context.specs.Contexts.{left_for, HasTurned}
use Rattle.shared_pool.specs.SeatLanes.{lane_of}
use Rattle.lane_context.specs.declared.access.Owned.TheVariants.{View as OwnView, Composite as OwnComposite}
use Rattle.lane_context.specs.Accesses.{reply_for, IsOwned}
use Rattle.lane_context.proofs.StateReads.{refused_count, refuses}
use Rattle.lane_context.proofs.ContextLaws.{can_answer, can_answer_noted}
use Rattle.lane_context.proofs.Turning.{refused_turn, retain_turn}
use Rattle.lane_context.proofs.CompositeTurns.{composite_retained}
use Rattle.lane_context.proofs.context.Context.retain.Goals as goal

pub refuse-requires : goal.refuse-requires
refuse-requires c = can_answer c.args.pool.now (left_for c.args.self.now.composes
    (Command.Retain c.args.name)) c.args.self.now c.requires.may

pub returns-in-Err : goal.returns-in-Err
returns-in-Err c = λ s state.
    let pool = c.args.pool.now in let old = c.args.self.now in let new = c.refuse.new.self in let command =
    Command.Retain c.args.name in
    subst (λ (t : Turn). HasTurned pool old new s command Ready t) (sym c.refuse.ensures.ready)
    (refused_turn pool (left_for old.composes command) old new c.requires.may c.in-Err.refusal
    c.refuse.ensures.replied s command
    state.names_are
    (refuses s old.names old.counts state old.shape (lane_of old.seat) command (reply_for c.in-Err.refusal)
    (refused_count s old.names old.counts state c.args.name c.in-Err.refusal c.in-Err.ensures.refused)))

pub count_more-requires-clause-context : goal.count_more-requires-clause-context
count_more-requires-clause-context c = c.requires.may.context

pub count_more-requires-clause-room : goal.count_more-requires-clause-room
count_more-requires-clause-room c = c.requires.may.room

pub count_more-requires-clause-counts : goal.count_more-requires-clause-counts
count_more-requires-clause-counts c = (subst (IsOwned c.args.self.now.names c.args.self.now.counts c.args.name)
    c.in-Ok-View.field-0-is
    c.in-Ok-View.ensures.ok).1

pub answer-requires : goal.answer-requires
answer-requires c =
    let old = c.args.self.now in let mid = c.count_more.new.self in let did = c.count_more.ensures in
    let start : Context = record old { seat = mid.seat; counts = mid.counts } in
    can_answer_noted c.args.pool.now (left_for c.args.self.now.composes
    (Command.Retain c.args.name)) old c.requires.may (omega arith) start mid _
    did.noted refl

pub returns : goal.returns
returns c = λ s state.
    let pool = c.args.pool.now in let old = c.args.self.now in let mid = c.count_more.new.self in let new =
    c.answer.new.self in let ok : IsOwned old.names old.counts c.args.name (OwnView c.in-Ok-View.view) =
    subst (IsOwned old.names old.counts c.args.name) c.in-Ok-View.field-0-is c.in-Ok-View.ensures.ok in
    subst (λ (t : Turn). HasTurned pool old new s (Command.Retain c.args.name) Ready t) (sym c.answer.ensures.ready)
    (retain_turn pool c.args.name old mid new c.requires.may c.in-Ok-View.view ok.0 ok.1 c.count_more.ensures
    c.answer.ensures.replied s state)

pub recount-requires-clause-may : goal.recount-requires-clause-may
recount-requires-clause-may c =
    can_answer c.args.pool.now (left_for c.args.self.now.composes (Command.Retain c.args.name)) c.args.self.now
    c.requires.may

pub recount-requires-clause-composed : goal.recount-requires-clause-composed
recount-requires-clause-composed c =
    let old = c.args.self.now in
    let o : IsOwned old.names old.counts c.args.name (OwnComposite c.in-Ok-Composite.count) =
    subst (IsOwned old.names old.counts c.args.name) c.in-Ok-Composite.field-0-is c.in-Ok-Composite.ensures.ok in
    (o.0, o.1)

pub overflow_add-count : goal.overflow_add-count
overflow_add-count c =
    let old = c.args.self.now in
    let o : IsOwned old.names old.counts c.args.name (OwnComposite c.in-Ok-Composite.count) =
    subst (IsOwned old.names old.counts c.args.name) c.in-Ok-Composite.field-0-is c.in-Ok-Composite.ensures.ok in
    let few = c.requires.may.context.composites.few c.args.name o.0 o.1 in let so = o.2 in let replies =
    c.requires.few in
    omega (arith, few, so, replies)

pub returns-in-Ok-Composite : goal.returns-in-Ok-Composite
returns-in-Ok-Composite c = λ s state.
    let pool = c.args.pool.now in let old = c.args.self.now in let new = c.recount.new.self in
    let o : IsOwned old.names old.counts c.args.name (OwnComposite c.in-Ok-Composite.count) =
    subst (IsOwned old.names old.counts c.args.name) c.in-Ok-Composite.field-0-is c.in-Ok-Composite.ensures.ok in
    let k : Composite = o.0 in let so = o.2 in let some = o.3 in
    subst (λ (t : Turn). HasTurned pool old new s (Command.Retain c.args.name) Ready t) (sym c.recount.ensures.ready)
    (composite_retained pool c.args.name old new c.requires.may.context c.requires.may.asked s state k o.1
    (omega (arith, so, some))
    (subst (λ (n : ℕ). HasReplied (recounted old c.args.name k n) new Reply.Ok) (ap (λ (n : ℕ). n + 1) (sym so))
    (c.recount.ensures.replied k o.1)))
