use Rattle.std.proofs.Common.{[], ◌∷◌, refl, sym, subst, arith, ℕ}
use Rattle.pool_law.specs.declared.command.Command.{Command}
use Rattle.pool_law.specs.declared.note.Note.{Note}
use Rattle.pool_law.specs.Composites.{Composite}
use Rattle.pool_law.specs.declared.run.Reply.{Reply}
use Rattle.shared_pool.specs.SeatLanes.{lane_of}
use Rattle.lane_context.specs.declared.access.Owned.TheVariants.{View as OwnView, Composite as OwnComposite}
use Rattle.lane_context.specs.Accesses.{reply_for, IsOwned}
use Rattle.lane_context.specs.declared.context.Context.{Context}
use Rattle.lane_context.specs.declared.context.Stage.TheVariants.{Ready}
use Rattle.lane_context.specs.declared.context.Turn.{Turn}
use Rattle.lane_context.specs.Contexts.{left_for, HasTurned}
use Rattle.lane_context.specs.ContextSteps.{HasNoted, HasReplied}
use Rattle.lane_context.proofs.StateReads.{refused_count, refuses}
use Rattle.lane_context.proofs.ContextLaws.{can_answer, note_room, can_answer_noted}
use Rattle.lane_context.proofs.Turning.{refused_turn, look_turn}
use Rattle.lane_context.proofs.Commands.{counts_root}
use Rattle.lane_context.proofs.CompositeTurns.{composite_looked}
use Rattle.lane_context.proofs.context.Context.look.Goals as goal

pub refuse-requires : goal.refuse-requires
refuse-requires c = can_answer c.args.pool.now (left_for c.args.self.now.composes
    (Command.Refcnt c.args.name)) c.args.self.now c.requires

pub returns-in-Err : goal.returns-in-Err
returns-in-Err c = λ s state.
    let pool = c.args.pool.now in let old = c.args.self.now in let new = c.refuse.new.self in let command =
    Command.Refcnt c.args.name in
    subst (λ (t : Turn). HasTurned pool old new s command Ready t) (sym c.refuse.ensures.ready)
    (refused_turn pool (left_for old.composes command) old new c.requires c.in-Err.refusal c.refuse.ensures.replied s
    command
    state.names_are
    (refuses s old.names old.counts state old.shape (lane_of old.seat) command (reply_for c.in-Err.refusal)
    (refused_count s old.names old.counts state c.args.name c.in-Err.refusal c.in-Err.ensures.refused)))

pub look-count-requires-clause-seat : goal.look-count-requires-clause-seat
look-count-requires-clause-seat c = c.requires.context.seat

pub look-count-requires-clause-counts : goal.look-count-requires-clause-counts
look-count-requires-clause-counts c =
    counts_root c.args.pool.now c.args.self.now c.requires.context c.in-Ok-View.view.root (subst
    (IsOwned c.args.self.now.names c.args.self.now.counts c.args.name) c.in-Ok-View.field-0-is
    c.in-Ok-View.ensures.ok).1

pub note-requires : goal.note-requires
note-requires c =
    note_room c.args.pool.now (left_for c.args.self.now.composes (Command.Refcnt c.args.name)) c.args.self.now
    c.requires (omega arith)

pub answer-requires : goal.answer-requires
answer-requires c =
    can_answer c.args.pool.now (left_for c.args.self.now.composes (Command.Refcnt c.args.name)) c.args.self.now
    c.requires

pub answer-requires-2 : goal.answer-requires-2
answer-requires-2 c =
    let start : Context = record c.args.self.now { seat = c.look-count.new.seat } in
    can_answer_noted c.args.pool.now (left_for c.args.self.now.composes
    (Command.Refcnt c.args.name)) c.args.self.now c.requires (omega arith)
    start c.note.new.self c.note_to.result c.note.ensures refl

pub returns : goal.returns
returns c = λ s state.
    let pool = c.args.pool.now in let old = c.args.self.now in let mid = c.note.new.self in let new =
    c.answer-2.new.self in
    let start : Context = record old { seat = c.look-count.new.seat } in let ok : IsOwned old.names old.counts
    c.args.name (OwnView c.in-Ok-View.view) =
    subst (IsOwned old.names old.counts c.args.name) c.in-Ok-View.field-0-is c.in-Ok-View.ensures.ok in
    subst (λ (t : Turn). HasTurned pool old new s (Command.Refcnt c.args.name) Ready t) (sym c.answer-2.ensures.ready)
    (look_turn pool c.args.name old start mid new c.requires refl c.look-count.ensures.same c.look-count.ensures.seat
    c.in-Ok-View.view ok.0 ok.1 c.look-count.result c.look-count.ensures.did
    (subst (λ (n : Note). HasNoted start mid (n ∷ [])) c.note_to.ensures c.note.ensures) c.answer-2.ensures.replied s
    state)

pub returns-in-Ok-Composite : goal.returns-in-Ok-Composite
returns-in-Ok-Composite c = λ s state.
    let pool = c.args.pool.now in let old = c.args.self.now in let new = c.answer.new.self in
    let o : IsOwned old.names old.counts c.args.name (OwnComposite c.in-Ok-Composite.count) =
    subst (IsOwned old.names old.counts c.args.name) c.in-Ok-Composite.field-0-is c.in-Ok-Composite.ensures.ok in
    let k : Composite = o.0 in let so = o.2 in let some = o.3 in
    subst (λ (t : Turn). HasTurned pool old new s (Command.Refcnt c.args.name) Ready t) (sym c.answer.ensures.ready)
    (composite_looked pool c.args.name old new c.requires.context c.requires.asked s state k o.1
    (omega (arith, so, some))
    (subst (λ (n : ℕ). HasReplied old new (Reply.OkNumber n)) (sym so) c.answer.ensures.replied))
