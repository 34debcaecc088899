use Rattle.std.proofs.Common.{[], ◌∷◌, refl, sym, subst, arith}
use Rattle.pool_law.specs.declared.command.Command.{Command}
use Rattle.pool_law.specs.declared.note.Note.{Note}
use Rattle.lane_context.specs.declared.context.Context.{Context}
use Rattle.lane_context.specs.declared.context.Stage.TheVariants.{Ready}
use Rattle.lane_context.specs.declared.context.Turn.{Turn}
use Rattle.lane_context.specs.Contexts.{left_for, HasTurned}
use Rattle.lane_context.specs.ContextSteps.{HasNoted}
use Rattle.pool_law.specs.declared.note.Object.TheVariants.{Root}
use Rattle.shared_pool.specs.SeatLanes.{lane_of}
use Rattle.lane_context.specs.Accesses.{reply_for}
use Rattle.lane_context.proofs.StateReads.{refused_view, refuses}
use Rattle.lane_context.proofs.ContextLaws.{can_answer, can_answer_noted, note_room, turn_left}
use Rattle.lane_context.proofs.ContextWaits.{waits_turn}
use Rattle.lane_context.proofs.Turning.{refused_turn}
use Rattle.lane_context.proofs.Commands.{counts_root}
use Rattle.lane_context.proofs.AccessTurns.{touch_turn, touch_begins, touch_way}
use Rattle.lane_context.proofs.context.Context.touch.Goals as goal

pub refuse-requires : goal.refuse-requires
refuse-requires c = can_answer c.args.pool.now (left_for c.args.self.now.composes
    (Command.Touch c.args.name)) c.args.self.now c.requires

pub returns-in-Err : goal.returns-in-Err
returns-in-Err c = λ s state.
    let pool = c.args.pool.now in let old = c.args.self.now in let new = c.refuse.new.self in let command =
    Command.Touch c.args.name in
    subst (λ (t : Turn). HasTurned pool old new s command Ready t) (sym c.refuse.ensures.ready)
    (refused_turn pool (left_for old.composes command) old new c.requires c.in-Err.refusal c.refuse.ensures.replied s
    command
    state.names_are
    (refuses s old.names old.counts state old.shape (lane_of old.seat) command (reply_for c.in-Err.refusal)
    (refused_view s old.names old.counts state c.args.name c.in-Err.refusal c.in-Err.ensures.refused [])))

pub touch-requires-clause-seat : goal.touch-requires-clause-seat
touch-requires-clause-seat c = c.requires.context.seat

pub touch-requires-clause-turn : goal.touch-requires-clause-turn
touch-requires-clause-turn c =
    turn_left c.args.pool.now (left_for c.args.self.now.composes (Command.Touch c.args.name)) c.args.self.now
    c.requires.context c.requires.room
    (omega arith)

pub touch-requires-clause-counts : goal.touch-requires-clause-counts
touch-requires-clause-counts c =
    counts_root c.args.pool.now c.args.self.now c.requires.context c.in-Ok.view.now.at.root c.in-Ok.ensures.ok.1

pub note-requires : goal.note-requires
note-requires c =
    note_room c.args.pool.now (left_for c.args.self.now.composes (Command.Touch c.args.name)) c.args.self.now
    c.requires (omega arith)

pub answer-requires : goal.answer-requires
answer-requires c =
    let start : Context = record c.args.self.now { seat = c.touch.new.seat } in
    can_answer_noted c.args.pool.now (left_for c.args.self.now.composes
    (Command.Touch c.args.name)) c.args.self.now c.requires (omega arith)
    start c.note.new.self c.note_at.result c.note.ensures refl

pub returns-in-Did : goal.returns-in-Did
returns-in-Did c = λ s state.
    let pool = c.args.pool.now in let old = c.args.self.now in let mid = c.note.new.self in let new =
    c.answer.new.self in
    let start : Context = record old { seat = c.touch.new.seat } in let ok = c.in-Ok.ensures.ok in let did = c.in-Did in
    subst (λ (t : Turn). HasTurned pool old new s (Command.Touch c.args.name) Ready t) (sym c.answer.ensures.ready)
    (touch_turn pool c.args.name old start mid new c.requires refl did.ensures.same did.ensures.seat c.in-Ok.view.now.at
    ok.0 ok.1 did.number did.ensures.did
    (subst (λ (n : Note). HasNoted start mid (n ∷ [])) c.note_at.ensures c.note.ensures) c.answer.ensures.replied s
    state)

pub returns-in-Held : goal.returns-in-Held
returns-in-Held c = λ s state.
    let pool = c.args.pool.now in let old = c.args.self.now in let held = c.in-Held in let start : Context =
    record old { seat = c.touch.new.seat } in
    subst (λ (t : Turn). HasTurned pool old start s (Command.Touch c.args.name) Ready t) (sym c.waits.ensures)
    (waits_turn pool old start c.requires.asked c.requires.context refl held.ensures.same held.ensures.seat
    (Root c.in-Ok.view.now.at.root.place) held.held held.ensures.held s (Command.Touch c.args.name)
    (touch_begins c.args.name old c.in-Ok.view.now.at c.in-Ok.ensures.ok.0 c.in-Ok.ensures.ok.1 s state)
    (touch_way c.args.name old c.in-Ok.view.now.at c.in-Ok.ensures.ok.0 c.in-Ok.ensures.ok.1 s state))
