use Rattle.std.proofs.Common.{List, [], ◌∷◌, Option, refl, sym, subst, arith, ◌≡◌, ℕ, ◌-◌, ap, ◌∙◌}
use Rattle.pool_law.specs.declared.command.Command.{Command}
use Rattle.pool_law.specs.declared.note.Note.{Note}
use Rattle.pool_law.specs.Composites.{Composite}
use Rattle.pool_law.specs.Names.{Bound}
use Rattle.pool_law.specs.declared.run.Reply.{Reply}
use Rattle.lane_context.specs.declared.context.Context.{Context}
use Rattle.lane_context.specs.declared.context.Stage.TheVariants.{Ready}
use Rattle.lane_context.specs.declared.context.Turn.{Turn}
use Rattle.lane_context.specs.Contexts.{left_for, HasTurned}
use Rattle.lane_context.specs.ContextSteps.{HasNoted, HasReplied, recounted}
use Rattle.shared_pool.specs.SeatLanes.{lane_of}
use Rattle.lane_context.specs.declared.access.Owned.{Owned}
use Rattle.lane_context.specs.declared.access.Owned.TheVariants.{View as OwnView, Composite as OwnComposite}
use Rattle.lane_context.specs.Accesses.{reply_for, IsOwned}
use Rattle.lane_stages.specs.declared.counts.Counted.{Counted}
use Rattle.lane_context.specs.Composing.{HasLast}
use Rattle.shared_pool.specs.declared.went.Release.{Release}
use Rattle.shared_pool.specs.RootNotes.{IsReleasedAs}
use Rattle.lane_context.proofs.StateReads.{refused_count, refuses}
use Rattle.lane_context.proofs.ContextLaws.{can_answer, can_answer_noted, note_room}
use Rattle.lane_context.proofs.Turning.{refused_turn}
use Rattle.lane_context.proofs.Commands.{counts_root, release_notes, kept_turn, ended_turn}
use Rattle.lane_context.proofs.CompositeTurns.{composite_released}
use Rattle.lane_context.proofs.context.Context.release.Goals as goal

pub refuse-requires : goal.refuse-requires
refuse-requires c = can_answer c.args.pool.now (left_for c.args.self.now.composes
    (Command.Release c.args.name)) c.args.self.now c.requires.may

pub returns-in-Err : goal.returns-in-Err
returns-in-Err c = λ s state.
    let pool = c.args.pool.now in let old = c.args.self.now in let new = c.refuse.new.self in let command =
    Command.Release c.args.name in
    subst (λ (t : Turn). HasTurned pool old new s command Ready t) (sym c.refuse.ensures.ready)
    (refused_turn pool (left_for old.composes command) old new c.requires.may c.in-Err.refusal
    c.refuse.ensures.replied s command
    state.names_are
    (refuses s old.names old.counts state old.shape (lane_of old.seat) command (reply_for c.in-Err.refusal)
    (refused_count s old.names old.counts state c.args.name c.in-Err.refusal c.in-Err.ensures.refused)))

pub release-release-requires-clause-seat : goal.release-release-requires-clause-seat
release-release-requires-clause-seat c = c.requires.may.context.seat

pub release-release-requires-clause-counts : goal.release-release-requires-clause-counts
release-release-requires-clause-counts c =
    counts_root c.args.pool.now c.args.self.now c.requires.may.context c.in-Ok-View.view.root (subst
    (IsOwned c.args.self.now.names c.args.self.now.counts c.args.name) c.in-Ok-View.field-0-is
    c.in-Ok-View.ensures.ok).1

pub take-requires : goal.take-requires
take-requires c = (subst (IsOwned c.args.self.now.names c.args.self.now.counts c.args.name) c.in-Ok-View.field-0-is
    c.in-Ok-View.ensures.ok).1

pub note-requires : goal.note-requires
note-requires c =
    note_room c.args.pool.now (left_for c.args.self.now.composes (Command.Release c.args.name)) c.args.self.now
    c.requires.may
    (let n = release_notes c.args.self.now.composes c.args.name in omega (arith, n))

pub answer-requires : goal.answer-requires
answer-requires c =
    let start : Context = record c.args.self.now { seat = c.release-release.new.seat; counts = c.take.new.self } in
    can_answer_noted c.args.pool.now (left_for c.args.self.now.composes
    (Command.Release c.args.name)) c.args.self.now c.requires.may
    (let n = release_notes c.args.self.now.composes c.args.name in omega (arith, n))
    start c.note.new.self c.note_to.result c.note.ensures refl

pub returns-in-Kept : goal.returns-in-Kept
returns-in-Kept c = λ s state.
    let pool = c.args.pool.now in let old = c.args.self.now in let mid = c.note.new.self in let new =
    c.answer.new.self in let call =
    c.release-release in let ok : IsOwned old.names old.counts c.args.name (OwnView c.in-Ok-View.view) =
    subst (IsOwned old.names old.counts c.args.name) c.in-Ok-View.field-0-is c.in-Ok-View.ensures.ok in let view =
    c.in-Ok-View.view in
    let start : Context = record old { seat = call.new.seat; counts = c.take.new.self } in
    subst (λ (t : Turn). HasTurned pool old new s (Command.Release c.args.name) Ready t) (sym c.answer.ensures.ready)
    (kept_turn pool c.args.name old start mid new c.requires.may refl call.ensures.same call.ensures.seat view ok.0 ok.1
    (subst (λ (r : Release). IsReleasedAs r view.root old.seat call.new.seat) c.in-Kept.is call.ensures.did)
    (record { counts = c.take.ensures.counts; places = c.take.ensures.places })
    (subst (λ (n : Note). HasNoted start mid (n ∷ [])) c.note_to.ensures c.note.ensures) c.answer.ensures.replied s
    state)

pub returns-in-Ended : goal.returns-in-Ended
returns-in-Ended c = λ s state.
    let pool = c.args.pool.now in let old = c.args.self.now in let mid = c.note-in-Ended.new.self in let call =
    c.release-release in let ok : IsOwned old.names old.counts c.args.name (OwnView c.in-Ok-View.view) =
    subst (IsOwned old.names old.counts c.args.name) c.in-Ok-View.field-0-is c.in-Ok-View.ensures.ok in let view =
    c.in-Ok-View.view in
    let start : Context = record old { seat = call.new.seat; counts = c.take.new.self } in let token =
    c.in-Ended.token in
    let did = subst (λ (r : Release). IsReleasedAs r view.root old.seat call.new.seat) c.in-Ended.is call.ensures.did in
    ended_turn pool c.args.name old start mid c.requires.may refl call.ensures.same call.ensures.seat view ok.0 ok.1
    token
    did.0 did.1 did.2 (record { counts = c.take.ensures.counts; places = c.take.ensures.places })
    (subst (λ (n : Note). HasNoted start mid (n ∷ [])) c.note_to-in-Ended.ensures c.note-in-Ended.ensures) s state

-- a composite that has one count left has its last
owns_last : (names : List (Option Bound)) (cs : List Counted) (name : ℕ) (w : Owned) (n : ℕ) → w ≡ OwnComposite n
    → n ≡ 1 → IsOwned names cs name w → HasLast names name
owns_last names cs name w n is one owned =
    let o : IsOwned names cs name (OwnComposite n) = subst (IsOwned names cs name) is owned in (o.0, o.1, o.2 ∙ one)

pub unreachable-requires : goal.unreachable-requires
unreachable-requires c =
    let old = c.args.self.now in let arm = c.in-Ok-Composite-eq1 in
    c.requires.plain (owns_last old.names old.counts c.args.name _ _ arm.field-0-is arm.field-0-0-test arm.ensures.ok)

pub recount-requires-clause-may : goal.recount-requires-clause-may
recount-requires-clause-may c =
    can_answer c.args.pool.now (left_for c.args.self.now.composes (Command.Release c.args.name)) c.args.self.now
    c.requires.may

pub recount-requires-clause-composed : goal.recount-requires-clause-composed
recount-requires-clause-composed c =
    let old = c.args.self.now in
    let o : IsOwned old.names old.counts c.args.name (OwnComposite c.in-Ok-Composite.count) =
    subst (IsOwned old.names old.counts c.args.name) c.in-Ok-Composite.field-0-is c.in-Ok-Composite.ensures.ok in
    (o.0, o.1)

pub overflow_sub-count : goal.overflow_sub-count
overflow_sub-count c =
    let old = c.args.self.now in
    let o : IsOwned old.names old.counts c.args.name (OwnComposite c.in-Ok-Composite.count) =
    subst (IsOwned old.names old.counts c.args.name) c.in-Ok-Composite.field-0-is c.in-Ok-Composite.ensures.ok in
    let some = o.3 in omega (arith, some)

pub returns-in-Ok-Composite : goal.returns-in-Ok-Composite
returns-in-Ok-Composite c = λ s state.
    let pool = c.args.pool.now in let old = c.args.self.now in let new = c.recount.new.self in
    let o : IsOwned old.names old.counts c.args.name (OwnComposite c.in-Ok-Composite.count) =
    subst (IsOwned old.names old.counts c.args.name) c.in-Ok-Composite.field-0-is c.in-Ok-Composite.ensures.ok in
    let k : Composite = o.0 in let so = o.2 in let some = o.3 in
    subst (λ (t : Turn). HasTurned pool old new s (Command.Release c.args.name) Ready t) (sym c.recount.ensures.ready)
    (composite_released pool c.args.name old new c.requires.may.context c.requires.may.asked s state k o.1
    (omega (arith, so, some))
    (omega (arith, so, some))
    (subst (λ (n : ℕ). HasReplied (recounted old c.args.name k n) new Reply.Kept) (ap (λ (n : ℕ). n - 1) (sym so))
    (c.recount.ensures.replied k o.1)))
