use Rattle.std.proofs.Common.{List, subst}
use Rattle.std.proofs.lemmas.Result.{IfOk-weaker}
use Rattle.pool_law.specs.declared.command.Command.{Command}
use Rattle.pool_law.specs.declared.id.Part.{Part}
use Rattle.pool_law.specs.LaneStates.{LaneState}
use Rattle.lane_context.specs.Accesses.{IsState}
use Rattle.lane_plans.specs.Compositions.{IsMade, joined}
use Rattle.lane_context.specs.Named.{known_to}
use Rattle.lane_context.specs.Works.{IsPlanned, IsReady}
use Rattle.lane_plans.proofs.CompositionLaws.{is_ready}
use Rattle.lane_plans.proofs.CompositionReads.{composes, refuses_to_compose}
use Rattle.lane_plans.proofs.Makeable.{may_compose}
use Rattle.lane_plans.proofs.composing.compose.Goals as goal

pub returns-in-Some-clause-planned : goal.returns-in-Some-clause-planned
returns-in-Some-clause-planned c = λ s state.
    refuses_to_compose c.args.context.now s state c.args.fresh c.args.names.now c.in-Some.refusal c.in-Some.ensures

pub made-requires-clause-may : goal.made-requires-clause-may
made-requires-clause-may c =
    may_compose c.args.context.now c.args.fresh c.args.names.now c.requires.fits c.in_default.ensures
    c.in_ok-parts.parts.items (c.in_ok-parts.ensures {u = tt}).items (c.in_ok-parts.ensures {u = tt}).placed
    ((c.in_ok-parts.ensures {u = tt}).inside (known_to c.args.context.now.seat) c.requires.inside)

pub returns-clause-ready : goal.returns-clause-ready
returns-clause-ready c =
    let d = c.args.context.now in
    let parts : List Part = c.in_ok-parts.parts.items in
    IfOk-weaker c.made.result (IsMade d c.args.fresh (joined parts 1 0)) (IsReady d)
    (is_ready d c.args.fresh parts 1 0
    (may_compose d c.args.fresh c.args.names.now c.requires.fits c.in_default.ensures parts
    (c.in_ok-parts.ensures {u = tt}).items (c.in_ok-parts.ensures {u = tt}).placed
    ((c.in_ok-parts.ensures {u = tt}).inside (known_to d.seat) c.requires.inside))) c.made.ensures

pub returns-clause-planned : goal.returns-clause-planned
returns-clause-planned c =
    let d = c.args.context.now in
    let names = c.args.names.now in
    IfOk-weaker c.made.result (IsMade d c.args.fresh (joined c.in_ok-parts.parts.items 1 0))
    (λ work. (s : LaneState) → IsState s d.names d.counts → IsPlanned d (Command.Compose c.args.fresh names) work s)
    (λ work made s state. composes d s state c.args.fresh names c.in_default.ensures c.requires.fits.3 work
    (subst (λ (ps : List Part). IsMade d c.args.fresh (joined ps 1 0) work) (c.in_ok-parts.ensures {u = tt}).items
    made))
    c.made.ensures
