use Rattle.std.proofs.Common.{◌≡◌, List, ◌++◌, sym, ap, ◌∙◌, subst}
use Rattle.std.proofs.lemmas.List.Elements.{All-same}
use Rattle.std.proofs.lemmas.Result.{IfOk-weaker}
use Rattle.pool_law.specs.declared.command.Command.{Command}
use Rattle.pool_law.specs.declared.id.Part.{Part}
use Rattle.pool_law.specs.Composites.{Composite}
use Rattle.pool_law.specs.LaneStates.{LaneState}
use Rattle.composite_buf.specs.Maps.{Fits}
use Rattle.lane_context.specs.Accesses.{IsState}
use Rattle.lane_plans.specs.Compositions.{IsMade, MayMake, joined, readable_at}
use Rattle.lane_context.specs.Named.{known_to}
use Rattle.lane_context.specs.Works.{IsPlanned, IsReady}
use Rattle.lane_plans.proofs.CompositionLaws.{is_ready}
use Rattle.lane_plans.proofs.CompositionReads.{adds, refuses_to_add}
use Rattle.lane_plans.proofs.Makeable.{may_add}
use Rattle.lane_plans.proofs.composing.add.Goals as goal

pub returns-in-Some-clause-planned : goal.returns-in-Some-clause-planned
returns-in-Some-clause-planned c = λ s state.
    refuses_to_add c.args.context.now s state c.args.whole c.args.name c.in-Some.refusal c.in-Some.ensures

pub made-requires-clause-may : goal.made-requires-clause-may
made-requires-clause-may c =
    let d = c.args.context.now in
    let before : Composite = c.in-Some-composite.before.now in
    let held = c.in_ok-parts.ensures {u = tt} in
    may_add d c.requires.composites c.requires.inside c.args.whole c.args.name c.in_default.ensures before
    c.in-Some-composite.ensures.some c.push_readable.new.parts.items c.count.result c.marks-reader.result.reader
    (c.push_readable.ensures.items ∙ ap (λ (ps : List Part). ps ++ readable_at d.names c.args.name) held.items)
    c.count.ensures c.marks-reader.ensures.reader
    (All-same Fits before.parts c.in_ok-parts.parts.items (sym held.items) held.fits)
    c.push_readable.ensures.placed (c.push_readable.ensures.inside (known_to d.seat) c.requires.inside)

pub returns-clause-ready : goal.returns-clause-ready
returns-clause-ready c =
    let d = c.args.context.now in
    let before : Composite = c.in-Some-composite.before.now in
    let held = c.in_ok-parts.ensures {u = tt} in
    let parts : List Part = c.push_readable.new.parts.items in
    let may : MayMake d c.args.whole (joined parts c.count.result c.marks-reader.result.reader) =
    may_add d c.requires.composites c.requires.inside c.args.whole c.args.name c.in_default.ensures before
    c.in-Some-composite.ensures.some parts c.count.result c.marks-reader.result.reader
    (c.push_readable.ensures.items ∙ ap (λ (ps : List Part). ps ++ readable_at d.names c.args.name) held.items)
    c.count.ensures c.marks-reader.ensures.reader
    (All-same Fits before.parts c.in_ok-parts.parts.items (sym held.items) held.fits)
    c.push_readable.ensures.placed (c.push_readable.ensures.inside (known_to d.seat) c.requires.inside) in
    IfOk-weaker c.made.result (IsMade d c.args.whole (joined parts c.count.result c.marks-reader.result.reader))
    (IsReady d) (is_ready d c.args.whole parts c.count.result c.marks-reader.result.reader may) c.made.ensures

pub returns-clause-planned : goal.returns-clause-planned
returns-clause-planned c =
    let d = c.args.context.now in
    let before : Composite = c.in-Some-composite.before.now in
    let held = c.in_ok-parts.ensures {u = tt} in
    let parts : List Part = c.push_readable.new.parts.items in
    let items : parts ≡ before.parts ++ readable_at d.names c.args.name =
    c.push_readable.ensures.items ∙ ap (λ (ps : List Part). ps ++ readable_at d.names c.args.name) held.items in
    let made : Composite = joined parts c.count.result c.marks-reader.result.reader in
    let same : made ≡ joined (before.parts ++ readable_at d.names c.args.name) before.count before.reader =
    λ i. joined (items i) (c.count.ensures i) (c.marks-reader.ensures.reader i) in
    let bound = c.in-Some-composite.ensures.some in
    IfOk-weaker c.made.result (IsMade d c.args.whole made)
    (λ work. (s : LaneState) → IsState s d.names d.counts → IsPlanned d (Command.Add c.args.whole c.args.name) work s)
    (λ work is s state. adds d s state c.args.whole c.args.name c.in_default.ensures before bound
    (c.requires.composites.formed c.args.whole before bound).parts work
    (subst (λ (w : Composite). IsMade d c.args.whole w work) same is))
    c.made.ensures
