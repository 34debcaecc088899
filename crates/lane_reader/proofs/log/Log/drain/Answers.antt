use Rattle.std.proofs.Common.{ℕ, ◌+◌, List, drop, sym, ap, ◌∙◌}
use Rattle.std.specs.Prelude.{Option, option_and_then}
use Rattle.pool_law.specs.Readers.{Log}
use Rattle.pool_law.specs.Patterns.{drain}
use Rattle.lane_reader.specs.Reading.{log_from}
use Rattle.lane_reader.specs.Draining.{quota_of}
use Rattle.lane_reader.proofs.DrainLemmas.{drain-is, classes-from}
use Rattle.lane_reader.proofs.log.Log.drain.Goals as goal

pub returns-in_err-here : goal.returns-in_err-here
returns-in_err-here c before classes is =
    let lane = c.args.lane in
    let kind = quota_of c.args.kind in
    let class = c.loop-class.class in
    let here : Log = log_from before c.args.self.now c.loop-class.here in
    let rest : List ℕ = drop (class + 1) classes in
    rw c.from_residual.ensures
    (sym (c.loop-class.invariant before classes is)
    ∙ ap (λ (cs : List ℕ). drain lane kind cs here) (classes-from classes class is c.loop-class-test.true)
    ∙ drain-is lane kind class rest here
    ∙ ap (λ (o : Option (Unit {0} × Log)). option_and_then (λ got. drain lane kind rest got.1) o)
    (c.in_err-here.ensures before))

pub loop-class-preserved : goal.loop-class-preserved
loop-class-preserved c before classes is =
    let lane = c.args.lane in
    let kind = quota_of c.args.kind in
    let class = c.loop-class.class in
    let here : Log = log_from before c.args.self.now c.loop-class.here in
    let rest : List ℕ = drop (class + 1) classes in
    sym
    (ap (λ (cs : List ℕ). drain lane kind cs here) (classes-from classes class is c.loop-class-test.true)
    ∙ drain-is lane kind class rest here
    ∙ ap (λ (o : Option (Unit {0} × Log)). option_and_then (λ got. drain lane kind rest got.1) o)
    (c.in_ok-here.ensures before))
    ∙ c.loop-class.invariant before classes is
