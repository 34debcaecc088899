use Rattle.std.proofs.Common.{◌≡◌, ℕ, suc, ◌+◌, ◌-◌, sym, ap, arith, ◌∙◌}
use Rattle.std.specs.Prelude.{Option, option_and_then}
use Rattle.pool_law.specs.Readers.{Log}
use Rattle.pool_law.specs.Patterns.{sheds}
use Rattle.lane_reader.specs.Reading.{log_from}
use Rattle.lane_reader.proofs.DrainLemmas.{sheds-is}
use Rattle.lane_reader.proofs.log.Log.sheds.Goals as goal

pub returns-in_err-here : goal.returns-in_err-here
returns-in_err-here c before =
    let lane = c.args.lane in
    let class = c.args.class in
    let here : Log = log_from before c.args.self.now c.loop-region.here in
    let n : ℕ = c.args.count - (c.loop-region._region + 1) in
    let more : c.args.count - c.loop-region._region ≡ suc n = omega (arith, c.loop-region-test.true) in
    rw c.from_residual.ensures
    (sym (c.loop-region.invariant before)
    ∙ ap (λ (k : ℕ). sheds lane class k here) more
    ∙ sheds-is lane class n here
    ∙ ap (λ (o : Option (Unit {0} × Log)). option_and_then (λ got. sheds lane class n got.1) o)
    (c.in_err-here.ensures before))

pub loop-region-preserved : goal.loop-region-preserved
loop-region-preserved c before =
    let lane = c.args.lane in
    let class = c.args.class in
    let here : Log = log_from before c.args.self.now c.loop-region.here in
    let n : ℕ = c.args.count - (c.loop-region._region + 1) in
    let more : c.args.count - c.loop-region._region ≡ suc n = omega (arith, c.loop-region-test.true) in
    sym
    (ap (λ (k : ℕ). sheds lane class k here) more
    ∙ sheds-is lane class n here
    ∙ ap (λ (o : Option (Unit {0} × Log)). option_and_then (λ got. sheds lane class n got.1) o)
    (c.in_ok-here.ensures before))
    ∙ c.loop-region.invariant before
