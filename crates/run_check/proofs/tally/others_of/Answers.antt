use Rattle.std.proofs.Common.{rules, ◌≡◌, ℕ, ◌+◌, ◌<◌, length, drop, sym, ap, arith, ◌∙◌}
use Rattle.run_check.specs.Tallying.{others_sum}
use Rattle.run_check.proofs.TallyLemmas.{others-step}
use Rattle.run_check.proofs.tally.others_of.Goals as goal

pub loop-at-preserved : goal.loop-at-preserved
loop-at-preserved c =
    let root = c.args.root.now in
    let lane = c.args.lane in
    let tallies = c.args.tallies.now in
    let at = c.loop-at.at in
    let more = c.other_retains-more.result in
    let there : at < length tallies = search rules in
    let step : others_sum root lane at (drop at tallies)
    ≡ more + others_sum root lane (at + 1) (drop (at + 1) tallies) =
    others-step root lane at at tallies c.index-tallies-at.result there c.index-tallies-at.is
    ∙ ap (λ (n : ℕ). n + others_sum root lane (at + 1) (drop (at + 1) tallies)) (sym c.other_retains-more.ensures) in
    let before : c.loop-at.all + others_sum root lane at (drop at tallies)
    ≡ others_sum root lane 0 tallies = c.loop-at.invariant.0 in
    let more_is = c.from-all.ensures in
    let small = c.other_retains-more.type_inv in
    (omega (arith, step, more_is, before), omega (arith, more_is, small, c.loop-at.invariant.1))
