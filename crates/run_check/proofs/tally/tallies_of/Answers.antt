use Rattle.std.proofs.Common.{rules, ap, ◌∙◌}
use Rattle.run_check.specs.Tallying.{no_sums, sums_from, IsTally}
use Rattle.run_check.proofs.LaneLemmas.{zip-push, zip-all}
use Rattle.run_check.proofs.tally.tallies_of.Goals as goal

pub loop-log-preserved : goal.loop-log-preserved
loop-log-preserved c =
    zip-push IsTally c.loop-log.tallies.items c.push.new.self.items c.args.logs.now c.loop-log.log-index
    c.in_ok-tally.tally c.log-item.result c.loop-log.invariant c.in_ok-push.ensures.items (search rules) c.log-item.is
    (λ root. c.in_ok-tally.ensures root ∙ ap (sums_from root no_sums) c.items.ensures)

pub returns : goal.returns
returns c =
    zip-all IsTally c.loop-log.tallies.items c.args.logs.now c.loop-log.log-index c.loop-log.invariant (search rules)
