use Rattle.run_report.proofs.ReplyCounts.{lanes-few, replies-few}
use Rattle.run_report.proofs.summary.summary_of.Goals as goal

pub summary_in-requires-clause-lanes : goal.summary_in-requires-clause-lanes
summary_in-requires-clause-lanes c = lanes-few c.args.run.now c.requires.legal

pub summary_in-requires-clause-few : goal.summary_in-requires-clause-few
summary_in-requires-clause-few c = replies-few c.args.run.now c.requires.legal
