use Rattle.std.proofs.Common.{rules}
use Rattle.text_ends.proofs.Readings.{empty_words}
use Rattle.run_judge.proofs.OutcomeLaws.{of_source}
use Rattle.run_judge.proofs.run.run_judge.Goals as goal

pub returns-then-is_empty-clause-outcome : goal.returns-then-is_empty-clause-outcome
returns-then-is_empty-clause-outcome g c =
    of_source c.with_source.result.status _ _ _ (empty_words c.args.words.now (search rules)) c.with_source.ensures
