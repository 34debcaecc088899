use Rattle.std.specs.Prelude.{MatchOption}
use Rattle.std.proofs.lemmas.Result.{IfOk-weaker}
use Rattle.pool_law.specs.Legal.{IsLegal}
use Rattle.run_check.specs.Breaches.{Breaks}
use Rattle.run_check.specs.Checking.{CountsRight}
use Rattle.run_check.proofs.CheckingLemmas.{legal-is, legal-found, told-are}
use Rattle.run_check.proofs.checking.breach_of_logs.Goals as goal

pub breach_of_answers-requires-clause-told : goal.breach_of_answers-requires-clause-told
breach_of_answers-requires-clause-told c =
    told-are c.args.run.now.shape c.items.result.now c.args.run.now.logs c.args.histories.now c.items.ensures
    c.in_ok-told.told.items c.deref.result.now c.deref.ensures.value c.requires.histories c.in_ok-told.ensures

pub breach_of_counts-requires-clause-told : goal.breach_of_counts-requires-clause-told
breach_of_counts-requires-clause-told c =
    told-are c.args.run.now.shape c.items.result.now c.args.run.now.logs c.args.histories.now c.items.ensures
    c.in_ok-told.told.items c.deref-2.result.now c.deref-2.ensures.value c.requires.histories c.in_ok-told.ensures

pub returns : goal.returns
returns c =
    let run = c.args.run.now in
    IfOk-weaker c.breach_of_counts.result
    (λ found. MatchOption found (CountsRight run) (Breaks run))
    (λ found. MatchOption found (IsLegal run) (Breaks run))
    (λ found right.
    legal-found run found
    (legal-is run c.args.histories.now c.requires.shape c.requires.lanes.0 c.requires.lanes.1 c.requires.commands
    c.requires.histories (rw c.in_default.is at c.in_ok-breach.ensures)
    (rw c.in_default-2.is at c.in_ok-breach-2.ensures))
    right)
    c.breach_of_counts.ensures
