use Rattle.run_check.specs.Breaches.{Breaks}
use Rattle.run_check.proofs.BreachLemmas.{breaks-illegal}
use Rattle.play_check.proofs.check_played.Goals as goal

pub returns-in-Some : goal.returns-in-Some
returns-in-Some c =
    let broken : Breaks c.args.run.now c.in-Some.breach = rw c.in-Some.is at c.in_ok-breach.ensures in
    (broken, breaks-illegal c.args.run.now c.in-Some.breach broken)
