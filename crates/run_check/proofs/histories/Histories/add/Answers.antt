use Rattle.run_check.proofs.ObjectHistoryLemmas.{object_history-added}
use Rattle.run_check.proofs.histories.Histories.add.Goals as goal

pub returns-in_ok-insert-in-Ok : goal.returns-in_ok-insert-in-Ok
returns-in_ok-insert-in-Ok c logs theirs are =
    object_history-added c.args.shape.now logs c.args.object.now c.args.self.now
    (record c.args.self.now { map = c.insert.new.self }) c.in-Ok.object_history c.object_key-key.result
    c.object_key-key.ensures c.in_ok-insert-in-Ok.ensures.updates.0 are
    (rw c.in-Ok.is at (c.in_ok-object_history.ensures logs theirs))

pub returns-in-Err : goal.returns-in-Err
returns-in-Err c logs theirs are = rw c.in-Err.is at (c.in_ok-object_history.ensures logs theirs)
