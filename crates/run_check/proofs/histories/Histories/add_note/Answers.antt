use Rattle.run_check.proofs.ObjectHistoryLemmas.{note-added}
use Rattle.run_check.proofs.histories.Histories.add_note.Goals as goal

pub returns-in_ok-broken-in-At : goal.returns-in_ok-broken-in-At
returns-in_ok-broken-in-At c logs theirs are =
    note-added c.args.shape.now logs c.in-At.object c.in-At.number c.in-At.did c.args.note.now c.args.self.now
    c.add.new.self c.in_ok-broken-in-At.broken c.in-At.is (c.in_ok-broken-in-At.ensures logs theirs are)
