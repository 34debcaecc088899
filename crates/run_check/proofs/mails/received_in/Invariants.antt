use Rattle.std.proofs.Common.{◌≡◌, ◌++◌, drop}
use Rattle.run_check.specs.Gathering.{notes_data}
use Rattle.run_check.specs.Mailing.{received_among, all_passed}
use Rattle.run_check.proofs.mails.received_in.Given as goal

abbrev pub invariant-loop-note : goal.invariant-loop-note
invariant-loop-note l =
    all_passed l.all.items ++ received_among (notes_data (drop l.note-index l.notes))
    ≡ received_among (notes_data l.notes)
