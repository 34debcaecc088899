use Rattle.std.proofs.Common.{◌≡◌, ◌++◌, drop}
use Rattle.run_check.specs.Gathering.{notes_data}
use Rattle.run_check.specs.Mailing.{sent_among, all_passed}
use Rattle.run_check.proofs.mails.sent_in.Given as goal

abbrev pub invariant-loop-note : goal.invariant-loop-note
invariant-loop-note l =
    all_passed l.all.items ++ sent_among (notes_data (drop l.note-index l.notes)) ≡ sent_among (notes_data l.notes)
