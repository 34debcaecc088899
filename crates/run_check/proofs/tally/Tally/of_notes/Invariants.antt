use Rattle.std.proofs.Common.{◌≡◌, drop}
use Rattle.pool_law.specs.declared.id.RootId.{RootId}
use Rattle.run_check.specs.Tallying.{no_sums, sums_in, sums_from, AreAtMost}
use Rattle.run_check.proofs.tally.Tally.of_notes.Given as goal

abbrev pub invariant-loop-note : goal.invariant-loop-note
invariant-loop-note l = (root : RootId) →
    (sums_from root (sums_in l.tally root) (drop l.note-index l.notes) ≡ sums_from root no_sums l.notes)
    × AreAtMost l.note-index (sums_in l.tally root)
