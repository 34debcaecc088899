use Rattle.std.proofs.Common.{◌≡◌, ℕ, ◌+◌, ◌<◌, length}
use Rattle.std.specs.Prelude.{slice_index}
use Rattle.frame_cut.proofs.openings.mail_for.Given as goal

abbrev pub invariant-loop-to : goal.invariant-loop-to
invariant-loop-to l = record {
  many : length l.mail ≡ 256;
  asked : (k : ℕ) → k < l.to → slice_index l.mail (l.own + k) ≡ l.room;
}
