use Rattle.std.proofs.Common.{◌≡◌, map, string_bytes, length}
use Rattle.frame_words.specs.Words.{AreWithin, asked_by}
use Rattle.frame_words.proofs.WordLaws.{asked_in}
use Rattle.frame_words.proofs.words.asked_by.Given as goal

abbrev pub invariant-loop-left : goal.invariant-loop-left
invariant-loop-left l = record {
  value : asked_by (map string_bytes l.words) ≡ asked_in l.asked (map string_bytes l.left);
  within : AreWithin l.asked;
}

abbrev pub decreases-loop-left : goal.decreases-loop-left
decreases-loop-left l = length l.left
