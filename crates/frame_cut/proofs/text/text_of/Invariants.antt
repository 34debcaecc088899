use Rattle.std.proofs.Common.{◌≡◌, ◌++◌, ℕ, List, drop}
use Rattle.frame_text.specs.Lines.{frame_lines}
use Rattle.frame_cut.specs.Tellings.{Tells}
use Rattle.frame_cut.proofs.text.text_of.Given as goal

abbrev pub invariant-loop-number : goal.invariant-loop-number
invariant-loop-number l =
    (frames : List (List ℕ)) → Tells l.told frames →
    frame_lines 0 frames ≡ l.writer ++ frame_lines l.number (drop l.number frames)
