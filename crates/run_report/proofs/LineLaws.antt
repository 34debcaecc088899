-- Past the end of a list there are no lines.
use Rattle.std.proofs.Common.{◌≡◌, ℕ, ◌≤◌, List, [], ◌∷◌, length, refl, arith, drop, min, length-drop}
use Rattle.pool_law.specs.declared.command.Command.{Command}
use Rattle.pool_law.specs.declared.run.Answered.{Answered}
use Rattle.pool_law.specs.declared.run.LaneLog.{LaneLog}
use Rattle.pool_law.specs.Text.{all_replies, reply_lines}

lines_none : (lane at : ℕ) (cs : List Command) (answers : List Answered) → min (length cs) (length answers) ≡ 0
    → reply_lines lane at cs answers ≡ []
lines_none lane at [] answers h = refl
lines_none lane at (c ∷ cs) [] h = refl
lines_none lane at (c ∷ cs) (a ∷ answers) h = absurd (omega arith)

pub lines_done : (lane i : ℕ) (cs : List Command) (answers : List Answered) → min (length cs) (length answers) ≤ i
    → reply_lines lane i (drop i cs) (drop i answers) ≡ []
lines_done lane i cs answers h =
    lines_none lane i (drop i cs) (drop i answers) (omega (arith, length-drop i cs, length-drop i answers))

lanes_none : (lane : ℕ) (lanes : List (List Command)) (logs : List LaneLog) → min (length lanes) (length logs) ≡ 0
    → all_replies lane lanes logs ≡ []
lanes_none lane [] logs h = refl
lanes_none lane (commands ∷ lanes) [] h = refl
lanes_none lane (commands ∷ lanes) (log ∷ logs) h = absurd (omega arith)

pub lanes_done : (i : ℕ) (lanes : List (List Command)) (logs : List LaneLog) → min (length lanes) (length logs) ≤ i
    → all_replies i (drop i lanes) (drop i logs) ≡ []
lanes_done i lanes logs h =
    lanes_none i (drop i lanes) (drop i logs) (omega (arith, length-drop i lanes, length-drop i logs))
