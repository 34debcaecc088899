use Rattle.std.proofs.Common.{◌≡◌, ◌++◌, List, length, map, take}
use Rattle.pool_law.specs.declared.run.Reply.{Reply}
use Rattle.pool_law.specs.Text.{Text}
use Rattle.run_text.specs.Answering.{FitLanes, lanes_texts}
use Rattle.run_text.proofs.replies.replies_of.Given as goal

abbrev pub invariant-loop-lane : goal.invariant-loop-lane
invariant-loop-lane l =
    (all : List (List Reply)) (back : List Text) → FitLanes l.lanes all
    → map (λ t. t.now) l.lines ≡ lanes_texts 0 l.lanes all ++ back
    → (map (λ list. list.items) l.all.items ≡ take l.lane-index all)
    × (l.at ≡ length (lanes_texts 0 (take l.lane-index l.lanes) (take l.lane-index all)))
