use Rattle.std.proofs.Common.{ℕ, List, length, ◌-◌, ◌≡◌, ◌≤◌}
use Rattle.std.specs.Prelude.{vec_capacity}
use Rattle.frame_slices.specs.Slices.{HasCut}
use Rattle.frame_cutter.proofs.GoLaws.{Went}
use Rattle.frame_cutter.proofs.loading.go_through.Given as goal

abbrev pub invariant-loop-used : goal.invariant-loop-used
invariant-loop-used l = record {
  within : l.used ≤ length l.block;
  room : vec_capacity l.finds ≡ vec_capacity l.initial.finds;
  went : (bytes own : List ℕ) → HasCut l.initial.slicer bytes own
      → Went l.finds.items l.block bytes own l.used l.slicer;
}

abbrev pub decreases-loop-used : goal.decreases-loop-used
decreases-loop-used l = length l.block - l.used
