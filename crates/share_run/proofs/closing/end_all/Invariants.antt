use Rattle.std.proofs.Common.{◌≡◌, ◌≤◌, List, ℕ, length, map, take, vec_capacity}
use Rattle.share_run.specs.declared.openings.TheConstants.{BOARD_TURNS}
use Rattle.share_run.specs.Standing.{IsChief, spent_by}
use Rattle.share_run.proofs.CloseLaws.{SpentTo}
use Rattle.share_run.proofs.closing.end_all.Given as goal

abbrev pub invariant-loop-k : goal.invariant-loop-k
invariant-loop-k g l = record {
  chief : IsChief l.board l.many l.k l.chief;
  spent : spent_by l.chief ≡ BOARD_TURNS;
  seats : SpentTo l.pool l.k l.seats.items;
  room : length l.composites ≤ vec_capacity l.seats;
  released : l.released.items ≡ map (λ (x : List (List ℕ)). length x) (take l.k l.composites);
  more : length l.composites ≤ vec_capacity l.released;
}
