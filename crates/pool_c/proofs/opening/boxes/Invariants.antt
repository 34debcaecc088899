use Rattle.std.proofs.Common.{◌≡◌, ◌+◌, ◌++◌, ◌≤◌, map, vec_len, vec_capacity}
use Rattle.std.specs.Prelude.{All, box_value}
use Rattle.std.specs.Arc.{arc_value}
use Rattle.pool_member.specs.Threads.{IsThread}
use Rattle.pool_c.specs.Holding.{behind}
use Rattle.pool_c.proofs.opening.boxes.Given as goal

abbrev pub invariant-loop-made : goal.invariant-loop-made
invariant-loop-made l = record {
  left : vec_len l.members + l._made ≡ vec_len l.fn.members;
  made : vec_len l.all ≡ l._made;
  room : vec_len l.fn.members ≤ vec_capacity l.all;
  members : All (IsThread (arc_value l.common).shared) l.members.items;
  same : map box_value l.all.items ++ map (behind (arc_value l.common)) l.members.items
      ≡ map (behind (arc_value l.common)) l.fn.members.items;
}
