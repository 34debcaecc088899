use Rattle.std.proofs.Common.{◌≡◌, ◌+◌, ◌++◌, ◌≤◌, map, vec_capacity, vec_len}
use Rattle.std.specs.Prelude.{All, box_value}
use Rattle.std.specs.Arc.{arc_value}
use Rattle.pool_member.specs.Threads.{IsThread}
use Rattle.pool_c.specs.Closing.{AreOf}
use Rattle.pool_c.specs.Holding.{behind}
use Rattle.pool_c.proofs.closing.unboxed.Given as goal

abbrev pub invariant-loop-more : goal.invariant-loop-more
invariant-loop-more l = record {
  left : vec_len l.all + vec_len l.members ≡ vec_len l.fn.all;
  made : vec_len l.members ≡ l._more + 1;
  room : vec_len l.fn.all ≤ vec_capacity l.members;
  of : AreOf (arc_value l.common) (map box_value l.all.items);
  threads : All (IsThread (arc_value l.common).shared) l.members.items;
  held : map (behind (arc_value l.common)) l.members.items ++ map box_value l.all.items
      ≡ map box_value l.fn.all.items;
}
