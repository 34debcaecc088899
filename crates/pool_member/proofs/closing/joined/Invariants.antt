use Rattle.std.proofs.Common.{◌≡◌, ◌+◌, ◌++◌, ◌≤◌, map, vec_len, vec_capacity}
use Rattle.std.specs.Prelude.{All}
use Rattle.pool_member.specs.declared.member.Member.{Member}
use Rattle.pool_member.specs.Closing.{records_of}
use Rattle.pool_member.specs.Threads.{IsSettled}
use Rattle.pool_member.proofs.closing.joined.Given as goal

abbrev pub invariant-loop-made : goal.invariant-loop-made
invariant-loop-made l = record {
  seats : map (λ (m : Member). m.seat) l.members.items ++ l.seats.items ≡ l.fn.seats.items;
  records : map records_of l.members.items ++ l.records.items ≡ l.fn.records.items;
  seats_left : vec_len l.seats + l._made ≡ vec_len l.fn.seats;
  records_left : vec_len l.records + l._made ≡ vec_len l.fn.seats;
  made : vec_len l.members ≡ l._made;
  room : vec_len l.fn.seats ≤ vec_capacity l.members;
  settled : All IsSettled l.members.items;
}
