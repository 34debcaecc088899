use Rattle.std.proofs.Common.{◌≡◌, ◌+◌, ◌++◌, ◌≤◌, map, vec_len, vec_capacity}
use Rattle.std.specs.Prelude.{All}
use Rattle.pool_member.specs.declared.member.Member.{Member}
use Rattle.pool_member.specs.Closing.{records_of}
use Rattle.pool_member.specs.Threads.{IsSettled}
use Rattle.pool_member.proofs.closing.parted.Given as goal

abbrev pub invariant-loop-made : goal.invariant-loop-made
invariant-loop-made l = record {
  seats : l.seats.items ++ map (λ (m : Member). m.seat) l.members.items
      ≡ map (λ (m : Member). m.seat) l.fn.members.items;
  records : l.records.items ++ map records_of l.members.items ≡ map records_of l.fn.members.items;
  left : vec_len l.members + l._made ≡ vec_len l.fn.members;
  seats_made : vec_len l.seats ≡ l._made;
  records_made : vec_len l.records ≡ l._made;
  seats_room : vec_len l.fn.members ≤ vec_capacity l.seats;
  records_room : vec_len l.fn.members ≤ vec_capacity l.records;
  back : vec_len l.fn.members ≤ vec_capacity l.members;
  settled : All IsSettled l.members.items;
}
