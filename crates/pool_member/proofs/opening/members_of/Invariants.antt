use Rattle.std.proofs.Common.{◌≡◌, ◌+◌, ◌++◌, ◌≤◌, map, vec_len, vec_capacity}
use Rattle.std.specs.Prelude.{All}
use Rattle.pool_member.specs.declared.member.Member.{Member}
use Rattle.pool_member.specs.Opening.{ArePaired}
use Rattle.pool_member.specs.Threads.{IsSettled, IsThread}
use Rattle.pool_member.proofs.opening.members_of.Given as goal

abbrev pub invariant-loop-made : goal.invariant-loop-made
invariant-loop-made l = record {
  paired : ArePaired l.pool l.accounts.items l.seats.items;
  left : vec_len l.seats + l._made ≡ vec_len l.fn.seats;
  made : vec_len l.members ≡ l._made;
  room : vec_len l.fn.seats ≤ vec_capacity l.members;
  members : All (IsThread l.pool) l.members.items;
  accounts : map (λ (m : Member). m.account) l.members.items ++ l.accounts.items ≡ l.fn.accounts.items;
  seats : map (λ (m : Member). m.seat) l.members.items ++ l.seats.items ≡ l.fn.seats.items;
  accounts_left : vec_len l.accounts + l._made ≡ vec_len l.fn.seats;
  settled : All IsSettled l.members.items;
}
