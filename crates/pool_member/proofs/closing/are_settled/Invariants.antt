use Rattle.std.proofs.Common.{ℕ, ◌<◌, get_or}
use Rattle.pool_member.specs.declared.member.Member.{Member}
use Rattle.pool_member.specs.Threads.{IsSettled}
use Rattle.pool_member.proofs.closing.are_settled.Given as goal

abbrev pub invariant-loop-member : goal.invariant-loop-member
invariant-loop-member l = (k : ℕ) (d : Member) → k < l.member-index → IsSettled (get_or l.members k d)
