use Rattle.pool_member.specs.Threads.{IsSettled}
use Rattle.pool_member.specs.Trims.{HasPaid, HasTrimmed}
use Rattle.pool_member.proofs.work.trimming.wait_to_empty.Given as goal

abbrev pub invariant-loop : goal.invariant-loop
invariant-loop g l = record {
  trimmed : HasTrimmed l.pool l.fn.member l.member;
  settled : IsSettled l.member;
  paid : HasPaid 0 l.fn.member l.member;
}
