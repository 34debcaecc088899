use Rattle.pool_member.specs.Threads.{IsSettled}
use Rattle.pool_member.specs.Trims.{AreEmpty, HasPaid, HasTrimmed}
use Rattle.pool_member.proofs.work.trimming.try_trim.Given as goal

abbrev pub invariant-loop-class : goal.invariant-loop-class
invariant-loop-class l = record {
  trimmed : HasTrimmed l.pool l.fn.member l.member;
  settled : IsSettled l.member;
  paid : HasPaid l.class l.fn.member l.member;
  empty : AreEmpty l.pool l.class l.fn.member.seat l.member.seat;
}
