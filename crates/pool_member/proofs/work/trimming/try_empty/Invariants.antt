use Rattle.std.proofs.Common.{◌+◌, ◌≤◌}
use Rattle.pool_member.specs.Threads.{IsSettled}
use Rattle.pool_member.specs.Trims.{HasPaid, HasTrimmed}
use Rattle.pool_member.proofs.work.trimming.try_empty.Given as goal

abbrev pub invariant-loop-step : goal.invariant-loop-step
invariant-loop-step l = record {
  trimmed : HasTrimmed l.pool l.fn.member l.member;
  settled : IsSettled l.member;
  paid : HasPaid 0 l.fn.member l.member;
  took : l.member.account.turns + l._step ≤ l.fn.member.account.turns;
}
