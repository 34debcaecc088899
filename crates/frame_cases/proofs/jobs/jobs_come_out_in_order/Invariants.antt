use Rattle.job_queue.specs.Jobs.{IsReceiver, IsSender}
use Rattle.frame_cases.proofs.jobs.jobs_come_out_in_order.Given as goal

abbrev pub invariant-loop-number : goal.invariant-loop-number
invariant-loop-number g l = IsSender l.queue l.sender × IsReceiver l.queue l.receiver

abbrev pub invariant-loop-number-2 : goal.invariant-loop-number-2
invariant-loop-number-2 g l = IsSender l.queue l.sender × IsReceiver l.queue l.receiver
