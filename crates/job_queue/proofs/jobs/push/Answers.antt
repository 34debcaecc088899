use Rattle.std.proofs.Common.{ap}
use Rattle.job_queue.proofs.Relaying.{sends, sent-last}
use Rattle.job_queue.proofs.jobs.push.Goals as goal

pub push_as-requires-clause-rule : goal.push_as-requires-clause-rule
push_as-requires-clause-rule g c =
    let may = ap (λ v. v.pushes) c.requires.may in (sends _ _ _ _ may, sent-last _ _ may)
