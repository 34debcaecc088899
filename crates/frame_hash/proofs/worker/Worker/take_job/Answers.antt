use Rattle.std.proofs.Common.{◌≡◌, ◌++◌, ap, subst, ◌∙◌, Option, Some}
use Rattle.std.specs.Option.{option_to_list}
use Rattle.std.proofs.lemmas.List.{get_or_default}
use Rattle.crossbeam_queue.specs.Passes.{view}
use Rattle.job_queue.specs.declared.jobs.Job.{Job}
use Rattle.job_queue.specs.declared.jobs.Job.TheVariants as jobs
use Rattle.job_queue.specs.Jobs.{IsReceiver}
use Rattle.frame_hash.specs.declared.worker.Work.{Work}
use Rattle.frame_hash.specs.Standing.{IsAtWork}
use Rattle.frame_hash.proofs.WorkerLaws.{begins_with}
use Rattle.frame_hash.proofs.worker.Worker.take_job.Goals as goal

pub returns-in-Some-Frame-clause-stands : goal.returns-in-Some-Frame-clause-stands
returns-in-Some-Frame-clause-stands g c =
    let w = c.args.self.now in
    let stands = c.requires.stands in
    let came = c.in-Some-Frame in
    let got = (view w.jobs).got in
    let queues = c.args.shared.now.queues.now in
    let job : c.pop.result ≡ Some (jobs.Frame came.number came.slices) = cc in
    let told = subst (λ (x : Work). IsAtWork x got stands.pieces w.hashes.items) c.requires.idle stands.work in
    record {
      works = stands.works;
      lane = stands.lane;
      cutter = stands.cutter;
      number = stands.number;
      receives =
          λ d. subst (λ q. IsReceiver q c.pop.new.end)
          (get_or_default queues w.number c.index-shared-self.result d stands.number)
          c.pop.ensures.receiver;
      pieces = stands.pieces;
      taken = stands.taken;
      work =
          begins_with got (view c.pop.new.end).got stands.pieces w.hashes.items told c.new.result came.number
          came.slices
          (c.pop.ensures.got ∙ ap (λ (o : Option Job). got ++ option_to_list o) job) c.new.ensures;
    }
