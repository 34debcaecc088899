use Rattle.std.proofs.Common.{◌+◌, List, length, drop, refl, sym, ap, ◌∙◌, subst, arith}
use Rattle.std.proofs.lemmas.List.{drop-drop, length-drop}
use Rattle.crossbeam_queue.specs.Passes.{Pass}
use Rattle.job_queue.specs.declared.jobs.Job.{Job}
use Rattle.job_queue.specs.declared.jobs.JobLog.{JobLog}
use Rattle.shared_pool.specs.declared.seat.PoolSeat.{PoolSeat}
use Rattle.frame_hash.specs.declared.worker.Worker.{Worker}
use Rattle.frame_cut.specs.Openings.{AreNewWorkers}
use Rattle.frame_cut.proofs.LineLaws.{new_none, new_more}
use Rattle.frame_cut.proofs.ListSteps.{taken_off}
use Rattle.frame_cut.proofs.starting.new_workers.Goals as goal

pub loop-number-init : goal.loop-number-init
loop-number-init c = record {
  ready =
      new_none c.args.count c.args.seats.now.items c.args.receivers.items c.args.workers.items
      c.requires.workers.0;
  seats = refl;
  receivers = refl;
  capacity = refl;
  room = c.requires.workers.1;
}

pub remove-seat-requires : goal.remove-seat-requires
remove-seat-requires c =
    let l = c.loop-number in
    let a = ap (λ (s : List PoolSeat). length s) l.invariant.seats in
    let b = length-drop l.number c.args.seats.now.items in let d = c.args.seats.now.ok.0 in let e = l.seats.ok.0 in
    let f = c.requires.seats in let lt = c.loop-number-test.true in omega (arith, a, b, d, e, f, lt)

pub remove-jobs-requires : goal.remove-jobs-requires
remove-jobs-requires c =
    let l = c.loop-number in
    let a = ap (λ (s : List (Pass Job JobLog)). length s) l.invariant.receivers in
    let b = length-drop l.number c.args.receivers.items in let d = c.args.receivers.ok.0 in
    let e = l.receivers.ok.0 in let f = c.requires.receivers in let lt = c.loop-number-test.true in
    omega (arith, a, b, d, e, f, lt)

pub push_reserved-requires : goal.push_reserved-requires
push_reserved-requires c =
    let l = c.loop-number in let a = l.invariant.ready.many in let b = l.workers.ok.0 in
    let d = l.invariant.room in let lt = c.loop-number-test.true in omega (arith, a, b, d, lt)

pub loop-number-preserved : goal.loop-number-preserved
loop-number-preserved c =
    let l = c.loop-number in let inv = l.invariant in let n = l.number in let lt = c.loop-number-test.true in
    let first = c.args.seats.now in let ends = c.args.receivers in
    let seat = c.remove-seat in let jobs = c.remove-jobs in let e = c.push_reserved.ensures in
    let seat_at = taken_off first.items l.seats.items n seat.result inv.seats
    (let a = c.requires.seats in let b = first.ok.0 in omega (arith, a, b, lt)) seat.ensures.value in
    let jobs_at = taken_off ends.items l.receivers.items n jobs.result inv.receivers
    (let a = c.requires.receivers in let b = ends.ok.0 in omega (arith, a, b, lt)) jobs.ensures.value in
    record {
      ready =
          subst (λ (ws : List Worker). AreNewWorkers c.args.count first.items ends.items (n + 1) ws) (sym e.items)
          (new_more c.args.count first.items ends.items n l.workers.items c.new_worker.result seat.result jobs.result
          inv.ready seat_at jobs_at c.new_worker.ensures);
      seats =
          seat.ensures.by_index.2 ∙ ap (λ (s : List PoolSeat). drop 1 s) inv.seats ∙ drop-drop 1 n first.items;
      receivers =
          jobs.ensures.by_index.2
          ∙ ap (λ (s : List (Pass Job JobLog)). drop 1 s) inv.receivers
          ∙ drop-drop 1 n ends.items;
      capacity = seat.ensures.capacity ∙ inv.capacity;
      room = (let a = e.capacity in let b = inv.room in omega (arith, a, b));
    }
