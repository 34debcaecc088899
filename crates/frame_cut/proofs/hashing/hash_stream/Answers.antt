use Rattle.std.proofs.Common.{◌≡◌, length, refl, sym, ◌∙◌, subst, arith}
use Rattle.frame_cut.specs.Tellings.{HasEnds}
use Rattle.frame_cut.proofs.Running.{all_stand}
use Rattle.frame_cut.proofs.Streams.{always, run_done, run_ends, run_many, run_none, run_seats, run_spent, run_told}
use Rattle.frame_cut.proofs.hashing.hash_stream.Goals as goal

pub step_all-cutter-requires-clause-cutter : goal.step_all-cutter-requires-clause-cutter
step_all-cutter-requires-clause-cutter g c κs within =
    let o = c.in_ok-pool.field-0 in
    c.in_ok-pool.ensures.cutter (record { pool = record { ref_ptr = _; now = o.pool }; queues = c.deref.result })
    (record { pool = refl; queues = c.deref.ensures.value })

pub step_all-cutter-requires-clause-workers : goal.step_all-cutter-requires-clause-workers
step_all-cutter-requires-clause-workers g c κs within =
    let o = c.in_ok-pool.field-0 in
    all_stand (record { pool = record { ref_ptr = _; now = o.pool }; queues = c.deref.result })
    c.args.options.workers c.args.options.block o
    c.in_ok-pool.ensures (record { pool = refl; queues = c.deref.ensures.value })

pub gather-told-requires-clause-many : goal.gather-told-requires-clause-many
gather-told-requires-clause-many g c =
    let o = c.in_ok-pool.field-0 in
    let ran = c.step_all-cutter in
    let count : length ran.result.1.items ≡ length o.workers.items =
    (let a = ran.ensures.count in let b = ran.result.1.ok.0 in let d = o.workers.ok.0 in omega (arith, a, b, d)) in
    let many =
    run_many g.S.Source.left g.S.Source.faults
    (record { pool = record { ref_ptr = _; now = o.pool }; queues = c.deref.result })
    c.args.options.workers c.args.options.block o
    c.in_ok-pool.ensures (record { pool = refl; queues = c.deref.ensures.value }) c.args.source.now ran.new.source
    ran.result.0 ran.ensures.cutter ran.result.1.items ran.ensures.workers count in
    let a = ran.result.1.ok.0 in let b = c.deref.ensures.len in let d = c.deref-2.ensures.len in
    omega (arith, many, a, b, d)

pub gather-told-requires-clause-ends : goal.gather-told-requires-clause-ends
gather-told-requires-clause-ends g c k w e =
    let o = c.in_ok-pool.field-0 in
    let ran = c.step_all-cutter in
    let count : length ran.result.1.items ≡ length o.workers.items =
    (let a = ran.ensures.count in let b = ran.result.1.ok.0 in let d = o.workers.ok.0 in omega (arith, a, b, d)) in
    subst (λ qs. HasEnds qs ran.result.0.ends.items k w.jobs)
    (c.deref.ensures.value ∙ sym c.deref-2.ensures.value)
    (run_ends g.S.Source.left g.S.Source.faults
    (record { pool = record { ref_ptr = _; now = o.pool }; queues = c.deref.result })
    c.args.options.workers c.args.options.block o
    c.in_ok-pool.ensures (record { pool = refl; queues = c.deref.ensures.value }) c.args.source.now ran.new.source
    ran.result.0 ran.ensures.cutter ran.result.1.items ran.ensures.workers count k w e)

pub close_or_abandon-closed-requires : goal.close_or_abandon-closed-requires
close_or_abandon-closed-requires g c =
    let o = c.in_ok-pool.field-0 in
    let left = g.S.Source.left in
    let faults = g.S.Source.faults in
    let ran = c.step_all-cutter in
    let count : length ran.result.1.items ≡ length o.workers.items =
    (let a = ran.ensures.count in let b = ran.result.1.ok.0 in let d = o.workers.ok.0 in omega (arith, a, b, d)) in
    record {
      seats =
          run_seats left faults (record { pool = record { ref_ptr = _; now = o.pool }; queues = c.deref.result })
          c.args.options.workers c.args.options.block o c.in_ok-pool.ensures
          (record { pool = refl; queues = c.deref.ensures.value })
          c.args.source.now ran.new.source ran.result.0 ran.ensures.cutter ran.result.1.items ran.ensures.workers count
          c.gather-told.new.seats.items c.gather-told.ensures.seats c.gather-told.ensures.jobs;
      done =
          always ran.result.2
          (run_done left faults (record { pool = record { ref_ptr = _; now = o.pool }; queues = c.deref.result })
          c.args.options.workers c.args.options.block o c.in_ok-pool.ensures
          (record { pool = refl; queues = c.deref.ensures.value })
          c.args.source.now ran.new.source ran.result.0 ran.ensures.cutter ran.result.1.items ran.ensures.workers count
          c.gather-told.new.seats.items c.gather-told.ensures.seats c.gather-told.ensures.jobs);
      spent =
          run_spent left faults (record { pool = record { ref_ptr = _; now = o.pool }; queues = c.deref.result })
          c.args.options.workers c.args.options.block o c.in_ok-pool.ensures
          (record { pool = refl; queues = c.deref.ensures.value })
          c.args.source.now ran.new.source ran.result.0 ran.ensures.cutter ran.result.1.items ran.ensures.workers count
          c.gather-told.new.seats.items c.gather-told.ensures.seats c.gather-told.ensures.jobs ran.result.2
          ran.ensures.finished;
    }

pub returns : goal.returns
returns g c =
    let o = c.in_ok-pool.field-0 in
    let left = g.S.Source.left in
    let faults = g.S.Source.faults in
    let ran = c.step_all-cutter in
    let count : length ran.result.1.items ≡ length o.workers.items =
    (let a = ran.ensures.count in let b = ran.result.1.ok.0 in let d = o.workers.ok.0 in omega (arith, a, b, d)) in
    record {
      told =
          run_told left faults (record { pool = record { ref_ptr = _; now = o.pool }; queues = c.deref.result })
          c.args.options.workers c.args.options.block o c.in_ok-pool.ensures
          (record { pool = refl; queues = c.deref.ensures.value })
          c.args.source.now ran.new.source ran.result.0 ran.ensures.cutter ran.result.1.items ran.ensures.workers count
          c.gather-told.new.seats.items c.gather-told.ensures.seats c.gather-told.ensures.jobs ran.result.2
          ran.ensures.finished o.pool.table.layout.shape c.gather-told.result c.gather-told.ensures.hashes
          c.gather-told.ensures.verdict c.close_or_abandon-closed.result c.told_or_none.result
          c.close_or_abandon-closed.ensures.ended c.close_or_abandon-closed.ensures.whole c.told_or_none.ensures.told
          c.told_or_none.ensures.closed;
      none =
          run_none left faults (record { pool = record { ref_ptr = _; now = o.pool }; queues = c.deref.result })
          c.args.options.workers c.args.options.block o c.in_ok-pool.ensures
          (record { pool = refl; queues = c.deref.ensures.value })
          c.args.source.now ran.new.source ran.result.0 ran.ensures.cutter ran.result.1.items ran.ensures.workers count
          c.gather-told.new.seats.items c.gather-told.ensures.seats c.gather-told.ensures.jobs ran.result.2
          ran.ensures.finished o.pool.table.layout.shape c.gather-told.result c.gather-told.ensures.hashes
          c.gather-told.ensures.verdict c.told_or_none.result c.told_or_none.ensures.none;
    }
