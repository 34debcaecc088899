use Rattle.std.proofs.Common.{◌≡◌, ⊎_elim, length, Some, arith, sym, ap, ◌∙◌, subst}
use Rattle.std.specs.Prelude.{slice_get}
use Rattle.std.proofs.lemmas.Grind.{common_steps}
use Rattle.shared_pool.specs.Seats.{IsPoolSeat}
use Rattle.lane_core.proofs.EitherLane.{lane_context}
use Rattle.work_table.proofs.Places.{pushed, pushed_before, pushed_last}
use Rattle.trace_top.proofs.lanes.given_back.Goals as goal

pub loop-lane-preserved : goal.loop-lane-preserved
loop-lane-preserved c =
    let inv = c.loop-lane.invariant in
    let left = c.pop.new.self.items in
    let lane = c.in-Some.lane in
    let were = c.in-Some.ensures.items in
    let here = inv.lanes (length left) lane (ap (λ l. slice_get l (length left)) were ∙ pushed_last left lane) in
    let mine = subst (IsPoolSeat c.args.pool.now) (sym c.abandon.ensures)
    (lane_context c.args.pool.now lane here).seat in
    record {
      count = grind (arith, common_steps, c.in-Some.ensures.cases, c.push_reserved.ensures.len, inv.count);
      room = c.push_reserved.ensures.capacity ∙ inv.room;
      lanes = λ i l e. inv.lanes i l (ap (λ xs. slice_get xs i) were ∙ pushed_before left lane i l e);
      seats = λ i s e. ⊎_elim
          (λ (rest : slice_get c.loop-lane.seats.items i ≡ Some s). inv.seats i s rest)
          (λ (h : (i ≡ length c.loop-lane.seats.items) × (c.abandon.result ≡ s)). subst (IsPoolSeat c.args.pool.now) h.1
          mine)
          (pushed c.loop-lane.seats.items c.abandon.result i s
          (ap (λ l. slice_get l i) (sym c.push_reserved.ensures.items) ∙ e));
    }
