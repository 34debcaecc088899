use Rattle.std.proofs.Common.{◌≡◌, ◌<◌, ℕ, ◌+◌, Bool, false, ⊎_elim, length, Some, arith, sym, ap, ◌∙◌, subst}
use Rattle.std.specs.Prelude.{slice_get}
use Rattle.std.proofs.lemmas.Grind.{common_steps}
use Rattle.shared_pool.specs.Seats.{IsPoolSeat}
use Rattle.lane_core.specs.declared.lane.Lane.{Lane}
use Rattle.shared_pool.specs.SeatLanes.{lane_of}
use Rattle.trace_top.specs.Standing.{RunsLane}
use Rattle.work_table.proofs.Places.{removed, left_next, get_drop, pushed}
use Rattle.trace_top.proofs.Runs.{are_lanes, seats_are}
use Rattle.trace_top.proofs.lanes.all_lanes.Goals as goal

pub returns-in_default-clause-err : goal.returns-in_default-clause-err
returns-in_default-clause-err c =
    seats_are _ _ _ _ (sym c.args.seats.ok.0 ∙ c.requires.count ∙ c.args.trace.ok.0) c.requires.ready

pub new-requires-clause-commands : goal.new-requires-clause-commands
new-requires-clause-commands c =
    let inv = c.loop-i.invariant in
    let n = c.loop-i._i in
    let trace = c.args.trace.items in
    let seats = c.args.seats.items in
    let in_trace : n < length trace =
    grind (arith, common_steps, c.loop-i-test.true, c.len-count.ensures, c.args.trace.ok.0) in
    let in_seats : n < length seats =
    grind (
      arith,
      common_steps,
      inv.seats_len,
      c.loop-i-test.true,
      c.len-count.ensures,
      c.requires.count,
      c.args.seats.ok.0,
    ) in
    let its =
    removed trace n c.loop-i.trace.items c.remove-commands.result inv.trace in_trace c.remove-commands.ensures.value in
    let mine =
    removed seats n c.loop-i.seats.items c.remove-seat.result inv.seats in_seats c.remove-seat.ensures.value in
    (c.requires.ready n c.remove-commands.result c.remove-seat.result its mine).commands_are

pub new-requires-clause-seat : goal.new-requires-clause-seat
new-requires-clause-seat c =
    let inv = c.loop-i.invariant in
    let n = c.loop-i._i in
    let trace = c.args.trace.items in
    let seats = c.args.seats.items in
    let in_trace : n < length trace =
    grind (arith, common_steps, c.loop-i-test.true, c.len-count.ensures, c.args.trace.ok.0) in
    let in_seats : n < length seats =
    grind (
      arith,
      common_steps,
      inv.seats_len,
      c.loop-i-test.true,
      c.len-count.ensures,
      c.requires.count,
      c.args.seats.ok.0,
    ) in
    let its =
    removed trace n c.loop-i.trace.items c.remove-commands.result inv.trace in_trace c.remove-commands.ensures.value in
    let mine =
    removed seats n c.loop-i.seats.items c.remove-seat.result inv.seats in_seats c.remove-seat.ensures.value in
    (c.args.pool.now, (c.requires.ready n c.remove-commands.result c.remove-seat.result its mine).seat_is)

pub given_back-requires-clause-seats : goal.given_back-requires-clause-seats
given_back-requires-clause-seats c i s e =
    let inv = c.loop-i.invariant in
    let n = c.loop-i._i in
    let all = c.args.seats.items in
    let in_range : n < length all =
    grind (
      arith,
      common_steps,
      inv.seats_len,
      c.loop-i-test.true,
      c.len-count.ensures,
      c.requires.count,
      c.args.seats.ok.0,
    ) in
    let seats =
    seats_are c.args.trace.items c.args.shape.now c.args.pool.now all
    (sym c.args.seats.ok.0 ∙ c.requires.count ∙ c.args.trace.ok.0) c.requires.ready in
    let left = c.remove-seat.ensures.by_index.2 ∙ left_next all n c.loop-i.seats.items inv.seats in
    let back : c.in-Err.seat ≡ c.remove-seat.result = ap (λ p. p.1) c.in-Err.ensures.err in
    let mine =
    seats n c.remove-seat.result
    (removed all n c.loop-i.seats.items c.remove-seat.result inv.seats in_range c.remove-seat.ensures.value) in
    ⊎_elim
    (λ (rest : slice_get c.remove-seat.new.self.items i ≡ Some s).
    let r = get_drop all (n + 1) i s (ap (λ l. slice_get l i) (sym left) ∙ rest) in
    seats r.0 s r.1)
    (λ (h : (i ≡ length c.remove-seat.new.self.items) × (c.in-Err.seat ≡ s)). subst (IsPoolSeat c.args.pool.now)
    (sym back ∙ h.1) mine)
    (pushed c.remove-seat.new.self.items c.in-Err.seat i s
    (ap (λ l. slice_get l i) (sym c.push_reserved-in-Err.ensures.items) ∙ e))

pub given_back-requires-clause-lanes : goal.given_back-requires-clause-lanes
given_back-requires-clause-lanes c =
    are_lanes c.args.trace.items (λ lane line. false) c.args.pool.now c.loop-i.lanes.items
    (c.loop-i.invariant.made (λ lane line. false))

pub loop-i-preserved : goal.loop-i-preserved
loop-i-preserved c =
    let inv = c.loop-i.invariant in
    let n = c.loop-i._i in
    let trace = c.args.trace.items in
    let seats = c.args.seats.items in
    let pool = c.args.pool.now in
    let lane = c.in-Ok-new.lane in
    let in_trace : n < length trace =
    grind (arith, common_steps, c.loop-i-test.true, c.len-count.ensures, c.args.trace.ok.0) in
    let in_seats : n < length seats =
    grind (
      arith,
      common_steps,
      inv.seats_len,
      c.loop-i-test.true,
      c.len-count.ensures,
      c.requires.count,
      c.args.seats.ok.0,
    ) in
    let its =
    removed trace n c.loop-i.trace.items c.remove-commands.result inv.trace in_trace c.remove-commands.ensures.value in
    let mine =
    removed seats n c.loop-i.seats.items c.remove-seat.result inv.seats in_seats c.remove-seat.ensures.value in
    let ready = c.requires.ready n c.remove-commands.result c.remove-seat.result its mine in
    let runs : (stops : ℕ → ℕ → Bool) → RunsLane trace stops pool n lane = λ stops. record {
      number = ap lane_of c.in-Ok-new.ensures.seat ∙ ready.number;
      lane = c.in-Ok-new.ensures.lane pool ready.seat_is;
      commands = its ∙ ap Some (sym c.in-Ok-new.ensures.commands);
      heeds = c.in-Ok-new.ensures.fresh (stops n);
    } in
    record {
      trace = c.remove-commands.ensures.by_index.2 ∙ left_next trace n c.loop-i.trace.items inv.trace;
      trace_len = grind (arith, common_steps, c.remove-commands.ensures.len, inv.trace_len);
      seats = c.remove-seat.ensures.by_index.2 ∙ left_next seats n c.loop-i.seats.items inv.seats;
      seats_len = grind (arith, common_steps, c.remove-seat.ensures.len, inv.seats_len);
      seats_room = c.remove-seat.ensures.capacity ∙ inv.seats_room;
      lanes_len = grind (arith, common_steps, c.push_reserved.ensures.len, inv.lanes_len);
      lanes_room = grind (arith, common_steps, c.push_reserved.ensures.capacity, inv.lanes_room);
      made = λ stops i l e. ⊎_elim
          (λ (before : slice_get c.loop-i.lanes.items i ≡ Some l). inv.made stops i l before)
          (λ (h : (i ≡ length c.loop-i.lanes.items) × (lane ≡ l)).
          let place : n ≡ i = sym (h.0 ∙ sym c.loop-i.lanes.ok.0 ∙ inv.lanes_len) in
          subst (λ (p : ℕ × Lane). RunsLane trace stops pool p.0 p.1) (λ k. (place k, h.1 k)) (runs stops))
          (pushed c.loop-i.lanes.items lane i l (ap (λ ls. slice_get ls i) (sym c.push_reserved.ensures.items) ∙ e));
    }
