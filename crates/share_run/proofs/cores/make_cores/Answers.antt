use Rattle.std.proofs.Common.{ℕ, ◌+◌, List, [], get_or, sym, ◌∙◌, subst, arith}
use Rattle.std.specs.Prelude.{All}
use Rattle.std.proofs.lemmas.List.Elements.{All-push}
use Rattle.shared_pool.specs.declared.seat.PoolSeat.{PoolSeat}
use Rattle.shared_pool.specs.Seats.{IsPoolSeat}
use Rattle.shared_composite.specs.declared.cores.Core.{Core}
use Rattle.share_run.specs.Standing.{AreFresh, IsFilled}
use Rattle.share_run.proofs.BoardLaws.{CoresTo, core_of, fresh_dropped, fresh_first, fresh_seats, on_err, cores_more, cores_seats}
use Rattle.share_run.proofs.PartLaws.{get_same}
use Rattle.share_run.proofs.cores.make_cores.Goals as goal

pub returns-in_err-cores-clause-err : goal.returns-in_err-cores-clause-err
returns-in_err-cores-clause-err g c =
    on_err c.from_residual.result (All (IsPoolSeat c.args.pool.now) c.args.seats.now.items)
    (fresh_seats c.args.pool.now 0 c.args.seats.now.items c.requires.fresh)

pub fill-requires-clause-fresh : goal.fill-requires-clause-fresh
fill-requires-clause-fresh g c =
    let l = c.loop-lane in
    fresh_first c.args.pool.now l.lane l.seats.items c.remove-seat.result l.invariant.fresh
    (let a = l.invariant.left in let b = c.loop-lane-test.true in let d = l.seats.ok.0 in omega (arith, a, b, d))
    c.remove-seat.ensures.value

pub returns-in-None-clause-err : goal.returns-in-None-clause-err
returns-in-None-clause-err g c =
    let l = c.loop-lane in let pool = c.args.pool.now in
    let rest = subst (AreFresh pool (l.lane + 1)) (sym c.remove-seat.ensures.by_index.2)
    (fresh_dropped pool l.lane l.seats.items l.invariant.fresh) in
    c.give_up.ensures.all pool
    (subst (λ (ss : List PoolSeat). All (IsPoolSeat pool) ss) (sym c.push_reserved-in-None.ensures.items)
    (All-push (IsPoolSeat pool) c.remove-seat.new.self.items c.fill.new.seat
    (fresh_seats pool (l.lane + 1) c.remove-seat.new.self.items rest) c.fill.ensures.seat))
    (cores_seats pool c.args.composites.now l.lane l.cores.items l.invariant.all_cores)

pub loop-lane-preserved : goal.loop-lane-preserved
loop-lane-preserved g c =
    let l = c.loop-lane in let inv = l.invariant in let pool = c.args.pool.now in
    let composites = c.args.composites.now in let e = c.push_reserved.ensures in let r = c.remove-seat.ensures in
    let inputs = c.items.ensures ∙ c.index-composites-lane.is
    ∙ get_same composites l.lane c.index-composites-lane.result [] c.loop-lane-test.true in
    let filled = subst (λ (xs : List (List ℕ)). IsFilled pool l.lane xs c.in-Some.parts c.fill.new.seat) inputs
    c.in-Some.ensures.filled in
    let one = core_of pool l.lane (get_or composites l.lane []) c.in-Some.parts c.fill.new.seat c.new.result filled
    (c.new.ensures.core pool) c.new.ensures.seat c.new.ensures.parts in
    record {
      fresh =
          subst (AreFresh pool (l.lane + 1)) (sym r.by_index.2)
          (fresh_dropped pool l.lane l.seats.items inv.fresh);
      left = (let a = inv.left in let b = r.len in omega (arith, a, b));
      all_cores =
          subst (λ (cs : List Core). CoresTo pool composites (l.lane + 1) cs) (sym e.items)
          (cores_more pool composites l.lane l.cores.items c.new.result inv.all_cores one);
      room = (let a = inv.room in let b = e.capacity in omega (arith, a, b));
      capacity = r.capacity ∙ inv.capacity;
      enough = (let a = inv.enough in let b = r.capacity in omega (arith, a, b));
    }
