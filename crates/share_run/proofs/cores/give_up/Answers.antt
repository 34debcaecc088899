use Rattle.std.proofs.Common.{List, sym, subst, arith}
use Rattle.std.specs.Prelude.{All}
use Rattle.std.proofs.lemmas.List.Elements.{All-push}
use Rattle.shared_pool.specs.declared.seat.PoolSeat.{PoolSeat}
use Rattle.shared_pool.specs.Seats.{IsPoolSeat}
use Rattle.shared_composite.specs.declared.cores.Core.{Core}
use Rattle.share_run.proofs.ListSteps.{all_front, all_last}
use Rattle.share_run.proofs.cores.give_up.Goals as goal

pub loop-core-preserved : goal.loop-core-preserved
loop-core-preserved c =
    let inv = c.loop-core.invariant in let e = c.push_reserved.ensures in let p = c.in-Some.ensures in
    record {
      all = λ pool a b.
          (let x = inv.all pool a b in
          let ys = subst (λ (cs : List Core). All (λ (y : Core). IsPoolSeat pool y.seat) cs) p.items x.1 in
          let one = all_last (λ (y : Core). IsPoolSeat pool y.seat) c.pop.new.self.items c.in-Some.core ys in (
            subst (λ (ss : List PoolSeat). All (IsPoolSeat pool) ss) (sym e.items)
                (All-push (IsPoolSeat pool) c.loop-core.seats.items c.leave.result x.0
                (subst (IsPoolSeat pool) (sym c.leave.ensures) one)),
            all_front (λ (y : Core). IsPoolSeat pool y.seat) c.pop.new.self.items c.in-Some.core ys,
          ));
      room = (let a = e.len in let b = p.len in let d = inv.room in let f = e.capacity in omega (arith, a, b, d, f));
      capacity = (let a = e.capacity in let b = inv.capacity in omega (arith, a, b));
    }
