use Rattle.std.proofs.Common.{ap, sym, subst, refl, ◌∙◌, arith}
use Rattle.std.proofs.lemmas.List.{get_or-set_other}
use Rattle.std.proofs.Math.Seq.{map-set_same}
use Rattle.shared_pool.specs.declared.seat.PoolSeat.{PoolSeat}
use Rattle.shared_pool.specs.Joining.{AreFetchesOf}
use Rattle.shared_pool.proofs.JoinedParts.{as_many}
use Rattle.shared_pool.proofs.closing.empty_mails.Goals as goal

pub loop-lane-init : goal.loop-lane-init
loop-lane-init g c = record { same = refl; ends = λ k _ lt. c.requires.ends k lt }

pub index_mut-requires : goal.index_mut-requires
index_mut-requires g c =
    let many = as_many c.loop-lane.seats.items c.args.seats.now.items c.loop-lane.invariant.same in
    let all = c.requires.many.1 in let lt = c.loop-lane-test.true in omega (arith, many, all, lt)

pub empty_all-requires-clause-ends : goal.empty_all-requires-clause-ends
empty_all-requires-clause-ends g c =
    subst (λ (s : PoolSeat). AreFetchesOf c.args.mails.now c.args.lanes c.loop-lane.lane s.fetches.items)
    (sym c.index_mut.ensures.value) (c.loop-lane.invariant.ends c.loop-lane.lane (omega arith) c.loop-lane-test.true _)

pub loop-lane-preserved : goal.loop-lane-preserved
loop-lane-preserved g c =
    let seats = c.loop-lane.seats.items in let lane = c.loop-lane.lane in let inv = c.loop-lane.invariant in
    record {
      same =
          map-set_same (λ (s : PoolSeat). s.seat) seats lane _ _
          (ap (λ (s : PoolSeat). s.seat) c.index_mut.ensures.value) ∙ inv.same;
      ends = λ k le lt d.
          subst (λ (s : PoolSeat). AreFetchesOf c.args.mails.now c.args.lanes k s.fetches.items)
          (sym (get_or-set_other seats lane k _ d (λ e. omega (arith, e, le))))
          (inv.ends k (omega (arith, le)) lt d);
    }
