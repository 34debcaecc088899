use Rattle.std.proofs.Common.{◌≡◌, true, List, length, sym, ap, ◌∙◌, subst, arith}
use Rattle.std.specs.Prelude.{All, ◌==◌}
use Rattle.leak_records.specs.declared.live.LiveRoot.{LiveRoot}
use Rattle.shared_pool.specs.declared.pool.SharedPool.{SharedPool}
use Rattle.shared_pool.specs.declared.seat.PoolSeat.{PoolSeat}
use Rattle.shared_pool.specs.Seats.{IsPoolSeat}
use Rattle.share_run.proofs.CloseLaws.{spent_done, spent_seats}
use Rattle.share_run.proofs.LiveLaws.{none_live}
use Rattle.share_run.proofs.closing.close.Goals as goal

pub close-requires : goal.close-requires
close-requires g c =
    let many : length c.args.seats.items ≡ c.args.pool.table.layout.shape.lanes =
    (let a = c.requires.many in let b = c.args.seats.ok.0 in omega (arith, a, b)) in
    record { seats = spent_done c.args.pool c.args.seats.items many c.requires.seats }

pub prove-unreachable-requires : goal.prove-unreachable-requires
prove-unreachable-requires g c =
    let pool = c.args.pool in let e = c.in-Ok.ensures in
    let none = none_live pool pool.table.layout.shape c.args.seats.items c.requires.seats e.whole c.in-Ok.end.live
    e.live in
    let empty : c.is_empty-none_live.result ≡ true =
    c.is_empty-none_live.ensures ∙ ap (λ (xs : List LiveRoot). length xs == 0) (c.items.ensures ∙ none) in
    cc (sym empty ∙ c.if-prove.true)

pub abandon-requires : goal.abandon-requires
abandon-requires g c =
    let e = c.in-Err.ensures.err in
    record {
      seats =
          subst (λ (x : SharedPool × List PoolSeat). All (IsPoolSeat x.0) x.1) (λ i. (sym e.0 i, sym e.1 i))
          (spent_seats c.args.pool c.args.seats.items c.requires.seats);
    }
