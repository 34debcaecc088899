use Rattle.std.proofs.Common.{◌+◌, refl, sym, subst}
use Rattle.pool_law.specs.declared.note.RefDid.TheVariants.{Ended, Kept}
use Rattle.pool_table.specs.Counts.{HasToken}
use Rattle.pool_table.specs.Hands.{HasNoEnd}
use Rattle.pool_table.specs.Seats.{view_of}
use Rattle.shared_pool.proofs.SeatEnds.{seat_stepped}
use Rattle.shared_pool.proofs.pool.SharedPool.release.Goals as goal

pub returns-in-Ended-clause-did : goal.returns-in-Ended-clause-did
returns-in-Ended-clause-did c =
    let n = c.in-Ended.ensures.noted in
    let v = view_of c.release.new.seat in (
      n.0,
      record { token_is = subst (λ r. HasToken r v) (sym n.0) n.2; no_end = subst (λ r. HasNoEnd r v) (sym n.0) n.3 },
      λ i. (n.1 i, c.in-Ended.ensures.outside.1 i),
    )

pub returns-in-Ended-clause-seat : goal.returns-in-Ended-clause-seat
returns-in-Ended-clause-seat c =
    let did = returns-in-Ended-clause-did c in
    seat_stepped c.args.self.now c.args.seat.now (record c.args.seat.now { seat = c.release.new.seat }) c.args.root
    Ended
    (view_of c.args.seat.now.seat).moves c.requires.seat c.in-Ended.ensures.same refl refl did.2
    c.in-Ended.ensures.counts

pub returns-in-Kept-clause-seat : goal.returns-in-Kept-clause-seat
returns-in-Kept-clause-seat c =
    let got = c.in-Kept.ensures in
    seat_stepped c.args.self.now c.args.seat.now (record c.args.seat.now { seat = c.release.new.seat }) c.args.root Kept
    ((view_of c.args.seat.now.seat).moves + 1) c.requires.seat got.same refl refl
    (λ i. (got.noted i, got.outside.1 i)) got.counts
