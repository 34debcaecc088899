use Rattle.std.proofs.Common.{◌∙◌, ap, subst, arith}
use Rattle.pool_law.specs.declared.id.RootId.{RootId}
use Rattle.pool_table.specs.Counts.{HasToken}
use Rattle.shared_pool.specs.SeatViews.{view_of}
use Rattle.seat_work.specs.Hands.{empty_hand}
use Rattle.seat_work.proofs.Calls.{released_kept, released_last}
use Rattle.seat_work.proofs.Counting.{one_self}
use Rattle.seat_work.proofs.Knowing.{knows_on}
use Rattle.seat_work.proofs.Proceeding.{works_after}
use Rattle.pool_bench.proofs.retained.retain_once.Goals as goal

-- the seat counts the root twice, so the release isn't the last
pub unreachable-requires : goal.unreachable-requires
unreachable-requires c =
    let pool = c.args.pool.now in let root = c.args.root in let mid = c.retain.new.seat in
    let new = c.release.new.seat in
    let is = c.release.ensures.seat in let did = c.in-Ended.ensures.did in
    let works = works_after pool empty_hand empty_hand 0 1 0 1 0 0 c.args.seat.now mid c.requires.works
    c.retain.ensures.proceeds.goes (omega arith) (omega arith) in
    let a = c.retain.ensures.proceeds.changes.counts root in
    let b = (released_last pool mid new is root 0 0 works c.retain.ensures.counts did.2).changes.counts root in
    let one = one_self root in
    is.counts.ended root (subst (λ (r : RootId). HasToken r (view_of new)) did.0 did.1.token_is)
    (omega (arith, a, b, one, c.requires.counts))

pub returns-clause-goes : goal.returns-clause-goes
returns-clause-goes c =
    let pool = c.args.pool.now in let mid = c.retain.new.seat in let new = c.release.new.seat in
    let first = c.retain.ensures.proceeds.goes in
    let works = works_after pool empty_hand empty_hand 0 1 0 1 0 0 c.args.seat.now mid c.requires.works first
    (omega arith) (omega arith) in
    let last = (released_kept pool mid new c.release.ensures.seat c.args.root 0 0 works c.retain.ensures.counts
    c.in-Kept.ensures.did).goes in
    let back = ap (λ m. m.0.moves) c.in-Kept.ensures.did in
    record {
      seat = last.seat;
      held = last.held;
      paid = last.paid;
      turns_left = omega (arith, first.turns_left, last.turns_left);
      moves_left = omega (arith, first.moves_left, back);
      number = last.number ∙ first.number;
      knows = knows_on (view_of c.args.seat.now) (view_of mid) (view_of new) first.knows last.knows;
    }

pub returns-clause-counts : goal.returns-clause-counts
returns-clause-counts c =
    let pool = c.args.pool.now in let root = c.args.root in let mid = c.retain.new.seat in
    let new = c.release.new.seat in
    let works = works_after pool empty_hand empty_hand 0 1 0 1 0 0 c.args.seat.now mid c.requires.works
    c.retain.ensures.proceeds.goes (omega arith) (omega arith) in
    let a = c.retain.ensures.proceeds.changes.counts root in
    let b = (released_kept pool mid new c.release.ensures.seat root 0 0 works c.retain.ensures.counts
    c.in-Kept.ensures.did).changes.counts root in
    let one = one_self root in omega (arith, a, b, one, c.requires.counts)
