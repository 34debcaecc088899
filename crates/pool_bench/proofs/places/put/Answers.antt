use Rattle.shared_pool.specs.SeatViews.{view_of}
use Rattle.seat_work.specs.Changes.{once_more}
use Rattle.seat_work.proofs.Proceeding.{changes_then, goes_on}
use Rattle.pool_bench.proofs.HeldRoots.{holds_asked, holds_push}
use Rattle.std.proofs.Common.{arith}
use Rattle.seat_work.specs.Hands.{empty_hand}
use Rattle.pool_bench.proofs.places.put.Goals as goal

pub returns-clause-holds : goal.returns-clause-holds
returns-clause-holds g c =
    let root = c.in-Ok.root in let more = c.push_reserved.new.self.items in
    let old = view_of c.args.runner.now.seat in let mid = view_of c.allocate.new.seat in
    let new = view_of c.mark_ends-sum.new.seat in
    holds_push c.args.runner.now.roots.items more root c.push_reserved.ensures.items old new
    (changes_then (once_more root) old mid new (c.in-Ok.ensures {u = tt}).proceeds.changes
    c.mark_ends-sum.ensures.changes) c.requires.holds

pub returns-in_default-clause-holds : goal.returns-in_default-clause-holds
returns-in_default-clause-holds g c =
    holds_asked c.allocate.result (view_of c.args.runner.now.seat) (view_of c.allocate.new.seat)
    c.args.runner.now.roots.items c.allocate.ensures.proceeds.changes c.requires.holds

pub returns-clause-goes : goal.returns-clause-goes
returns-clause-goes g c =
    goes_on c.args.pool.now empty_hand empty_hand 6 0 3 0 9 0 c.args.runner.now.seat c.allocate.new.seat
    c.mark_ends-sum.new.seat c.allocate.ensures.proceeds.goes c.mark_ends-sum.ensures.goes (omega arith) (omega arith)
