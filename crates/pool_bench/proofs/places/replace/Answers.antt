use Rattle.std.proofs.Common.{◌+◌, ◌-◌, ◌*◌, vec_len, arith}
use Rattle.seat_work.specs.Hands.{empty_hand}
use Rattle.seat_work.proofs.Proceeding.{goes_on}
use Rattle.pool_bench.proofs.places.replace.Goals as goal

pub returns-clause-goes : goal.returns-clause-goes
returns-clause-goes g c =
    let old = c.args.runner.now in let mid = c.empty.new.runner in let new = c.put.new.runner in
    let less = c.empty.ensures.none_more in let more = c.put.ensures.one_more in
    goes_on c.args.pool.now empty_hand empty_hand (4 * (vec_len old.roots - vec_len mid.roots)) 0 9 0
    (13 + 4 * vec_len old.roots - 4 * vec_len new.roots) 0 old.seat mid.seat new.seat c.empty.ensures.goes
    c.put.ensures.goes (omega (arith, less, more)) (omega arith)
