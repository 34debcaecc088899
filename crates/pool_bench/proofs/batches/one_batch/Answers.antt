use Rattle.std.proofs.Common.{◌*◌, vec_len, arith}
use Rattle.seat_work.specs.Hands.{empty_hand}
use Rattle.seat_work.proofs.Proceeding.{goes_on}
use Rattle.pool_bench.proofs.batches.one_batch.Goals as goal

pub returns : goal.returns
returns g c =
    let fill = c.fill-refused in let roots = fill.new.runner.roots in let few = fill.ensures.few in record {
      goes =
          goes_on c.args.pool.now empty_hand empty_hand (6 * 512) 0 (4 * vec_len roots) 0 5120 512
          c.args.runner.now.seat fill.new.runner.seat c.release_all.new.runner.seat fill.ensures.goes
          c.release_all.ensures.goes (omega (arith, few)) (omega arith);
    }
