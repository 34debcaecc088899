use Rattle.std.proofs.Common.{◌*◌, ◌^◌, ◌≤◌, arith}
use Rattle.run_words.proofs.PoolLaws.{chunk_most}
use Rattle.run_words.proofs.pools.bytes_of_chunk.Goals as goal

pub returns-clause-most : goal.returns-clause-most
returns-clause-most c =
    let bytes : c.from.result * 2 ^ c.shape-page.result.order ≤ 67108864 =
    rw (c.from.ensures, c.shape-page.ensures) (chunk_most c.args.options.now c.requires) in
    omega (arith, bytes)
