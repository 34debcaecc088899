use Rattle.std.proofs.Common.{◌≤◌, Fits-le, Fits-lit}
use Rattle.run_words.proofs.PoolLaws.{all_most, arenas_most, chunks_most}
use Rattle.run_words.proofs.pools.all_chunk_bytes.Goals as goal

pub overflow_mul-result-2 : goal.overflow_mul-result-2
overflow_mul-result-2 c =
    let o = c.args.options.now in
    let arenas : c.from.result ≤ 8 = rw (c.from.ensures, c.shape-arenas.ensures) (arenas_most o c.requires) in
    let chunks : c.from-2.result ≤ 8 = rw (c.from-2.ensures, c.shape-arenas.ensures) (chunks_most o c.requires) in
    Fits-le (all_most _ _ _ arenas chunks c.bytes_of_chunk.ensures.most) (Fits-lit tt)
