use Rattle.std.proofs.Common.{◌<◌, subst, arith, ap}
use Rattle.std.proofs.lemmas.List.{length-append}
use Rattle.std.specs.Prelude.{length}
use Rattle.pool_law.specs.Arenas.{listed}
use Rattle.shared_pool.proofs.LastChunks.{one_more, listed_most}
use Rattle.shared_pool.proofs.last_chunks.add_arena.Goals as goal

pub loop-chunk-preserved : goal.loop-chunk-preserved
loop-chunk-preserved c =
    let a = c.args.arena.now in let i = c.loop-chunk.chunk in
    let below : i < length a.chunks =
    (let lt = c.loop-chunk-test.true in let e = c.requires.chunks in subst (λ n. i < n) e lt) in
    let added = c.add.ensures.added in
    let many = ap (λ xs. length xs) added in let more =
    length-append c.loop-chunk.ends.items (listed c.chunk_now.result (λ x. x)) in let one =
    listed_most c.chunk_now.result in
    let most = c.loop-chunk.invariant.most in let old = c.loop-chunk.invariant.capacity in let new =
    c.add.ensures.capacity in
    record {
      items =
          one_more a i c.loop-chunk.ends.items c.add.new.items.items _ c.chunk_now.result below added
          c.chunk_now.ensures c.loop-chunk.invariant.items;
      most = omega (arith, many, more, one, most);
      capacity = omega (arith, old, new);
    }
