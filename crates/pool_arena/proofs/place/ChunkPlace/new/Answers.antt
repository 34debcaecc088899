use Rattle.std.proofs.Common.{◌≡◌, ◌≤◌, ◌*◌, ◌^◌, ap, sym, subst, ◌∙◌, length}
use Rattle.std.proofs.lemmas.List.{length-replicate}
use Rattle.size_classes.proofs.SmallClasses.{page-some}
use Rattle.std.proofs.Math.Nat.{mul-pos}
use lib.Pow.{pow_pos}
use Rattle.size_classes.specs.Sizes.{of_pages, IsGeometry, chunk_bytes}
use Rattle.pool_chunk.specs.ChunkStates.{geometry_on}
use Rattle.pool_arena.proofs.PlaceLaws.{ground-geometry}
use Rattle.pool_arena.proofs.place.ChunkPlace.new.Goals as goal

pub new-requires : goal.new-requires
new-requires c =
    let g = of_pages c.args.order c.args.page in
    let some = mul-pos (page-some g c.requires.page) (pow_pos c.args.order) in
    let size = ap (λ n. c.args.page * n) c.pow.ensures in
    (subst (λ n. 1 ≤ n) (sym size) some, subst (λ n. n ≤ 2 ^ 24) (sym size) c.requires.chunk)

-- the sizes of the ground
sizes : (c : goal.In_ok-piece) → geometry_on c.args.order c.in_ok-piece.piece ≡ of_pages c.args.order c.args.page
sizes c =
    ground-geometry c.args.order c.args.page (c.args.page * c.pow.result) c.in_ok-piece.piece
    (c.in_ok-piece.ensures {u = tt}).zeros (ap (λ n. c.args.page * n) c.pow.ensures)

pub new-requires-2-clause-sizes : goal.new-requires-2-clause-sizes
new-requires-2-clause-sizes c = subst IsGeometry (sym (sizes c)) c.requires

pub new-requires-2-clause-chunk : goal.new-requires-2-clause-chunk
new-requires-2-clause-chunk c =
    let made = c.in_ok-piece.ensures {u = tt} in
    let size = ap length made.zeros ∙ length-replicate (c.args.page * c.pow.result) 0
    ∙ ap (λ n. c.args.page * n) c.pow.ensures in
    (made.whole, size ∙ sym (ap chunk_bytes (sizes c)))
