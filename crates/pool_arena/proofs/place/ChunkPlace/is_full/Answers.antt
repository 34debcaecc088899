use Rattle.std.proofs.Common.{◌≡◌, subst}
use Rattle.pool_chunk.specs.ChunkStates.{ChunkState, HasSubpage}
use Rattle.pool_arena.proofs.PlaceLaws.{run-used, place-chunk}
use Rattle.size_classes.specs.Elements.{is_full}
use Rattle.pool_arena.proofs.place.ChunkPlace.is_full.Goals as goal

pub returns : goal.returns
returns c =
    let p = c.self.inside in
    let v = c.args.self.now in
    let used = run-used p v c.args.page _ c.self.view_is c.requires.run in
    subst (λ (s : ChunkState). (sub : HasSubpage s c.args.page) → c.is_full_subpage.result ≡ is_full sub.elements)
    (place-chunk p v c.self.view_is used) c.is_full_subpage.ensures
