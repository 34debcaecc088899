use Rattle.std.proofs.Common.{sym, subst}
use Rattle.pool_chunk.specs.ChunkStates.{ChunkState, HasIdleSubpage}
use Rattle.pool_arena.proofs.PlaceLaws.{run-used, place-chunk}
use Rattle.pool_arena.proofs.place.ChunkPlace.drop_subpage.Goals as goal

pub drop_subpage-requires : goal.drop_subpage-requires
drop_subpage-requires c =
    let p = c.self.inside in
    let v = c.args.self.now in
    let used = run-used p v c.args.page _ c.self.view_is c.requires.subpage.run in
    subst (λ (s : ChunkState). HasIdleSubpage s c.args.page) (sym (place-chunk p v c.self.view_is used)) c.requires
