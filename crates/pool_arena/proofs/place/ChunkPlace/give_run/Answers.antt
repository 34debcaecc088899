use Rattle.std.proofs.Common.{sym, subst}
use Rattle.size_classes.specs.Pages.{given_at}
use Rattle.pool_chunk.specs.ChunkStates.{ChunkState, IsRunOut}
use Rattle.pool_arena.proofs.PlaceLaws.{run-used, place-chunk, place-changed}
use Rattle.pool_arena.proofs.place.ChunkPlace.give_run.Goals as goal

pub give_run-requires : goal.give_run-requires
give_run-requires c =
    let p = c.self.inside in
    let v = c.args.self.now in
    let used = run-used p v c.args.page _ c.self.view_is c.requires.run in
    subst (λ (s : ChunkState). IsRunOut s c.args.page c.args.piece)
    (sym (place-chunk p v c.self.view_is used)) c.requires

pub returns : goal.returns
returns c =
    let p = c.self.inside in
    let v = c.args.self.now in
    let used = run-used p v c.args.page _ c.self.view_is c.requires.run in
    place-changed p v c.give_run.new.self (λ runs. given_at c.args.page runs) c.self.view_is used c.give_run.ensures
