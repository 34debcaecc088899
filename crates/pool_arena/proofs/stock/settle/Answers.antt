use Rattle.std.proofs.Common.{ap, ◌∙◌, sym, Some}
use Rattle.pool_law.specs.ChunkLists.{list_of}
use Rattle.chunk_list.specs.Settling.{goes_to, answer_of}
use Rattle.pool_arena.specs.Places.{runs_of}
use Rattle.pool_arena.proofs.UsageLaws.{some-runs, destroyed-free}
use Rattle.pool_arena.proofs.stock.settle.Goals as goal

pub end-requires : goal.end-requires
end-requires c =
    let v = c.args.place.now in
    let l = list_of c.args.lists.now.lists c.args.chunk in
    some-runs v.chunk c.requires.used
    ∙ ap Some (destroyed-free v.geometry (runs_of v) l c.usage.ensures.chunk c.requires.listed
    (ap (λ n. answer_of (goes_to n l)) (sym c.usage.ensures.usage) ∙ sym c.moved.ensures.settled ∙ c.in-Destroyed.is))
