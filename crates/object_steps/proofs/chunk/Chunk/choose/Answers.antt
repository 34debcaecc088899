-- What is chosen for so many pages is chosen for the pages that they stand for, and has room.
use Rattle.std.proofs.Common.{◌∙◌, ap}
use Rattle.std.specs.Prelude.{option_map}
use Rattle.std.proofs.lemmas.Result.{IfOk-weaker}
use Rattle.object_steps.proofs.ChunkLemmas.{chosen-capped, if_room}
use Rattle.object_steps.proofs.chunk.Chunk.choose.Goals as goal

pub returns-clause-page : goal.returns-clause-page
returns-clause-page c wanted capped =
    IfOk-weaker c.choose_exactly.result _ _
    (λ page e. e ∙ ap (option_map (λ run. run.0))
    (chosen-capped c.args.sizes.now wanted c.args.pages c.args.self.now c.choose_exactly.ensures.runs capped))
    c.choose_exactly.ensures.page

pub returns-clause-room : goal.returns-clause-room
returns-clause-room c =
    IfOk-weaker c.choose_exactly.result _ _
    (λ page e. if_room c.args.sizes.now c.args.pages c.args.self.now c.choose_exactly.ensures.runs c.requires page e)
    c.choose_exactly.ensures.page
