use Rattle.std.proofs.Common.{◌≡◌, [], ◌∷◌, sym, subst, arith}
use Rattle.std.proofs.lemmas.Grind.{common_steps}
use Rattle.size_classes.specs.Pages.{Run, replaced}
use Rattle.pool_law.specs.Chunks.{Use, Chunk}
use Rattle.object_steps.specs.Elementwise.{with_element_back}
use Rattle.object_steps.specs.Runs.{AreRuns}
use Rattle.object_steps.proofs.ChunkLemmas.{one_are_runs, back-pages}
use Rattle.object_steps.proofs.chunk.Chunk.taken_back.Goals as goal

pub invariant_of-result : goal.invariant_of-result
invariant_of-result c =
    let old = c.self.inside.runs.items in
    let by : Run Use → Chunk = λ r. with_element_back c.args.element r ∷ [] in
    let new : c.append.new.self.items ≡ replaced c.args.page by old = grind (arith, common_steps) in
    subst AreRuns (sym new)
    (one_are_runs (with_element_back c.args.element) (back-pages c.args.element) c.args.page old c.self.invariant)
