use Rattle.std.proofs.Common.{◌≡◌, sym, subst, arith}
use Rattle.std.proofs.lemmas.Grind.{common_steps}
use Rattle.size_classes.specs.Pages.{taken_at}
use Rattle.object_steps.specs.Runs.{use_of, AreRuns, HasRoom}
use Rattle.object_steps.proofs.ChunkLemmas.{taken_are_runs}
use Rattle.object_steps.proofs.chunk.Chunk.taken.Goals as goal

pub invariant_of-result : goal.invariant_of-result
invariant_of-result c =
    let old = c.self.inside.runs.items in
    let new : c.append.new.self.items ≡ taken_at c.args.page c.args.pages (use_of c.args.what) old =
    grind (arith, common_steps) in
    subst AreRuns (sym new)
    (taken_are_runs c.args.page c.args.pages (use_of c.args.what) old
    (subst (HasRoom c.args.page c.args.pages) (sym c.self.view_is) c.requires) c.self.invariant)
