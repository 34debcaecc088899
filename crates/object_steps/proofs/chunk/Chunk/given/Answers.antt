use Rattle.std.proofs.Common.{◌≡◌, sym, subst, arith}
use Rattle.std.proofs.lemmas.Grind.{common_steps}
use Rattle.size_classes.specs.Pages.{replaced, freed, given_at}
use Rattle.object_steps.specs.Runs.{AreRuns}
use Rattle.object_steps.proofs.ChunkLemmas.{freed_are_runs, given_are_runs}
use Rattle.object_steps.proofs.chunk.Chunk.given.Goals as goal

pub merge-requires : goal.merge-requires
merge-requires c =
    let old = c.self.inside.runs.items in
    let new : c.append.new.self.items ≡ replaced c.args.page freed old = grind (arith, common_steps) in
    let are : AreRuns c.append.new.self.items = subst AreRuns (sym new)
    (freed_are_runs c.args.page old c.self.invariant) in
    are.few

pub invariant_of-result : goal.invariant_of-result
invariant_of-result c =
    let old = c.self.inside.runs.items in
    let new : c.in_ok-runs.runs.items ≡ given_at c.args.page old = grind (arith, common_steps) in
    subst AreRuns (sym new) (given_are_runs c.args.page old c.self.invariant)
