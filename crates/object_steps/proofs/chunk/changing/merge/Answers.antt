-- The last of the runs that are left is joined onto those that are merged.
use Rattle.std.proofs.Common.{◌++◌, [], ◌∷◌, sym, subst}
use Rattle.size_classes.specs.Pages.{joined}
use Rattle.object_steps.proofs.ChunkLemmas.{Merges, merges-none, merges-more}
use Rattle.object_steps.proofs.chunk.changing.merge.Goals as goal

pub loop-run-init : goal.loop-run-init
loop-run-init c = rw c.new-new.ensures.items (merges-none c.args.runs.items c.requires)

pub join-requires : goal.join-requires
join-requires c =
    let runs = c.args.runs.items in
    let new = c.loop-run.new.items in
    let left = c.pop_back.new.self.items in
    let r = c.in-Some.run' in
    let m : Merges runs (left ++ r ∷ []) new = subst (λ xs. Merges runs xs new) c.in-Some.ensures.items
    c.loop-run.invariant in
    (merges-more runs left new r m).0

pub loop-run-preserved : goal.loop-run-preserved
loop-run-preserved c =
    let runs = c.args.runs.items in
    let new = c.loop-run.new.items in
    let left = c.pop_back.new.self.items in
    let r = c.in-Some.run' in
    let m : Merges runs (left ++ r ∷ []) new = subst (λ xs. Merges runs xs new) c.in-Some.ensures.items
    c.loop-run.invariant in
    let next : Merges runs left (joined r new) = (merges-more runs left new r m).1 in
    subst (Merges runs left) (sym c.in_ok-join.ensures) next
