use Rattle.std.proofs.Common.{◌≡◌, List, ◌++◌, Some, None, sym, ap, ◌∙◌, append-nil}
use Rattle.std.proofs.lemmas.Result.{on_ok_weaker}
use Rattle.size_classes.specs.Sizes.{Geometry}
use Rattle.pool_law.specs.declared.report.ChunkEnd.{ChunkEnd}
use Rattle.pool_law.specs.declared.note.Object.{Object}
use Rattle.pool_law.specs.Logs.{dids}
use Rattle.pool_law.specs.Arenas.{chunk_ends}
use Rattle.pool_law.specs.Histories.{arena_after}
use Rattle.object_steps.specs.Behind.{dids_behind}
use Rattle.run_check.specs.Storing.{history_in}
use Rattle.run_check.proofs.ObjectHistoryLemmas.{ends-are}
use Rattle.run_check.proofs.ending.push_arena.Goals as goal

pub returns-in-Some : goal.returns-in-Some
returns-in-Some c logs are =
    let shape = c.args.shape.now in
    let m = c.args.histories.now in
    let number = c.args.number in
    let old = c.args.ends.now.items in
    let arena = c.in-Some.arena in
    let ds = dids_behind c.deref.result.now in
    let same : ds ≡ dids (history_in m (Object.Arena number)) =
    ap dids_behind c.deref.ensures.value ∙ c.in_ok-dids.ensures ∙ ap dids c.of.ensures in
    let is : Some arena ≡ arena_after shape number ds = sym c.in-Some.is ∙ c.in_ok-arena.ensures in
    on_ok_weaker c.push_ends.result
    (λ e.
    e
    ∙ ap (λ (g : Geometry). old ++ chunk_ends g number arena) c.requires.sizes
    ∙ ap (λ (xs : List ChunkEnd). old ++ xs) (ends-are shape logs m are number ds (Some arena) same is))
    c.push_ends.ensures

pub returns : goal.returns
returns c logs are =
    let shape = c.args.shape.now in
    let m = c.args.histories.now in
    let number = c.args.number in
    let old = c.args.ends.now.items in
    let ds = dids_behind c.deref.result.now in
    let same : ds ≡ dids (history_in m (Object.Arena number)) =
    ap dids_behind c.deref.ensures.value ∙ c.in_ok-dids.ensures ∙ ap dids c.of.ensures in
    let is : None ≡ arena_after shape number ds = sym c.in-None.is ∙ c.in_ok-arena.ensures in
    sym (append-nil old) ∙ ap (λ (xs : List ChunkEnd). old ++ xs) (ends-are shape logs m are number ds None same is)
