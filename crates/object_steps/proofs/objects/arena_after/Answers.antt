use Rattle.std.proofs.Common.{rules, ◌<◌, length, Some, None, sym, ap, ◌∙◌}
use Rattle.pool_law.specs.Histories.{after}
use Rattle.size_classes.specs.Sizes.{Geometry}
use Rattle.pool_law.specs.Arenas.{arena_step, new_arena}
use Rattle.object_steps.specs.Behind.{dids_behind}
use Rattle.object_steps.proofs.AfterLemmas.{after-one, after-all}
use Rattle.object_steps.proofs.objects.arena_after.Goals as goal

pub returns-in-None : goal.returns-in-None
returns-in-None c =
    let dids = c.args.dids.now in
    let i = c.loop-did.did-index in
    let there : i < length dids = search rules in
    sym
    (after-one (arena_step c.args.sizes.now c.args.number) dids i c.loop-did.arena c.did-item.result there c.did-item.is
    None
    (sym c.in-None.is ∙ c.in_ok-next.ensures))
    ∙ c.loop-did.invariant
    ∙ ap (λ s. after (arena_step c.args.sizes.now c.args.number) s (dids_behind dids)) c.in_ok-arena.ensures
    ∙ ap
    (λ (g : Geometry). after (arena_step g c.args.number) (new_arena g c.args.shape.now.chunks) (dids_behind dids))
    c.requires.sizes

pub loop-did-preserved : goal.loop-did-preserved
loop-did-preserved c =
    let dids = c.args.dids.now in
    let i = c.loop-did.did-index in
    let there : i < length dids = search rules in
    sym
    (after-one (arena_step c.args.sizes.now c.args.number) dids i c.loop-did.arena c.did-item.result there c.did-item.is
    (Some c.in-Some.next)
    (sym c.in-Some.is ∙ c.in_ok-next.ensures))
    ∙ c.loop-did.invariant

pub returns : goal.returns
returns c =
    let dids = c.args.dids.now in
    sym
    (after-all (arena_step c.args.sizes.now c.args.number) dids c.loop-did.did-index c.loop-did.arena (search rules))
    ∙ c.loop-did.invariant
    ∙ ap (λ s. after (arena_step c.args.sizes.now c.args.number) s (dids_behind dids)) c.in_ok-arena.ensures
    ∙ ap
    (λ (g : Geometry). after (arena_step g c.args.number) (new_arena g c.args.shape.now.chunks) (dids_behind dids))
    c.requires.sizes
