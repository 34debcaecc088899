use Rattle.std.proofs.Common.{rules, ◌<◌, length, Some, None, sym, ap, ◌∙◌}
use Rattle.pool_law.specs.Histories.{after}
use Rattle.pool_law.specs.Caches.{lane_cache_step}
use Rattle.object_steps.specs.Behind.{dids_behind}
use Rattle.object_steps.proofs.AfterLemmas.{after-one}
use Rattle.object_steps.proofs.objects.cache_after.Goals as goal

pub returns-in-None : goal.returns-in-None
returns-in-None c =
    let dids = c.args.dids.now in
    let i = c.loop-did.did-index in
    let there : i < length dids = search rules in
    sym
    (after-one (lane_cache_step c.args.lane c.args.class) dids i c.loop-did.cache c.did-item.result there c.did-item.is
    None
    (sym c.in-None.is ∙ c.in_ok-next.ensures))
    ∙ c.loop-did.invariant
    ∙ ap (λ s. after (lane_cache_step c.args.lane c.args.class) s (dids_behind dids)) c.new-cache.ensures

pub loop-did-preserved : goal.loop-did-preserved
loop-did-preserved c =
    let dids = c.args.dids.now in
    let i = c.loop-did.did-index in
    let there : i < length dids = search rules in
    sym
    (after-one (lane_cache_step c.args.lane c.args.class) dids i c.loop-did.cache c.did-item.result there c.did-item.is
    (Some c.in-Some.next)
    (sym c.in-Some.is ∙ c.in_ok-next.ensures))
    ∙ c.loop-did.invariant
