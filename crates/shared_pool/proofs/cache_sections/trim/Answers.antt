use Rattle.std.proofs.Common.{sym, ◌∙◌, subst}
use Rattle.std.specs.List.{All}
use Rattle.pool_law.specs.declared.note.Did.{Did}
use Rattle.region_cache.specs.Queues.{Queue, Makes}
use Rattle.region_cache.specs.Standing.{IsRegionOf}
use Rattle.shared_pool.specs.Standing.{HomeStands}
use Rattle.shared_pool.proofs.CacheHomes.{Lens, cache_more}
use Rattle.shared_pool.proofs.cache_sections.trim.Goals as goal

pub returns-clause-stands : goal.returns-clause-stands
returns-clause-stands c measures setting h n is at =
    let at = subst (HomeStands measures setting h) (sym c.home.ensures.value ∙ c.in-Cache.is) at in
    let now = c.deref_mut.ensures.value in
    cache_more (Did.Trim c.trim.result) c.in-Cache.cache.value c.trim.new.self
    (subst (λ q. Makes q (Did.Trim c.trim.result) c.trim.new.self) now c.trim.ensures.trim)
    measures setting h n is
    (subst (λ (q : Queue). All (IsRegionOf setting.grounds) q.regions) (sym c.trim.ensures.rest)
    (subst (λ (q : Queue). All (IsRegionOf setting.grounds) q.regions) (sym now) at.stands.in_place))
    (subst Lens (sym c.trim.ensures.rest) (subst Lens (sym now) at.lens))
    at
