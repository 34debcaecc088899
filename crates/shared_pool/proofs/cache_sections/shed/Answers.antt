use Rattle.std.proofs.Common.{sym, ◌∙◌, subst}
use Rattle.std.specs.List.{All}
use Rattle.std.proofs.lemmas.List.Elements.{All-head, All-tail}
use Rattle.pool_law.specs.declared.note.Did.{Did}
use Rattle.region_cache.specs.Queues.{Queue, Makes}
use Rattle.region_cache.specs.Standing.{IsRegionOf}
use Rattle.region_cache.proofs.StandingLaws.{in_place_front, in_place_rest}
use Rattle.shared_pool.specs.Standing.{HomeStands, HasClassLength}
use Rattle.shared_pool.proofs.CacheHomes.{Lens, cache_more}
use Rattle.shared_pool.proofs.cache_sections.shed.Goals as goal

pub returns-clause-stands : goal.returns-clause-stands
returns-clause-stands c measures setting h n is at =
    let at = subst (HomeStands measures setting h) (sym c.home.ensures.value ∙ c.in-Cache.is) at in
    let now = c.deref_mut.ensures.value in
    cache_more (Did.Shed c.shed.result.id) c.in-Cache.cache.value c.shed.new.self
    (subst (λ q. Makes q (Did.Shed c.shed.result.id) c.shed.new.self) now c.shed.ensures.shed)
    measures setting h n is
    (in_place_rest setting.grounds c.shed.result c.shed.new.self.regions
    (subst (All (IsRegionOf setting.grounds)) c.shed.ensures.front
    (subst (λ (q : Queue). All (IsRegionOf setting.grounds) q.regions) (sym now) at.stands.in_place)))
    (All-tail (λ r. HasClassLength r.id) c.shed.result c.shed.new.self.regions
    (subst (All (λ r. HasClassLength r.id)) c.shed.ensures.front (subst Lens (sym now) at.lens)))
    at

pub returns-clause-here : goal.returns-clause-here
returns-clause-here c measures setting h at =
    let at = subst (HomeStands measures setting h) (sym c.home.ensures.value ∙ c.in-Cache.is) at in
    let lens = subst Lens (sym c.deref_mut.ensures.value) at.lens in (
      in_place_front setting.grounds c.shed.result c.shed.new.self.regions
          (subst (All (IsRegionOf setting.grounds)) c.shed.ensures.front
          (subst (λ (q : Queue). All (IsRegionOf setting.grounds) q.regions) (sym c.deref_mut.ensures.value)
          at.stands.in_place)),
      All-head (λ r. HasClassLength r.id) c.shed.result c.shed.new.self.regions
          (subst (All (λ r. HasClassLength r.id)) c.shed.ensures.front lens),
    )
