use Rattle.std.proofs.Common.{[], ◌∷◌, sym, ◌∙◌, subst}
use Rattle.std.specs.List.{All}
use Rattle.std.proofs.lemmas.List.Elements.{All-nil, All-cons, All-append}
use Rattle.pool_law.specs.declared.id.Region.{Region}
use Rattle.pool_law.specs.declared.note.Did.{Did}
use Rattle.region_cache.specs.Queues.{Queue, Makes}
use Rattle.region_cache.specs.Standing.{IsRegionOf}
use Rattle.region_cache.proofs.StandingLaws.{in_place_more}
use Rattle.shared_pool.specs.Standing.{HomeStands, HasClassLength}
use Rattle.shared_pool.proofs.CacheHomes.{Lens, cache_more}
use Rattle.shared_pool.proofs.cache_sections.put.Goals as goal

pub returns-in-Ok-clause-stands : goal.returns-in-Ok-clause-stands
returns-in-Ok-clause-stands c measures setting h n is here len at =
    let at = subst (HomeStands measures setting h) (sym c.home.ensures.value ∙ c.in-Cache.is) at in
    let now = c.deref_mut.ensures.value in let r = c.args.region in
    let all = subst (λ (q : Queue). All (IsRegionOf setting.grounds) q.regions) (sym now) at.stands.in_place in
    cache_more (Did.Kept r.id) c.in-Cache.cache.value c.put.new.self
    (subst (λ q. Makes q (Did.Kept r.id) c.put.new.self) now c.in-Ok.ensures.kept)
    measures setting h n is
    (subst (All (IsRegionOf setting.grounds)) (sym c.in-Ok.ensures.ok)
    (in_place_more setting.grounds c.deref_mut.result.now.regions r all here))
    (subst (All As) (sym c.in-Ok.ensures.ok)
    (All-append As c.deref_mut.result.now.regions (r ∷ []) (subst Lens (sym now) at.lens)
    (All-cons As r [] len (All-nil As))))
    at
  where
    As : Region → Type 0
    As x = HasClassLength x.id

pub returns-in-Err-clause-stands : goal.returns-in-Err-clause-stands
returns-in-Err-clause-stands c measures setting h n is here len at =
    let at = subst (HomeStands measures setting h) (sym c.home.ensures.value ∙ c.in-Cache.is) at in
    let now = c.deref_mut.ensures.value in let r = c.args.region in
    let all = subst (λ (q : Queue). All (IsRegionOf setting.grounds) q.regions) (sym now) at.stands.in_place in
    cache_more (Did.Back r.id c.in-Err.no) c.in-Cache.cache.value c.put.new.self
    (subst (λ q. Makes q (Did.Back r.id c.in-Err.no) c.put.new.self) now c.in-Err.ensures.back)
    measures setting h n is
    (subst (λ (q : Queue). All (IsRegionOf setting.grounds) q.regions) (sym c.in-Err.ensures.err) all)
    (subst Lens (sym (c.in-Err.ensures.err ∙ now)) at.lens)
    at
