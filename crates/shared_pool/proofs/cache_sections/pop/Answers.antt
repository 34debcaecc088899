use Rattle.std.proofs.Common.{◌≡◌, ◌∷◌, sym, ◌∙◌, subst}
use Rattle.std.specs.Prelude.{Option, Some, None, IfSome, IfNone}
use Rattle.std.specs.List.{All}
use Rattle.std.proofs.lemmas.List.Elements.{All-head, All-tail}
use Rattle.pool_law.specs.declared.id.Region.{Region}
use Rattle.pool_law.specs.declared.note.Did.{Did}
use Rattle.ground.specs.Grounds.{Grounds}
use Rattle.region_cache.specs.Queues.{Queue, Makes}
use Rattle.region_cache.specs.Standing.{IsRegionOf}
use Rattle.region_cache.proofs.StandingLaws.{in_place_front, in_place_rest}
use Rattle.shared_pool.specs.CacheAnswers.{WasInPlace}
use Rattle.shared_pool.specs.Notes.{hit}
use Rattle.shared_pool.specs.Standing.{HomeStands, HasClassLength}
use Rattle.shared_pool.proofs.CacheHomes.{Lens, cache_more}
use Rattle.shared_pool.proofs.cache_sections.pop.Goals as goal

pub returns-clause-stands : goal.returns-clause-stands
returns-clause-stands c measures setting h n is at =
    let at = subst (HomeStands measures setting h) (sym c.home.ensures.value ∙ c.in-Cache.is) at in
    let now = c.deref_mut.ensures.value in
    cache_more (hit c.pop.result) c.in-Cache.cache.value c.pop.new.self
    (subst (λ q. Makes q (hit c.pop.result) c.pop.new.self) now
    (made c.deref_mut.result.now c.pop.new.self c.pop.result c.pop.ensures.hit c.pop.ensures.miss))
    measures setting h n is
    (left setting.grounds c.deref_mut.result.now c.pop.new.self c.pop.result c.pop.ensures.some c.pop.ensures.none
    (subst (λ (q : Queue). All (IsRegionOf setting.grounds) q.regions) (sym now) at.stands.in_place))
    (lens c.deref_mut.result.now c.pop.new.self c.pop.result c.pop.ensures.some c.pop.ensures.none
    (subst Lens (sym now) at.lens))
    at
  where
    made : (old new : Queue) (r : Option Region) → IfSome r (λ r. Makes old (Did.Hit r.id) new)
        → IfNone r (Makes old Did.Miss new) → Makes old (hit r) new
    made old new (Some x) some none = some
    made old new None some none = none

    left : (grounds : Grounds) (old new : Queue) (r : Option Region) → IfSome r (λ r. old.regions ≡ r ∷ new.regions)
        → IfNone r (new ≡ old) → All (IsRegionOf grounds) old.regions → All (IsRegionOf grounds) new.regions
    left grounds old new (Some x) some none all =
        in_place_rest grounds x new.regions (subst (All (IsRegionOf grounds)) some all)
    left grounds old new None some none all = subst (λ (q : Queue). All (IsRegionOf grounds) q.regions) (sym none) all

    lens : (old new : Queue) (r : Option Region) → IfSome r (λ r. old.regions ≡ r ∷ new.regions) → IfNone r (new ≡ old)
        → Lens old → Lens new
    lens old new (Some x) some none all =
        All-tail (λ r. HasClassLength r.id) x new.regions (subst (All (λ r. HasClassLength r.id)) some all)
    lens old new None some none all = subst Lens (sym none) all

pub returns-clause-here : goal.returns-clause-here
returns-clause-here c = here c.pop.result c.pop.ensures.some
  where
    here : (r : Option Region) → IfSome r (λ r. c.deref_mut.result.now.regions ≡ r ∷ c.pop.new.self.regions)
        → IfSome r (λ r. WasInPlace c.args.section.now.home r)
    here None some = tt
    here (Some x) some = λ measures setting h at.
        let at = subst (HomeStands measures setting h) (sym c.home.ensures.value ∙ c.in-Cache.is) at in
        let all = subst (λ (q : Queue). All (IsRegionOf setting.grounds) q.regions) (sym c.deref_mut.ensures.value)
        at.stands.in_place in
        let lens = subst Lens (sym c.deref_mut.ensures.value) at.lens in (
          in_place_front setting.grounds x c.pop.new.self.regions (subst (All (IsRegionOf setting.grounds)) some all),
          All-head (λ r. HasClassLength r.id) x c.pop.new.self.regions
              (subst (All (λ r. HasClassLength r.id)) some lens),
        )
