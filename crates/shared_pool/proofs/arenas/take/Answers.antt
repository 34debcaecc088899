use Rattle.std.proofs.Common.{◌≡◌, refl, sym, ◌∙◌, subst, [], ◌∷◌}
use Rattle.std.specs.Prelude.{Option, Some, None, IfSome, IfNone}
use Rattle.std.specs.Box.{with_value}
use Rattle.pool_law.specs.declared.id.Region.{Region}
use Rattle.pool_law.specs.declared.note.Did.TheVariants.{Take, Full}
use Rattle.pool_arena.specs.ArenaStates.{ArenaState, law_of, IsSameArena, Takes}
use Rattle.pool_arena.specs.Standing.{StandsMore as ArenaStandsMore, taken_or_full}
use Rattle.pool_arena.proofs.StandingLaws.{take-is}
use Rattle.shared_pool.specs.Standing.{HomeStands, IsArenaAt, HasClassLength, StandsMore}
use Rattle.shared_pool.specs.declared.home.Home.TheVariants.{Arena}
use Rattle.shared_pool.proofs.ArenaHomes.{stood_more}
use Rattle.shared_pool.proofs.arenas.take.Goals as goal

pub returns-clause-stands : goal.returns-clause-stands
returns-clause-stands c =
    go c.take.result c.take.ensures.some c.take.ensures.none c.take.ensures.stands
  where
    old : ArenaState
    old = c.deref_mut.result.now

    new : ArenaState
    new = c.take.new.self

    here : c.args.section.now.home ≡ Arena c.in-Arena.arena
    here = sym c.home.ensures.value ∙ c.in-Arena.is

    go : (r : Option Region) → IfSome r (λ x. Takes old c.args.class c.args.owner new x.id) → IfNone r (new ≡ old)
        → ArenaStandsMore old (taken_or_full c.args.class r) new →
        StandsMore c.args.section.now.home (taken_or_full c.args.class r) (Arena (with_value c.in-Arena.arena new))
    go (Some r) some none more measures setting h n is at =
        stood_more measures setting h n (Take c.args.class r.id) old new is some.same more
        (subst (IsArenaAt measures setting h) (sym c.deref_mut.ensures.value)
        (subst (HomeStands measures setting h) here at)) tt
    go None some none more measures setting h n is at =
        stood_more measures setting h n (Full c.args.class) old new is
        (subst (IsSameArena old) (sym none) (record { number = refl; geometry = refl; grounds = refl; places = refl }))
        more
        (subst (IsArenaAt measures setting h) (sym c.deref_mut.ensures.value)
        (subst (HomeStands measures setting h) here at)) tt

pub returns-clause-region : goal.returns-clause-region
returns-clause-region c =
    go c.take.result c.take.ensures.some
  where
    go : (r : Option Region) → IfSome r
        (λ x. Takes c.deref_mut.result.now c.args.class c.args.owner c.take.new.self x.id)
        → IfSome r (λ x. (x.id.owner ≡ c.args.owner) × (x.id.class ≡ c.args.class) × (x.id.uses ≡ 0)
        × HasClassLength x.id)
    go None some = tt
    go (Some r) some =
        let a : ArenaState = c.deref_mut.result.now in
        let t = take-is a.geometry a.number (law_of a []) c.args.class c.args.owner
        (r.id, law_of c.take.new.self (r.id ∷ [])) (some.step []) in
        (t.owner_is, t.class_is, t.uses, t.len)
