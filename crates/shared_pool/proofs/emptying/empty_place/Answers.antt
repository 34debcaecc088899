use Rattle.std.proofs.Common.{◌≡◌, ◌++◌, ◌∷◌, [], List, sym, ap, ◌∙◌, subst}
use Rattle.std.specs.Prelude.{Option}
use Rattle.ground.specs.Ground.{Segment}
use Rattle.pool_law.specs.declared.id.RegionId.{RegionId}
use Rattle.shared_pool.specs.Emptying.{Left, left_of, left_of_place, AreOut}
use Rattle.shared_pool.specs.PlaceViews.{state_in}
use Rattle.shared_pool.specs.declared.root_place.Held.{Held}
use Rattle.shared_pool.proofs.Emptyings.{fits_at}
use Rattle.shared_pool.proofs.emptying.empty_place.Goals as goal

pub region_of-requires : goal.region_of-requires
region_of-requires c =
    let i = c.place.inside in let r : RegionId = i.last.region in let h : Held = c.in-Some.held in
    let left_is : left_of_place c.args.place ≡ (r, h.piece) ∷ [] =
    ap left_of_place (sym c.place.view_is)
    ∙ ap (λ (o : Option Held). left_of_place (state_in (record i { present = o }))) c.in-Some.is in
    fits_at c.requires.0 c.args.homes.now r h.piece (left_of c.args.homes.now)
    (subst (λ (xs : List Left). AreOut c.requires.0 c.args.homes.now (xs ++ left_of c.args.homes.now)) left_is
    c.requires.1)

pub returns-clause-out : goal.returns-clause-out
returns-clause-out c = λ n o.
    let i = c.place.inside in let r : RegionId = i.last.region in let h : Held = c.in-Some.held in
    let left_is : left_of_place c.args.place ≡ (r, h.piece) ∷ [] =
    ap left_of_place (sym c.place.view_is)
    ∙ ap (λ (p : Option Held). left_of_place (state_in (record i { present = p }))) c.in-Some.is in
    c.give_to.ensures.out n []
    (subst (λ (x : RegionId × Segment). AreOut n c.args.homes.now ((x.0, x.1) ∷ left_of c.args.homes.now))
    (λ t. (sym c.region_of.ensures.id t, sym c.region_of.ensures.piece t))
    (subst (λ (xs : List Left). AreOut n c.args.homes.now (xs ++ left_of c.args.homes.now)) left_is o))
