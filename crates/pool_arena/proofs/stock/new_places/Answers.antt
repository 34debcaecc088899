use Rattle.std.proofs.Common.{◌≡◌, rules, sym, subst, All, None}
use Rattle.std.proofs.lemmas.List.Elements.{All-push}
use Rattle.size_classes.specs.Sizes.{of_pages}
use Rattle.pool_arena.specs.Places.{PlaceState}
use Rattle.pool_arena.proofs.stock.new_places.Goals as goal

pub loop-preserved : goal.loop-preserved
loop-preserved c =
    let made = c.in-Ok.ensures {u = tt} in
    let P : PlaceState → Type 0 = λ p. (p.geometry ≡ of_pages c.args.order c.args.page) × (p.chunk ≡ None) in
    record {
      count = search rules;
      room = search rules;
      unused =
          subst (All P) (sym c.in-Ok-push.ensures.items)
          (All-push P c.loop.places.items c.in-Ok.place c.loop.invariant.unused (made.geometry, made.unused));
    }
