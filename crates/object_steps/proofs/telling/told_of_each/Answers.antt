use Rattle.std.proofs.Common.{rules, ◌≡◌, ◌+◌, ◌<◌, List, [], ◌∷◌, ◌++◌, length, drop, Option, Some, None, sym, ap, ◌∙◌}
use Rattle.std.specs.Prelude.{option_map}
use Rattle.pool_law.specs.Roots.{RootPlace, new_place, place_step}
use Rattle.pool_law.specs.Histories.{place_after}
use Rattle.object_steps.specs.declared.told.PlaceTold.{PlaceTold}
use Rattle.object_steps.specs.Behind.{dids_behind}
use Rattle.object_steps.specs.Telling.{told_by, told_of_each}
use Rattle.object_steps.proofs.AfterLemmas.{after-one}
use Rattle.object_steps.proofs.TellingLemmas.{told-more}
use Rattle.object_steps.proofs.telling.told_of_each.Goals as goal

pub returns-in-None : goal.returns-in-None
returns-in-None c =
    let dids = c.args.dids.now in
    let i = c.loop-did.did-index in
    let there : i < length dids = search rules in
    let none : None ≡ place_after c.args.number (dids_behind dids) =
    sym
    (after-one (place_step c.args.number) dids i c.loop-did.place c.did-item.result there c.did-item.is None
    (sym c.in-None.is ∙ c.in_ok-next.ensures))
    ∙ c.loop-did.invariant.after in
    ap (λ (o : Option RootPlace). option_map (λ _. told_of_each c.args.number new_place (dids_behind dids)) o) none

pub loop-did-preserved : goal.loop-did-preserved
loop-did-preserved c =
    let dids = c.args.dids.now in
    let i = c.loop-did.did-index in
    let there : i < length dids = search rules in
    let next : Some c.in-Some.next ≡ place_step c.args.number c.loop-did.place c.did-item.result.now =
    sym c.in-Some.is ∙ c.in_ok-next.ensures in
    let pushed : c.push.new.self.items ≡ c.loop-did.told.items ++ told_by c.did-item.result.now c.loop-did.place.present
    ∷ [] =
    c.in_ok-push.ensures.items ∙ ap (λ (t : PlaceTold). c.loop-did.told.items ++ t ∷ []) c.told-here.ensures in
    record {
      after =
          sym (after-one (place_step c.args.number) dids i c.loop-did.place c.did-item.result there c.did-item.is
          (Some c.in-Some.next) next)
          ∙ c.loop-did.invariant.after;
      told =
          ap (λ (xs : List PlaceTold). xs ++ told_of_each c.args.number c.in-Some.next (drop (i + 1) (dids_behind
          dids)))
          pushed
          ∙ told-more c.args.number dids i c.loop-did.place c.in-Some.next c.loop-did.told.items c.did-item.result there
          c.did-item.is next
          ∙ c.loop-did.invariant.told;
    }
