use Rattle.std.proofs.Common.{◌≡◌, Option, Vec, sym, subst}
use Rattle.std.specs.Prelude.{IfOk, option_map}
use Rattle.std.specs.declared.alloc.Global.{Global}
use Rattle.std.proofs.lemmas.Result.{IfOk-weaker}
use Rattle.pool_law.specs.declared.note.Object.{Object}
use Rattle.pool_law.specs.Roots.{new_place}
use Rattle.pool_law.specs.Histories.{place_after}
use Rattle.object_steps.specs.declared.told.PlaceTold.{PlaceTold}
use Rattle.object_steps.specs.Behind.{dids_behind}
use Rattle.object_steps.specs.Telling.{told_of_each}
use Rattle.run_check.specs.Storing.{TellsOf}
use Rattle.run_check.proofs.ObjectHistoryLemmas.{tells-root}
use Rattle.run_check.proofs.fronts.told_at.Goals as goal

pub returns-in-Root : goal.returns-in-Root
returns-in-Root c =
    let shape = c.args.shape.now in
    let place = c.in-Root.place in
    let ds = dids_behind c.args.dids.now in
    subst
    (λ (o : Object). IfOk c.told_of_each.result (λ told. TellsOf shape o ds told))
    (sym c.in-Root.is)
    (IfOk-weaker c.told_of_each.result
    (λ (told : Option (Vec PlaceTold Global)). option_map (λ t. t.items) told
    ≡ option_map (λ _. told_of_each place new_place ds) (place_after place ds))
    (λ (told : Option (Vec PlaceTold Global)). TellsOf shape (Object.Root place) ds told)
    (λ told e. tells-root shape place ds told e)
    c.told_of_each.ensures)
