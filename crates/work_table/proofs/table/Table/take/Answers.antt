use Rattle.std.proofs.Common.{◌≡◌, ◌<◌, length, Some, arith, refl, sym, ap, ◌∙◌}
use Rattle.std.specs.Prelude.{slice_get}
use Rattle.std.proofs.lemmas.Grind.{common_steps}
use Rattle.std.proofs.lemmas.Option.{slice_get_read}
use Rattle.work_table.proofs.Tables.{stand_out, empties_out}
use Rattle.work_table.proofs.table.Table.take.Given as Given
use Rattle.work_table.proofs.table.Table.take.Goals as goal

-- the machine that goes out stood there
stood : (g : Given.Over) (c : goal.After-add g)
    → slice_get c.self.inside.places.items c.in_ok-at.at ≡ Some (Some c.in-Some.machine)
stood g c =
    let places = c.self.inside.places.items in
    let at = c.in_ok-at.at in
    let in_range : at < length places =
    grind (arith, common_steps, c.in_ok-at.ensures, c.self.invariant.2, c.self.inside.places.ok) in
    slice_get_read places (length places) at c.index_mut.result.now refl in_range c.index_mut.ensures.value
    ∙ ap Some (sym c.take.ensures.value ∙ c.in-Some.is)

pub invariant_of-self : goal.invariant_of-self
invariant_of-self g c =
    let places = c.self.inside.places.items in
    let inv = c.self.invariant in
    let at = c.in_ok-at.at in
    rw c.take.ensures.after (
      stand_out _ _ places at inv.0,
      omega (arith, c.add.ensures.total, inv.1, empties_out places at c.in-Some.machine (stood g c)),
      inv.2,
      inv.3,
    )

pub returns-clause-machine : goal.returns-clause-machine
returns-clause-machine g c = c.self.invariant.0 _ _ (stood g c)
