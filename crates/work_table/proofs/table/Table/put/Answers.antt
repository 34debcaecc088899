use Rattle.std.proofs.Common.{◌≡◌, ◌<◌, length, Some, None, arith, rules, refl, ap, ◌∙◌}
use Rattle.std.specs.Prelude.{slice_get}
use Rattle.std.proofs.lemmas.Grind.{common_steps}
use Rattle.std.proofs.lemmas.Option.{slice_get_read}
use Rattle.work_table.proofs.Tables.{stand_in, empties_in}
use Rattle.work_table.proofs.table.Table.put.Goals as goal

-- a machine comes back to its empty place
pub invariant_of-self : goal.invariant_of-self
invariant_of-self g c =
    let places = c.self.inside.places.items in
    let inv = c.self.invariant in
    let at = c.args.at in
    let in_range : at < length places =
    grind (arith, common_steps, c.if-at-len.false, c.len.ensures, c.self.inside.places.ok) in
    let none : c.index.result.now ≡ None = search rules in
    let was : slice_get places at ≡ Some None =
    slice_get_read places (length places) at c.index.result.now refl in_range c.index.ensures ∙ ap Some none in
    rw c.fill.ensures (
      stand_in _ _ places at c.args.machine inv.0 c.requires.machine,
      omega (arith, c.sub.ensures.total, inv.1, empties_in places at c.args.machine was),
      inv.2,
      inv.3,
    )
