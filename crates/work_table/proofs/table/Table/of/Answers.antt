use Rattle.std.proofs.Common.{sym, ◌∙◌, ap}
use Rattle.work_table.specs.Places.{empties}
use Rattle.work_table.proofs.Tables.{all_stand, empties_full}
use Rattle.work_table.proofs.table.Table.of.Goals as goal

pub invariant_of-table : goal.invariant_of-table
invariant_of-table g c =
    let places = c.into_places-places.ensures.places in (
      rw places (all_stand _ _ _ c.requires.machines),
      c.requires.out ∙ sym (ap empties places ∙ empties_full c.args.machines.items),
      c.into_places-places.ensures.count ∙ c.requires.count,
      c.requires.statuses,
    )
