use Rattle.std.proofs.Common.{rules, ◌≡◌, length, sym, subst}
use Rattle.board_table.specs.Openings.{AreOpening}
use Rattle.board_table.proofs.Openings.{opens_sound}
use Rattle.board_table.proofs.table.BoardTable.new.Goals as goal

pub new-requires : goal.new-requires
new-requires g c =
    let n = c.len-composites.result in
    let long : length c.args.slots.items ≡ n = search (rules, c.len-composites.ensures) in
    opens_sound g.H.Homed.stands g.H.Homed.left
    (record { composites = n; moves = c.args.moves; turns = c.args.turns; origin = c.in-Ok.memory.name })
    g.N.Naming.value
    c.as_slice.result.now c.args.slots.items long
    (subst (AreOpening n) (sym c.as_slice.ensures.value) c.in-Ok.ensures.words) c.in-Ok.ensures.name c.requires.homes
    c.requires.moves c.requires.turns
