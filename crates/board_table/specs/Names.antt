-- The value that a name names.
use Rattle.std.specs.Prelude.{Option}
use Rattle.board_table.specs.declared.naming.Name.{Name}

abbrev pub named : {T : Type 0} → Name T → Option T
named name = name.seat.me.0
