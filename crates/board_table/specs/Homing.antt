-- A section, after a write through `home`.
use Rattle.board_table.specs.declared.table.Section.{Section}

abbrev pub with_home : {H : Type 0} → Section H → H → Section H
with_home s x = record { home = x; composite = s.composite }
