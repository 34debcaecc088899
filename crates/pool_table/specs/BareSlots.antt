-- What a slot owns. No public clause cites this module.
use Rattle.std.specs.Prelude.{Option, Some, None}
use base.Fml.{Fml, ftrue}

-- what a value owns, if one is in the slot
abbrev pub owned_if : {H : Type 0} → (H → Fml) → Option H → Fml
owned_if owns (Some h) = owns h
owned_if owns None = ftrue
