-- What bytes are once a `&mut` to them has ended. No public clause cites this module.
use Rattle.std.specs.Prelude.{ℕ, List, ◌++◌, length, take, drop}
use Rattle.ground.specs.declared.raw_bytes.RawBytes.{RawBytes}

-- s once xs is written over its first bytes
abbrev pub rewritten : RawBytes → List ℕ → RawBytes
rewritten s xs = record s { items = take (length s.items) (xs ++ drop (length xs) s.items) }
