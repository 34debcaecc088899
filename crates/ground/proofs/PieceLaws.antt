-- Pieces whose bytes are written over.
use Rattle.std.proofs.Common.{◌≡◌, ℕ, ◌+◌, ◌-◌, List, ◌++◌, length, drop, arith, length-append, length-drop, length-take-le}
use Rattle.ground.specs.Ground.{Segment, overwritten}

-- a piece keeps its length
pub length-overwritten : (s : Segment) (xs : List ℕ) → length (overwritten s xs).bytes ≡ length s.bytes
length-overwritten s xs =
    let rest = drop (length xs) s.bytes in
    let all : length (xs ++ rest) ≡ length xs + length rest = length-append xs rest in
    let past : length rest ≡ length s.bytes - length xs = length-drop (length xs) s.bytes in
    length-take-le (length s.bytes) (xs ++ rest) (omega (arith, all, past))
