use Rattle.std.proofs.Common.{◌≡◌, ◌-◌, ◌≤◌, ◌++◌, length, take}
use Rattle.std.specs.List.{flat_map}
use Rattle.frame_core.specs.Frames.{cuts_of}
use Rattle.frame_core.specs.Standing.{HasRead}
use Rattle.frame_cases.proofs.streams.cut_all.Given as goal

abbrev pub invariant-pieces : goal.invariant-pieces
invariant-pieces l =
    let bytes = flat_map (λ piece. piece.now) (take l.piece-index l.pieces) in
    record { read : HasRead l.cutter bytes; cuts : l.cuts.items ≡ cuts_of bytes }

abbrev pub invariant-within : goal.invariant-within
invariant-within l =
    let bytes = flat_map (λ piece. piece.now) (take l.piece-index l.pieces) ++ take l.used l.piece.now in
    record {
      place : l.used ≤ length l.piece.now;
      read : HasRead l.cutter bytes;
      cuts : l.cuts.items ≡ cuts_of bytes;
    }

abbrev pub decreases-within : goal.decreases-within
decreases-within l = length l.piece.now - l.used
