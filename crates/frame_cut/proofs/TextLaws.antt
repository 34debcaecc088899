-- The lines of the frames from one on.
use Rattle.std.proofs.Common.{◌≡◌, ℕ, zero, suc, ◌+◌, List, [], ◌∷◌, ◌++◌, map, drop, ap, Some}
use Rattle.std.specs.Prelude.{slice_get}
use Rattle.std.proofs.lemmas.Option.{same_Some}
use Rattle.frame_hash.specs.declared.hashes.FrameHash.{FrameHash}
use Rattle.frame_hash.specs.Hashes.{hash_of}
use Rattle.frame_text.specs.Lines.{frame_lines, line_of}

pub lines-from : (at number : ℕ) (frames : List (List ℕ)) (h : FrameHash) → slice_get (map hash_of frames) at ≡ Some h
    → frame_lines number (drop at frames)
    ≡ line_of number h.len h.digest ++ frame_lines (number + 1) (drop (suc at) frames)
lines-from at number [] h there = absurd (cc there)
lines-from zero number (frame ∷ frames) h there =
    let same : hash_of frame ≡ h = same_Some (hash_of frame) h there in
    ap (λ (x : FrameHash). line_of number x.len x.digest ++ frame_lines (number + 1) frames) same
lines-from (suc at) number (frame ∷ frames) h there = lines-from at number frames h there
