-- A stream has no more frames than may come.
use Rattle.std.proofs.Common.{◌≡◌, ℕ, zero, suc, ◌+◌, ◌-◌, ◌≤◌, Bool, true, false, List, [], ◌∷◌, length, take, drop, refl, ap, ◌∙◌, arith}
use Rattle.std.specs.Prelude.{nat_lt, Result, Ok, Err}
use Rattle.frame_core.specs.declared.frame.FrameNo.{FrameNo}
use Rattle.frame_core.specs.declared.limits.TheConstants.{MAX_FRAMES, MAX_STREAM}
use Rattle.frame_core.specs.Frames.{Reading, frames_in, frames_of, read_on, whole_frame}
use Rattle.frame_core.proofs.ReadingLaws.{either, reading-first}

few_on : (m : ℕ) (w : Result ℕ FrameNo) (bytes : List ℕ)
    → ((tail : List ℕ) → length (frames_in m tail).frames ≤ m)
    → length (read_on w bytes (frames_in m)).frames ≤ suc m
few_on m (Ok len) bytes alike = let more = alike (drop (4 + len) bytes) in omega (arith, more)
few_on m (Err why) bytes alike = omega arith

few_in : (n : ℕ) (bytes : List ℕ) → length (frames_in n bytes).frames ≤ n
unfolding frames_in
few_in zero [] = omega arith
few_in zero (b ∷ bytes) = omega arith
few_in (suc m) [] = omega arith
few_in (suc m) (b ∷ bytes) =
    few_on m (whole_frame (MAX_FRAMES - suc m) (b ∷ bytes)) (b ∷ bytes) (λ tail. few_in m tail)

same_frames : (over : Bool) (r : Reading) → (either over r).frames ≡ r.frames
same_frames true r = refl
same_frames false r = refl

pub few_frames : (bytes : List ℕ) → length (frames_of bytes) ≤ MAX_FRAMES
unfolding frames_of
few_frames bytes =
    let e = ap (λ (r : Reading). length r.frames) (reading-first bytes)
    ∙ ap (λ (fs : List (List ℕ)). length fs)
    (same_frames (nat_lt MAX_STREAM (length bytes)) (frames_in MAX_FRAMES (take MAX_STREAM bytes))) in
    let f = few_in MAX_FRAMES (take MAX_STREAM bytes) in
    omega (arith, e, f)
