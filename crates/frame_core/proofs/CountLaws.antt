-- How a stream ends.
use Rattle.std.proofs.Common.{◌≡◌, ℕ, ◌<◌, ◌==◌, Bool, true, false, if◌then◌else◌, Ok, Err, List, length, Option, Some, None, refl, sym, ap, ◌∙◌, subst}
use Rattle.frame_core.specs.declared.frame.FrameNo.{FrameNo}
use Rattle.frame_core.specs.declared.frame.FrameNo.TheVariants.{Length, Frames, Stream, Inside}
use Rattle.frame_core.specs.Frames.{reading, frames_of, failure_of, refusal, count_or}
use Rattle.frame_core.specs.Standing.{Standing, IsAt, IsKept, HasRead}
use Rattle.frame_core.proofs.ReadingLaws.{open_failure, eq0-true, eq0-false}

pub IsAt-from_read : (s : Standing) (bytes : List ℕ) → s.refusal ≡ None → HasRead s bytes → IsAt s bytes
IsAt-from_read s bytes e h = subst (λ r. IsKept r s bytes) e h

count_or-open : (none : Bool) (n : ℕ) (frames : List (List ℕ)) → length frames ≡ n
    → count_or frames (open_failure none n) ≡ (if none then Ok n else Err (Inside n))
count_or-open true n frames e = ap (λ k. Ok k) e
count_or-open false n frames e = refl

-- a failure that is a refusal
pub failure-from_refusal : (failure : Option FrameNo) (why : FrameNo) → refusal failure ≡ Some why → failure ≡ Some why
failure-from_refusal None why e = cc
failure-from_refusal (Some (Length k)) why e = e
failure-from_refusal (Some Frames) why e = e
failure-from_refusal (Some Stream) why e = e
failure-from_refusal (Some (Inside k)) why e = cc

-- a stream that ends here
pub count_or-at : (s : Standing) (bytes : List ℕ) → IsAt s bytes
    → count_or (frames_of bytes) (failure_of bytes) ≡ (if s.within == 0 then Ok s.frames else Err (Inside s.frames))
unfolding frames_of failure_of
count_or-at s bytes at =
    ap (count_or (reading bytes).frames) at.failure
    ∙ count_or-open (s.within == 0) s.frames (reading bytes).frames (sym at.frames)

pub count-inside : (s : Standing) (bytes : List ℕ) → s.refusal ≡ None → 0 < s.within → HasRead s bytes
    → Err (Inside s.frames) ≡ count_or (frames_of bytes) (failure_of bytes)
count-inside s bytes none some read =
    sym (count_or-at s bytes (IsAt-from_read s bytes none read)
    ∙ ap (λ none. if none then Ok s.frames else Err (Inside s.frames)) (eq0-false s.within some))

pub count-between : (s : Standing) (bytes : List ℕ) → s.refusal ≡ None → s.within ≡ 0 → HasRead s bytes
    → Ok s.frames ≡ count_or (frames_of bytes) (failure_of bytes)
count-between s bytes none nothing read =
    sym (count_or-at s bytes (IsAt-from_read s bytes none read)
    ∙ ap (λ none. if none then Ok s.frames else Err (Inside s.frames)) (eq0-true s.within nothing))
