-- What is read of a stream to which more bytes come.
use Rattle.std.proofs.Common.{◌≡◌, ℕ, suc, ◌+◌, ◌-◌, ◌<◌, ◌≤◌, ◌==◌, Bool, true, false, nat_lt, if◌then◌else◌, List, [], ◌∷◌, ◌++◌, length, take, drop, Option, Some, None, refl, sym, ap, ◌∙◌, subst, ⊎_elim, arith}
use Rattle.std.proofs.Math.Seq.{take-append-add}
use Rattle.std.proofs.lemmas.List.{append-nil, take_all, nil_from_length}
use Rattle.std.proofs.lemmas.Bool.{cases_lt}
use Rattle.std.proofs.lemmas.Bool.Decides.{nat_tests}
use Rattle.frame_core.specs.declared.frame.FrameNo.{FrameNo}
use Rattle.frame_core.specs.declared.frame.FrameNo.TheVariants.{Length, Frames, Stream, Inside}
use Rattle.frame_core.specs.declared.limits.TheConstants.{MAX_LENGTH, MAX_FRAMES, MAX_STREAM}
use Rattle.frame_core.specs.Frames.{Reading, length_in, frames_in, overrun, reading, refusal}
use Rattle.frame_core.specs.Standing.{Standing, IsPartial, IsAt}
use Rattle.frame_core.proofs.FrontLaws.{lt-false, lt-true}
use Rattle.frame_core.proofs.FramesLaws.{behind, Resumes, frames_in-append, frames_in-nil, frames_in-partial, frames_in-whole, frames_in-long, frames_in-over}

abbrev pub made : List (List ℕ) → List ℕ → Option FrameNo → Reading
made frames rest failure = record { frames = frames; rest = rest; failure = failure }

-- why a stream that ends inside a frame, or between two, isn't frames alone
abbrev pub open_failure : Bool → ℕ → Option FrameNo
open_failure none number = if none then None else Some (Inside number)

-- what is read where the first bytes are read so, and there may be more
abbrev pub either : Bool → Reading → Reading
either more first = if more then record first { failure = Some (overrun first.failure) } else first

pub eq0-true : (n : ℕ) → n ≡ 0 → (n == 0) ≡ true
eq0-true n h = grind (arith, nat_tests)

pub eq0-false : (n : ℕ) → 0 < n → (n == 0) ≡ false
eq0-false n h = grind (arith, nat_tests)

pub take-append-past : (n : ℕ) (bytes more : List ℕ) → length bytes ≤ n
    → take n (bytes ++ more) ≡ bytes ++ take (n - length bytes) more
take-append-past n bytes more h =
    let e : n ≡ length bytes + (n - length bytes) = omega arith in
    ap (λ k. take k (bytes ++ more)) e ∙ take-append-add bytes more (n - length bytes)

pub reading-first : (bytes : List ℕ)
    → reading bytes ≡ either (nat_lt MAX_STREAM (length bytes)) (frames_in MAX_FRAMES (take MAX_STREAM bytes))
unfolding reading
reading-first bytes = refl

pub reading-fits : (bytes : List ℕ) → length bytes ≤ MAX_STREAM → reading bytes ≡ frames_in MAX_FRAMES bytes
reading-fits bytes h =
    reading-first bytes
    ∙ ap (λ more. either more (frames_in MAX_FRAMES (take MAX_STREAM bytes))) (lt-false MAX_STREAM (length bytes) h)
    ∙ ap (frames_in MAX_FRAMES) (take_all MAX_STREAM bytes h)

open-refusal : (none : Bool) (number : ℕ) → refusal (open_failure none number) ≡ None
open-refusal true number = refl
open-refusal false number = refl

open-overrun : (none : Bool) (number : ℕ) → overrun (open_failure none number) ≡ Stream
open-overrun true number = refl
open-overrun false number = refl

pub is_open : (s : Standing) (bytes : List ℕ) → IsAt s bytes → refusal (reading bytes).failure ≡ None
is_open s bytes at = ap refusal at.failure ∙ open-refusal (s.within == 0) s.frames

-- further bytes go on where the rest ends
pub resumed : (s : Standing) (bytes more : List ℕ) → IsAt s bytes
    → frames_in MAX_FRAMES (bytes ++ more) ≡ behind (reading bytes).frames
    (frames_in (MAX_FRAMES - s.frames) ((reading bytes).rest ++ more))
resumed s bytes more at =
    let e = reading-fits bytes at.fits in
    let law = subst (λ (r : Reading). Resumes MAX_FRAMES r bytes more) (sym e)
    (frames_in-append MAX_FRAMES bytes more) in
    law (is_open s bytes at)
    ∙ ap (λ k. behind (reading bytes).frames (frames_in (MAX_FRAMES - k) ((reading bytes).rest ++ more)))
    (sym at.frames)

-- one frame more may come
resumed-next : (s : Standing) (bytes more : List ℕ) (r : Reading) → IsAt s bytes → s.frames < MAX_FRAMES
    → frames_in (suc (MAX_FRAMES - 1 - s.frames)) ((reading bytes).rest ++ more) ≡ r
    → frames_in MAX_FRAMES (bytes ++ more) ≡ behind (reading bytes).frames r
resumed-next s bytes more r at below e =
    let one_more : MAX_FRAMES - s.frames ≡ suc (MAX_FRAMES - 1 - s.frames) = omega arith in
    resumed s bytes more at
    ∙ ap (λ k. behind (reading bytes).frames (frames_in k ((reading bytes).rest ++ more))) one_more
    ∙ ap (behind (reading bytes).frames) e

number_is : (k : ℕ) → k < MAX_FRAMES → MAX_FRAMES - suc (MAX_FRAMES - 1 - k) ≡ k
number_is k below = omega arith

pub in_partial :
    (s : Standing) (bytes more : List ℕ) → IsAt s bytes
    → IsPartial ((reading bytes).rest ++ more)
    → (0 < length ((reading bytes).rest ++ more) → s.frames < MAX_FRAMES)
    → frames_in MAX_FRAMES (bytes ++ more) ≡ made (reading bytes).frames ((reading bytes).rest ++ more)
    (open_failure (length ((reading bytes).rest ++ more) == 0) s.frames)
in_partial s bytes more at part number =
    let frames = (reading bytes).frames in
    let rest = (reading bytes).rest ++ more in
    ⊎_elim
    (λ (some : 0 < length rest).
    let m = MAX_FRAMES - 1 - s.frames in
    resumed-next s bytes more (made [] rest (Some (Inside (MAX_FRAMES - suc m)))) at (number some)
    (frames_in-partial m rest some part)
    ∙ ap (λ all. made all rest (Some (Inside (MAX_FRAMES - suc m)))) (append-nil frames)
    ∙ ap (λ k. made frames rest (Some (Inside k))) (number_is s.frames (number some))
    ∙ ap (λ none. made frames rest (open_failure none s.frames)) (sym (eq0-false (length rest) some)))
    (λ (nothing : length rest ≤ 0).
    let zero_long : length rest ≡ 0 = omega arith in
    let empty = nil_from_length rest zero_long in
    resumed s bytes more at
    ∙ ap (λ left. behind frames (frames_in (MAX_FRAMES - s.frames) left)) empty
    ∙ ap (behind frames) (frames_in-nil (MAX_FRAMES - s.frames))
    ∙ ap (λ all. made all [] None) (append-nil frames)
    ∙ ap (λ left. made frames left None) (sym empty)
    ∙ ap (λ none. made frames rest (open_failure none s.frames)) (sym (eq0-true (length rest) zero_long)))
    (cases_lt 0 (length rest))

pub in_whole :
    (s : Standing) (bytes more : List ℕ) → IsAt s bytes → s.frames < MAX_FRAMES
    → length_in ((reading bytes).rest ++ more) ≤ MAX_LENGTH
    → length ((reading bytes).rest ++ more) ≡ 4 + length_in ((reading bytes).rest ++ more)
    → frames_in MAX_FRAMES (bytes ++ more) ≡ made
    ((reading bytes).frames ++ drop 4 ((reading bytes).rest ++ more) ∷ []) [] None
in_whole s bytes more at below fits there =
    let rest = (reading bytes).rest ++ more in
    resumed-next s bytes more (made (drop 4 rest ∷ []) [] None) at below
    (frames_in-whole (MAX_FRAMES - 1 - s.frames) rest fits there)

pub in_long :
    (s : Standing) (bytes more : List ℕ) → IsAt s bytes → s.frames < MAX_FRAMES
    → 4 ≤ length ((reading bytes).rest ++ more)
    → MAX_LENGTH < length_in ((reading bytes).rest ++ more)
    → frames_in MAX_FRAMES (bytes ++ more) ≡ made (reading bytes).frames ((reading bytes).rest ++ more)
    (Some (Length s.frames))
in_long s bytes more at below there above =
    let frames = (reading bytes).frames in
    let rest = (reading bytes).rest ++ more in
    let m = MAX_FRAMES - 1 - s.frames in
    resumed-next s bytes more (made [] rest (Some (Length (MAX_FRAMES - suc m)))) at below
    (frames_in-long m rest there above)
    ∙ ap (λ all. made all rest (Some (Length (MAX_FRAMES - suc m)))) (append-nil frames)
    ∙ ap (λ k. made frames rest (Some (Length k))) (number_is s.frames below)

pub in_over :
    (s : Standing) (bytes more : List ℕ) → IsAt s bytes → s.frames ≡ MAX_FRAMES
    → 0 < length ((reading bytes).rest ++ more)
    → frames_in MAX_FRAMES (bytes ++ more) ≡ made (reading bytes).frames ((reading bytes).rest ++ more) (Some Frames)
in_over s bytes more at all_ended some =
    let frames = (reading bytes).frames in
    let rest = (reading bytes).rest ++ more in
    let none_more : MAX_FRAMES - s.frames ≡ 0 = omega arith in
    resumed s bytes more at
    ∙ ap (λ k. behind frames (frames_in k rest)) none_more
    ∙ ap (behind frames) (frames_in-over rest some)
    ∙ ap (λ all. made all rest (Some Frames)) (append-nil frames)

-- the first bytes of a stream to which more come
first-append : (s : Standing) (bytes more : List ℕ) (r : Reading) → IsAt s bytes
    → frames_in MAX_FRAMES (bytes ++ take (MAX_STREAM - length bytes) more) ≡ r
    → reading (bytes ++ more) ≡ either (nat_lt MAX_STREAM (length (bytes ++ more))) r
first-append s bytes more r at e =
    let over = nat_lt MAX_STREAM (length (bytes ++ more)) in
    reading-first (bytes ++ more)
    ∙ ap (λ first. either over (frames_in MAX_FRAMES first)) (take-append-past MAX_STREAM bytes more at.fits)
    ∙ ap (either over) e

-- what is read ends with a refusal
pub record EndsAt (frames : List (List ℕ)) (why : FrameNo) (r : Reading) : Type 0 where
  pub frames_are : r.frames ≡ frames
  pub refusal_is : refusal r.failure ≡ Some why

either-refused : (over : Bool) (frames : List (List ℕ)) (rest : List ℕ) (why : FrameNo) → overrun (Some why) ≡ why
    → refusal (Some why) ≡ Some why → EndsAt frames why (either over (made frames rest (Some why)))
either-refused true frames rest why o r =
    record { frames_are = refl; refusal_is = ap (λ w. refusal (Some w)) o ∙ r }
either-refused false frames rest why o r = record { frames_are = refl; refusal_is = r }

pub refused-append :
    (s : Standing) (bytes more rest : List ℕ) (why : FrameNo) → IsAt s bytes
    → overrun (Some why) ≡ why → refusal (Some why) ≡ Some why
    → frames_in MAX_FRAMES (bytes ++ take (MAX_STREAM - length bytes) more) ≡ made (reading bytes).frames rest
    (Some why)
    → EndsAt (reading bytes).frames why (reading (bytes ++ more))
refused-append s bytes more rest why at o r e =
    let over = nat_lt MAX_STREAM (length (bytes ++ more)) in
    let frames = (reading bytes).frames in
    subst (EndsAt frames why) (sym (first-append s bytes more (made frames rest (Some why)) at e))
    (either-refused over frames rest why o r)

pub stream-append :
    (s : Standing) (bytes more : List ℕ) → IsAt s bytes
    → MAX_STREAM < length (bytes ++ more)
    → IsPartial ((reading bytes).rest ++ take (MAX_STREAM - length bytes) more)
    → (0 < length ((reading bytes).rest ++ take (MAX_STREAM - length bytes) more) → s.frames < MAX_FRAMES)
    → EndsAt (reading bytes).frames Stream (reading (bytes ++ more))
stream-append s bytes more at above part number =
    let first = take (MAX_STREAM - length bytes) more in
    let frames = (reading bytes).frames in
    let rest = (reading bytes).rest ++ first in
    let none = length rest == 0 in
    let r = made frames rest (open_failure none s.frames) in
    let e = first-append s bytes more r at (in_partial s bytes first at part number)
    ∙ ap (λ over. either over r) (lt-true MAX_STREAM (length (bytes ++ more)) above) in
    record {
      frames_are = ap (λ (read : Reading). read.frames) e;
      refusal_is = ap (λ (read : Reading). refusal read.failure) e
          ∙ ap (λ why. refusal (Some why)) (open-overrun none s.frames);
    }
