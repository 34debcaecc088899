-- When a stream is refused, and that it stays so.
use Rattle.std.proofs.Common.{◌≡◌, ℕ, ◌+◌, ◌-◌, ◌<◌, ◌≤◌, min, Bool, true, false, nat_lt, List, ◌++◌, length, take, Option, Some, None, refl, sym, ap, ◌∙◌, subst, ◌⊎◌, ⊎_elim, arith, append_assoc, length-append}
use Rattle.std.proofs.lemmas.List.{length-take, take-append-le, length-take-le}
use Rattle.std.proofs.lemmas.Bool.{cases_lt}
use Rattle.frame_core.specs.declared.frame.FrameNo.{FrameNo}
use Rattle.frame_core.specs.declared.frame.FrameNo.TheVariants.{Length, Frames, Stream, Inside}
use Rattle.frame_core.specs.declared.limits.TheConstants.{MAX_LENGTH, MAX_FRAMES, MAX_STREAM}
use Rattle.frame_core.specs.Frames.{Reading, length_in, reading, frames_in, overrun, frames_of, failure_of, refusal}
use Rattle.frame_core.specs.Standing.{Standing, IsPartial, IsAt, MeetsLimit}
use Rattle.frame_core.specs.Feeding.{IsRefused}
use Rattle.frame_core.proofs.FrontLaws.{lt-true, length_in-append}
use Rattle.frame_core.proofs.FramesLaws.{frames_in-refused}
use Rattle.frame_core.proofs.ReadingLaws.{either, take-append-past, reading-first, reading-fits, in_long, in_over, EndsAt, refused-append, stream-append}
use Rattle.frame_core.proofs.StandingLaws.{Comes, len_at, length_in-len_at}

IsRefused-from_ends : (bytes after : List ℕ) (why : FrameNo) → EndsAt (reading bytes).frames why (reading after)
    → IsRefused bytes after why
unfolding frames_of failure_of
IsRefused-from_ends bytes after why e = record { frames = e.frames_are; refusal = e.refusal_is }

-- as much of further bytes as the stream may have
room-append : (s : Standing) (bytes more next : List ℕ) → Comes s bytes more → s.place ≤ MAX_STREAM
    → take (MAX_STREAM - length bytes) (more ++ next) ≡ more ++ take (MAX_STREAM - s.place) next
room-append s bytes more next c fits =
    let place = c.place in
    let less : MAX_STREAM - length bytes - length more ≡ MAX_STREAM - s.place = omega arith in
    take-append-past (MAX_STREAM - length bytes) more next (omega arith) ∙ ap (λ k. more ++ take k next) less

pub refuses_length :
    (s mid : Standing) (bytes more next : List ℕ) → IsAt s bytes → Comes mid bytes more
    → 4 ≤ mid.within → MAX_LENGTH < len_at mid
    → mid.place ≤ MAX_STREAM → mid.frames < MAX_FRAMES
    → IsRefused bytes (bytes ++ (more ++ next)) (Length mid.frames)
refuses_length s mid bytes more next at c four above fits below =
    let rest = (reading bytes).rest in
    let room = take (MAX_STREAM - length bytes) (more ++ next) in
    let later = take (MAX_STREAM - mid.place) next in
    let same_frames : s.frames ≡ mid.frames = at.frames ∙ sym c.frames in
    let place = c.place in
    let within = c.within in
    let gives = length_in-len_at mid bytes more c in
    let all : rest ++ room ≡ (rest ++ more) ++ later =
    ap (λ xs. rest ++ xs) (room-append mid bytes more next c fits) ∙ sym (append_assoc rest more later) in
    let there : 4 ≤ length (rest ++ room) = omega (arith, ap length all, length-append (rest ++ more) later) in
    let long : length_in (rest ++ room) ≡ len_at mid = ap length_in all
    ∙ (length_in-append (rest ++ more) later (omega arith) ∙ gives) in
    let e = in_long s bytes room at (omega arith) there (omega arith) in
    subst (λ k. IsRefused bytes (bytes ++ (more ++ next)) (Length k)) same_frames
    (IsRefused-from_ends bytes (bytes ++ (more ++ next)) (Length s.frames)
    (refused-append s bytes (more ++ next) (rest ++ room) (Length s.frames) at refl refl e))

refuses_frames :
    (s mid : Standing) (bytes more next : List ℕ) → IsAt s bytes → Comes mid bytes more
    → 0 < length next → mid.place < MAX_STREAM → mid.frames ≡ MAX_FRAMES
    → IsRefused bytes (bytes ++ (more ++ next)) Frames
refuses_frames s mid bytes more next at c some short all_ended =
    let rest = (reading bytes).rest in
    let room = take (MAX_STREAM - length bytes) (more ++ next) in
    let later = take (MAX_STREAM - mid.place) next in
    let same_frames : s.frames ≡ mid.frames = at.frames ∙ sym c.frames in
    let all : rest ++ room ≡ (rest ++ more) ++ later =
    ap (λ xs. rest ++ xs) (room-append mid bytes more next c (omega arith)) ∙ sym (append_assoc rest more later) in
    let there : 0 < length (rest ++ room) =
    omega (arith, ap length all, length-append (rest ++ more) later, length-take (MAX_STREAM - mid.place) next) in
    let e = in_over s bytes room at (same_frames ∙ all_ended) there in
    IsRefused-from_ends bytes (bytes ++ (more ++ next)) Frames
    (refused-append s bytes (more ++ next) (rest ++ room) Frames at refl refl e)

-- up to so many bytes the present frame goes on, whatever they are
abbrev pub IsOpenTo : Standing → ℕ → Type 0
IsOpenTo s end = (end ≤ 4) ⊎ ((4 ≤ s.within) × (len_at s ≤ MAX_LENGTH) × (end ≡ 4 + len_at s))

refuses_stream :
    (s mid : Standing) (bytes more next : List ℕ) (end n : ℕ) → IsAt s bytes → Comes mid bytes more
    → mid.place ≤ MAX_STREAM → (0 < mid.within → mid.frames < MAX_FRAMES) → IsOpenTo mid end
    → n ≡ min (end - mid.within) (length next)
    → MAX_STREAM < mid.place + n → (mid.place < MAX_STREAM → mid.within ≡ 0 → mid.frames < MAX_FRAMES)
    → IsRefused bytes (bytes ++ (more ++ next)) Stream
refuses_stream s mid bytes more next end n at c fits number still n_is above first =
    let rest = (reading bytes).rest in
    let room = take (MAX_STREAM - length bytes) (more ++ next) in
    let later = take (MAX_STREAM - mid.place) next in
    let same_frames : s.frames ≡ mid.frames = at.frames ∙ sym c.frames in
    let place = c.place in
    let within = c.within in
    let gives = length_in-len_at mid bytes more c in
    let all : rest ++ room ≡ (rest ++ more) ++ later =
    ap (λ xs. rest ++ xs) (room-append mid bytes more next c fits) ∙ sym (append_assoc rest more later) in
    let later_long : length later ≡ MAX_STREAM - mid.place =
    length-take-le (MAX_STREAM - mid.place) next (omega arith) in
    let long : length (rest ++ room) ≡ mid.within + (MAX_STREAM - mid.place) =
    omega (arith, ap length all, length-append (rest ++ more) later) in
    let within_end : length (rest ++ room) < end = omega arith in
    let part : IsPartial (rest ++ room) = λ four. ⊎_elim
    (λ (short : end ≤ 4). absurd (omega arith))
    (λ (o : (4 ≤ mid.within) × (len_at mid ≤ MAX_LENGTH) × (end ≡ 4 + len_at mid)).
    let len : length_in (rest ++ room) ≡ len_at mid = ap length_in all
    ∙ (length_in-append (rest ++ more) later (omega (arith, o)) ∙ gives) in
    (omega (arith, o), omega (arith, o)))
    still in
    let below : 0 < length (rest ++ room) → s.frames < MAX_FRAMES = λ some. ⊎_elim
    (λ (inside : 0 < mid.within). let b = number inside in omega (arith, b))
    (λ (between : mid.within ≤ 0). let b = first (omega arith) (omega arith) in omega (arith, b))
    (cases_lt 0 mid.within) in
    let over : MAX_STREAM < length (bytes ++ (more ++ next)) =
    omega (arith, length-append bytes (more ++ next), length-append more next) in
    IsRefused-from_ends bytes (bytes ++ (more ++ next)) Stream (stream-append s bytes (more ++ next) at over part below)

pub refuses :
    (s mid : Standing) (bytes more next : List ℕ) (end : ℕ) (why : FrameNo) → IsAt s bytes → Comes mid bytes more
    → mid.place ≤ MAX_STREAM → (0 < mid.within → mid.frames < MAX_FRAMES) → IsOpenTo mid end
    → MeetsLimit mid (min (end - mid.within) (length next)) why
    → IsRefused bytes (bytes ++ (more ++ next)) why
refuses s mid bytes more next end (Length k) at c fits number still met = absurd met
refuses s mid bytes more next end Frames at c fits number still met =
    refuses_frames s mid bytes more next at c (omega (arith, met)) met.1 met.3
refuses s mid bytes more next end Stream at c fits number still met =
    refuses_stream s mid bytes more next end
    (min (end - mid.within) (length next)) at c fits number still refl met.0 met.1
refuses s mid bytes more next end (Inside k) at c fits number still met = absurd met

overrun-refused : (failure : Option FrameNo) (why : FrameNo) → refusal failure ≡ Some why → overrun (Some why) ≡ why
overrun-refused None why e = cc
overrun-refused (Some (Length k)) why e = let w : Length k ≡ why = cc in subst (λ v. overrun (Some v) ≡ v) w refl
overrun-refused (Some Frames) why e = let w : Frames ≡ why = cc in subst (λ v. overrun (Some v) ≡ v) w refl
overrun-refused (Some Stream) why e = let w : Stream ≡ why = cc in subst (λ v. overrun (Some v) ≡ v) w refl
overrun-refused (Some (Inside k)) why e = cc

refusal-again : (failure : Option FrameNo) (why : FrameNo) → refusal failure ≡ Some why → refusal (Some why) ≡ Some why
refusal-again None why e = cc
refusal-again (Some (Length k)) why e = subst (λ (o : Option FrameNo). refusal o ≡ o) e refl
refusal-again (Some Frames) why e = subst (λ (o : Option FrameNo). refusal o ≡ o) e refl
refusal-again (Some Stream) why e = subst (λ (o : Option FrameNo). refusal o ≡ o) e refl
refusal-again (Some (Inside k)) why e = cc

either-kept : (past : Bool) (first : Reading) (why : FrameNo) → first.failure ≡ Some why → overrun (Some why) ≡ why
    → refusal (Some why) ≡ Some why → EndsAt first.frames why (either past first)
either-kept true first why e o r =
    record {
      frames_are = refl;
      refusal_is = ap (λ f. refusal (Some (overrun f))) e
          ∙ (ap (λ w. refusal (Some w)) o ∙ r);
    }
either-kept false first why e o r = record { frames_are = refl; refusal_is = ap refusal e ∙ r }

-- no further byte mends a refusal
pub refused-stays : (bytes more : List ℕ) (why : FrameNo) → refusal (failure_of bytes) ≡ Some why
    → IsRefused bytes (bytes ++ more) why
unfolding frames_of failure_of
refused-stays bytes more why refused =
    ⊎_elim
    (λ (over : MAX_STREAM < length bytes).
    let over' : MAX_STREAM < length (bytes ++ more) = omega (arith, length-append bytes more) in
    let same = take-append-le MAX_STREAM bytes more (omega arith) in
    let first = frames_in MAX_FRAMES (take MAX_STREAM bytes) in
    let before = reading-first bytes ∙ ap (λ past. either past first) (lt-true MAX_STREAM (length bytes) over) in
    let after = reading-first (bytes ++ more)
    ∙ (ap (λ past. either past (frames_in MAX_FRAMES (take MAX_STREAM (bytes ++ more))))
    (lt-true MAX_STREAM (length (bytes ++ more)) over')
    ∙ ap (λ xs. either true (frames_in MAX_FRAMES xs)) same) in
    let e = after ∙ sym before in
    record {
      frames = ap (λ (r : Reading). r.frames) e;
      refusal = ap (λ (r : Reading). refusal r.failure) e ∙ refused;
    })
    (λ (fits : length bytes ≤ MAX_STREAM).
    let before = reading-fits bytes fits in
    let room = take (MAX_STREAM - length bytes) more in
    let refused' : refusal (frames_in MAX_FRAMES bytes).failure ≡ Some why =
    ap (λ (r : Reading). refusal r.failure) (sym before) ∙ refused in
    let stays = frames_in-refused MAX_FRAMES bytes room why refused' in
    let first = frames_in MAX_FRAMES (bytes ++ room) in
    let past = nat_lt MAX_STREAM (length (bytes ++ more)) in
    let after = reading-first (bytes ++ more)
    ∙ ap (λ xs. either past (frames_in MAX_FRAMES xs)) (take-append-past MAX_STREAM bytes more fits) in
    let kept = either-kept past first why stays.failure_is (overrun-refused (reading bytes).failure why refused)
    (refusal-again (reading bytes).failure why refused) in
    record {
      frames = ap (λ (r : Reading). r.frames) after
          ∙ (kept.frames_are ∙ (stays.frames_are ∙ ap (λ (r : Reading). r.frames) (sym before)));
      refusal = ap (λ (r : Reading). refusal r.failure) after ∙ kept.refusal_is;
    })
    (cases_lt MAX_STREAM (length bytes))
