-- What a call comes to that goes on to the end of a head, and then to the end of the frame.
use Rattle.std.proofs.Common.{◌≡◌, ℕ, ◌+◌, ◌-◌, ◌<◌, ◌≤◌, min, List, [], ◌++◌, length, take, drop, sym, ap, ◌∙◌, subst, inl, inr, arith}
use Rattle.std.proofs.lemmas.List.{length-take-le, length-drop, take_rest, take-append-drop}
use Rattle.std.specs.Int.{from_be_bytes, w32}
use Rattle.frame_core.specs.contracts.cutter.Cutter.{the_view}
use Rattle.frame_core.specs.declared.cutter.Cutter.TheInside.{Inside}
use Rattle.frame_core.specs.declared.frame.FrameNo.{FrameNo}
use Rattle.frame_core.specs.declared.frame.FrameNo.TheVariants.{Length}
use Rattle.frame_core.specs.declared.frame.Cut.{Cut}
use Rattle.frame_core.specs.declared.limits.TheConstants.{MAX_LENGTH, MAX_FRAMES, MAX_STREAM}
use Rattle.frame_core.specs.Standing.{Standing, IsAt, Advances, MeetsLimit}
use Rattle.frame_core.specs.Feeding.{EndsFrame, GoesOn, IsRefused}
use Rattle.frame_core.proofs.InsideLaws.{within-is, head-is, len_at-is}
use Rattle.frame_core.proofs.StandingLaws.{Comes, Comes-none, Comes-first, Comes-second, len_at, len_at-on, within-le, goes_on}
use Rattle.frame_core.proofs.EndLaws.{ends_frame}
use Rattle.frame_core.proofs.RefusalLaws.{refuses, refuses_length}

-- the bytes that are left of a piece
abbrev pub left : ℕ → List ℕ → List ℕ
left n rest = take (length rest - n) (drop n rest)

-- the head has come, and gives this length
pub record HasHead (s mid : Standing) (rest : List ℕ) (n len : ℕ) : Type 0 where
  pub gone : n ≡ min (4 - s.within) (length rest)
  pub first : Advances s (take n rest) mid
  pub fits : mid.place ≤ MAX_STREAM
  pub number : 0 < mid.within → mid.frames < MAX_FRAMES
  pub known : length mid.head ≡ 4
  pub four : 4 ≤ mid.within
  pub gives : len_at mid ≡ len

pub HasHead-from :
    (old : Inside) (s mid : Standing) (rest : List ℕ) (n len : ℕ)
    → the_view old ≡ mid → length old.head ≡ 4 → 4 ≤ old.within → len ≡ from_be_bytes w32 old.head
    → n ≡ min (4 - s.within) (length rest) → Advances s (take n rest) mid
    → mid.place ≤ MAX_STREAM → (0 < mid.within → mid.frames < MAX_FRAMES)
    → HasHead s mid rest n len
HasHead-from old s mid rest n len e four all given gone first fits number =
    let within = within-is old mid e in
    record {
      gone = gone;
      first = first;
      fits = fits;
      number = number;
      known = ap length (head-is old mid e four all) ∙ four;
      four = omega arith;
      gives = len_at-is old mid e four all ∙ sym given;
    }

-- so much of the frame has come then
pub record HasMore (mid new : Standing) (rest : List ℕ) (n m len : ℕ) : Type 0 where
  pub gone : m ≡ min (4 + len - mid.within) (length (left n rest))
  pub second : Advances mid (take m (left n rest)) new
  pub fits : new.place ≤ MAX_STREAM
  pub number : 0 < new.within → new.frames < MAX_FRAMES

-- the first bytes meet a limit
pub refuses_first :
    (s : Standing) (bytes rest : List ℕ) (why : FrameNo) → IsAt s bytes
    → MeetsLimit s (min (4 - s.within) (length rest)) why
    → IsRefused bytes (bytes ++ rest) why
refuses_first s bytes rest why at met =
    let place = at.place in
    let fits = at.fits in
    refuses s s bytes [] rest 4 why at (Comes-none s bytes at) (omega arith) at.number (inl (omega arith)) met

-- the piece ends before the head does
pub goes_first :
    (s mid : Standing) (bytes rest : List ℕ) (n : ℕ) → IsAt s bytes → Advances s (take n rest) mid
    → mid.place ≤ MAX_STREAM → (0 < mid.within → mid.frames < MAX_FRAMES) → mid.within < 4
    → IsAt mid (bytes ++ take n rest) × GoesOn bytes (bytes ++ take n rest)
goes_first s mid bytes rest n at on fits number below =
    goes_on s mid bytes (take n rest) at (Comes-first s mid bytes (take n rest) at on)
    (λ four. absurd (omega arith)) fits number

pub all_first : (s mid : Standing) (rest : List ℕ) (n : ℕ) → n ≡ min (4 - s.within) (length rest)
    → Advances s (take n rest) mid → mid.within < 4 → n ≡ length rest
all_first s mid rest n gone on below =
    let within = on.within in
    let long = length-take-le n rest (omega arith) in
    omega arith

pub refuses_head :
    (s mid : Standing) (bytes rest : List ℕ) (n len : ℕ) → IsAt s bytes → HasHead s mid rest n len → MAX_LENGTH < len
    → IsRefused bytes (bytes ++ rest) (Length mid.frames)
refuses_head s mid bytes rest n len at h above =
    let four = h.four in
    let gives = h.gives in
    let below = h.number (omega arith) in
    subst (λ more. IsRefused bytes (bytes ++ more) (Length mid.frames)) (take-append-drop n rest)
    (refuses_length s mid bytes (take n rest) (drop n rest) at
    (Comes-first s mid bytes (take n rest) at h.first) four (omega arith) h.fits below)

pub refuses_second :
    (s mid : Standing) (bytes rest : List ℕ) (n len : ℕ) (why : FrameNo) → IsAt s bytes → HasHead s mid rest n len
    → len ≤ MAX_LENGTH
    → MeetsLimit mid (min (4 + len - mid.within) (length (left n rest))) why
    → IsRefused bytes (bytes ++ rest) why
refuses_second s mid bytes rest n len why at h fits met =
    let gives = h.gives in
    subst (λ more. IsRefused bytes (bytes ++ more) why)
    (ap (λ later. take n rest ++ later) (take_rest rest n) ∙ take-append-drop n rest)
    (refuses s mid bytes (take n rest) (left n rest) (4 + len) why at
    (Comes-first s mid bytes (take n rest) at h.first) h.fits h.number (inr (h.four, omega arith, omega arith)) met)

comes_second : (s mid new : Standing) (bytes rest : List ℕ) (n m len : ℕ) → IsAt s bytes → HasHead s mid rest n len
    → HasMore mid new rest n m len → Comes new bytes (take (n + m) rest)
comes_second s mid new bytes rest n m len at h more =
    Comes-second s mid new bytes rest n m at h.first
    (subst (λ later. Advances mid (take m later) new) (take_rest rest n) more.second)

second_len : (s mid new : Standing) (rest : List ℕ) (n m len : ℕ) → HasHead s mid rest n len
    → HasMore mid new rest n m len → len_at new ≡ len
second_len s mid new rest n m len h more = len_at-on mid new (take m (left n rest)) more.second h.known ∙ h.gives

second_within : (mid new : Standing) (rest : List ℕ) (n m len : ℕ) → HasMore mid new rest n m len
    → new.within ≡ mid.within + m
second_within mid new rest n m len more =
    let gone = more.gone in
    let within = more.second.within in
    let long = length-take-le m (left n rest) (omega arith) in
    omega arith

-- the piece ends before the frame does
pub goes_second :
    (s mid new : Standing) (bytes rest : List ℕ) (n m len : ℕ) → IsAt s bytes → HasHead s mid rest n len
    → len ≤ MAX_LENGTH
    → HasMore mid new rest n m len → new.within < 4 + len
    → IsAt new (bytes ++ take (n + m) rest) × GoesOn bytes (bytes ++ take (n + m) rest)
goes_second s mid new bytes rest n m len at h fits more below =
    let gives = second_len s mid new rest n m len h more in
    goes_on s new bytes (take (n + m) rest) at (comes_second s mid new bytes rest n m len at h more)
    (λ four. (omega arith, omega arith)) more.fits more.number

pub all_second : (s mid new : Standing) (rest : List ℕ) (n m len : ℕ) → HasHead s mid rest n len
    → HasMore mid new rest n m len → new.within < 4 + len → n + m ≡ length rest
all_second s mid new rest n m len h more below =
    let within = second_within mid new rest n m len more in
    let first = h.gone in
    let second = more.gone in
    let long = ap length (take_rest rest n) ∙ length-drop n rest in
    omega arith

-- the frame ends in the piece
pub ends_second :
    (s mid new after : Standing) (bytes rest : List ℕ) (n m len : ℕ) (cut : Cut) → IsAt s bytes
    → HasHead s mid rest n len → len ≤ MAX_LENGTH
    → HasMore mid new rest n m len → 4 + len ≤ new.within
    → after.place ≡ new.place → after.frames ≡ new.frames + 1 → after.within ≡ 0 → after.head ≡ []
    → cut.len ≡ len → cut.start + cut.len ≡ new.place
    → IsAt after (bytes ++ take (n + m) rest) × EndsFrame bytes (bytes ++ take (n + m) rest) cut
ends_second s mid new after bytes rest n m len cut at h fits more all place frames within head cut_len cut_end =
    let first = h.gone in
    let first_long = length-take-le n rest (omega arith) in
    let gives = second_len s mid new rest n m len h more in
    let head_gives = h.gives in
    let grows = second_within mid new rest n m len more in
    let second = more.gone in
    let before = within-le s mid bytes (take n rest) at (Comes-first s mid bytes (take n rest) at h.first)
    (omega arith) h.four in
    let below = more.number (omega arith) in
    ends_frame s new after bytes (take (n + m) rest) cut at (comes_second s mid new bytes rest n m len at h more)
    (omega arith) (omega arith) (omega arith) more.fits below place frames within head (cut_len ∙ sym gives) cut_end
