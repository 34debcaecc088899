-- What a cutter keeps when more bytes come.
use Rattle.std.proofs.Common.{◌≡◌, ℕ, ◌+◌, ◌-◌, ◌<◌, ◌≤◌, ◌==◌, List, [], ◌++◌, length, take, drop, None, refl, sym, ap, ◌∙◌, subst, ⊎_elim, arith, append_assoc, length-append}
use Rattle.std.specs.Int.{from_be_bytes, w32}
use Rattle.std.proofs.lemmas.List.{take_all, take-append-le, append-nil}
use Rattle.std.proofs.lemmas.Bool.{cases_lt}
use Rattle.frame_core.specs.declared.limits.TheConstants.{MAX_LENGTH, MAX_FRAMES, MAX_STREAM}
use Rattle.frame_core.specs.Frames.{Reading, length_in, reading, frames_of, failure_of}
use Rattle.frame_core.specs.Standing.{Standing, IsPartial, IsAt, Advances}
use Rattle.frame_core.specs.Feeding.{GoesOn}
use Rattle.frame_core.proofs.FrontLaws.{length_in-append}
use Rattle.frame_core.proofs.FramesLaws.{frames_in-nil}
use Rattle.frame_core.proofs.ReadingLaws.{made, open_failure, is_open, reading-fits, in_partial}
use Rattle.frame_core.proofs.ListLaws.{take-append-again, take-split}

-- further bytes have come, and what they end or break hasn't been settled
pub record Comes (s : Standing) (bytes more : List ℕ) : Type 0 where
  pub place : s.place ≡ length bytes + length more
  pub frames : s.frames ≡ length (reading bytes).frames
  pub within : s.within ≡ length ((reading bytes).rest ++ more)
  pub head : s.head ≡ take 4 ((reading bytes).rest ++ more)

pub Comes-none : (s : Standing) (bytes : List ℕ) → IsAt s bytes → Comes s bytes []
Comes-none s bytes at =
    let rest = (reading bytes).rest in
    record {
      place = at.place ∙ omega arith;
      frames = at.frames;
      within = at.within ∙ ap length (sym (append-nil rest));
      head = at.head ∙ ap (take 4) (sym (append-nil rest));
    }

pub Comes-on : (s new : Standing) (bytes more next : List ℕ) → Comes s bytes more → Advances s next new
    → Comes new bytes (more ++ next)
Comes-on s new bytes more next was on =
    let rest = (reading bytes).rest in
    let seam = append_assoc rest more next in
    let place = was.place in
    let within = was.within in
    record {
      place = on.place ∙ omega (arith, length-append more next);
      frames = on.frames ∙ was.frames;
      within = on.within ∙ (ap (λ k. k + length next) was.within
          ∙ (sym (length-append (rest ++ more) next) ∙ ap length seam));
      head = on.head ∙ (ap (λ head. take 4 (head ++ next)) was.head
          ∙ (take-append-again 4 (rest ++ more) next ∙ ap (take 4) seam));
    }

-- the length that the kept bytes give
unfoldable pub len_at : Standing → ℕ
len_at s = from_be_bytes w32 s.head

-- a frame's length has not all come, or it may be and is more than what has come
abbrev pub IsBegun : Standing → Type 0
IsBegun s = 4 ≤ s.within → (len_at s ≤ MAX_LENGTH) × (s.within < 4 + len_at s)

pub length_in-len_at : (s : Standing) (bytes more : List ℕ) → Comes s bytes more
    → length_in ((reading bytes).rest ++ more) ≡ len_at s
unfolding length_in len_at
length_in-len_at s bytes more c = ap (from_be_bytes w32) (sym c.head)

IsPartial-from_begun : (s : Standing) (bytes more : List ℕ) → Comes s bytes more → IsBegun s
    → IsPartial ((reading bytes).rest ++ more)
IsPartial-from_begun s bytes more c begun =
    let within = c.within in
    λ there.
    let gives = length_in-len_at s bytes more c in
    let b = begun (omega arith) in
    (omega (arith, b), omega (arith, b))

pub goes_on :
    (s new : Standing) (bytes more : List ℕ) → IsAt s bytes → Comes new bytes more → IsBegun new
    → new.place ≤ MAX_STREAM → (0 < new.within → new.frames < MAX_FRAMES)
    → IsAt new (bytes ++ more) × GoesOn bytes (bytes ++ more)
unfolding frames_of failure_of
goes_on s new bytes more at c begun fits number =
    let rest = (reading bytes).rest ++ more in
    let place = c.place in
    let within = c.within in
    let same_frames : s.frames ≡ new.frames = at.frames ∙ sym c.frames in
    let part = IsPartial-from_begun new bytes more c begun in
    let below : 0 < length rest → s.frames < MAX_FRAMES = λ some. (let b = number (omega arith) in omega (arith, b)) in
    let short : length (bytes ++ more) ≤ MAX_STREAM = omega (arith, length-append bytes more) in
    let e = reading-fits (bytes ++ more) short ∙ in_partial s bytes more at part below in
    let at' : IsAt new (bytes ++ more) = record {
      fits = short;
      place = c.place ∙ sym (length-append bytes more);
      frames = c.frames ∙ sym (ap (λ (r : Reading). length r.frames) e);
      within = c.within ∙ sym (ap (λ (r : Reading). length r.rest) e);
      head = c.head ∙ sym (ap (λ (r : Reading). take 4 r.rest) e);
      partial = subst (λ (r : Reading). IsPartial r.rest) (sym e) part;
      number = number;
      failure = ap (λ (r : Reading). r.failure) e
          ∙ (ap (λ k. open_failure (k == 0) s.frames) (sym c.within) ∙ ap (open_failure (new.within == 0)) same_frames);
    } in (
      at',
      record {
        frames = ap (λ (r : Reading). r.frames) e;
        refusal = is_open new (bytes ++ more) at';
      },
    )

pub Advances-none : (s : Standing) → length s.head ≤ 4 → Advances s [] s
Advances-none s short =
    record {
      place = omega arith;
      frames = refl;
      within = omega arith;
      head = sym (ap (take 4) (append-nil s.head) ∙ take_all 4 s.head short);
      refusal = refl;
    }

reading-nil : reading [] ≡ made [] [] None
reading-nil = reading-fits [] (omega arith) ∙ frames_in-nil MAX_FRAMES

pub frames_of-nil : frames_of [] ≡ []
unfolding frames_of
frames_of-nil = ap (λ (r : Reading). r.frames) reading-nil

-- between frames nothing is kept
pub IsAt-start : (s : Standing) → s.place ≡ 0 → s.frames ≡ 0 → s.within ≡ 0 → s.head ≡ [] → IsAt s []
IsAt-start s p f w h =
    let e = reading-nil in
    record {
      fits = omega arith;
      place = p;
      frames = f ∙ sym (ap (λ (r : Reading). length r.frames) e);
      within = w ∙ sym (ap (λ (r : Reading). length r.rest) e);
      head = h ∙ sym (ap (λ (r : Reading). take 4 r.rest) e);
      partial = subst (λ (r : Reading). IsPartial r.rest) (sym e) (λ four. absurd (omega arith));
      number = λ some. absurd (omega arith);
      failure = ap (λ (r : Reading). r.failure) e ∙ sym (ap (λ k. open_failure (k == 0) s.frames) w);
    }

pub Comes-first : (s mid : Standing) (bytes next : List ℕ) → IsAt s bytes → Advances s next mid → Comes mid bytes next
Comes-first s mid bytes next at on = Comes-on s mid bytes [] next (Comes-none s bytes at) on

pub Comes-second : (s mid new : Standing) (bytes rest : List ℕ) (n m : ℕ) → IsAt s bytes
    → Advances s (take n rest) mid → Advances mid (take m (drop n rest)) new → Comes new bytes (take (n + m) rest)
Comes-second s mid new bytes rest n m at first second =
    subst (λ more. Comes new bytes more) (take-split n m rest)
    (Comes-on mid new bytes (take n rest) (take m (drop n rest))
    (Comes-first s mid bytes (take n rest) at first) second)

-- a head that is known gives the same length when more bytes come
pub len_at-on : (s new : Standing) (more : List ℕ) → Advances s more new → length s.head ≡ 4 → len_at new ≡ len_at s
unfolding len_at
len_at-on s new more on four =
    ap (from_be_bytes w32) (on.head ∙ (take-append-le 4 s.head more (omega arith) ∙ take_all 4 s.head (omega arith)))

-- a frame whose length is just known, or was known before, is no longer than that
pub within-le : (s mid : Standing) (bytes more : List ℕ) → IsAt s bytes → Comes mid bytes more
    → length more ≤ 4 - s.within → 4 ≤ mid.within → mid.within ≤ 4 + len_at mid
within-le s mid bytes more at c few four =
    let rest = (reading bytes).rest in
    let within = c.within in
    let before = at.within in
    let gives = length_in-len_at mid bytes more c in
    ⊎_elim
    (λ (short : length rest < 4). omega (arith, length-append rest more))
    (λ (long : 4 ≤ length rest).
    let part = at.partial long in
    let same = length_in-append rest more long in
    omega (arith, length-append rest more, part))
    (cases_lt (length rest) 4)
