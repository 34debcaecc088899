-- The frame that bytes begin with.
use Rattle.std.proofs.Common.{◌≡◌, ℕ, ◌+◌, ◌<◌, ◌≤◌, true, false, List, ◌++◌, length, take, drop, nat_lt, Ok, Err, refl, ap, ◌∙◌, ⊎_elim, arith, length-append, length-drop}
use Rattle.std.specs.Int.{from_be_bytes, w32}
use Rattle.std.proofs.lemmas.List.{take-append-le, drop-append-le}
use Rattle.std.proofs.lemmas.Bool.{cases_lt}
use Rattle.std.proofs.lemmas.Bool.Decides.{nat_tests}
use Rattle.frame_core.specs.declared.frame.FrameNo.TheVariants.{Length, Frames, Stream, Inside}
use Rattle.frame_core.specs.declared.limits.TheConstants.{MAX_LENGTH}
use Rattle.frame_core.specs.Frames.{length_in, whole_frame}
use Rattle.frame_core.specs.Standing.{IsPartial}

-- these bytes begin with a whole frame of this length
pub record IsWhole (bytes : List ℕ) (len : ℕ) : Type 0 where
  pub gives : length_in bytes ≡ len
  pub fits : len ≤ MAX_LENGTH
  pub there : 4 + len ≤ length bytes

pub lt-false : (a b : ℕ) → b ≤ a → nat_lt a b ≡ false
lt-false a b h = grind (arith, nat_tests)

pub lt-true : (a b : ℕ) → a < b → nat_lt a b ≡ true
lt-true a b h = grind (arith, nat_tests)

pub length_in-append : (bytes more : List ℕ) → 4 ≤ length bytes → length_in (bytes ++ more) ≡ length_in bytes
unfolding length_in
length_in-append bytes more h = ap (from_be_bytes w32) (take-append-le 4 bytes more h)

pub whole_frame-whole : (number : ℕ) (bytes : List ℕ) (len : ℕ) → IsWhole bytes len → whole_frame number bytes ≡ Ok len
unfolding whole_frame
whole_frame-whole number bytes len h =
    let there = h.there in
    let fits = h.fits in
    let gives = h.gives in
    rw (
      lt-false (length bytes) 4 (omega arith),
      lt-false MAX_LENGTH (length_in bytes) (omega arith),
      lt-false
          (length bytes) (4 + length_in bytes) (omega arith),
    ) (ap Ok gives)

pub whole_frame-partial : (number : ℕ) (bytes : List ℕ) → IsPartial bytes
    → whole_frame number bytes ≡ Err (Inside number)
unfolding whole_frame
whole_frame-partial number bytes h =
    ⊎_elim
    (λ (short : length bytes < 4). rw (lt-true (length bytes) 4 short) refl)
    (λ (long : 4 ≤ length bytes).
    let fits = (h long).0 in
    let part = (h long).1 in
    rw (
      lt-false (length bytes) 4 long,
      lt-false MAX_LENGTH (length_in bytes) fits,
      lt-true (length bytes)
          (4 + length_in bytes) part,
    ) refl)
    (cases_lt (length bytes) 4)

pub whole_frame-long : (number : ℕ) (bytes : List ℕ) → 4 ≤ length bytes → MAX_LENGTH < length_in bytes
    → whole_frame number bytes ≡ Err (Length number)
unfolding whole_frame
whole_frame-long number bytes there above =
    rw (lt-false (length bytes) 4 there, lt-true MAX_LENGTH (length_in bytes) above) refl

pub IsWhole-from_ok : (number : ℕ) (bytes : List ℕ) (len : ℕ) → whole_frame number bytes ≡ Ok len → IsWhole bytes len
unfolding whole_frame
IsWhole-from_ok number bytes len e =
    record {
      gives = grind (arith, nat_tests);
      fits = grind (arith, nat_tests);
      there = grind (arith, nat_tests);
    }

pub IsWhole-append : (bytes more : List ℕ) (len : ℕ) → IsWhole bytes len → IsWhole (bytes ++ more) len
IsWhole-append bytes more len h =
    let there = h.there in
    record {
      gives = length_in-append bytes more (omega arith) ∙ h.gives;
      fits = h.fits;
      there = omega (arith, length-append bytes more);
    }

-- the frame in front stays when more bytes come
pub frame-append : (bytes more : List ℕ) (len : ℕ) → 4 + len ≤ length bytes
    → take len (drop 4 (bytes ++ more)) ≡ take len (drop 4 bytes)
frame-append bytes more len h =
    ap (take len) (drop-append-le 4 bytes more (omega arith))
    ∙ take-append-le len (drop 4 bytes) more (omega (arith, length-drop 4 bytes))

-- these bytes, of a frame of this number, begin with a length above the limit
pub record IsLong (number : ℕ) (bytes : List ℕ) (k : ℕ) : Type 0 where
  pub there : 4 ≤ length bytes
  pub above : MAX_LENGTH < length_in bytes
  pub number_is : k ≡ number

pub IsLong-from_err : (number : ℕ) (bytes : List ℕ) (k : ℕ) → whole_frame number bytes ≡ Err (Length k)
    → IsLong number bytes k
unfolding whole_frame
IsLong-from_err number bytes k e =
    record {
      there = grind (arith, nat_tests);
      above = grind (arith, nat_tests);
      number_is = grind (arith, nat_tests);
    }

pub whole_frame-not_frames : (number : ℕ) (bytes : List ℕ) → whole_frame number bytes ≡ Err Frames → ⊥
unfolding whole_frame
whole_frame-not_frames number bytes e = grind (arith, nat_tests)

pub whole_frame-not_stream : (number : ℕ) (bytes : List ℕ) → whole_frame number bytes ≡ Err Stream → ⊥
unfolding whole_frame
whole_frame-not_stream number bytes e = grind (arith, nat_tests)
