-- The frames of bytes to which more come.
use Rattle.std.proofs.Common.{◌≡◌, ℕ, zero, suc, ◌+◌, ◌-◌, ◌<◌, ◌≤◌, List, [], ◌∷◌, ◌++◌, length, take, drop, Some, None, Result, Ok, Err, refl, sym, ap, ◌∙◌, subst, arith, append_assoc, length-append, length-drop}
use Rattle.std.proofs.lemmas.List.{drop-append-le, take-append-drop, take_all, drop_all, length-take-le}
use Rattle.frame_core.specs.declared.frame.FrameNo.{FrameNo}
use Rattle.frame_core.specs.declared.frame.FrameNo.TheVariants.{Length, Frames, Stream, Inside}
use Rattle.frame_core.specs.declared.limits.TheConstants.{MAX_LENGTH, MAX_FRAMES}
use Rattle.frame_core.specs.Frames.{Reading, length_in, whole_frame, in_front, read_on, frames_in, cuts_at, refusal}
use Rattle.frame_core.specs.Standing.{IsPartial}
use Rattle.frame_core.proofs.FrontLaws.{IsWhole, IsWhole-from_ok, IsWhole-append, whole_frame-whole, whole_frame-partial, whole_frame-long, frame-append, IsLong-from_err, length_in-append, whole_frame-not_frames, whole_frame-not_stream}

-- these frames before those of a reading
abbrev pub behind : List (List ℕ) → Reading → Reading
behind frames r = record r { frames = frames ++ r.frames }

-- more bytes go on where the rest ends
abbrev pub Resumes : ℕ → Reading → List ℕ → List ℕ → Type 0
Resumes n r bytes more =
    refusal r.failure ≡ None
    → frames_in n (bytes ++ more) ≡ behind r.frames (frames_in (n - length r.frames) (r.rest ++ more))

go_on-front :
    (m b : ℕ) (bytes more : List ℕ) (w : Result ℕ FrameNo)
    → whole_frame (MAX_FRAMES - suc m) (b ∷ bytes) ≡ w
    → ((tail : List ℕ) → Resumes m (frames_in m tail) tail more)
    → Resumes (suc m) (read_on w (b ∷ bytes) (frames_in m)) (b ∷ bytes) more
unfolding frames_in
go_on-front m b bytes more (Ok len) e behind_it still =
    let whole = IsWhole-from_ok (MAX_FRAMES - suc m) (b ∷ bytes) len e in
    let there = whole.there in
    let tail = drop (4 + len) (b ∷ bytes) in
    let r = frames_in m tail in
    let frame = take len (drop 4 (b ∷ bytes)) in
    let less : m - length r.frames ≡ suc m - length (frame ∷ r.frames) = omega arith in
    ap (λ w. read_on w (b ∷ (bytes ++ more)) (frames_in m))
    (whole_frame-whole (MAX_FRAMES - suc m) (b ∷ (bytes ++ more)) len (IsWhole-append (b ∷ bytes) more len whole))
    ∙ ap (λ front. in_front front (frames_in m (drop (4 + len) (b ∷ (bytes ++ more)))))
    (frame-append (b ∷ bytes) more len there)
    ∙ ap (λ left. in_front frame (frames_in m left)) (drop-append-le (4 + len) (b ∷ bytes) more there)
    ∙ ap (in_front frame) (behind_it tail still)
    ∙ ap (λ k. behind (frame ∷ r.frames) (frames_in k (r.rest ++ more))) less
go_on-front m b bytes more (Err (Inside k)) e behind_it still =
    let same : suc m ≡ suc m - 0 = omega arith in
    ap (λ k. frames_in k (b ∷ (bytes ++ more))) same
go_on-front m b bytes more (Err (Length k)) e behind_it still = cc
go_on-front m b bytes more (Err Frames) e behind_it still = cc
go_on-front m b bytes more (Err Stream) e behind_it still = cc

pub frames_in-append : (n : ℕ) (bytes more : List ℕ) → Resumes n (frames_in n bytes) bytes more
unfolding frames_in
frames_in-append zero [] more still = refl
frames_in-append zero (b ∷ bytes) more still = cc
frames_in-append (suc m) [] more still =
    let same : suc m ≡ suc m - 0 = omega arith in
    ap (λ k. frames_in k more) same
frames_in-append (suc m) (b ∷ bytes) more still =
    go_on-front m b bytes more (whole_frame (MAX_FRAMES - suc m) (b ∷ bytes)) refl
    (λ tail o. frames_in-append m tail more o) still

-- the rest is the end of the bytes
pub rest-ends : (n : ℕ) (bytes : List ℕ) → (front : List ℕ) × (front ++ (frames_in n bytes).rest ≡ bytes)
unfolding frames_in
rest-ends zero [] = ([], refl)
rest-ends zero (b ∷ bytes) = ([], refl)
rest-ends (suc m) [] = ([], refl)
rest-ends (suc m) (b ∷ bytes) =
    elim (whole_frame (MAX_FRAMES - suc m) (b ∷ bytes)) as
    (λ w. (front : List ℕ) × (front ++ (read_on w (b ∷ bytes) (frames_in m)).rest ≡ b ∷ bytes)) [
      | Ok len ↦
          let later = rest-ends m (drop (4 + len) (b ∷ bytes)) in
          let first = take (4 + len) (b ∷ bytes) in (
            first ++ later.0,
            append_assoc first later.0 _ ∙ ap (λ tail. first ++ tail) later.1
                ∙ take-append-drop (4 + len) (b ∷ bytes),
          )
      | Err why ↦ ([], refl)
    ]

pub frames_in-nil : (n : ℕ) → frames_in n [] ≡ record { frames = []; rest = []; failure = None }
unfolding frames_in
frames_in-nil zero = refl
frames_in-nil (suc m) = refl

pub frames_in-partial : (m : ℕ) (bytes : List ℕ) → 0 < length bytes → IsPartial bytes
    → frames_in (suc m) bytes ≡ record { frames = []; rest = bytes; failure = Some (Inside (MAX_FRAMES - suc m)) }
unfolding frames_in
frames_in-partial m [] some part = absurd (omega arith)
frames_in-partial m (b ∷ bytes) some part =
    ap (λ w. read_on w (b ∷ bytes) (frames_in m)) (whole_frame-partial (MAX_FRAMES - suc m) (b ∷ bytes) part)

pub frames_in-long : (m : ℕ) (bytes : List ℕ) → 4 ≤ length bytes → MAX_LENGTH < length_in bytes
    → frames_in (suc m) bytes ≡ record { frames = []; rest = bytes; failure = Some (Length (MAX_FRAMES - suc m)) }
unfolding frames_in
frames_in-long m [] there above = absurd (omega arith)
frames_in-long m (b ∷ bytes) there above =
    ap (λ w. read_on w (b ∷ bytes) (frames_in m)) (whole_frame-long (MAX_FRAMES - suc m) (b ∷ bytes) there above)

pub frames_in-over : (bytes : List ℕ) → 0 < length bytes
    → frames_in 0 bytes ≡ record { frames = []; rest = bytes; failure = Some Frames }
unfolding frames_in
frames_in-over [] some = absurd (omega arith)
frames_in-over (b ∷ bytes) some = refl

pub frames_in-whole : (m : ℕ) (bytes : List ℕ) → length_in bytes ≤ MAX_LENGTH → length bytes ≡ 4 + length_in bytes
    → frames_in (suc m) bytes ≡ record { frames = drop 4 bytes ∷ []; rest = []; failure = None }
unfolding frames_in
frames_in-whole m [] fits there = absurd (omega arith)
frames_in-whole m (b ∷ bytes) fits there =
    let all = b ∷ bytes in
    let len = length_in all in
    let whole : IsWhole all len = record { gives = refl; fits = fits; there = omega arith } in
    ap (λ w. read_on w all (frames_in m)) (whole_frame-whole (MAX_FRAMES - suc m) all len whole)
    ∙ ap (λ left. in_front (take len (drop 4 all)) (frames_in m left)) (drop_all (4 + len) all (omega arith))
    ∙ ap (in_front (take len (drop 4 all))) (frames_in-nil m)
    ∙ ap (λ front. in_front front (record { frames = []; rest = []; failure = None }))
    (take_all len (drop 4 all) (omega (arith, length-drop 4 all)))

-- these frames are read, and then this is wrong
pub record FailsAt (frames : List (List ℕ)) (why : FrameNo) (r : Reading) : Type 0 where
  pub frames_are : r.frames ≡ frames
  pub failure_is : r.failure ≡ Some why

abbrev pub Stays : ℕ → Reading → List ℕ → List ℕ → FrameNo → Type 0
Stays n r bytes more why = refusal r.failure ≡ Some why → FailsAt r.frames why (frames_in n (bytes ++ more))

refused-front :
    (m b : ℕ) (bytes more : List ℕ) (why : FrameNo) (w : Result ℕ FrameNo)
    → whole_frame (MAX_FRAMES - suc m) (b ∷ bytes) ≡ w
    → ((tail : List ℕ) → Stays m (frames_in m tail) tail more why)
    → Stays (suc m) (read_on w (b ∷ bytes) (frames_in m)) (b ∷ bytes) more why
unfolding frames_in
refused-front m b bytes more why (Ok len) e stays refused =
    let whole = IsWhole-from_ok (MAX_FRAMES - suc m) (b ∷ bytes) len e in
    let there = whole.there in
    let tail = drop (4 + len) (b ∷ bytes) in
    let frame = take len (drop 4 (b ∷ bytes)) in
    let on : frames_in (suc m) (b ∷ (bytes ++ more)) ≡ in_front frame (frames_in m (tail ++ more)) =
    ap (λ w. read_on w (b ∷ (bytes ++ more)) (frames_in m))
    (whole_frame-whole (MAX_FRAMES - suc m) (b ∷ (bytes ++ more)) len (IsWhole-append (b ∷ bytes) more len whole))
    ∙ ap (λ front. in_front front (frames_in m (drop (4 + len) (b ∷ (bytes ++ more)))))
    (frame-append (b ∷ bytes) more len there)
    ∙ ap (λ left. in_front frame (frames_in m left)) (drop-append-le (4 + len) (b ∷ bytes) more there) in
    let later = stays tail refused in
    record {
      frames_are = ap (λ (r : Reading). r.frames) on ∙ ap (λ frames. frame ∷ frames) later.frames_are;
      failure_is = ap (λ (r : Reading). r.failure) on ∙ later.failure_is;
    }
refused-front m b bytes more why (Err (Inside k)) e stays refused = absurd cc
refused-front m b bytes more why (Err (Length k)) e stays refused =
    let number = MAX_FRAMES - suc m in
    let long = IsLong-from_err number (b ∷ bytes) k e in
    let there = long.there in
    let above : MAX_LENGTH < length_in (b ∷ (bytes ++ more)) =
    subst (λ len. MAX_LENGTH < len) (sym (length_in-append (b ∷ bytes) more there)) long.above in
    let on = ap (λ w. read_on w (b ∷ (bytes ++ more)) (frames_in m))
    (whole_frame-long number (b ∷ (bytes ++ more)) (omega (arith, length-append (b ∷ bytes) more)) above) in
    record {
      frames_are = ap (λ (r : Reading). r.frames) on;
      failure_is = ap (λ (r : Reading). r.failure) on ∙ (ap (λ k. Some (Length k)) (sym long.number_is) ∙ refused);
    }
refused-front m b bytes more why (Err Frames) e stays refused =
    absurd (whole_frame-not_frames (MAX_FRAMES - suc m) (b ∷ bytes) e)
refused-front m b bytes more why (Err Stream) e stays refused =
    absurd (whole_frame-not_stream (MAX_FRAMES - suc m) (b ∷ bytes) e)

pub frames_in-refused : (n : ℕ) (bytes more : List ℕ) (why : FrameNo) → Stays n (frames_in n bytes) bytes more why
unfolding frames_in
frames_in-refused zero [] more why refused = absurd cc
frames_in-refused zero (b ∷ bytes) more why refused = record { frames_are = refl; failure_is = refused }
frames_in-refused (suc m) [] more why refused = absurd cc
frames_in-refused (suc m) (b ∷ bytes) more why refused =
    refused-front m b bytes more why (whole_frame (MAX_FRAMES - suc m) (b ∷ bytes)) refl
    (λ tail r. frames_in-refused m tail more why r) refused

-- the place behind frames of which the first begins at a place
abbrev pub end_of : ℕ → List (List ℕ) → ℕ
end_of place [] = place
end_of place (frame ∷ frames) = end_of (place + 4 + length frame) frames

pub cuts_at-push : (place : ℕ) (frames : List (List ℕ)) (frame : List ℕ)
    → cuts_at place (frames ++ frame ∷ []) ≡ cuts_at place frames ++
    record { start = end_of place frames + 4; len = length frame } ∷ []
cuts_at-push place [] frame = refl
cuts_at-push place (first ∷ frames) frame =
    ap (λ cuts. record { start = place + 4; len = length first } ∷ cuts)
    (cuts_at-push (place + 4 + length first) frames frame)

rest-begins_front :
    (m place b : ℕ) (bytes : List ℕ) (w : Result ℕ FrameNo)
    → whole_frame (MAX_FRAMES - suc m) (b ∷ bytes) ≡ w
    → ((later : ℕ) (tail : List ℕ)
    → end_of later (frames_in m tail).frames + length (frames_in m tail).rest ≡ later + length tail)
    → end_of place (read_on w (b ∷ bytes) (frames_in m)).frames + length
    (read_on w (b ∷ bytes) (frames_in m)).rest ≡ place + length (b ∷ bytes)
rest-begins_front m place b bytes (Ok len) e alike =
    let whole = IsWhole-from_ok (MAX_FRAMES - suc m) (b ∷ bytes) len e in
    let there = whole.there in
    let all = b ∷ bytes in
    let frame = take len (drop 4 all) in
    let long : length frame ≡ len = length-take-le len (drop 4 all) (omega (arith, length-drop 4 all)) in
    let tail = drop (4 + len) all in
    let left = length-drop (4 + len) all in
    let total : place + 4 + length frame + length tail ≡ place + length all = omega arith in
    alike (place + 4 + length frame) tail ∙ total
rest-begins_front m place b bytes (Err why) e alike = refl

-- the rest begins behind the frames
pub rest-begins : (n place : ℕ) (bytes : List ℕ)
    → end_of place (frames_in n bytes).frames + length (frames_in n bytes).rest ≡ place + length bytes
unfolding frames_in
rest-begins zero place [] = refl
rest-begins zero place (b ∷ bytes) = refl
rest-begins (suc m) place [] = refl
rest-begins (suc m) place (b ∷ bytes) =
    rest-begins_front m place b bytes (whole_frame (MAX_FRAMES - suc m) (b ∷ bytes)) refl
    (λ later tail. rest-begins m later tail)
