-- A frame that ends.
use Rattle.std.proofs.Common.{◌≡◌, ℕ, ◌+◌, ◌<◌, ◌≤◌, ◌==◌, List, [], ◌∷◌, ◌++◌, length, take, drop, refl, sym, ap, ◌∙◌, subst, arith, append_assoc, length-append, length-drop}
use Rattle.std.proofs.lemmas.List.{drop_at, drop-drop, length_push}
use Rattle.frame_core.specs.declared.frame.Cut.{Cut}
use Rattle.frame_core.specs.declared.limits.TheConstants.{MAX_LENGTH, MAX_FRAMES, MAX_STREAM}
use Rattle.frame_core.specs.Frames.{Reading, reading, cuts_at, frames_of, failure_of}
use Rattle.frame_core.specs.Standing.{Standing, IsPartial, IsAt}
use Rattle.frame_core.specs.Feeding.{EndsFrame}
use Rattle.frame_core.proofs.FramesLaws.{end_of, cuts_at-push, rest-begins, rest-ends}
use Rattle.frame_core.proofs.ReadingLaws.{open_failure, reading-fits, in_whole}
use Rattle.frame_core.proofs.StandingLaws.{Comes, len_at, length_in-len_at}

-- the bytes of the frame that ends here are the last that came
last_frame : (bytes more : List ℕ) (start : ℕ) → length bytes ≤ MAX_STREAM
    → start + length ((reading bytes).rest ++ more) ≡ length (bytes ++ more) + 4
    → drop start (bytes ++ more) ≡ drop 4 ((reading bytes).rest ++ more)
last_frame bytes more start fits e =
    let rest = (reading bytes).rest in
    let ends : (front : List ℕ)
    × (front ++ rest ≡ bytes) =
    subst (λ (r : Reading). (front : List ℕ) × (front ++ r.rest ≡ bytes)) (sym (reading-fits bytes fits))
    (rest-ends MAX_FRAMES bytes) in
    let front = ends.0 in
    let whole : front ++ (rest ++ more) ≡ bytes ++ more = sym (append_assoc front rest more)
    ∙ ap (λ xs. xs ++ more) ends.1 in
    let at : start ≡ length front + 4 = omega (arith, e, ap length whole, length-append front (rest ++ more)) in
    ap (λ k. drop k (bytes ++ more)) at
    ∙ (sym (drop-drop 4 (length front) (bytes ++ more))
    ∙ ap (drop 4) (ap (drop (length front)) (sym whole) ∙ drop_at front (rest ++ more) (length front) refl))

-- where that frame lies
last_cut : (bytes more : List ℕ) (cut : Cut) → length bytes ≤ MAX_STREAM → 4 ≤ length ((reading bytes).rest ++ more)
    → cut.len + 4 ≡ length ((reading bytes).rest ++ more) → cut.start + cut.len ≡ length (bytes ++ more)
    → cuts_at 0 ((reading bytes).frames ++ drop 4 ((reading bytes).rest ++ more) ∷ []) ≡ cuts_at 0
    (reading bytes).frames ++ cut ∷ []
last_cut bytes more cut fits four len end =
    let frames = (reading bytes).frames in
    let rest = (reading bytes).rest in
    let frame = drop 4 (rest ++ more) in
    let begins : end_of 0 frames + length rest ≡ 0 + length bytes =
    subst (λ (r : Reading). end_of 0 r.frames + length r.rest ≡ 0 + length bytes) (sym (reading-fits bytes fits))
    (rest-begins MAX_FRAMES 0 bytes) in
    let start : end_of 0 frames + 4 ≡ cut.start = omega (arith, length-append bytes more, length-append rest more) in
    let long : length frame ≡ cut.len = omega (arith, length-drop 4 (rest ++ more)) in
    let last : Cut → List Cut = λ c. cuts_at 0 frames ++ c ∷ [] in
    cuts_at-push 0 frames frame
    ∙ (ap (λ (k : ℕ). last (record { start = k; len = length frame })) start
    ∙ ap (λ (k : ℕ). last (record { start = cut.start; len = k })) long)

pub ends_frame :
    (s mid new : Standing) (bytes more : List ℕ) (cut : Cut) → IsAt s bytes → Comes mid bytes more
    → 4 ≤ mid.within → len_at mid ≤ MAX_LENGTH → mid.within ≡ 4 + len_at mid
    → mid.place ≤ MAX_STREAM → mid.frames < MAX_FRAMES
    → new.place ≡ mid.place → new.frames ≡ mid.frames + 1 → new.within ≡ 0 → new.head ≡ []
    → cut.len ≡ len_at mid → cut.start + cut.len ≡ mid.place
    → IsAt new (bytes ++ more) × EndsFrame bytes (bytes ++ more) cut
unfolding frames_of failure_of
ends_frame s mid new bytes more cut at c four fits there short below place' frames' within' head' len' start' =
    let rest = (reading bytes).rest ++ more in
    let frames = (reading bytes).frames in
    let place = c.place in
    let within = c.within in
    let gives = length_in-len_at mid bytes more c in
    let short' : length (bytes ++ more) ≤ MAX_STREAM = omega (arith, length-append bytes more) in
    let same_frames : s.frames ≡ mid.frames = at.frames ∙ sym c.frames in
    let e = reading-fits (bytes ++ more) short' ∙ in_whole s bytes more at (omega arith) (omega arith) (omega arith) in
    let frame = last_frame bytes more cut.start at.fits (omega (arith, length-append bytes more)) in (
      record {
        fits = short';
        place = place' ∙ (c.place ∙ sym (length-append bytes more));
        frames = frames' ∙ (ap (λ k. k + 1) c.frames
            ∙ (sym (length_push frames (drop 4 rest)) ∙ sym (ap (λ (r : Reading). length r.frames) e)));
        within = within' ∙ sym (ap (λ (r : Reading). length r.rest) e);
        head = head' ∙ sym (ap (λ (r : Reading). take 4 r.rest) e);
        partial = subst (λ (r : Reading). IsPartial r.rest) (sym e) (λ four. absurd (omega arith));
        number = λ some. absurd (omega arith);
        failure = ap (λ (r : Reading). r.failure) e ∙ sym (ap (λ k. open_failure (k == 0) new.frames) within');
      },
      record {
        frames = ap (λ (r : Reading). r.frames) e ∙ ap (λ last. frames ++ last ∷ []) (sym frame);
        cuts = ap (λ (r : Reading). cuts_at 0 r.frames) e
            ∙ last_cut bytes more cut at.fits (omega arith) (omega arith)
            (start' ∙ (c.place ∙ sym (length-append bytes more)));
        end = start' ∙ (c.place ∙ sym (length-append bytes more));
        failure = ap (λ (r : Reading). r.failure) e;
      },
    )
