-- What a slicer takes for the present frame.
use Rattle.std.proofs.Common.{◌≡◌, ℕ, zero, suc, ◌+◌, ◌-◌, ◌≤◌, min, Bool, true, false, Option, Some, None, IfSome, IfNone, List, [], ◌∷◌, ◌++◌, length, take, drop, slice_range, sym, ap, subst, ◌∙◌, arith}
use Rattle.std.specs.Prelude.{is_some}
use Rattle.std.proofs.lemmas.List.{length-append, length-drop, length-take-le, drop-take, drop_all, append_cancel_left}
use Rattle.std.proofs.Math.Seq.{take-length}
use Rattle.std.proofs.lemmas.List.Sums.{sum_by-append, sum_by-cons}
use Rattle.std.proofs.Math.Seq.{drop-nil}
use Rattle.frame_core.specs.declared.frame.Cut.{Cut}
use Rattle.frame_core.specs.Frames.{cuts_at, cuts_of, frames_of, refusal}
use Rattle.frame_core.specs.Feeding.{EndsFrame, GoesOn}
use Rattle.frame_core.specs.Standing.{HasRead}
use Rattle.frame_core.proofs.FramesLaws.{cuts_at-push, end_of}
use Rattle.frame_slices.specs.declared.slicer.Slicer.{Slicer}
use Rattle.frame_slices.specs.Slices.{HasCut, Takes, taken_by}

-- ---- Bytes behind a place.

drop-past : (k : ℕ) (xs ys : List ℕ) → drop k (xs ++ ys) ≡ drop k xs ++ drop (k - length xs) ys
drop-past zero xs ys = let e : 0 ≡ 0 - length xs = omega arith in ap (λ n. xs ++ drop n ys) e
drop-past (suc k) [] ys = let e : suc k ≡ suc k - 0 = omega arith in ap (λ n. drop n ys) e
drop-past (suc k) (x ∷ xs) ys =
    let e : k - length xs ≡ suc k - suc (length xs) = omega arith in
    drop-past k xs ys ∙ ap (λ n. drop k xs ++ drop n ys) e

drop-least : (a : ℕ) (q : List ℕ) → drop (min a (length q)) q ≡ drop a q
drop-least zero q = let e : min 0 (length q) ≡ 0 = omega arith in ap (λ n. drop n q) e
drop-least (suc a) [] = drop-nil (min (suc a) 0)
drop-least (suc a) (x ∷ q) =
    let e : min (suc a) (suc (length q)) ≡ suc (min a (length q)) = omega arith in
    ap (λ n. drop n (x ∷ q)) e ∙ drop-least a q

drop-twice : (a b : ℕ) (xs : List ℕ) → drop b (drop a xs) ≡ drop (a + b) xs
drop-twice zero b xs = let e : b ≡ 0 + b = omega arith in ap (λ n. drop n xs) e
drop-twice (suc a) b [] = drop-nil b ∙ sym (drop-nil (suc a + b))
drop-twice (suc a) b (x ∷ xs) =
    let e : suc (a + b) ≡ suc a + b = omega arith in
    drop-twice a b xs ∙ ap (λ n. drop n (x ∷ xs)) e

-- a part of what was gone through in a block
pub part-is : (block : List ℕ) (used skipped place : ℕ) → used + skipped ≤ place
    → slice_range block (used + skipped) place ≡ drop skipped (slice_range block used place)
part-is block used skipped place inside =
    let e : place - used ≡ skipped + (place - (used + skipped)) = omega arith in
    sym (ap (λ n. drop skipped (take n (drop used block))) e
    ∙ drop-take skipped (place - (used + skipped)) (drop used block)
    ∙ ap (take (place - (used + skipped))) (drop-twice used skipped block))

pub range-length : (block : List ℕ) (used place : ℕ) → used ≤ place → place ≤ length block
    → length (slice_range block used place) ≡ place - used
range-length block used place le inside =
    length-take-le (place - used) (drop used block) (let d = length-drop used block in omega (arith, d))

-- all that is left of a block
pub range-all : (block : List ℕ) (used : ℕ) → used ≤ length block
    → slice_range block used (length block) ≡ drop used block
range-all block used le =
    let d = length-drop used block in
    ap (λ n. take n (drop used block)) (sym d) ∙ take-length (drop used block)

-- ---- The frames before.

ends-at : (place : ℕ) (frames : List (List ℕ)) → end_of place frames ≡ place + taken_by frames
ends-at place [] = omega arith
ends-at place (frame ∷ frames) =
    let e = sum_by-cons (λ (f : List ℕ). 4 + length f) frame frames in
    let more : place + 4 + length frame + taken_by frames ≡ place + taken_by (frame ∷ frames) = omega (arith, e) in
    ends-at (place + 4 + length frame) frames ∙ more

-- ---- One part more.

module _ (old : Slicer) (bytes own : List ℕ) (has : HasCut old bytes own) (q : List ℕ) where
  -- what is the present frame's of all bytes then
  own_then : own ++ drop (min old.head (length q)) q ≡ drop (taken_by (frames_of bytes) + 4) (bytes ++ q)
  own_then =
      let l = has.within in
      let e : old.head ≡ taken_by (frames_of bytes) + 4 - length bytes = let h = has.head in omega (arith, h, l) in
      (λ i. has.own_is i ++ drop-least old.head q i)
      ∙ ap (λ n. drop (taken_by (frames_of bytes) + 4) bytes ++ drop n q) e
      ∙ sym (drop-past (taken_by (frames_of bytes) + 4) bytes q)

  -- the frame doesn't end
  pub goes_on : (new : Slicer) → HasRead new.cutter (bytes ++ q) → GoesOn bytes (bytes ++ q)
      → new.head ≡ old.head - min old.head (length q)
      → HasCut new (bytes ++ q) (own ++ drop (min old.head (length q)) q)
  goes_on new read more head =
      let t = ap taken_by more.frames in
      let long = length-append bytes q in
      let l = has.within in
      let h = has.head in
      record {
        read = read;
        sound = more.refusal;
        within = omega (arith, t, long, l);
        head = omega (arith, t, long, l, h, head);
        own_is = own_then ∙ ap (λ n. drop (n + 4) (bytes ++ q)) (sym t);
      }

  module _ (cut : Cut) (ends : EndsFrame bytes (bytes ++ q) cut) where
    cut-is : record { start = taken_by (frames_of bytes) + 4; len = length (drop cut.start (bytes ++ q)) } ∷ []
        ≡ cut ∷ []
    cut-is =
        let a = ends-at 0 (frames_of bytes) in
        let z : taken_by (frames_of bytes) ≡ end_of 0 (frames_of bytes) = omega (arith, a) in
        append_cancel_left (cuts_of bytes) _ _
        (ap (λ n. cuts_of bytes ++ record { start = n + 4; len = length (drop cut.start (bytes ++ q)) } ∷ []) z
        ∙ sym (cuts_at-push 0 (frames_of bytes) (drop cut.start (bytes ++ q)))
        ∙ ap (cuts_at 0) (sym ends.frames)
        ∙ ends.cuts)

    starts : cut.start ≡ taken_by (frames_of bytes) + 4
    starts =
        let e = cut-is in
        let both : record { start = taken_by (frames_of bytes) + 4; len = length (drop cut.start (bytes ++ q)) }
        ≡ cut = cc in
        sym (ap (λ (c : Cut). c.start) both)

    whole : drop cut.start (bytes ++ q) ≡ own ++ drop (min old.head (length q)) q
    whole = ap (λ n. drop n (bytes ++ q)) starts ∙ sym own_then

    pub ends_with : frames_of (bytes ++ q) ≡ frames_of bytes ++ (own ++ drop (min old.head (length q)) q) ∷ []
    ends_with = ends.frames ∙ ap (λ f. frames_of bytes ++ f ∷ []) whole

    taken : taken_by (frames_of (bytes ++ q)) ≡ length (bytes ++ q)
    taken =
        let a = ap taken_by ends.frames in
        let b = sum_by-append (λ (f : List ℕ). 4 + length f) (frames_of bytes) (drop cut.start (bytes ++ q) ∷ []) in
        let one = sum_by-cons (λ (f : List ℕ). 4 + length f) (drop cut.start (bytes ++ q)) [] in
        let d = length-drop cut.start (bytes ++ q) in
        let s = starts in
        let e = ends.end in
        omega (arith, a, b, one, d, s, e)

    pub begins : (new : Slicer) → HasRead new.cutter (bytes ++ q) → new.head ≡ 4 → HasCut new (bytes ++ q) []
    begins new read head =
        let t = taken in
        record {
          read = read;
          sound = ap refusal ends.failure;
          within = omega (arith, t);
          head = omega (arith, t, head);
          own_is = sym (drop_all (taken_by (frames_of (bytes ++ q)) + 4) (bytes ++ q) (omega (arith, t)));
        }

-- ---- What a call takes.

pub takes_part :
    (old new : Slicer) (block : List ℕ) (used place skipped : ℕ) (cut : Option Cut) (ended : Bool)
    → used ≤ place → place ≤ length block → skipped ≡ min old.head (place - used) → ended ≡ is_some cut
    → ((bytes : List ℕ) → HasRead old.cutter bytes → HasRead new.cutter (bytes ++ slice_range block used place))
    → IfSome cut (λ cut. (bytes : List ℕ) → HasRead old.cutter bytes
    → EndsFrame bytes (bytes ++ slice_range block used place) cut)
    → IfNone cut ((place ≡ length block) × ((bytes : List ℕ) → HasRead old.cutter bytes
    → GoesOn bytes (bytes ++ drop used block)))
    → (ended ≡ true → new.head ≡ 4) → (ended ≡ false → new.head ≡ old.head - skipped)
    → (bytes own : List ℕ) → HasCut old bytes own
    → Takes bytes (bytes ++ slice_range block used place) own (slice_range block (used + skipped) place) ended new
takes_part old new block used place skipped (Some cut) ended le inside skip is read some none whole part bytes own has =
    let q = slice_range block used place in
    let long = range-length block used place le inside in
    let least : skipped ≡ min old.head (length q) = skip ∙ ap (min old.head) (sym long) in
    let within : used + skipped ≤ place = omega (arith, skip, le) in
    let range = part-is block used skipped place within ∙ ap (λ n. drop n q) least in
    let ends = some bytes has.read in
    let done : Takes bytes (bytes ++ q) own (drop (min old.head (length q)) q) true new = (
      ends_with old bytes own has q cut ends,
      begins old bytes own has q cut ends new (read bytes has.read) (whole is),
    ) in
    subst (λ b. Takes bytes (bytes ++ q) own (slice_range block (used + skipped) place) b new) (sym is)
    (subst (λ p. Takes bytes (bytes ++ q) own p true new) (sym range) done)
takes_part old new block used place skipped None ended le inside skip is read some none whole part bytes own has =
    let q = slice_range block used place in
    let long = range-length block used place le inside in
    let least : skipped ≡ min old.head (length q) = skip ∙ ap (min old.head) (sym long) in
    let within : used + skipped ≤ place = omega (arith, skip, le) in
    let range = part-is block used skipped place within ∙ ap (λ n. drop n q) least in
    let rest : drop used block ≡ q =
    sym (ap (slice_range block used) none.0 ∙ range-all block used (omega (arith, le, inside))) in
    let more : GoesOn bytes (bytes ++ q) = subst (λ r. GoesOn bytes (bytes ++ r)) rest (none.1 bytes has.read) in
    let head : new.head ≡ old.head - min old.head (length q) = part is ∙ ap (λ n. old.head - n) least in
    let done : Takes bytes (bytes ++ q) own (drop (min old.head (length q)) q) false new =
    (more.frames, goes_on old bytes own has q new (read bytes has.read) more head) in
    subst (λ b. Takes bytes (bytes ++ q) own (slice_range block (used + skipped) place) b new) (sym is)
    (subst (λ p. Takes bytes (bytes ++ q) own p false new) (sym range) done)
