-- A slicer goes through a block, find by find.
use Rattle.std.proofs.Common.{◌≡◌, ℕ, ◌+◌, ◌-◌, ◌*◌, ◌/◌, ◌<◌, ◌≤◌, Bool, true, false, List, [], ◌∷◌, ◌++◌, length, take, drop, slice_range, refl, sym, ap, subst, ◌∙◌, arith, Some, append_assoc, append-nil, length-append, length-drop}
use Rattle.std.proofs.Math.Seq.{take-add}
use Rattle.std.proofs.lemmas.List.{length-take-le, take-append-drop}
use Rattle.std.proofs.lemmas.List.Sums.{sum_by-append, sum_by-cons}
use Rattle.frame_core.specs.declared.frame.FrameNo.{FrameNo}
use Rattle.frame_core.specs.Frames.{failure_of, frames_of, refusal}
use Rattle.frame_slices.specs.declared.slicer.Found.{Found}
use Rattle.frame_slices.specs.declared.slicer.Slicer.{Slicer}
use Rattle.frame_slices.specs.Slices.{HasCut, Takes, taken_by}
use Rattle.frame_cutter.specs.Finds.{GoThrough, own_then}

-- what lies behind a place, and the rest up to another
pub goes-on : (used end : ℕ) (xs : List ℕ) → used ≤ end → take used xs ++ slice_range xs used end ≡ take end xs
goes-on used end xs le =
    let e : end ≡ used + (end - used) = omega (arith, le) in
    sym (take-add used (end - used) xs) ∙ ap (λ k. take k xs) (sym e)

-- these finds go through a block up to a place, where the slicer is, as all do that go on from there
pub record Went (items : List Found) (block bytes own : List ℕ) (used : ℕ) (s : Slicer) : Type 0 where
  pub now : List ℕ
  pub cut : HasCut s (bytes ++ take used block) now
  pub on : (more : List Found) (end : Slicer) → GoThrough more block used (bytes ++ take used block) now end
      → GoThrough (items ++ more) block 0 bytes own end
  pub few : used < length block → 4 * length items + (taken_by (frames_of bytes) + length own)
      ≤ taken_by (frames_of (bytes ++ take used block)) + length now

pub begun : (block bytes own : List ℕ) (s : Slicer) → HasCut s bytes own → Went [] block bytes own 0 s
begun block bytes own s has =
    let none : bytes ++ take 0 block ≡ bytes = append-nil bytes in
    let same = ap (λ bs. taken_by (frames_of bs)) none in
    record {
      now = own;
      cut = subst (λ (bs : List ℕ). HasCut s bs own) (sym none) has;
      on = λ more end goes. subst (λ (bs : List ℕ). GoThrough more block 0 bs own end) none goes;
      few = λ below. omega (arith, same);
    }

-- ---- One find more.

takes-cut : (before after own part : List ℕ) (ended : Bool) (s : Slicer) → Takes before after own part ended s
    → HasCut s after (own_then ended own part)
takes-cut before after own part true s t = t.1
takes-cut before after own part false s t = t.1

-- a frame that ended takes its bytes, and the four of its length
ended-takes : (before after own part : List ℕ) (whole : Bool) (s : Slicer) → Takes before after own part whole s
    → whole ≡ true
    → taken_by (frames_of before) + length own + 4
    ≤ taken_by (frames_of after) + length (own_then whole own part)
ended-takes before after own part true s t e =
    let a = ap taken_by t.0 in
    let b = sum_by-append (λ (f : List ℕ). 4 + length f) (frames_of before) ((own ++ part) ∷ []) in
    let one = sum_by-cons (λ (f : List ℕ). 4 + length f) (own ++ part) [] in
    let c = length-append own part in
    omega (arith, a, b, one, c)
ended-takes before after own part false s t e = absurd (cc e)

ends-or : (ended : Bool) (place size : ℕ) → (ended ≡ false → place ≡ size) → place < size → ended ≡ true
ends-or true place size whole below = refl
ends-or false place size whole below = absurd (let e = whole refl in omega (arith, e, below))

module _ (items : List Found) (block bytes own : List ℕ) (used : ℕ) (s : Slicer)
    (went : Went items block bytes own used s) (f : Found) (new : Slicer) (short : used < length block)
    (place : (used ≤ f.start) × (f.start ≤ f.used) × (f.used ≤ length block))
    (takes : (bytes own : List ℕ) → HasCut s bytes own → Takes bytes (bytes ++ slice_range block used f.used) own
    (slice_range block f.start f.used) f.ended new)
    (whole : f.ended ≡ false → f.used ≡ length block) where
  seam : (bytes ++ take used block) ++ slice_range block used f.used ≡ bytes ++ take f.used block
  seam =
      append_assoc bytes (take used block) (slice_range block used f.used)
      ∙ ap (λ r. bytes ++ r) (goes-on used f.used block (let a = place.0 in let b = place.1 in omega (arith, a, b)))

  taken : Takes (bytes ++ take used block) (bytes ++ take f.used block) went.now (slice_range block f.start f.used)
      f.ended new
  taken =
      subst (λ (after : List ℕ). Takes (bytes ++ take used block) after went.now (slice_range block f.start f.used)
      f.ended new) seam (takes (bytes ++ take used block) went.now went.cut)

  goes : (more : List Found) (end : Slicer)
      → GoThrough more block f.used (bytes ++ take f.used block)
      (own_then f.ended went.now (slice_range block f.start f.used)) end
      → GoThrough ((items ++ f ∷ []) ++ more) block 0 bytes own end
  goes more end rest =
      subst (λ (fs : List Found). GoThrough fs block 0 bytes own end) (sym (append_assoc items (f ∷ []) more))
      (went.on (f ∷ more) end (
        new,
        (
          record {
            start = place.0;
            end = place.1;
            within = place.2;
            takes = takes (bytes ++ take used block) went.now went.cut;
          },
          subst (λ (bs : List ℕ). GoThrough more block f.used bs
              (own_then f.ended went.now (slice_range block f.start f.used)) end) (sym seam) rest,
        ),
      ))

  pub went_on : Went (items ++ f ∷ []) block bytes own f.used new
  went_on = record {
    now = own_then f.ended went.now (slice_range block f.start f.used);
    cut =
        takes-cut (bytes ++ take used block) (bytes ++ take f.used block) went.now (slice_range block f.start f.used)
        f.ended new taken;
    on = goes;
    few = λ below.
        let a =
        ended-takes (bytes ++ take used block) (bytes ++ take f.used block) went.now (slice_range block f.start f.used)
        f.ended new taken (ends-or f.ended f.used (length block) whole below) in
        let b = went.few short in
        let c = length-append items (f ∷ []) in
        omega (arith, a, b, c);
  }

-- ---- There is room for it.

pub fits : (items : List Found) (block bytes own : List ℕ) (used : ℕ) (first s : Slicer) → HasCut first bytes own
    → Went items block bytes own used s → used < length block → length items < length block / 4 + 2
fits items block bytes own used first s has went short =
    let few = went.few short in
    let now = ap (λ (xs : List ℕ). length xs) went.cut.own_is in
    let dropped = length-drop (taken_by (frames_of (bytes ++ take used block)) + 4) (bytes ++ take used block) in
    let within = went.cut.within in
    let all = length-append bytes (take used block) in
    let size : length (take used block) ≡ used = length-take-le used block (omega (arith, short)) in
    let was = ap (λ (xs : List ℕ). length xs) has.own_is in
    let front = length-drop (taken_by (frames_of bytes) + 4) bytes in
    omega (arith, few, now, dropped, within, all, size, was, front, short)

-- ---- The end of the block.

pub through : (items : List Found) (block bytes own : List ℕ) (used : ℕ) (s : Slicer)
    → Went items block bytes own used s → used ≡ length block → GoThrough items block 0 bytes own s
through items block bytes own used s went all =
    subst (λ (fs : List Found). GoThrough fs block 0 bytes own s) (append-nil items) (went.on [] s (all, went.cut))

-- a refusal is met behind a place
pub refused-in : (block bytes : List ℕ) (used : ℕ) (why : FrameNo)
    → refusal (failure_of ((bytes ++ take used block) ++ drop used block)) ≡ Some why
    → refusal (failure_of (bytes ++ block)) ≡ Some why
refused-in block bytes used why met =
    ap (λ (bs : List ℕ). refusal (failure_of bs)) (sym (append_assoc bytes (take used block) (drop used block)
    ∙ ap (λ r. bytes ++ r) (take-append-drop used block))) ∙ met
