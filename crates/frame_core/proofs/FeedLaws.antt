-- What a call for a part of a piece says of the piece.
use Rattle.std.proofs.Common.{◌≡◌, ℕ, ◌+◌, ◌-◌, ◌<◌, ◌≤◌, List, [], ◌++◌, length, take, drop, slice_range, Option, Some, None, IfSome, IfNone, sym, ap, ◌∙◌, subst, ⊎_elim, arith}
use Rattle.std.proofs.lemmas.List.{append-nil, length_push, length-drop, take_rest}
use Rattle.std.proofs.lemmas.Bool.{cases_lt}
use Rattle.frame_core.specs.declared.frame.FrameNo.{FrameNo}
use Rattle.frame_core.specs.declared.frame.Cut.{Cut}
use Rattle.frame_core.specs.declared.cutter.Cutter.TheInside.{Inside}
use Rattle.frame_core.specs.contracts.cutter.Cutter.{the_view}
use Rattle.frame_core.specs.Frames.{frames_of, failure_of, refusal}
use Rattle.frame_core.specs.Standing.{Standing, IsAt, IsKept, HasRead}
use Rattle.frame_core.specs.Feeding.{EndsFrame, GoesOn, IsRefused}
use Rattle.frame_core.proofs.ReadingLaws.{is_open}
use Rattle.frame_core.proofs.RefusalLaws.{refused-stays}

-- the piece from a place on, and so much of it
abbrev pub part : List ℕ → ℕ → List ℕ
part piece used = take (length piece - used) (drop used piece)

pub part-is : (piece : List ℕ) (used : ℕ) → part piece used ≡ drop used piece
part-is piece used = take_rest piece used

pub range-is : (piece : List ℕ) (used gone : ℕ) → take gone (part piece used) ≡ slice_range piece used (used + gone)
range-is piece used gone =
    let e : gone ≡ used + gone - used = omega arith in
    ap (take gone) (part-is piece used) ∙ ap (λ k. take k (drop used piece)) e

pub at-read : (old : Inside) (s : Standing) (bytes : List ℕ) → the_view old ≡ s → old.refusal ≡ None
    → HasRead s bytes → IsAt s bytes
at-read old s bytes e none read =
    let none' : s.refusal ≡ None = sym (ap (λ (s : Standing). s.refusal) e) ∙ none in
    subst (λ r. IsKept r s bytes) none' read

pub refused-read : (old : Inside) (s : Standing) (bytes : List ℕ) (why : FrameNo) → the_view old ≡ s
    → old.refusal ≡ Some why → HasRead s bytes → refusal (failure_of bytes) ≡ Some why
refused-read old s bytes why e some read =
    let some' : s.refusal ≡ Some why = sym (ap (λ (s : Standing). s.refusal) e) ∙ some in
    subst (λ r. IsKept r s bytes) some' read

read-refused : (old : Inside) (s : Standing) (bytes : List ℕ) (why : FrameNo) → the_view old ≡ s
    → old.refusal ≡ Some why → refusal (failure_of bytes) ≡ Some why → HasRead s bytes
read-refused old s bytes why e some refused =
    let some' : s.refusal ≡ Some why = sym (ap (λ (s : Standing). s.refusal) e) ∙ some in
    subst (λ r. IsKept r s bytes) (sym some') refused

-- a refusal comes again
pub refused-again : (old : Inside) (s : Standing) (bytes more : List ℕ) (why : FrameNo) → the_view old ≡ s
    → old.refusal ≡ Some why → HasRead s bytes → IsRefused bytes (bytes ++ more) why × HasRead s (bytes ++ more)
refused-again old s bytes more why e some read =
    let stays = refused-stays bytes more why (refused-read old s bytes why e some read) in
    (stays, read-refused old s (bytes ++ more) why e some stays.refusal)

-- where no refusal is kept, none was met
pub not_refused : (old : Inside) (s : Standing) (bytes : List ℕ) (why : FrameNo) → the_view old ≡ s
    → old.refusal ≡ None → HasRead s bytes → refusal (failure_of bytes) ≡ Some why → ⊥
unfolding failure_of
not_refused old s bytes why e none read refused =
    let at = at-read old s bytes e none read in
    let sound = is_open s bytes at in
    let bad : None ≡ Some why = sym sound ∙ refused in
    cc

pub cut-of_part :
    (old : Inside) (s : Standing) (piece : List ℕ) (used gone : ℕ) (cut : Option Cut) → the_view old ≡ s
    → old.refusal ≡ None
    → IfSome cut (λ cut. (bytes : List ℕ) → IsAt s bytes → EndsFrame bytes (bytes ++ take gone (part piece used)) cut)
    → IfSome cut (λ cut. (bytes : List ℕ) → HasRead s bytes
    → EndsFrame bytes (bytes ++ slice_range piece used (used + gone)) cut)
cut-of_part old s piece used gone None e none told = tt
cut-of_part old s piece used gone (Some cut) e none told = λ bytes read.
    subst (λ more. EndsFrame bytes (bytes ++ more) cut) (range-is piece used gone)
    (told bytes (at-read old s bytes e none read))

pub no_cut-of_part :
    (old : Inside) (s : Standing) (piece : List ℕ) (used gone : ℕ) (cut : Option Cut) → the_view old ≡ s
    → old.refusal ≡ None → used ≤ length piece
    → IfNone cut ((gone ≡ length (part piece used))
    × ((bytes : List ℕ) → IsAt s bytes → GoesOn bytes (bytes ++ part piece used)))
    → IfNone cut ((used + gone ≡ length piece)
    × ((bytes : List ℕ) → HasRead s bytes → GoesOn bytes (bytes ++ drop used piece)))
no_cut-of_part old s piece used gone (Some cut) e none within told = tt
no_cut-of_part old s piece used gone None e none within told =
    let long = ap length (part-is piece used) ∙ length-drop used piece in
    let all = told.0 in (
      omega arith,
      λ bytes read.
          subst (λ more. GoesOn bytes (bytes ++ more)) (part-is piece used)
          (told.1 bytes (at-read old s bytes e none read)),
    )

-- no frame ends where no byte comes
ends_nowhere : (bytes none : List ℕ) (cut : Cut) → EndsFrame bytes (bytes ++ none) cut → none ≡ [] → ⊥
ends_nowhere bytes none cut ends e =
    let same : bytes ++ none ≡ bytes = ap (λ xs. bytes ++ xs) e ∙ append-nil bytes in
    let long = ap length ends.frames ∙ length_push (frames_of bytes) (drop cut.start (bytes ++ none)) in
    let kept = ap (λ xs. length (frames_of xs)) same in
    omega arith

pub moves-of_part :
    (old : Inside) (s : Standing) (piece : List ℕ) (used gone : ℕ) (cut : Option Cut) → the_view old ≡ s
    → old.refusal ≡ None
    → IfSome cut (λ cut. (bytes : List ℕ) → IsAt s bytes → EndsFrame bytes (bytes ++ take gone (part piece used)) cut)
    → IfNone cut ((gone ≡ length (part piece used))
    × ((bytes : List ℕ) → IsAt s bytes → GoesOn bytes (bytes ++ part piece used)))
    → (bytes : List ℕ) → HasRead s bytes → used < length piece → used < used + gone
moves-of_part old s piece used gone None e none cut_told told bytes read more =
    let long = ap length (part-is piece used) ∙ length-drop used piece in
    let all = told.0 in
    omega arith
moves-of_part old s piece used gone (Some cut) e none told no_cut_told bytes read more =
    ⊎_elim
    (λ (moved : 0 < gone). omega arith)
    (λ (stays : gone ≤ 0).
    let zero_gone : gone ≡ 0 = omega arith in
    absurd (ends_nowhere bytes (take gone (part piece used)) cut (told bytes (at-read old s bytes e none read))
    (ap (λ k. take k (part piece used)) zero_gone)))
    (cases_lt 0 gone)
