-- What a slicer has gone through, and what it takes for the frame under way.
use Rattle.std.specs.Prelude.{◌≡◌, ℕ, ◌+◌, ◌-◌, ◌≤◌, Bool, true, false, List, [], ◌∷◌, ◌++◌, length, drop, sum_by, None}
use Rattle.frame_core.specs.Frames.{failure_of, frames_of, refusal}
use Rattle.frame_core.specs.Standing.{HasRead}
use Rattle.frame_slices.specs.declared.slicer.Slicer.{Slicer}

-- the bytes that frames take in a stream, each with the four of its length
abbrev pub taken_by : List (List ℕ) → ℕ
taken_by frames = sum_by (λ frame. 4 + length frame) frames

-- the slicer has gone through these bytes, which meet no refusal, and these of them are the present
-- frame's: those behind all frames that have ended, and behind the present frame's length
pub record HasCut (s : Slicer) (bytes own : List ℕ) : Type 0 where
  pub read : HasRead s.cutter bytes
  pub sound : refusal (failure_of bytes) ≡ None
  pub within : taken_by (frames_of bytes) ≤ length bytes
  pub head : s.head ≡ 4 - (length bytes - taken_by (frames_of bytes))
  pub own_is : own ≡ drop (taken_by (frames_of bytes) + 4) bytes

-- a part more came for the present frame, which ended there or not
abbrev pub Takes :
    List ℕ → List ℕ → List ℕ → List ℕ → Bool → Slicer → Type 0
Takes before after own part true new =
    (frames_of after ≡ frames_of before ++ (own ++ part) ∷ []) × HasCut new after []
Takes before after own part false new =
    (frames_of after ≡ frames_of before) × HasCut new after (own ++ part)
