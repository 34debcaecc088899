-- What a piece of a stream adds to the bytes before it.
use Rattle.std.specs.Prelude.{◌≡◌, ℕ, ◌+◌, List, [], ◌∷◌, ◌++◌, length, drop, Some, None}
use Rattle.frame_core.specs.declared.frame.FrameNo.{FrameNo}
use Rattle.frame_core.specs.declared.frame.Cut.{Cut}
use Rattle.frame_core.specs.Frames.{frames_of, cuts_of, failure_of, refusal}

-- one frame more is whole: the bytes from the start of the cut to the end, with none behind them
pub record EndsFrame (before after : List ℕ) (cut : Cut) : Type 0 where
  pub frames : frames_of after ≡ frames_of before ++ drop cut.start after ∷ []
  pub cuts : cuts_of after ≡ cuts_of before ++ cut ∷ []
  pub end : cut.start + cut.len ≡ length after
  pub failure : failure_of after ≡ None

-- no frame more is whole, and no refusal is met
pub record GoesOn (before after : List ℕ) : Type 0 where
  pub frames : frames_of after ≡ frames_of before
  pub refusal : refusal (failure_of after) ≡ None

-- no frame more is whole before this refusal is met
pub record IsRefused (before after : List ℕ) (why : FrameNo) : Type 0 where
  pub frames : frames_of after ≡ frames_of before
  pub refusal : refusal (failure_of after) ≡ Some why
