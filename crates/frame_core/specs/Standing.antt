-- What a cutter keeps of the bytes that it has gone through.
use Rattle.std.specs.Prelude.{◌≡◌, ℕ, ◌+◌, ◌≤◌, ◌<◌, ◌==◌, if◌then◌else◌, List, ◌++◌, length, take, Option, Some, None}
use Rattle.frame_core.specs.declared.frame.FrameNo.{FrameNo}
use Rattle.frame_core.specs.declared.frame.FrameNo.TheVariants.{Length, Frames, Stream, Inside}
use Rattle.frame_core.specs.declared.limits.TheConstants.{MAX_LENGTH, MAX_FRAMES, MAX_STREAM}
use Rattle.frame_core.specs.Frames.{reading, failure_of, refusal, length_in}

pub record Standing : Type 0 where
  pub place : ℕ  -- the bytes gone through
  pub frames : ℕ  -- the frames that have ended
  pub within : ℕ  -- the bytes of the present frame, those of its length with them
  pub head : List ℕ  -- those of them that give its length
  pub refusal : Option FrameNo

-- a beginning of a frame: its length has not all come, or may be and is more than what has come
abbrev pub IsPartial : List ℕ → Type 0
IsPartial bytes =
    4 ≤ length bytes → (length_in bytes ≤ MAX_LENGTH) × (length bytes < 4 + length_in bytes)

-- no refusal came so far, and this is kept
pub record IsAt (s : Standing) (bytes : List ℕ) : Type 0 where
  pub fits : length bytes ≤ MAX_STREAM
  pub place : s.place ≡ length bytes
  pub frames : s.frames ≡ length (reading bytes).frames
  pub within : s.within ≡ length (reading bytes).rest
  pub head : s.head ≡ take 4 (reading bytes).rest
  pub partial : IsPartial (reading bytes).rest
  pub number : 0 < s.within → s.frames < MAX_FRAMES
  pub failure : (reading bytes).failure ≡ (if s.within == 0 then None else Some (Inside s.frames))

-- this is kept of these bytes: of bytes that meet a refusal, the refusal
abbrev pub IsKept : Option FrameNo → Standing → List ℕ → Type 0
IsKept None s bytes = IsAt s bytes
IsKept (Some why) s bytes = refusal (failure_of bytes) ≡ Some why

-- a cutter that has gone through these bytes since it was made
abbrev pub HasRead : Standing → List ℕ → Type 0
HasRead s bytes = IsKept s.refusal s bytes

-- further bytes of the present frame have come
pub record Advances (old : Standing) (bytes : List ℕ) (new : Standing) : Type 0 where
  pub place : new.place ≡ old.place + length bytes
  pub frames : new.frames ≡ old.frames
  pub within : new.within ≡ old.within + length bytes
  pub head : new.head ≡ take 4 (old.head ++ bytes)
  pub refusal : new.refusal ≡ old.refusal

-- where so many further bytes of the present frame come, they meet this limit first
abbrev pub MeetsLimit : Standing → ℕ → FrameNo → Type 0
MeetsLimit s n (Length number) = ⊥
MeetsLimit s n Frames = (0 < n) × (s.place < MAX_STREAM) × (s.within ≡ 0) × (s.frames ≡ MAX_FRAMES)
MeetsLimit s n Stream =
    (MAX_STREAM < s.place + n) × (s.place < MAX_STREAM → s.within ≡ 0 → s.frames < MAX_FRAMES)
MeetsLimit s n (Inside number) = ⊥
