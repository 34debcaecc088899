-- The frames of a stream. A frame is four bytes of length, the highest first, and that many bytes.
use Rattle.std.specs.Prelude.{ℕ, zero, suc, ◌+◌, ◌-◌, List, [], ◌∷◌, length, take, drop, nat_lt, if◌then◌else◌, Option, Some, None, Result, Ok, Err}
use Rattle.std.specs.Int.{from_be_bytes, w32}
use Rattle.frame_core.specs.declared.frame.Cut.{Cut}
use Rattle.frame_core.specs.declared.frame.FrameNo.{FrameNo}
use Rattle.frame_core.specs.declared.frame.FrameNo.TheVariants.{Length, Frames, Stream, Inside}
use Rattle.frame_core.specs.declared.limits.TheConstants.{MAX_LENGTH, MAX_FRAMES, MAX_STREAM}

-- what is read of a stream
pub record Reading : Type 0 where
  pub frames : List (List ℕ)  -- the frames that are whole, the first in front
  pub rest : List ℕ  -- the bytes behind them
  pub failure : Option FrameNo  -- why those aren't a frame, where there are any

-- the length that the first four bytes give
unfoldable pub length_in : List ℕ → ℕ
length_in bytes = from_be_bytes w32 (take 4 bytes)

-- the length of the frame that these bytes begin with, if it is whole, or what is wrong
unfoldable pub whole_frame : ℕ → List ℕ → Result ℕ FrameNo
whole_frame number bytes =
    if nat_lt (length bytes) 4
    then Err (Inside number)
    else (
    if nat_lt MAX_LENGTH (length_in bytes)
    then Err (Length number)
    else (
    if nat_lt (length bytes) (4 + length_in bytes)
    then Err (Inside number)
    else Ok (length_in bytes)))

-- one frame more, in front
abbrev pub in_front : List ℕ → Reading → Reading
in_front frame more = record more { frames = frame ∷ more.frames }

-- the frame that these bytes begin with, and the bytes behind it read alike
abbrev pub read_on : Result ℕ FrameNo → List ℕ → (List ℕ → Reading) → Reading
read_on (Ok len) bytes alike = in_front (take len (drop 4 bytes)) (alike (drop (4 + len) bytes))
read_on (Err why) bytes alike = record { frames = []; rest = bytes; failure = Some why }

-- the frames of these bytes, where so many may come
unfoldable pub frames_in : ℕ → List ℕ → Reading
frames_in zero [] = record { frames = []; rest = []; failure = None }
frames_in zero (b ∷ bytes) = record { frames = []; rest = b ∷ bytes; failure = Some Frames }
frames_in (suc more) [] = record { frames = []; rest = []; failure = None }
frames_in (suc more) (b ∷ bytes) =
    read_on (whole_frame (MAX_FRAMES - suc more) (b ∷ bytes)) (b ∷ bytes) (frames_in more)

-- what is wrong where a byte comes behind the last that may: that, unless a refusal came before it
abbrev pub overrun : Option FrameNo → FrameNo
overrun None = Stream
overrun (Some (Length number)) = Length number
overrun (Some Frames) = Frames
overrun (Some Stream) = Stream
overrun (Some (Inside number)) = Stream

-- what is read of a stream: its first bytes, as many as may come, and whether there are more
unfoldable pub reading : List ℕ → Reading
reading bytes =
    let first = frames_in MAX_FRAMES (take MAX_STREAM bytes) in
    if nat_lt MAX_STREAM (length bytes)
    then record first { failure = Some (overrun first.failure) }
    else first

-- the frames of a stream that are whole, the first in front
unfoldable pub frames_of : List ℕ → List (List ℕ)
frames_of bytes = (reading bytes).frames

-- where frames lie from this place on, each behind the four bytes of its length
abbrev pub cuts_at : ℕ → List (List ℕ) → List Cut
cuts_at place [] = []
cuts_at place (frame ∷ frames) =
    record { start = place + 4; len = length frame } ∷ cuts_at (place + 4 + length frame) frames

-- where the frames of a stream lie
abbrev pub cuts_of : List ℕ → List Cut
cuts_of bytes = cuts_at 0 (frames_of bytes)

-- why a stream that ends here isn't frames alone
unfoldable pub failure_of : List ℕ → Option FrameNo
failure_of bytes = (reading bytes).failure

-- a failure that no further byte mends
abbrev pub refusal : Option FrameNo → Option FrameNo
refusal None = None
refusal (Some (Length number)) = Some (Length number)
refusal (Some Frames) = Some Frames
refusal (Some Stream) = Some Stream
refusal (Some (Inside number)) = None

-- the number of frames of a stream that ends, or what is wrong with it
abbrev pub count_or : List (List ℕ) → Option FrameNo → Result ℕ FrameNo
count_or frames None = Ok (length frames)
count_or frames (Some why) = Err why
