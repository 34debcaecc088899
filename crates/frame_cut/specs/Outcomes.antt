-- What each status says of the words, of what was read and of what was written.
use Rattle.std.specs.Prelude.{◌≡◌, ◌⊎◌, ℕ, List, length, Option, Some, None}
use Rattle.std.specs.Io.KnownBytes.{Appends, Consumes, IsAtEnd}
use Rattle.text_ends.specs.Ends.{Rose, TakesSome}
use Rattle.text_ends.specs.Spans.{SourceSpan, SinkSpan, IsUnread, IsUnwritten, IsTaken}
use Rattle.frame_core.specs.declared.frame.FrameNo.{FrameNo}
use Rattle.frame_core.specs.declared.frame.FrameNo.TheVariants.{Length, Frames, Stream, Inside}
use Rattle.frame_core.specs.Frames.{failure_of, frames_of}
use Rattle.frame_words.specs.declared.words.CutOptions.{CutOptions}
use Rattle.frame_words.specs.Words.{options_of}
use Rattle.frame_text.specs.Lines.{text_of}
use Rattle.frame_cutter.specs.Stops.{StopsWithin}
use Rattle.frame_cut.specs.declared.answer.Outcome.{Outcome}
use Rattle.frame_cut.specs.declared.answer.Status.{Status}
use Rattle.frame_cut.specs.declared.answer.Status.TheVariants as statuses
use Rattle.frame_cut.specs.Lines.{failed, refused, told}

-- ---- What was read.

-- just these bytes were read, and no read failed
pub record HasTaken (src : SourceSpan) (bytes : List ℕ) : Type 0 where
  pub bytes_are : Consumes src.left src.left_then bytes
  pub faults : src.faults_then ≡ src.faults

-- a stream that ends inside a frame is refused at its end
abbrev pub IsMetAt : FrameNo → Option (List ℕ) → Type 0
IsMetAt (Inside number) left = IsAtEnd left
IsMetAt (Length number) left = Unit {0}
IsMetAt Frames left = Unit {0}
IsMetAt Stream left = Unit {0}

-- the stream was read to its end, and is frames alone
pub record IsWhole (src : SourceSpan) (bytes : List ℕ) : Type 0 where
  pub taken : HasTaken src bytes
  pub end : IsAtEnd src.left_then
  pub sound : failure_of bytes ≡ None

-- the bytes that were read of the stream meet this refusal, and no further block was read then
pub record IsRefused (block : ℕ) (src : SourceSpan) (bytes : List ℕ) (why : FrameNo) : Type 0 where
  pub taken : HasTaken src bytes
  pub met : IsMetAt why src.left_then
  pub failure : failure_of bytes ≡ Some why
  pub stops : StopsWithin block bytes

-- ---- What was written.

-- all of the text of the frames was written
pub record IsWritten (bytes : List ℕ) (out : SinkSpan) : Type 0 where
  pub text : Appends out.got out.got_then (text_of (frames_of bytes))
  pub faults : out.faults_then ≡ out.faults

-- the sink failed, or took nothing of a piece that isn't empty, and got a front of the text
pub record IsCutOff (bytes : List ℕ) (out : SinkSpan) : Type 0 where
  pub front : TakesSome out.got out.got_then (text_of (frames_of bytes))
  pub cause : Rose out.faults out.faults_then ⊎ Rose out.empty out.empty_then

-- ---- What each status says: beside the words, and of all words.

-- the outcome tells of these frames
abbrev pub TellsOf : Outcome → List ℕ → Type 0
TellsOf o bytes = o ≡ told o.status (length (frames_of bytes))

-- the stream was read in blocks of so many bytes and its text written, or it was refused, or an end
-- failed
unfoldable pub ExplainsStream : Status → Outcome → ℕ → SourceSpan → SinkSpan → Type 0
ExplainsStream statuses.Whole o block src out =
    (bytes : List ℕ) × (IsWhole src bytes × IsWritten bytes out × TellsOf o bytes)
ExplainsStream statuses.WriteFault o block src out =
    (bytes : List ℕ) × (IsWhole src bytes × IsCutOff bytes out × TellsOf o bytes)
ExplainsStream statuses.Input o block src out =
    (bytes : List ℕ) × ((why : FrameNo) × (IsRefused block src bytes why × IsUnwritten out
    × (o ≡ refused why)))
ExplainsStream statuses.ReadFault o block src out =
    Rose src.faults src.faults_then × IsUnwritten out × (o ≡ failed statuses.ReadFault)
ExplainsStream statuses.Memory o block src out =
    (src.faults_then ≡ src.faults) × IsUnwritten out × (o ≡ failed statuses.Memory)
ExplainsStream statuses.Words o block src out = ⊥

-- the words have no form and nothing was read, or they have one and the stream was to be read
unfoldable pub Explains : Status → Outcome → List (List ℕ) → SourceSpan → SinkSpan → Type 0
Explains statuses.Words o words src out =
    (options_of words ≡ None) × IsUnread src × IsUnwritten out × (o ≡ failed statuses.Words)
Explains s o words src out =
    (options : CutOptions) × ((options_of words ≡ Some options)
    × ExplainsStream s o options.block src out)

-- ---- When the text must be written, and when the stream must be refused.

-- the words have a form, the source told that just this stream was left, and had no fault
pub record IsGiven (words : List (List ℕ)) (src : SourceSpan) (stream : List ℕ) : Type 0 where
  pub options : CutOptions
  pub form : options_of words ≡ Some options
  pub left : src.left ≡ Some stream
  pub faults : Rose src.faults src.faults_then → ⊥

-- the text of a stream of frames is written, or there was no memory
unfoldable pub Completes : Outcome → List (List ℕ) → SourceSpan → SinkSpan → Type 0
Completes o words src out =
    (stream : List ℕ) → IsGiven words src stream → failure_of stream ≡ None → IsTaken out →
    (o ≡ told statuses.Whole (length (frames_of stream))) ⊎ (o ≡ failed statuses.Memory)

-- any other stream is refused for what is wrong with it, or there was no memory
unfoldable pub Refuses : Outcome → List (List ℕ) → SourceSpan → Type 0
Refuses o words src =
    (stream : List ℕ) (why : FrameNo) → IsGiven words src stream → failure_of stream ≡ Some why →
    (o ≡ refused why) ⊎ (o ≡ failed statuses.Memory)
