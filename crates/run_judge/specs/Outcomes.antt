-- What each status says of the words, of what was read and of what was written.
use Rattle.std.specs.Prelude.{◌≡◌, ◌≢◌, ◌⊎◌, List, [], Result, Ok, Err}
use Rattle.std.specs.Io.KnownBytes.{Appends}
use Rattle.pool_law.specs.declared.run.Run.{Run}
use Rattle.pool_law.specs.Text.{Text}
use Rattle.play_check.specs.declared.Played.{Played}
use Rattle.play_check.specs.Judging.{Judges}
use Rattle.text_ends.specs.Ends.{Rose, TakesSome}
use Rattle.text_ends.specs.Spans.{SourceSpan, SinkSpan, IsUnread, IsUnwritten}
use Rattle.run_input.specs.declared.fault.InputNo.{InputNo}
use Rattle.run_input.specs.Found.{IsFound}
use Rattle.run_judge.specs.declared.answer.Status.{Status}
use Rattle.run_judge.specs.declared.answer.Status.TheVariants as statuses
use Rattle.run_judge.specs.Told.{status_for, status_without, text_for}

-- all of what is said was written
pub record IsWritten (played : Played) (out : SinkSpan) : Type 0 where
  pub text : Appends out.got out.got_then (text_for played)
  pub faults : out.faults_then ≡ out.faults

-- the sink failed, or took nothing of a piece that isn't empty, and got a front of it
pub record IsCutOff (played : Played) (out : SinkSpan) : Type 0 where
  pub front : TakesSome out.got out.got_then (text_for played)
  pub cause : Rose out.faults out.faults_then ⊎ Rose out.empty out.empty_then

-- ---- What each status says: of what is said of a run, of a run, of what was found, of a source that is to be
-- read, of all words.

-- it was written, with its status, or cut off, or there was no memory
abbrev pub ExplainsPlayed : Status → Played → SinkSpan → Type 0
ExplainsPlayed statuses.WriteFault played out = IsCutOff played out
ExplainsPlayed statuses.Memory played out = IsUnwritten out
ExplainsPlayed s played out = (status_for played ≡ s) × IsWritten played out

-- something is said of the run, or there was no memory for that
unfoldable pub ExplainsRun : Status → Run → SinkSpan → Type 0
ExplainsRun statuses.Memory run out = IsUnwritten out
ExplainsRun s run out = (played : Played) × (Judges run played × ExplainsPlayed s played out)

-- a run was found; or none, which the status tells, and nothing was written
abbrev pub ExplainsFound : Status → Result Run InputNo → SinkSpan → Type 0
ExplainsFound s (Ok run) out = ExplainsRun s run out
ExplainsFound s (Err why) out = (status_without why ≡ s) × IsUnwritten out

-- this was found of what was read
unfoldable pub ExplainsSource : Status → SourceSpan → SinkSpan → Type 0
ExplainsSource s src out =
    (found : Result Run InputNo) × (IsFound found src × ExplainsFound s found out)

-- there is a word, or there is none and the source was to be read
unfoldable pub Explains : Status → List Text → SourceSpan → SinkSpan → Type 0
Explains statuses.Words words src out = IsUnread src × IsUnwritten out × (words ≢ [])
Explains s words src out = (words ≡ []) × ExplainsSource s src out
