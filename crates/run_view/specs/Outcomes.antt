-- What each status says of the words, of what was read and of what was written.
use Rattle.std.specs.Prelude.{◌≡◌, ◌⊎◌, List, None, Result, Ok, Err, IsSome}
use Rattle.std.specs.Io.KnownBytes.{Appends}
use Rattle.pool_law.specs.declared.run.Run.{Run}
use Rattle.pool_law.specs.Text.{Text}
use Rattle.text_ends.specs.Ends.{Rose, TakesSome}
use Rattle.text_ends.specs.Spans.{SourceSpan, SinkSpan, IsUnread, IsUnwritten}
use Rattle.run_input.specs.declared.fault.InputNo.{InputNo}
use Rattle.run_input.specs.declared.fault.InputNo.TheVariants.{Form, ReadFault, Memory, Unread}
use Rattle.run_input.specs.Found.{IsFound}
use Rattle.run_picture.specs.Pictures.{IsPicture}
use Rattle.run_view.specs.declared.answer.Status.{Status}
use Rattle.run_view.specs.declared.answer.Status.TheVariants as statuses
use Rattle.run_view.specs.Roots.{roots_in}

-- all of a picture of the run was written
pub record IsDrawn (run : Run) (out : SinkSpan) : Type 0 where
  pub picture : Text
  pub shows : IsPicture run picture
  pub text : Appends out.got out.got_then picture
  pub faults : out.faults_then ≡ out.faults

-- the sink failed, or took nothing of a piece that isn't empty, and got a front of a picture of the run
pub record IsCutOff (run : Run) (out : SinkSpan) : Type 0 where
  pub picture : Text
  pub shows : IsPicture run picture
  pub front : TakesSome out.got out.got_then picture
  pub cause : Rose out.faults out.faults_then ⊎ Rose out.empty out.empty_then

-- the status where no run was found
abbrev pub status_without : InputNo → Status
status_without Form = statuses.Input
status_without ReadFault = statuses.ReadFault
status_without Memory = statuses.Memory
status_without (Unread fault) = statuses.Unread

-- ---- What each status says: of a run, of what was found, of a source that is to be read, of all words.

-- the run was drawn, or its picture cut off, or there was no memory
abbrev pub ExplainsRun : Status → Run → SinkSpan → Type 0
ExplainsRun statuses.Drawn run out = IsDrawn run out
ExplainsRun statuses.WriteFault run out = IsCutOff run out
ExplainsRun statuses.Memory run out = IsUnwritten out
ExplainsRun _ run out = ⊥

-- a run was found; or none, which the status tells, and nothing was written
abbrev pub ExplainsFound : Status → Result Run InputNo → SinkSpan → Type 0
ExplainsFound s (Ok run) out = ExplainsRun s run out
ExplainsFound s (Err why) out = (status_without why ≡ s) × IsUnwritten out

-- this was found of what was read
unfoldable pub ExplainsSource : Status → SourceSpan → SinkSpan → Type 0
ExplainsSource s src out =
    (found : Result Run InputNo) × (IsFound found src × ExplainsFound s found out)

-- the words have no form; or there was no memory; or they name roots and the source was to be read
unfoldable pub Explains : Status → List Text → SourceSpan → SinkSpan → Type 0
Explains statuses.Words words src out =
    IsUnread src × IsUnwritten out × (roots_in words ≡ None)
Explains statuses.Memory words src out = IsUnwritten out × (src.faults_then ≡ src.faults)
Explains s words src out = IsSome (roots_in words) × ExplainsSource s src out
