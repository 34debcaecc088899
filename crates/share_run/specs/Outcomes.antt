-- What each status says of the words, of what was read and of what was written.
use Rattle.std.specs.Prelude.{◌≡◌, ◌≢◌, ◌⊎◌, ℕ, List, [], Some, None}
use Rattle.std.specs.Io.KnownBytes.{Appends}
use Rattle.text_ends.specs.Ends.{Rose, TakesSome}
use Rattle.text_ends.specs.Spans.{SourceSpan, SinkSpan, IsUnread, IsUnwritten, IsTaken}
use Rattle.text_ends.specs.Transfer.{ReadsText}
use Rattle.share_text.specs.declared.inputs.Input.{Input}
use Rattle.share_text.specs.Inputs.{input_of}
use Rattle.share_text.specs.Lines.{text_of}
use Rattle.share_run.specs.declared.answer.Status.{Status}
use Rattle.share_run.specs.declared.answer.Status.TheVariants as statuses

-- all of the input's text was written
pub record IsWritten (input : Input) (out : SinkSpan) : Type 0 where
  pub text : Appends out.got out.got_then (text_of input)
  pub faults : out.faults_then ≡ out.faults

-- the sink failed, or took nothing of a piece that isn't empty, and got a front of the text
pub record IsCutOff (input : Input) (out : SinkSpan) : Type 0 where
  pub front : TakesSome out.got out.got_then (text_of input)
  pub cause : Rose out.faults out.faults_then ⊎ Rose out.empty out.empty_then

-- ---- What each status says: of an input, of a text, of a source that is to be read, of all words.

-- the input's text was written, or cut off, or there was no memory
unfoldable pub ExplainsInput : Status → Input → SinkSpan → Type 0
ExplainsInput statuses.Whole input out = IsWritten input out
ExplainsInput statuses.WriteFault input out = IsCutOff input out
ExplainsInput statuses.Memory input out = IsUnwritten out
ExplainsInput _ input out = ⊥

-- the text that was read is refused, or is an input
unfoldable pub ExplainsText : Status → List ℕ → SinkSpan → Type 0
ExplainsText statuses.Input text out = (input_of text ≡ None) × IsUnwritten out
ExplainsText statuses.Memory text out = IsUnwritten out
ExplainsText s text out = (input : Input) × ((input_of text ≡ Some input) × ExplainsInput s input out)

-- the source failed, or a text was read
unfoldable pub ExplainsSource : Status → SourceSpan → SinkSpan → Type 0
ExplainsSource statuses.ReadFault src out = IsUnwritten out × Rose src.faults src.faults_then
ExplainsSource statuses.Memory src out = IsUnwritten out × (src.faults_then ≡ src.faults)
ExplainsSource s src out =
    (text : List ℕ) × (ReadsText src.left src.left_then text
    × (src.faults_then ≡ src.faults) × ExplainsText s text out)

-- there is a word, or there is none and the source was to be read
unfoldable pub Explains : Status → List (List ℕ) → SourceSpan → SinkSpan → Type 0
Explains statuses.Words words src out = IsUnread src × IsUnwritten out × (words ≢ [])
Explains s words src out = (words ≡ []) × ExplainsSource s src out

-- ---- When the text must be written, and when it must be refused.

-- there is no word, and the source told all of this text and had no fault
pub record IsRead (words : List (List ℕ)) (src : SourceSpan) (text : List ℕ) : Type 0 where
  pub no_words : words ≡ []
  pub told : src.left ≡ Some text
  pub faults : Rose src.faults src.faults_then → ⊥

-- an input's text is written, or there was no memory
unfoldable pub Completes : Status → List (List ℕ) → SourceSpan → SinkSpan → Type 0
Completes s words src out =
    (text : List ℕ) (input : Input) → IsRead words src text → input_of text ≡ Some input →
    IsTaken out → (s ≡ statuses.Whole) ⊎ (s ≡ statuses.Memory)

-- a text that is no input is refused, or there was no memory
unfoldable pub Refuses : Status → List (List ℕ) → SourceSpan → Type 0
Refuses s words src =
    (text : List ℕ) → IsRead words src text → input_of text ≡ None →
    (s ≡ statuses.Input) ⊎ (s ≡ statuses.Memory)
