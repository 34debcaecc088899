-- What each status says: of the outcome, of what was read and of what was written.
use Rattle.std.specs.Prelude.{◌≡◌, ◌≢◌, ◌⊎◌, Bool, ℕ, List, [], length, Option, Some, None, Ok, Err}
use Rattle.std.specs.Io.KnownBytes.{Appends}
use Rattle.pool_law.specs.declared.run.Run.{Run}
use Rattle.pool_law.specs.Text.{text_of}
use Rattle.pool_law.specs.Summary.{summary_of}
use Rattle.lane_core.specs.Played.{IsPlayed}
use Rattle.trace_make.specs.Generated.{generated}
use Rattle.trace_text.specs.declared.TraceNo.{TraceNo}
use Rattle.run_words.specs.declared.words.Generation.{Generation}
use Rattle.run_words.specs.declared.words.RunOptions.{RunOptions}
use Rattle.run_words.specs.declared.words.Origin.{Origin}
use Rattle.run_words.specs.declared.words.Origin.TheVariants.{Source, Generated}
use Rattle.trace_top.specs.declared.answer.Status.{Status}
use Rattle.trace_top.specs.declared.answer.Status.TheVariants.{Whole, Leaks, Words, Trace, ReadFault, WriteFault, Memory}
use Rattle.trace_top.specs.declared.answer.Outcome.{Outcome}
use Rattle.text_ends.specs.Ends.{Rose, TakesSome}
use Rattle.text_ends.specs.Transfer.{ReadsText}
use Rattle.text_ends.specs.Spans.{SourceSpan, SinkSpan, IsUnread, IsUnwritten, IsTaken}
use Rattle.run_words.specs.Pools.{Accepted, reading_for, shape_of}
use Rattle.run_words.specs.Words.{options_of}

-- the outcome has neither a run nor a refusal
pub record IsBare (o : Outcome) : Type 0 where
  pub run : o.run ≡ None
  pub refusal : o.refusal ≡ None

-- the outcome has this refusal, which is never want of memory
pub record IsRefused (o : Outcome) (why : TraceNo) : Type 0 where
  pub run : o.run ≡ None
  pub refusal : o.refusal ≡ Some why
  pub named : why ≢ TraceNo.Memory

-- the outcome has this run, which was played, of these lanes, with the pool that was asked for
pub record HasRun (o : Outcome) (accepted : Accepted) (played : Run) : Type 0 where
  pub run : o.run ≡ Some played
  pub refusal : o.refusal ≡ None
  pub trace : played.trace.lanes ≡ accepted.0
  pub shape : played.shape ≡ shape_of accepted.1 (length accepted.0)
  pub played_is : IsPlayed played

-- what is to be written of a run: its text, with its history or without; of a generated trace the
-- run's summary
abbrev pub text_from : Origin → Bool → Run → List ℕ
text_from Source history run = text_of run history
text_from (Generated g) history run = summary_of run g.start

-- what is to be written of a run with these options
abbrev pub text_for : RunOptions → Run → List ℕ
text_for options run = text_from options.origin options.history run

-- what was written is all that is to be written of the run
pub record IsWritten (options : RunOptions) (run : Run) (out : SinkSpan) : Type 0 where
  pub text : Appends out.got out.got_then (text_for options run)
  pub faults : out.faults_then ≡ out.faults

-- the sink failed, or took nothing of a piece that isn't empty, and got a front of what is to be
-- written of the run
pub record IsCutOff (options : RunOptions) (run : Run) (out : SinkSpan) : Type 0 where
  pub front : TakesSome out.got out.got_then (text_for options run)
  pub cause : Rose out.faults out.faults_then ⊎ Rose out.empty out.empty_then

-- ---- What each status says: of an accepted trace, of a text, of a source that is to be read, of
-- words with a form, of all words.

-- an accepted trace was run and written, or cut off, or there was no memory
unfoldable pub ExplainsRun : Status → Outcome → RunOptions → Accepted → SinkSpan → Type 0
ExplainsRun Whole o options accepted out =
    (run : Run)
    × (HasRun o accepted run × IsWritten options run out × (run.leaks ≡ []))
ExplainsRun Leaks o options accepted out =
    (run : Run)
    × (HasRun o accepted run × IsWritten options run out × (run.leaks ≢ []))
ExplainsRun WriteFault o options accepted out =
    (run : Run) × (HasRun o accepted run × IsCutOff options run out)
ExplainsRun Memory o options accepted out = IsBare o × IsUnwritten out
ExplainsRun _ o options accepted out = ⊥

-- the text that was read is refused as a trace, or accepted
unfoldable pub ExplainsText : Status → Outcome → RunOptions → List ℕ → SinkSpan → Type 0
ExplainsText Trace o options text out =
    (why : TraceNo)
    × ((reading_for options.pool text ≡ Err why) × IsRefused o why × IsUnwritten out)
ExplainsText Memory o options text out = IsBare o × IsUnwritten out
ExplainsText s o options text out =
    (accepted : Accepted)
    × ((reading_for options.pool text ≡ Ok accepted) × ExplainsRun s o options accepted out)

-- the source failed, or a text was read
unfoldable pub ExplainsSource : Status → Outcome → RunOptions → SourceSpan → SinkSpan → Type 0
ExplainsSource ReadFault o options src out =
    IsBare o × IsUnwritten out × Rose src.faults src.faults_then
ExplainsSource Memory o options src out =
    IsBare o × IsUnwritten out × (src.faults_then ≡ src.faults)
ExplainsSource s o options src out =
    (text : List ℕ) × (ReadsText src.left src.left_then text
    × (src.faults_then ≡ src.faults) × ExplainsText s o options text out)

-- nothing was read, and the trace that is generated was run
abbrev pub ExplainsGenerated :
    Status → Outcome → RunOptions → Generation → SourceSpan → SinkSpan → Type 0
ExplainsGenerated s o options g src out =
    IsUnread src × ExplainsRun s o options (generated g.start g.lanes g.commands, options.pool) out

-- the trace is that of the source, or is generated
abbrev pub ExplainsOrigin :
    Origin → Status → Outcome → RunOptions → SourceSpan → SinkSpan → Type 0
ExplainsOrigin Source s o options src out = ExplainsSource s o options src out
ExplainsOrigin (Generated g) s o options src out = ExplainsGenerated s o options g src out

-- the trace comes from where the options say
unfoldable pub ExplainsOptions : Status → Outcome → RunOptions → SourceSpan → SinkSpan → Type 0
ExplainsOptions s o options src out = ExplainsOrigin options.origin s o options src out

-- the words have no form, or they are options
unfoldable pub Explains : Status → Outcome → List (List ℕ) → SourceSpan → SinkSpan → Type 0
Explains Words o words src out =
    IsBare o × IsUnread src × IsUnwritten out × (options_of words ≡ None)
Explains s o words src out =
    (options : RunOptions) × ((options_of words ≡ Some options) × ExplainsOptions s o options src out)

-- ---- When the run must succeed, and when it must refuse.

-- the words are options, and the trace comes from here
pub record HaveOrigin (words : List (List ℕ)) (origin : Origin) : Type 0 where
  pub options : RunOptions
  pub formed : options_of words ≡ Some options
  pub origin_is : options.origin ≡ origin

-- the words have a form without a generated trace, and the source told all of this text and had no
-- fault
pub record IsRead (words : List (List ℕ)) (src : SourceSpan) (text : List ℕ) : Type 0 where
  pub words_are : HaveOrigin words Source
  pub told : src.left ≡ Some text
  pub faults : Rose src.faults src.faults_then → ⊥

-- a run was written, or there was no memory
abbrev pub IsDone : Status → Type 0
IsDone s = (s ≡ Whole) ⊎ ((s ≡ Leaks) ⊎ (s ≡ Memory))

-- an accepted trace is run and written, and so is a generated one, or there was no memory
pub record Completes (s : Status) (words : List (List ℕ)) (src : SourceSpan) (out : SinkSpan) :
    Type 0 where
  pub read : (text : List ℕ) (accepted : Accepted) → (was : IsRead words src text) →
      reading_for was.words_are.options.pool text ≡ Ok accepted → IsTaken out → IsDone s
  pub generated : (g : Generation) →
      HaveOrigin words (Generated g) → IsTaken out → IsDone s

-- a text that is no trace is refused as such, or there was no memory
unfoldable pub Refuses : Status → Option TraceNo → List (List ℕ) → SourceSpan → Type 0
Refuses s refusal words src =
    (text : List ℕ) (why : TraceNo) (was : IsRead words src text)
    → reading_for was.words_are.options.pool text ≡ Err why
    → ((s ≡ Trace) × (refusal ≡ Some why)) ⊎ (s ≡ Memory)
