-- From what a status says of a run to what it says of the text, the source, the options and the words.
use Rattle.std.proofs.Common.{◌≡◌, ℕ, List, Some, sym, subst}
use Rattle.std.specs.Prelude.{Ok}
use Rattle.trace_top.specs.declared.answer.Status.{Status}
use Rattle.trace_top.specs.declared.answer.Status.TheVariants.{Whole, Leaks, Words, Trace, ReadFault, WriteFault, Memory}
use Rattle.trace_top.specs.declared.answer.Outcome.{Outcome}
use Rattle.run_words.specs.declared.words.Generation.{Generation}
use Rattle.run_words.specs.declared.words.RunOptions.{RunOptions}
use Rattle.run_words.specs.declared.words.Origin.{Origin}
use Rattle.run_words.specs.declared.words.Origin.TheVariants.{Source, Generated}
use Rattle.text_ends.specs.Transfer.{ReadsText}
use Rattle.run_words.specs.Pools.{Accepted, reading_for}
use Rattle.run_words.specs.Words.{options_of}
use Rattle.text_ends.specs.Spans.{SourceSpan, SinkSpan}
use Rattle.trace_top.specs.Outcomes.{Explains, ExplainsOptions, ExplainsOrigin, ExplainsGenerated, ExplainsSource, ExplainsText, ExplainsRun}

pub of_run : (s : Status) (o : Outcome) (options : RunOptions) (text : List ℕ) (accepted : Accepted) (out : SinkSpan)
    → reading_for options.pool text ≡ Ok accepted → ExplainsRun s o options accepted out
    → ExplainsText s o options text out
unfolding ExplainsText ExplainsRun
of_run Whole o options text accepted out is e = (accepted, (is, e))
of_run Leaks o options text accepted out is e = (accepted, (is, e))
of_run Words o options text accepted out is e = (accepted, (is, e))
of_run Trace o options text accepted out is e = absurd e
of_run ReadFault o options text accepted out is e = (accepted, (is, e))
of_run WriteFault o options text accepted out is e = (accepted, (is, e))
of_run Memory o options text accepted out is e = e

pub of_text : (s : Status) (o : Outcome) (options : RunOptions) (text : List ℕ) (src : SourceSpan) (out : SinkSpan)
    → ReadsText src.left src.left_then text → src.faults_then ≡ src.faults → ExplainsText s o options text out
    → ExplainsSource s o options src out
unfolding ExplainsSource ExplainsText ExplainsRun
of_text Whole o options text src out reads same e = (text, (reads, same, e))
of_text Leaks o options text src out reads same e = (text, (reads, same, e))
of_text Words o options text src out reads same e = (text, (reads, same, e))
of_text Trace o options text src out reads same e = (text, (reads, same, e))
of_text ReadFault o options text src out reads same (accepted, (is, never)) = absurd never
of_text WriteFault o options text src out reads same e = (text, (reads, same, e))
of_text Memory o options text src out reads same (bare, unwritten) = (bare, unwritten, same)

-- the trace is read from the source
pub of_source : (s : Status) (o : Outcome) (options : RunOptions) (src : SourceSpan) (out : SinkSpan)
    → options.origin ≡ Source → ExplainsSource s o options src out → ExplainsOptions s o options src out
unfolding ExplainsOptions
of_source s o options src out is e = subst (λ (origin : Origin). ExplainsOrigin origin s o options src out) (sym is) e

-- the trace is generated
pub of_generated : (s : Status) (o : Outcome) (options : RunOptions) (g : Generation) (src : SourceSpan)
    (out : SinkSpan)
    → options.origin ≡ Generated g → ExplainsGenerated s o options g src out → ExplainsOptions s o options src out
unfolding ExplainsOptions
of_generated s o options g src out is e =
    subst (λ (origin : Origin). ExplainsOrigin origin s o options src out) (sym is) e

-- words that have a form have another status
never_words : (origin : Origin) (o : Outcome) (options : RunOptions) (src : SourceSpan) (out : SinkSpan)
    → ExplainsOrigin origin Words o options src out → ⊥
unfolding ExplainsSource ExplainsText ExplainsRun
never_words Source o options src out (text, (reads, same, (accepted, (is, never)))) = never
never_words (Generated g) o options src out (unread, never) = never

pub of_options : (s : Status) (o : Outcome) (words : List (List ℕ)) (options : RunOptions) (src : SourceSpan)
    (out : SinkSpan)
    → options_of words ≡ Some options → ExplainsOptions s o options src out → Explains s o words src out
unfolding Explains ExplainsOptions
of_options Whole o words options src out formed e = (options, (formed, e))
of_options Leaks o words options src out formed e = (options, (formed, e))
of_options Words o words options src out formed e = absurd (never_words options.origin o options src out e)
of_options Trace o words options src out formed e = (options, (formed, e))
of_options ReadFault o words options src out formed e = (options, (formed, e))
of_options WriteFault o words options src out formed e = (options, (formed, e))
of_options Memory o words options src out formed e = (options, (formed, e))
