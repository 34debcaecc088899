-- What a run gives, where there is one.
use Rattle.std.proofs.Common.{◌≡◌, ℕ, List, None, sym, subst}
use Rattle.std.specs.Prelude.{Option, IfSome}
use Rattle.pool_law.specs.declared.run.Run.{Run}
use Rattle.order_laws.specs.HeadlineInOrder.{HeadlineInOrder}
use Rattle.order_laws.proofs.HeadlineInOrderLaw.{headline-in_order}
use Rattle.trace_top.specs.declared.answer.Status.{Status}
use Rattle.trace_top.specs.declared.answer.Status.TheVariants.{Whole, Leaks, Words, Trace, ReadFault, WriteFault, Memory}
use Rattle.trace_top.specs.declared.answer.Outcome.{Outcome}
use Rattle.run_words.specs.declared.words.RunOptions.{RunOptions}
use Rattle.run_words.specs.declared.words.Origin.{Origin}
use Rattle.run_words.specs.declared.words.Origin.TheVariants.{Source, Generated}
use Rattle.run_words.specs.Pools.{Accepted}
use Rattle.text_ends.specs.Spans.{SourceSpan, SinkSpan}
use Rattle.trace_top.specs.Outcomes.{HasRun, Explains, ExplainsOptions, ExplainsOrigin, ExplainsSource, ExplainsText, ExplainsRun}

none_is : (run : Option Run) → run ≡ None → IfSome run HeadlineInOrder
none_is run is = subst (λ (r : Option Run). IfSome r HeadlineInOrder) (sym is) tt

played : (o : Outcome) (accepted : Accepted) (run : Run) → HasRun o accepted run → IfSome o.run HeadlineInOrder
played o accepted run has =
    subst (λ (r : Option Run). IfSome r HeadlineInOrder) (sym has.run)
    (headline-in_order run has.played_is.legal has.played_is.one_order)

-- of a trace that is run
by_run : (s : Status) (o : Outcome) (options : RunOptions) (accepted : Accepted) (out : SinkSpan)
    → ExplainsRun s o options accepted out → IfSome o.run HeadlineInOrder
unfolding ExplainsRun
by_run Words o options accepted out e = absurd e
by_run ReadFault o options accepted out e = absurd e
by_run Trace o options accepted out e = absurd e
by_run Memory o options accepted out (bare, unwritten) = none_is o.run bare.run
by_run WriteFault o options accepted out (run, (has, cut)) = played o accepted run has
by_run Whole o options accepted out (run, (has, written, leaks)) = played o accepted run has
by_run Leaks o options accepted out (run, (has, written, leaks)) = played o accepted run has

-- of a source that is to be read
by_source : (s : Status) (o : Outcome) (options : RunOptions) (src : SourceSpan) (out : SinkSpan)
    → ExplainsSource s o options src out → IfSome o.run HeadlineInOrder
unfolding ExplainsSource ExplainsText
by_source ReadFault o options src out (bare, unwritten, rose) = none_is o.run bare.run
by_source Memory o options src out (bare, unwritten, same) = none_is o.run bare.run
by_source Trace o options src out (text, (reads, same, (why, (refused, is, unwritten)))) = none_is o.run is.run
by_source Words o options src out (text, (reads, same, (accepted, (is, e)))) = by_run Words o options accepted out e
by_source WriteFault o options src out (text, (reads, same, (accepted, (is, e)))) =
    by_run WriteFault o options accepted out e
by_source Whole o options src out (text, (reads, same, (accepted, (is, e)))) = by_run Whole o options accepted out e
by_source Leaks o options src out (text, (reads, same, (accepted, (is, e)))) = by_run Leaks o options accepted out e

by_origin : (origin : Origin) (s : Status) (o : Outcome) (options : RunOptions) (src : SourceSpan) (out : SinkSpan)
    → ExplainsOrigin origin s o options src out → IfSome o.run HeadlineInOrder
by_origin Source s o options src out e = by_source s o options src out e
by_origin (Generated g) s o options src out (unread, e) = by_run s o options _ out e

pub headlined : (s : Status) (o : Outcome) (words : List (List ℕ)) (src : SourceSpan) (out : SinkSpan)
    → Explains s o words src out → IfSome o.run HeadlineInOrder
unfolding Explains ExplainsOptions
headlined Words o words src out e = none_is o.run e.0.run
headlined ReadFault o words src out (options, (formed, e)) = by_origin options.origin ReadFault o options src out e
headlined Memory o words src out (options, (formed, e)) = by_origin options.origin Memory o options src out e
headlined Trace o words src out (options, (formed, e)) = by_origin options.origin Trace o options src out e
headlined WriteFault o words src out (options, (formed, e)) = by_origin options.origin WriteFault o options src out e
headlined Whole o words src out (options, (formed, e)) = by_origin options.origin Whole o options src out e
headlined Leaks o words src out (options, (formed, e)) = by_origin options.origin Leaks o options src out e
