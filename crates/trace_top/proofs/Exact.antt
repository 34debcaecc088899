-- What each status says, turned round: when a run must succeed, and when it must refuse.
use Rattle.std.proofs.Common.{◌≡◌, ℕ, ◌<◌, List, length, refl, ap, subst, ◌∙◌, arith, Some, None, true, inl, inr}
use Rattle.std.specs.Prelude.{◌⊎◌, Result, Ok, Err, nat_lt}
use Rattle.std.proofs.lemmas.Bool.Decides.{nat_tests}
use Rattle.pool_law.specs.declared.run.Options.{Options}
use Rattle.trace_text.specs.Reading.{reading_of, text_limit}
use Rattle.trace_text.specs.declared.TraceNo.{TraceNo}
use Rattle.trace_top.specs.declared.answer.Status.{Status}
use Rattle.trace_top.specs.declared.answer.Status.TheVariants.{Whole, Leaks, Words, Trace, ReadFault, WriteFault, Memory}
use Rattle.trace_top.specs.declared.answer.Outcome.{Outcome}
use Rattle.run_words.specs.declared.words.Generation.{Generation}
use Rattle.run_words.specs.declared.words.RunOptions.{RunOptions}
use Rattle.run_words.specs.declared.words.Origin.{Origin}
use Rattle.run_words.specs.declared.words.Origin.TheVariants.{Source, Generated}
use Rattle.text_ends.specs.Ends.{Rose}
use Rattle.run_words.specs.Pools.{Accepted, reading_for}
use Rattle.run_words.specs.Words.{options_of}
use Rattle.text_ends.specs.Spans.{SourceSpan, SinkSpan, IsTaken}
use Rattle.text_ends.proofs.Readings.{told_reading}
use Rattle.trace_top.specs.Outcomes.{Explains, ExplainsOptions, ExplainsOrigin, ExplainsSource, ExplainsText, ExplainsRun, HaveOrigin, IsDone, IsRead, Completes, Refuses}

both_long : (words : Options) (a b : List ℕ) → text_limit < length a → text_limit < length b
    → reading_for words a ≡ reading_for words b
unfolding reading_for reading_of
both_long words a b h k =
    let x : nat_lt text_limit (length a) ≡ true = grind (arith, nat_tests) in
    let y : nat_lt text_limit (length b) ≡ true = grind (arith, nat_tests) in
    rw (x, y) refl

not_both : (r : Result Accepted TraceNo) (accepted : Accepted) (why : TraceNo) → r ≡ Ok accepted → r ≡ Err why → ⊥
not_both r accepted why e f = cc

one_refusal : (r : Result Accepted TraceNo) (x y : TraceNo) → r ≡ Err x → r ≡ Err y → x ≡ y
one_refusal r x y e f = cc

no_options : (words : List (List ℕ)) (origin : Origin) → HaveOrigin words origin → options_of words ≡ None → ⊥
no_options words origin h e =
    let some : options_of words ≡ Some h.options = h.formed in
    cc

-- words are options in one way
same_options : (words : List (List ℕ)) (options : RunOptions) (origin : Origin) (h : HaveOrigin words origin)
    → options_of words ≡ Some options → options ≡ h.options
same_options words options origin h e =
    let some : options_of words ≡ Some h.options = h.formed in
    cc

-- so a text has one reading beside words
read_as : (words : List (List ℕ)) (src : SourceSpan) (text : List ℕ) (options : RunOptions)
    (was : IsRead words src text)
    (r : Result Accepted TraceNo) → options_of words ≡ Some options
    → reading_for was.words_are.options.pool text ≡ r → reading_for options.pool text ≡ r
read_as words src text options was r formed e =
    let same : options ≡ was.words_are.options = same_options words options Source was.words_are formed in
    ap (λ (p : RunOptions). reading_for p.pool text) same ∙ e

-- the options of words have the words' origin
at_origin : (words : List (List ℕ)) (options : RunOptions) (origin : Origin) → HaveOrigin words origin
    → options_of words ≡ Some options → options.origin ≡ origin
at_origin words options origin h e =
    ap (λ (p : RunOptions). p.origin) (same_options words options origin h e) ∙ h.origin_is

-- what is said of options is said for their origin
for_origin : (words : List (List ℕ)) (s : Status) (o : Outcome) (options : RunOptions) (src : SourceSpan)
    (out : SinkSpan)
    (origin : Origin) → HaveOrigin words origin → options_of words ≡ Some options → ExplainsOptions s o options src out
    → ExplainsOrigin origin s o options src out
unfolding ExplainsOptions
for_origin words s o options src out origin h formed e =
    subst (λ (place : Origin). ExplainsOrigin place s o options src out) (at_origin words options origin h formed) e

-- ---- When a run must succeed.

by_run : (s : Status) (o : Outcome) (options : RunOptions) (accepted : Accepted) (out : SinkSpan)
    → ExplainsRun s o options accepted out → IsTaken out → IsDone s
unfolding ExplainsRun
by_run Words o options accepted out e taken = absurd e
by_run ReadFault o options accepted out e taken = absurd e
by_run Trace o options accepted out e taken = absurd e
by_run Memory o options accepted out e taken = inr (inr refl)
by_run WriteFault o options accepted out (run, (has, cut)) taken =
    elim cut.cause [ inl rose ↦ absurd (taken.faults rose) | inr rose ↦ absurd (taken.empty rose) ]
by_run Whole o options accepted out e taken = inl refl
by_run Leaks o options accepted out e taken = inr (inl refl)

by_source : (s : Status) (o : Outcome) (options : RunOptions) (src : SourceSpan) (out : SinkSpan) (text : List ℕ)
    (accepted : Accepted) → ExplainsSource s o options src out → src.left ≡ Some text
    → (Rose src.faults src.faults_then → ⊥) → reading_for options.pool text ≡ Ok accepted → IsTaken out → IsDone s
unfolding ExplainsSource ExplainsText
by_source ReadFault o options src out text accepted (bare, unwritten, rose) told faults here taken =
    absurd (faults rose)
by_source Memory o options src out text accepted e told faults here taken = inr (inr refl)
by_source Trace o options src out text accepted (was, (reads, same, (why, (refused, is, unwritten))))
    told faults here taken =
    let both = told_reading (reading_for options.pool) (both_long options.pool) _ _ _ _ told reads ∙ here in
    absurd (not_both (reading_for options.pool was) accepted why both refused)
by_source Words o options src out text accepted (was, (reads, same, (found, (there, e)))) told faults here taken =
    by_run Words o options found out e taken
by_source WriteFault o options src out text accepted (was, (reads, same, (found, (there, e)))) told faults here taken =
    by_run WriteFault o options found out e taken
by_source Whole o options src out text accepted e told faults here taken = inl refl
by_source Leaks o options src out text accepted e told faults here taken = inr (inl refl)

-- of a trace that is read
by_options : (s : Status) (o : Outcome) (words : List (List ℕ)) (options : RunOptions) (src : SourceSpan)
    (out : SinkSpan)
    → options_of words ≡ Some options → ExplainsOptions s o options src out → (text : List ℕ) (accepted : Accepted)
    (was : IsRead words src text) → reading_for was.words_are.options.pool text ≡ Ok accepted → IsTaken out → IsDone s
by_options s o words options src out formed e text accepted was here taken =
    let explained = for_origin words s o options src out Source was.words_are formed e in
    let read = read_as words src text options was (Ok accepted) formed here in
    by_source s o options src out text accepted explained was.told was.faults read taken

read_completes : (s : Status) (o : Outcome) (words : List (List ℕ)) (src : SourceSpan) (out : SinkSpan)
    → Explains s o words src out → (text : List ℕ) (accepted : Accepted) (was : IsRead words src text)
    → reading_for was.words_are.options.pool text ≡ Ok accepted → IsTaken out → IsDone s
unfolding Explains
read_completes Words o words src out e text accepted was here taken = absurd (no_options words Source was.words_are e.3)
read_completes ReadFault o words src out (options, (formed, e)) text accepted was here taken =
    by_options ReadFault o words options src out formed e text accepted was here taken
read_completes Memory o words src out e text accepted was here taken = inr (inr refl)
read_completes Trace o words src out (options, (formed, e)) text accepted was here taken =
    by_options Trace o words options src out formed e text accepted was here taken
read_completes WriteFault o words src out (options, (formed, e)) text accepted was here taken =
    by_options WriteFault o words options src out formed e text accepted was here taken
read_completes Whole o words src out e text accepted was here taken = inl refl
read_completes Leaks o words src out e text accepted was here taken = inr (inl refl)

-- of a trace that is generated
generated_completes : (s : Status) (o : Outcome) (words : List (List ℕ)) (src : SourceSpan) (out : SinkSpan)
    → Explains s o words src out → (g : Generation) → HaveOrigin words (Generated g) → IsTaken out → IsDone s
unfolding Explains
generated_completes Words o words src out e g h taken = absurd (no_options words (Generated g) h e.3)
generated_completes ReadFault o words src out (options, (formed, e)) g h taken =
    by_run ReadFault o options _ out (for_origin words ReadFault o options src out (Generated g) h formed e).1 taken
generated_completes Memory o words src out e g h taken = inr (inr refl)
generated_completes Trace o words src out (options, (formed, e)) g h taken =
    by_run Trace o options _ out (for_origin words Trace o options src out (Generated g) h formed e).1 taken
generated_completes WriteFault o words src out (options, (formed, e)) g h taken =
    by_run WriteFault o options _ out (for_origin words WriteFault o options src out (Generated g) h formed e).1 taken
generated_completes Whole o words src out e g h taken = inl refl
generated_completes Leaks o words src out e g h taken = inr (inl refl)

pub completes : (s : Status) (o : Outcome) (words : List (List ℕ)) (src : SourceSpan) (out : SinkSpan)
    → Explains s o words src out → Completes s words src out
completes s o words src out e = record {
  read = read_completes s o words src out e;
  generated = generated_completes s o words src out e;
}

-- ---- When it must refuse.

refused_source : (s : Status) (o : Outcome) (options : RunOptions) (src : SourceSpan) (out : SinkSpan) (text : List ℕ)
    (why : TraceNo) → ExplainsSource s o options src out → src.left ≡ Some text
    → (Rose src.faults src.faults_then → ⊥) → reading_for options.pool text ≡ Err why
    → ((s ≡ Trace) × (o.refusal ≡ Some why)) ⊎ (s ≡ Memory)
unfolding ExplainsSource ExplainsText
refused_source ReadFault o options src out text why (bare, unwritten, rose) told faults refused = absurd (faults rose)
refused_source Memory o options src out text why e told faults refused = inr refl
refused_source Trace o options src out text why (was, (reads, same, (found, (there, is, rest)))) told faults refused =
    let here = told_reading (reading_for options.pool) (both_long options.pool) _ _ _ _ told reads ∙ refused in
    let same_why : found ≡ why = one_refusal (reading_for options.pool was) found why there here in
    inl (refl, is.refusal ∙ ap Some same_why)
refused_source Words o options src out text why (was, (reads, same, (found, (there, rest)))) told faults refused =
    let here = told_reading (reading_for options.pool) (both_long options.pool) _ _ _ _ told reads ∙ refused in
    absurd (not_both (reading_for options.pool was) found why there here)
refused_source WriteFault o options src out text why (was, (reads, same, (found, (there, rest)))) told faults refused =
    let here = told_reading (reading_for options.pool) (both_long options.pool) _ _ _ _ told reads ∙ refused in
    absurd (not_both (reading_for options.pool was) found why there here)
refused_source Whole o options src out text why (was, (reads, same, (found, (there, rest)))) told faults refused =
    let here = told_reading (reading_for options.pool) (both_long options.pool) _ _ _ _ told reads ∙ refused in
    absurd (not_both (reading_for options.pool was) found why there here)
refused_source Leaks o options src out text why (was, (reads, same, (found, (there, rest)))) told faults refused =
    let here = told_reading (reading_for options.pool) (both_long options.pool) _ _ _ _ told reads ∙ refused in
    absurd (not_both (reading_for options.pool was) found why there here)

refused_options : (s : Status) (o : Outcome) (words : List (List ℕ)) (options : RunOptions) (src : SourceSpan)
    (out : SinkSpan) → options_of words ≡ Some options → ExplainsOptions s o options src out → (text : List ℕ)
    (why : TraceNo) (was : IsRead words src text) → reading_for was.words_are.options.pool text ≡ Err why
    → ((s ≡ Trace) × (o.refusal ≡ Some why)) ⊎ (s ≡ Memory)
refused_options s o words options src out formed e text why was refused =
    let explained = for_origin words s o options src out Source was.words_are formed e in
    let read = read_as words src text options was (Err why) formed refused in
    refused_source s o options src out text why explained was.told was.faults read

pub refuses : (s : Status) (o : Outcome) (words : List (List ℕ)) (src : SourceSpan) (out : SinkSpan)
    → Explains s o words src out → Refuses s o.refusal words src
unfolding Explains Refuses
refuses Words o words src out e text why was refused = absurd (no_options words Source was.words_are e.3)
refuses ReadFault o words src out (options, (formed, e)) text why was refused =
    refused_options ReadFault o words options src out formed e text why was refused
refuses Memory o words src out (options, (formed, e)) text why was refused =
    refused_options Memory o words options src out formed e text why was refused
refuses Trace o words src out (options, (formed, e)) text why was refused =
    refused_options Trace o words options src out formed e text why was refused
refuses WriteFault o words src out (options, (formed, e)) text why was refused =
    refused_options WriteFault o words options src out formed e text why was refused
refuses Whole o words src out (options, (formed, e)) text why was refused =
    refused_options Whole o words options src out formed e text why was refused
refuses Leaks o words src out (options, (formed, e)) text why was refused =
    refused_options Leaks o words options src out formed e text why was refused
