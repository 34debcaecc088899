-- What each status says, from the input up to the words; and turned round, when a text must be written or refused.
use Rattle.std.proofs.Common.{◌≡◌, ℕ, ◌<◌, List, [], length, refl, sym, ◌∙◌, arith, Some, None, true, inl, inr}
use Rattle.std.specs.Prelude.{◌⊎◌, nat_lt}
use Rattle.std.proofs.lemmas.Bool.Decides.{nat_tests}
use Rattle.std.proofs.lemmas.Option.{none-some}
use Rattle.text_ends.specs.Ends.{Rose}
use Rattle.text_ends.specs.Spans.{SourceSpan, SinkSpan, IsTaken}
use Rattle.text_ends.specs.Transfer.{ReadsText}
use Rattle.text_ends.proofs.Readings.{told_reading}
use Rattle.trace_text.specs.Reading.{text_limit}
use Rattle.share_run.specs.declared.answer.Status.{Status}
use Rattle.share_run.specs.declared.answer.Status.TheVariants.{Whole, Words, Input as NoInput, ReadFault, WriteFault, Memory}
use Rattle.share_text.specs.declared.inputs.Input.{Input}
use Rattle.share_text.specs.Inputs.{input_of}
use Rattle.share_run.specs.Outcomes.{ExplainsInput, ExplainsText, ExplainsSource, Explains, Completes, Refuses}

pub of_input : (s : Status) (text : List ℕ) (input : Input) (out : SinkSpan) → input_of text ≡ Some input
    → ExplainsInput s input out → ExplainsText s text out
unfolding ExplainsInput ExplainsText
of_input Whole text input out is e = (input, (is, e))
of_input Words text input out is e = absurd e
of_input NoInput text input out is e = absurd e
of_input ReadFault text input out is e = absurd e
of_input WriteFault text input out is e = (input, (is, e))
of_input Memory text input out is e = e

pub of_text : (s : Status) (text : List ℕ) (src : SourceSpan) (out : SinkSpan)
    → ReadsText src.left src.left_then text → src.faults_then ≡ src.faults → ExplainsText s text out
    → ExplainsSource s src out
unfolding ExplainsInput ExplainsText ExplainsSource
of_text Whole text src out reads same e = (text, (reads, same, e))
of_text Words text src out reads same e = (text, (reads, same, e))
of_text NoInput text src out reads same e = (text, (reads, same, e))
of_text ReadFault text src out reads same (input, (is, never)) = absurd never
of_text WriteFault text src out reads same e = (text, (reads, same, e))
of_text Memory text src out reads same e = (e, same)

pub of_source : (s : Status) (words : List (List ℕ)) (src : SourceSpan) (out : SinkSpan) → words ≡ []
    → ExplainsSource s src out → Explains s words src out
unfolding ExplainsInput ExplainsText ExplainsSource Explains
of_source Whole words src out none e = (none, e)
of_source Words words src out none (text, (reads, same, (input, (is, never)))) = absurd never
of_source NoInput words src out none e = (none, e)
of_source ReadFault words src out none e = (none, e)
of_source WriteFault words src out none e = (none, e)
of_source Memory words src out none e = (none, e)

-- ---- Of a long text no more is read than shows that it is long.

both_long : (a b : List ℕ) → text_limit < length a → text_limit < length b → input_of a ≡ input_of b
unfolding input_of
both_long a b h k =
    let x : nat_lt text_limit (length a) ≡ true = grind (arith, nat_tests) in
    let y : nat_lt text_limit (length b) ≡ true = grind (arith, nat_tests) in
    rw (x, y) refl

-- ---- When a text must be written, and when refused.

by_source : (s : Status) (src : SourceSpan) (out : SinkSpan) (text : List ℕ) (input : Input)
    → ExplainsSource s src out → src.left ≡ Some text → (Rose src.faults src.faults_then → ⊥)
    → input_of text ≡ Some input → IsTaken out → (s ≡ Whole) ⊎ (s ≡ Memory)
unfolding ExplainsInput ExplainsText ExplainsSource
by_source Whole src out text input e told faults is taken = inl refl
by_source Words src out text input (was, (reads, same, (found, (there, never)))) told faults is taken = absurd never
by_source NoInput src out text input (was, (reads, same, (none, unwritten))) told faults is taken =
    absurd (none-some input (sym none ∙ told_reading input_of both_long _ text _ was told reads ∙ is))
by_source ReadFault src out text input (unwritten, rose) told faults is taken = absurd (faults rose)
by_source WriteFault src out text input (was, (reads, same, (found, (there, cut)))) told faults is taken =
    elim cut.cause [ inl rose ↦ absurd (taken.faults rose) | inr rose ↦ absurd (taken.empty rose) ]
by_source Memory src out text input e told faults is taken = inr refl

pub completes : (s : Status) (words : List (List ℕ)) (src : SourceSpan) (out : SinkSpan) → Explains s words src out
    → Completes s words src out
unfolding Explains Completes
completes Whole words src out (none, e) text input was is taken = inl refl
completes Words words src out (unread', unwritten, some) text input was is taken = absurd (some was.no_words)
completes NoInput words src out (none, e) text input was is taken =
    by_source NoInput src out text input e was.told was.faults is taken
completes ReadFault words src out (none, e) text input was is taken =
    by_source ReadFault src out text input e was.told was.faults is taken
completes WriteFault words src out (none, e) text input was is taken =
    by_source WriteFault src out text input e was.told was.faults is taken
completes Memory words src out (none, e) text input was is taken = inr refl

refused_source : (s : Status) (src : SourceSpan) (out : SinkSpan) (text : List ℕ) → ExplainsSource s src out
    → src.left ≡ Some text → (Rose src.faults src.faults_then → ⊥) → input_of text ≡ None
    → (s ≡ NoInput) ⊎ (s ≡ Memory)
unfolding ExplainsInput ExplainsText ExplainsSource
refused_source Whole src out text (was, (reads, same, (found, (there, e)))) told faults none =
    absurd (none-some found (sym (told_reading input_of both_long _ text _ was told reads ∙ none) ∙ there))
refused_source Words src out text (was, (reads, same, (found, (there, never)))) told faults none = absurd never
refused_source NoInput src out text e told faults none = inl refl
refused_source ReadFault src out text (unwritten, rose) told faults none = absurd (faults rose)
refused_source WriteFault src out text (was, (reads, same, (found, (there, e)))) told faults none =
    absurd (none-some found (sym (told_reading input_of both_long _ text _ was told reads ∙ none) ∙ there))
refused_source Memory src out text e told faults none = inr refl

pub refuses : (s : Status) (words : List (List ℕ)) (src : SourceSpan) (out : SinkSpan) → Explains s words src out
    → Refuses s words src
unfolding Explains Refuses
refuses Whole words src out (why, e) text was none = refused_source Whole src out text e was.told was.faults none
refuses Words words src out (unread', unwritten, some) text was none = absurd (some was.no_words)
refuses NoInput words src out e text was none = inl refl
refuses ReadFault words src out (why, e) text was none =
    refused_source ReadFault src out text e was.told was.faults none
refuses WriteFault words src out (why, e) text was none =
    refused_source WriteFault src out text e was.told was.faults none
refuses Memory words src out e text was none = inr refl
