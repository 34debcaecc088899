-- What each status says of the words; and turned round, when a text must be written and a stream refused.
use Rattle.std.proofs.Common.{◌≡◌, ℕ, List, ◌++◌, length, refl, ap, sym, subst, ◌∙◌, Some, None, inl, inr, append-nil}
use Rattle.std.specs.Prelude.{◌⊎◌, Option}
use Rattle.std.specs.Io.KnownBytes.{Consumes, IsAtEnd}
use Rattle.text_ends.specs.Ends.{Rose}
use Rattle.text_ends.specs.Spans.{SourceSpan, SinkSpan, IsTaken}
use Rattle.text_ends.proofs.Readings.{kept_as_is}
use Rattle.frame_core.specs.declared.frame.FrameNo.{FrameNo}
use Rattle.frame_core.specs.declared.frame.FrameNo.TheVariants.{Length, Frames, Stream, Inside}
use Rattle.frame_core.specs.Frames.{failure_of, frames_of, refusal}
use Rattle.frame_core.proofs.CountLaws.{failure-from_refusal}
use Rattle.frame_core.proofs.RefusalLaws.{refused-stays}
use Rattle.frame_words.specs.declared.words.CutOptions.{CutOptions}
use Rattle.frame_words.specs.Words.{options_of}
use Rattle.frame_cut.specs.declared.answer.Outcome.{Outcome}
use Rattle.frame_cut.specs.declared.answer.Status.{Status}
use Rattle.frame_cut.specs.declared.answer.Status.TheVariants as statuses
use Rattle.frame_cut.specs.Lines.{failed, refused, told}
use Rattle.frame_cut.specs.Outcomes.{Completes, Explains, ExplainsStream, IsRefused, IsWhole, Refuses, TellsOf}

pub of_stream :
    (s : Status) (o : Outcome) (words : List (List ℕ)) (src : SourceSpan) (out : SinkSpan) (options : CutOptions)
    → options_of words ≡ Some options → ExplainsStream s o options.block src out → Explains s o words src out
unfolding Explains ExplainsStream
of_stream statuses.Whole o words src out options form e = (options, (form, e))
of_stream statuses.Words o words src out options form e = absurd e
of_stream statuses.Input o words src out options form e = (options, (form, e))
of_stream statuses.ReadFault o words src out options form e = (options, (form, e))
of_stream statuses.WriteFault o words src out options form e = (options, (form, e))
of_stream statuses.Memory o words src out options form e = (options, (form, e))

-- words without a form, beside ends that weren't called
pub without_form : (o : Outcome) (words : List (List ℕ)) (left got : Option (List ℕ)) (n m k : ℕ)
    → o ≡ failed statuses.Words → options_of words ≡ None
    → Explains o.status o words (record { left = left; left_then = left; faults = n; faults_then = n })
    (record { got = got; got_then = got; faults = m; faults_then = m; empty = k; empty_then = k })
unfolding Explains
without_form o words left got n m k is none =
    subst (λ (x : Outcome). Explains x.status x words
    (record { left = left; left_then = left; faults = n; faults_then = n })
    (record { got = got; got_then = got; faults = m; faults_then = m; empty = k; empty_then = k })) (sym is) (
      none,
      record { left = kept_as_is left; faults = refl },
      record { got = kept_as_is got; faults = refl; empty = refl },
      refl,
    )

-- ---- What was read of a stream that the source told.

no_form : (words : List (List ℕ)) (options : CutOptions) → options_of words ≡ Some options → options_of words ≡ None → ⊥
no_form words options some none = cc

-- all of it, where nothing is left
read_all : (left new : Option (List ℕ)) (stream bytes : List ℕ) → left ≡ Some stream → Consumes left new bytes
    → IsAtEnd new → stream ≡ bytes
read_all None new stream bytes e c end = absurd (cc e)
read_all (Some all) None stream bytes e c end = absurd c
read_all (Some all) (Some rest) stream bytes e c end =
    let same : all ≡ stream = cc e in
    sym same ∙ c ∙ ap (λ r. bytes ++ r) end ∙ append-nil bytes

-- a front of it
read_front : (left new : Option (List ℕ)) (stream bytes : List ℕ) → left ≡ Some stream → Consumes left new bytes
    → (rest : List ℕ) × (stream ≡ bytes ++ rest)
read_front None new stream bytes e c = absurd (cc e)
read_front (Some all) None stream bytes e c = absurd c
read_front (Some all) (Some rest) stream bytes e c = let same : all ≡ stream = cc e in (rest, sym same ∙ c)

whole_read : (src : SourceSpan) (stream bytes : List ℕ) → src.left ≡ Some stream → IsWhole src bytes → stream ≡ bytes
whole_read src stream bytes told w = read_all src.left src.left_then stream bytes told w.taken.bytes_are w.end

one_failure : (stream bytes : List ℕ) (why : FrameNo) → stream ≡ bytes → failure_of bytes ≡ None
    → failure_of stream ≡ Some why → ⊥
one_failure stream bytes why same none some = let e = ap failure_of same in cc

stays : (bytes rest : List ℕ) (why : FrameNo) → refusal (Some why) ≡ Some why → failure_of bytes ≡ Some why
    → failure_of (bytes ++ rest) ≡ Some why
stays bytes rest why lasts e =
    failure-from_refusal (failure_of (bytes ++ rest)) why
    (refused-stays bytes rest why (ap refusal e ∙ lasts)).refusal

-- what the bytes that were read meet is what is wrong with the stream
meets : (why : FrameNo) (block : ℕ) (src : SourceSpan) (stream bytes : List ℕ) → src.left ≡ Some stream
    → IsRefused block src bytes why
    → failure_of stream ≡ Some why
meets (Inside number) block src stream bytes told r =
    ap failure_of (read_all src.left src.left_then stream bytes told r.taken.bytes_are r.met) ∙ r.failure
meets (Length number) block src stream bytes told r =
    let f = read_front src.left src.left_then stream bytes told r.taken.bytes_are in
    ap failure_of f.1 ∙ stays bytes f.0 (Length number) refl r.failure
meets Frames block src stream bytes told r =
    let f = read_front src.left src.left_then stream bytes told r.taken.bytes_are in
    ap failure_of f.1 ∙ stays bytes f.0 Frames refl r.failure
meets Stream block src stream bytes told r =
    let f = read_front src.left src.left_then stream bytes told r.taken.bytes_are in
    ap failure_of f.1 ∙ stays bytes f.0 Stream refl r.failure

-- ---- When a text must be written.

same_told : (s : Status) (o : Outcome) (stream bytes : List ℕ) → o.status ≡ s → stream ≡ bytes → TellsOf o bytes
    → o ≡ told s (length (frames_of stream))
same_told s o stream bytes is same tells =
    tells ∙ (λ i. told (is i) (length (frames_of (sym same i))))

by_stream : (s : Status) (o : Outcome) (block : ℕ) (src : SourceSpan) (out : SinkSpan) (stream : List ℕ)
    → o.status ≡ s → ExplainsStream s o block src out → src.left ≡ Some stream → (Rose src.faults src.faults_then → ⊥)
    → failure_of stream ≡ None → IsTaken out
    → (o ≡ told statuses.Whole (length (frames_of stream))) ⊎ (o ≡ failed statuses.Memory)
unfolding ExplainsStream
by_stream statuses.Whole o block src out stream is (bytes, (whole, written, tells)) left faults sound taken =
    inl (same_told statuses.Whole o stream bytes is (whole_read src stream bytes left whole) tells)
by_stream statuses.Words o block src out stream is e left faults sound taken = absurd e
by_stream statuses.Input o block src out stream is (bytes, (why, (met, unwritten, what))) left faults sound taken =
    absurd (let m = meets why block src stream bytes left met in cc)
by_stream statuses.ReadFault o block src out stream is (rose, unwritten, what) left faults sound taken =
    absurd (faults rose)
by_stream statuses.WriteFault o block src out stream is (bytes, (whole, cut, tells)) left faults sound taken =
    elim cut.cause [ inl rose ↦ absurd (taken.faults rose) | inr rose ↦ absurd (taken.empty rose) ]
by_stream statuses.Memory o block src out stream is (same, unwritten, what) left faults sound taken = inr what

pub completes : (s : Status) (o : Outcome) (words : List (List ℕ)) (src : SourceSpan) (out : SinkSpan) → o.status ≡ s
    → Explains s o words src out → Completes o words src out
unfolding Explains Completes
completes statuses.Whole o words src out is (options, (form, e)) stream given sound taken =
    by_stream statuses.Whole o options.block src out stream is e given.left given.faults sound taken
completes statuses.Words o words src out is (none, unread', unwritten, what) stream given sound taken =
    absurd (no_form words given.options given.form none)
completes statuses.Input o words src out is (options, (form, e)) stream given sound taken =
    by_stream statuses.Input o options.block src out stream is e given.left given.faults sound taken
completes statuses.ReadFault o words src out is (options, (form, e)) stream given sound taken =
    by_stream statuses.ReadFault o options.block src out stream is e given.left given.faults sound taken
completes statuses.WriteFault o words src out is (options, (form, e)) stream given sound taken =
    by_stream statuses.WriteFault o options.block src out stream is e given.left given.faults sound taken
completes statuses.Memory o words src out is (options, (form, e)) stream given sound taken =
    by_stream statuses.Memory o options.block src out stream is e given.left given.faults sound taken

-- ---- When a stream must be refused.

refuses_by : (s : Status) (o : Outcome) (block : ℕ) (src : SourceSpan) (out : SinkSpan) (stream : List ℕ)
    (why : FrameNo)
    → ExplainsStream s o block src out → src.left ≡ Some stream → (Rose src.faults src.faults_then → ⊥)
    → failure_of stream ≡ Some why → (o ≡ refused why) ⊎ (o ≡ failed statuses.Memory)
unfolding ExplainsStream
refuses_by statuses.Whole o block src out stream why (bytes, (whole, written, tells)) left faults bad =
    absurd (one_failure stream bytes why (whole_read src stream bytes left whole) whole.sound bad)
refuses_by statuses.Words o block src out stream why e left faults bad = absurd e
refuses_by statuses.Input o block src out stream why (bytes, (other, (met, unwritten, what))) left faults bad =
    inl (let m = meets other block src stream bytes left met in let same : other ≡ why = cc in what ∙ ap refused same)
refuses_by statuses.ReadFault o block src out stream why (rose, unwritten, what) left faults bad = absurd (faults rose)
refuses_by statuses.WriteFault o block src out stream why (bytes, (whole, cut, tells)) left faults bad =
    absurd (one_failure stream bytes why (whole_read src stream bytes left whole) whole.sound bad)
refuses_by statuses.Memory o block src out stream why (same, unwritten, what) left faults bad = inr what

pub refuses : (s : Status) (o : Outcome) (words : List (List ℕ)) (src : SourceSpan) (out : SinkSpan)
    → Explains s o words src out → Refuses o words src
unfolding Explains Refuses
refuses statuses.Whole o words src out (options, (form, e)) stream why given bad =
    refuses_by statuses.Whole o options.block src out stream why e given.left given.faults bad
refuses statuses.Words o words src out (none, unread', unwritten, what) stream why given bad =
    absurd (no_form words given.options given.form none)
refuses statuses.Input o words src out (options, (form, e)) stream why given bad =
    refuses_by statuses.Input o options.block src out stream why e given.left given.faults bad
refuses statuses.ReadFault o words src out (options, (form, e)) stream why given bad =
    refuses_by statuses.ReadFault o options.block src out stream why e given.left given.faults bad
refuses statuses.WriteFault o words src out (options, (form, e)) stream why given bad =
    refuses_by statuses.WriteFault o options.block src out stream why e given.left given.faults bad
refuses statuses.Memory o words src out (options, (form, e)) stream why given bad =
    refuses_by statuses.Memory o options.block src out stream why e given.left given.faults bad
