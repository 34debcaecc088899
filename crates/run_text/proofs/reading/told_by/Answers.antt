use Rattle.std.proofs.Common.{◌≡◌, ◌++◌, ◌<◌, ◌^◌, length, map, sym, subst, ◌∙◌, arith, length-append}
use Rattle.std.proofs.lemmas.List.{length-map}
use Rattle.pool_law.specs.Legal.{logs_of}
use Rattle.pool_law.specs.Logs.{Logs}
use Rattle.run_check.specs.Cutting.{AreLaneLogs}
use Rattle.run_text.specs.Answering.{lanes_texts}
use Rattle.run_text.specs.Derived.{answers_of, lines_in, replies_told}
use Rattle.run_text.specs.Ending.{chunk_text}
use Rattle.run_text.specs.Knowing.{line_text}
use Rattle.run_text.proofs.DerivedLemmas.{logs-same}
use Rattle.run_text.proofs.LineLemmas.{refused_on}
use Rattle.run_text.proofs.NoteTextLemmas.{notes_begin}
use Rattle.run_text.proofs.PartsLemmas.{is-known, replies-are, seen-same}
use Rattle.run_text.proofs.WholeTextLemmas.{chunks-begin, end_words, ends_in, no-chunk, no-note, texts_of}
use Rattle.run_text.proofs.reading.told_by.Goals as goal

pub returns-in_err-replies : goal.returns-in_err-replies
returns-in_err-replies c run asked measured is derived =
    let small : length c.args.text.now < 2 ^ 64 = omega arith in
    let k = is-known run c.args.lanes.now c.args.shape.now c.args.text.now asked measured is small derived in
    let lines = c.in_ok-lines.ensures (texts_of run) k.shown k.lines in
    let p1 = k.parted _ (seen-same _ _ c.deref.ensures.value (texts_of run) lines) in
    refused_on _ _ _ c.from_residual-in_err-replies.ensures.1
    (c.in_err-replies.ensures (replies_told run)
    (map line_text (lines_in run) ++ (map chunk_text run.chunks ++ ends_in run)) k.replies p1.first)

pub returns-in_err-notes : goal.returns-in_err-notes
returns-in_err-notes c run asked measured is derived =
    let small : length c.args.text.now < 2 ^ 64 = omega arith in
    let k = is-known run c.args.lanes.now c.args.shape.now c.args.text.now asked measured is small derived in
    let lines = c.in_ok-lines.ensures (texts_of run) k.shown k.lines in
    let p1 = k.parted _ (seen-same _ _ c.deref.ensures.value (texts_of run) lines) in
    let p2 = k.parted _ (seen-same _ _ c.deref-2.ensures.value (texts_of run) lines) in
    let p3 = k.parted _ (seen-same _ _ c.deref-3.ensures.value (texts_of run) lines) in
    let ends = map chunk_text run.chunks ++ ends_in run in
    let r = c.in_ok-replies.ensures (replies_told run) (map line_text (lines_in run) ++ ends) k.replies p1.first in
    let front = lanes_texts 0 c.args.lanes.now (replies_told run) in
    let to = c.end_of-to.ensures front (map line_text (lines_in run)) ends p2.first (sym r.1)
    (notes_begin (lines_in run)) (no-note run.chunks run.leaks (end_words run)) in
    refused_on _ _ _ c.from_residual-in_err-notes.ensures.1
    (c.in_err-notes.ensures front ends (logs_of run) p3.first (sym r.1)
    (omega (arith, to, length-map (lines_in run) line_text)) k.fit k.told k.arenas
    (omega (arith, k.count)) k.some)

pub returns-in_err-chunks_of : goal.returns-in_err-chunks_of
returns-in_err-chunks_of c run asked measured is derived =
    let small : length c.args.text.now < 2 ^ 64 = omega arith in
    let k = is-known run c.args.lanes.now c.args.shape.now c.args.text.now asked measured is small derived in
    let lines = c.in_ok-lines.ensures (texts_of run) k.shown k.lines in
    let p1 = k.parted _ (seen-same _ _ c.deref.ensures.value (texts_of run) lines) in
    let p2 = k.parted _ (seen-same _ _ c.deref-2.ensures.value (texts_of run) lines) in
    let p4 = k.parted _ (seen-same _ _ c.deref-4.ensures.value (texts_of run) lines) in
    let p5 = k.parted _ (seen-same _ _ c.deref-5.ensures.value (texts_of run) lines) in
    let notes = map line_text (lines_in run) in
    let chunks = map chunk_text run.chunks in
    let ends = chunks ++ ends_in run in
    let front = lanes_texts 0 c.args.lanes.now (replies_told run) in
    let r = c.in_ok-replies.ensures (replies_told run) (notes ++ ends) k.replies p1.first in
    let to = c.end_of-to.ensures front notes ends p2.first (sym r.1) (notes_begin (lines_in run))
    (no-note run.chunks run.leaks (end_words run)) in
    let long : length (front ++ notes) ≡ c.end_of-to.result = omega (arith, to, r.1, length-append front notes) in
    let end = c.end_of-end.ensures (front ++ notes) chunks (ends_in run) p4.second long (chunks-begin run.chunks)
    (no-chunk run.leaks (end_words run)) in
    refused_on _ _ _ c.from_residual-in_err-chunks_of.ensures.1
    (c.in_err-chunks_of.ensures (front ++ notes) (ends_in run) run.chunks p5.second long
    (omega (arith, end, length-map run.chunks chunk_text)) k.fits.chunks)

pub returns-in_err-leaks_of : goal.returns-in_err-leaks_of
returns-in_err-leaks_of c run asked measured is derived =
    let small : length c.args.text.now < 2 ^ 64 = omega arith in
    let k = is-known run c.args.lanes.now c.args.shape.now c.args.text.now asked measured is small derived in
    let lines = c.in_ok-lines.ensures (texts_of run) k.shown k.lines in
    let p1 = k.parted _ (seen-same _ _ c.deref.ensures.value (texts_of run) lines) in
    let p2 = k.parted _ (seen-same _ _ c.deref-2.ensures.value (texts_of run) lines) in
    let p4 = k.parted _ (seen-same _ _ c.deref-4.ensures.value (texts_of run) lines) in
    let p6 = k.parted _ (seen-same _ _ c.deref-6.ensures.value (texts_of run) lines) in
    let notes = map line_text (lines_in run) in
    let chunks = map chunk_text run.chunks in
    let ends = chunks ++ ends_in run in
    let front = lanes_texts 0 c.args.lanes.now (replies_told run) in
    let r = c.in_ok-replies.ensures (replies_told run) (notes ++ ends) k.replies p1.first in
    let to = c.end_of-to.ensures front notes ends p2.first (sym r.1) (notes_begin (lines_in run))
    (no-note run.chunks run.leaks (end_words run)) in
    let long : length (front ++ notes) ≡ c.end_of-to.result = omega (arith, to, r.1, length-append front notes) in
    let end = c.end_of-end.ensures (front ++ notes) chunks (ends_in run) p4.second long (chunks-begin run.chunks)
    (no-chunk run.leaks (end_words run)) in
    let far : length ((front ++ notes) ++ chunks) ≡ c.end_of-end.result =
    omega (arith, end, long, length-append (front ++ notes) chunks) in
    refused_on _ _ _ c.from_residual-in_err-leaks_of.ensures.1
    (c.in_err-leaks_of.ensures ((front ++ notes) ++ chunks) run.leaks (end_words run) p6.third far k.fits.leaks)

pub returns : goal.returns
returns c run asked measured is derived =
    let small : length c.args.text.now < 2 ^ 64 = omega arith in
    let k = is-known run c.args.lanes.now c.args.shape.now c.args.text.now asked measured is small derived in
    let lines = c.in_ok-lines.ensures (texts_of run) k.shown k.lines in
    let p1 = k.parted _ (seen-same _ _ c.deref.ensures.value (texts_of run) lines) in
    let p2 = k.parted _ (seen-same _ _ c.deref-2.ensures.value (texts_of run) lines) in
    let p3 = k.parted _ (seen-same _ _ c.deref-3.ensures.value (texts_of run) lines) in
    let p4 = k.parted _ (seen-same _ _ c.deref-4.ensures.value (texts_of run) lines) in
    let p5 = k.parted _ (seen-same _ _ c.deref-5.ensures.value (texts_of run) lines) in
    let p6 = k.parted _ (seen-same _ _ c.deref-6.ensures.value (texts_of run) lines) in
    let notes = map line_text (lines_in run) in
    let chunks = map chunk_text run.chunks in
    let ends = chunks ++ ends_in run in
    let front = lanes_texts 0 c.args.lanes.now (replies_told run) in
    let r = c.in_ok-replies.ensures (replies_told run) (notes ++ ends) k.replies p1.first in
    let to = c.end_of-to.ensures front notes ends p2.first (sym r.1) (notes_begin (lines_in run))
    (no-note run.chunks run.leaks (end_words run)) in
    let long : length (front ++ notes) ≡ c.end_of-to.result = omega (arith, to, r.1, length-append front notes) in
    let end = c.end_of-end.ensures (front ++ notes) chunks (ends_in run) p4.second long (chunks-begin run.chunks)
    (no-chunk run.leaks (end_words run)) in
    let far : length ((front ++ notes) ++ chunks) ≡ c.end_of-end.result =
    omega (arith, end, long, length-append (front ++ notes) chunks) in
    let made = c.in_ok-notes.ensures front ends (logs_of run) p3.first (sym r.1)
    (omega (arith, to, length-map (lines_in run) line_text)) k.fit k.told k.arenas (omega (arith, k.count)) k.some in
    let law = subst (λ (logs : Logs). AreLaneLogs c.args.shape.now c.args.lanes.now (answers_of run) logs) (sym made)
    k.law in
    let logs = c.in_ok-logs.ensures (answers_of run) (replies-are run.logs ∙ sym r.0) law k.fits.counts in (
      logs-same c.in_ok-logs.logs run.logs logs.0 (logs.1 ∙ made),
      c.in_ok-chunks_of.ensures (front ++ notes) (ends_in run) run.chunks p5.second long
          (omega (arith, end, length-map run.chunks chunk_text)) k.fits.chunks,
      c.in_ok-leaks_of.ensures ((front ++ notes) ++ chunks) run.leaks (end_words run) p6.third far k.fits.leaks,
    )
