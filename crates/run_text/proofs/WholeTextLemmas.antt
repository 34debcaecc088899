-- The text of a run is that of its lines, and each of them is shown.
use Rattle.std.proofs.Common.{◌≡◌, ℕ, suc, ◌+◌, ◌<◌, ◌≤◌, ◌^◌, true, List, [], ◌∷◌, ◌++◌, codes, length, map, refl, sym, ap, ◌∙◌, arith, length-append}
use Rattle.std.specs.Prelude.{if◌then◌else◌, Bool, false}
use Rattle.std.specs.List.{All}
use Rattle.std.proofs.lemmas.List.{length-map}
use Rattle.std.proofs.lemmas.List.Elements.{All-cons, All-head, All-tail}
use Rattle.pool_law.specs.declared.command.Command.{Command}
use Rattle.pool_law.specs.declared.id.RootId.{RootId}
use Rattle.pool_law.specs.declared.note.Did.{Did}
use Rattle.pool_law.specs.declared.note.Note.{Note}
use Rattle.pool_law.specs.declared.report.ChunkEnd.{ChunkEnd}
use Rattle.pool_law.specs.declared.report.Leak.{Leak}
use Rattle.pool_law.specs.declared.run.Run.{Run}
use Rattle.pool_law.specs.declared.run.Shape.{Shape}
use Rattle.pool_law.specs.Leaks.{births, is_live}
use Rattle.pool_law.specs.Legal.{AreCommands, logs_of}
use Rattle.pool_law.specs.Logs.{Logs, of_lane}
use Rattle.pool_law.specs.Text.{Text, born_roots, end_line, live_in, named, spaced, text_of}
use Rattle.run_text.specs.Answering.{lanes_texts}
use Rattle.run_text.specs.Derived.{IsDerived, lines_in, replies_told}
use Rattle.run_text.specs.Ending.{chunk_text, leak_texts, leaks_texts}
use Rattle.run_text.specs.Knowing.{FitsLine, line_text}
use Rattle.run_text.specs.Lines.{AreTold, Line, told_from, of_lane as lane_lines}
use Rattle.run_text.specs.Starting.{AreShown, Begins, BeginsNot, is_shown, unlines}
use Rattle.run_text.proofs.NoteTextLemmas.{notes_are, shown-lines}
use Rattle.run_text.proofs.PartShownLemmas.{AreShort, chunk_begins, shown-chunks, shown-lanes, shown-leaks}
use Rattle.run_text.proofs.PartTextLemmas.{all_replies_are, chunks_are, leaks_are}
use Rattle.run_text.proofs.ShownLemmas.{AreShown-append, shown-decimal, shown-spaced, unlines-append}

-- the words of the last line
abbrev pub end_words : Run → List Text
end_words run =
    let roots = born_roots (logs_of run) in
    named (codes "roots") (length roots)
    (named (codes "live") (live_in (logs_of run) roots) (named (codes "leaks") (length run.leaks) []))

-- what stands behind the notes
abbrev pub ends_in : Run → List Text
ends_in run = leaks_texts run.leaks ++ spaced (codes "end" ∷ end_words run) ∷ []

-- the lines of a run's text
abbrev pub texts_of : Run → List Text
texts_of run =
    lanes_texts 0 run.trace.lanes (replies_told run)
    ++ (map line_text (lines_in run) ++ (map chunk_text run.chunks ++ ends_in run))

-- lines in four parts
in_parts : (a b c d : List Text) →
    unlines (a ++ (b ++ (c ++ d))) ≡ unlines a ++ (unlines b ++ (unlines c ++ unlines d))
in_parts a b c d =
    unlines-append a (b ++ (c ++ d))
    ∙ ap (λ (rest : Text). unlines a ++ rest)
    (unlines-append b (c ++ d) ∙ ap (λ (rest : Text). unlines b ++ rest) (unlines-append c d))

pub text_is : (run : Run) → text_of run true ≡ unlines (texts_of run)
text_is run =
    (λ i. all_replies_are 0 run.trace.lanes run.logs i ++ (notes_are 0 run.logs i ++ (chunks_are run.chunks i
    ++ (leaks_are run.leaks i ++ end_line run))))
    ∙ ap
    (λ (rest : Text). unlines (lanes_texts 0 run.trace.lanes (replies_told run))
    ++ (unlines (map line_text (lines_in run)) ++ (unlines (map chunk_text run.chunks) ++ rest)))
    (sym (unlines-append (leaks_texts run.leaks) (spaced (codes "end" ∷ end_words run) ∷ [])))
    ∙ sym
    (in_parts (lanes_texts 0 run.trace.lanes (replies_told run)) (map line_text (lines_in run))
    (map chunk_text run.chunks) (ends_in run))

-- ---- There are few lines of a text that fits into memory.

-- a line has its end at least
pub few-lines : (texts : List Text) → length texts ≤ length (unlines texts)
few-lines [] = omega arith
few-lines (t ∷ texts) = omega (arith, few-lines texts, length-append t (10 ∷ unlines texts))

pub few-live : (logs : Logs) (roots : List RootId) → live_in logs roots ≤ length roots
few-live logs [] = omega arith
few-live logs (root ∷ roots) = go (is_live logs root) (few-live logs roots)
  where
    go : (b : Bool) → live_in logs roots ≤ length roots
        → (if b then 1 else 0) + live_in logs roots ≤ suc (length roots)
    go true rest = omega (arith, rest)
    go false rest = omega (arith, rest)

one-birth : (n : Note) (ns : List Note) → length (births (n ∷ ns)) ≤ suc (length (births ns))
one-birth (Note.At object number (Did.Birth root region)) ns = omega arith
one-birth (Note.At object number did) ns = omega arith
one-birth (Note.Ref root did) ns = omega arith
one-birth (Note.Busy held) ns = omega arith

few-births : (notes : List Note) → length (births notes) ≤ length notes
few-births [] = omega arith
few-births (n ∷ notes) = omega (arith, one-birth n notes, few-births notes)

few-born : (lane : ℕ) (logs : Logs) → length (born_roots logs) ≤ length (told_from lane logs)
few-born lane [] = omega arith
few-born lane (log ∷ logs) =
    omega (
      arith,
      few-births log,
      few-born (lane + 1) logs,
      length-append (births log) (born_roots logs),
      length-append (lane_lines lane log) (told_from (lane + 1) logs),
      length-map {B = Line} log (λ (note : Note). (lane, note)),
    )

few-leaks : (leaks : List Leak) → length leaks ≤ length (leaks_texts leaks)
few-leaks [] = omega arith
few-leaks (l ∷ leaks) = omega (arith, few-leaks leaks, length-append (leak_texts l) (leaks_texts leaks))

-- a text in memory tells of few roots and leaks
module _ (run : Run) (text : Text) (is : text_of run true ≡ text) (small : length text < 2 ^ 64) where
  few : length (texts_of run) < 2 ^ 64
  few =
      omega (
        arith,
        small,
        few-lines (texts_of run),
        ap (λ (t : Text). length t) (sym (text_is run) ∙ is),
      )

  parts-long : length (map line_text (lines_in run)) + length (ends_in run) ≤ length (texts_of run)
  parts-long =
      omega (
        arith,
        length-append (lanes_texts 0 run.trace.lanes (replies_told run))
            (map line_text (lines_in run) ++ (map chunk_text run.chunks ++ ends_in run)),
        length-append (map line_text (lines_in run)) (map chunk_text run.chunks ++ ends_in run),
        length-append (map chunk_text run.chunks) (ends_in run),
      )

  pub few-roots : length (born_roots (logs_of run)) < 2 ^ 64
  few-roots = omega (arith, few, parts-long, few-born 0 (logs_of run), length-map (lines_in run) line_text)

  pub few-told : length run.leaks < 2 ^ 64
  few-told =
      omega (
        arith,
        few,
        parts-long,
        few-leaks run.leaks,
        length-append (leaks_texts run.leaks) (spaced (codes "end" ∷ end_words run) ∷ []),
      )

-- ---- What is shown.

shown-end : (run : Run) → length (born_roots (logs_of run)) < 2 ^ 64 → length run.leaks < 2 ^ 64
    → is_shown (spaced (codes "end" ∷ end_words run)) ≡ true
shown-end run roots leaks =
    let live = few-live (logs_of run) (born_roots (logs_of run)) in
    shown-spaced (codes "end" ∷ end_words run) (
      refl,
      (
        refl,
        (
          shown-decimal (length (born_roots (logs_of run))) roots,
          (
            refl,
            (
              shown-decimal (live_in (logs_of run) (born_roots (logs_of run))) (omega (arith, live, roots)),
              (refl, (shown-decimal (length run.leaks) leaks, tt)),
            ),
          ),
        ),
      ),
    )

-- the lines of notes fit that are told of lanes that are few
pub told-fit : (arenas : ℕ) (all before lines : List Line) → AreTold arenas all before lines
    → All (λ (line : Line). line.0 < 2 ^ 32) lines → All FitsLine lines
told-fit arenas all before [] told low = λ k d less. absurd (omega (arith, less))
told-fit arenas all before (line ∷ lines) told low =
    All-cons FitsLine line lines
    (All-head (λ (l : Line). l.0 < 2 ^ 32) line lines low, told.0)
    (told-fit arenas all (before ++ line ∷ []) lines told.2 (All-tail (λ (l : Line). l.0 < 2 ^ 32) line lines low))

-- a lane has few commands
short-lanes : (shape : Shape) (lanes : List (List Command)) → ((lane : ℕ) → AreCommands shape (of_lane lanes lane))
    → AreShort lanes
short-lanes shape [] commands = tt
short-lanes shape (cs ∷ lanes) commands =
    let first : length cs ≤ 65536 = (commands 0).few in
    (omega (arith, first), short-lanes shape lanes (λ lane. commands (suc lane)))

pub shown-all : (run : Run) → IsDerived run → All FitsLine (lines_in run)
    → length (born_roots (logs_of run)) < 2 ^ 64 → length run.leaks < 2 ^ 64 → AreShown (texts_of run)
shown-all run derived notes roots leaks =
    let law = derived.law in
    AreShown-append (lanes_texts 0 run.trace.lanes (replies_told run))
    (map line_text (lines_in run) ++ (map chunk_text run.chunks ++ ends_in run))
    (shown-lanes 0 run.trace.lanes (replies_told run) (omega (arith, law.asked, law.measures.lanes_most))
    (short-lanes run.shape run.trace.lanes law.commands) derived.fits.replies)
    (AreShown-append (map line_text (lines_in run)) (map chunk_text run.chunks ++ ends_in run)
    (shown-lines (lines_in run) notes)
    (AreShown-append (map chunk_text run.chunks) (ends_in run) (shown-chunks run.chunks derived.fits.chunks)
    (AreShown-append (leaks_texts run.leaks) (spaced (codes "end" ∷ end_words run) ∷ [])
    (shown-leaks run.leaks derived.fits.leaks) (shown-end run roots leaks, tt))))

-- ---- How the parts begin.

-- what stands behind chunks is no chunk
pub no-chunk : (leaks : List Leak) (words : List Text)
    → BeginsNot (codes "chunk ") (leaks_texts leaks ++ spaced (codes "end" ∷ words) ∷ [])
no-chunk [] [] = refl
no-chunk [] (w ∷ words) = refl
no-chunk (l ∷ leaks) words = refl

-- what stands behind notes is no note
pub no-note : (chunks : List ChunkEnd) (leaks : List Leak) (words : List Text)
    → BeginsNot (codes "note ") (map chunk_text chunks ++ (leaks_texts leaks ++ spaced (codes "end" ∷ words) ∷ []))
no-note (c ∷ chunks) leaks words = refl
no-note [] (l ∷ leaks) words = refl
no-note [] [] [] = refl
no-note [] [] (w ∷ words) = refl

pub chunks-begin : (chunks : List ChunkEnd) → All (Begins (codes "chunk ")) (map chunk_text chunks)
chunks-begin [] = λ k d low. absurd (omega (arith, low))
chunks-begin (c ∷ chunks) =
    All-cons (Begins (codes "chunk ")) (chunk_text c) (map chunk_text chunks) (chunk_begins c) (chunks-begin chunks)
