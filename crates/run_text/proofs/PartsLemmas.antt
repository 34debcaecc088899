-- What is known of a run that its text determines, and of the lines of the text, part by part.
use Rattle.std.proofs.Common.{◌≡◌, ◌≢◌, ℕ, ◌<◌, ◌^◌, true, List, [], ◌∷◌, ◌++◌, length, map, refl, sym, ap, subst, ◌∙◌, arith, append_assoc, Bor}
use Rattle.std.specs.Prelude.{slice_get, unwrap_or}
use Rattle.std.specs.List.{All}
use Rattle.std.proofs.lemmas.Option.{slice_get-get_or}
use Rattle.pool_law.specs.declared.command.Command.{Command}
use Rattle.pool_law.specs.declared.run.LaneLog.{LaneLog}
use Rattle.pool_law.specs.declared.run.Reply.{Reply}
use Rattle.pool_law.specs.declared.run.Run.{Run}
use Rattle.pool_law.specs.declared.run.Shape.{Shape}
use Rattle.pool_law.specs.declared.note.Note.{Note}
use Rattle.pool_law.specs.LaneLaw.{replies_in}
use Rattle.pool_law.specs.Legal.{logs_of}
use Rattle.pool_law.specs.Logs.{Logs}
use Rattle.pool_law.specs.Text.{Text, text_of}
use Rattle.run_check.specs.Cutting.{AreLaneLogs}
use Rattle.run_text.specs.Answering.{FitLanes, lanes_texts}
use Rattle.run_text.specs.Derived.{Fits, IsDerived, answers_of, lines_in, replies_told}
use Rattle.run_text.specs.Ending.{chunk_text}
use Rattle.run_text.specs.Knowing.{FitsLine, line_text}
use Rattle.run_text.specs.Lines.{AreTold, Line}
use Rattle.run_text.specs.Starting.{AreShown, unlines}
use Rattle.run_text.proofs.DerivedLemmas.{lanes-some}
use Rattle.run_text.proofs.MakeLemmas.{told-below}
use Rattle.run_text.proofs.WholeTextLemmas.{ends_in, few-roots, few-told, shown-all, text_is, texts_of, told-fit}

-- ---- Lines in four parts.

-- lines that are these four, one behind the other
pub record InParts (texts a b c d : List Text) : Type 0 where
  pub first : texts ≡ a ++ (b ++ (c ++ d))
  pub second : texts ≡ (a ++ b) ++ (c ++ d)
  pub third : texts ≡ ((a ++ b) ++ c) ++ d

in-parts : (texts a b c d : List Text) → texts ≡ a ++ (b ++ (c ++ d)) → InParts texts a b c d
in-parts texts a b c d is =
    let second : texts ≡ (a ++ b) ++ (c ++ d) = is ∙ sym (append_assoc a b (c ++ d)) in
    record { first = is; second = second; third = second ∙ sym (append_assoc (a ++ b) c d) }

-- the same lines
pub seen-same : (new old : List (Bor Text)) → new ≡ old → (texts : List Text) → map (λ l. l.now) old ≡ texts
    → map (λ l. l.now) new ≡ texts
seen-same new old same texts is = ap (λ (ls : List (Bor Text)). map (λ (l : Bor Text). l.now) ls) same ∙ is

-- ---- What is known of the run.

-- each of these logs has notes, if so has each by its lane
all-some : (logs : Logs) → ((k : ℕ) → k < length logs → unwrap_or (slice_get logs k) [] ≢ [])
    → All (λ (log : List Note). log ≢ []) logs
all-some logs some k d less none =
    some k less (ap (λ o. unwrap_or o []) (slice_get-get_or logs k d less) ∙ none)

-- the replies of the answers
pub replies-are : (logs : List LaneLog)
    → map replies_in (map (λ l. l.replies) logs) ≡ map (λ (l : LaneLog). replies_in l.replies) logs
replies-are [] = refl
replies-are (log ∷ logs) = ap (λ (rest : List (List Reply)). replies_in log.replies ∷ rest) (replies-are logs)

-- what its reader asks of a run with these lanes' commands, this shape and this text
pub record IsKnown (run : Run) (lanes : List (List Command)) (shape : Shape) (text : Text) : Type 0 where
  pub shown : AreShown (texts_of run)
  pub lines : text ≡ unlines (texts_of run)
  pub parted :
      (texts : List Text) → texts ≡ texts_of run
      → InParts texts (lanes_texts 0 lanes (replies_told run)) (map line_text (lines_in run))
      (map chunk_text run.chunks) (ends_in run)
  pub replies : FitLanes lanes (replies_told run)
  pub fit : All FitsLine (lines_in run)
  pub told : AreTold shape.arenas (lines_in run) [] (lines_in run)
  pub arenas : 0 < shape.arenas
  pub count : length (logs_of run) ≡ length lanes
  pub some : All (λ (log : List Note). log ≢ []) (logs_of run)
  pub law : AreLaneLogs shape lanes (answers_of run) (logs_of run)
  pub fits : Fits run

module _ (run : Run) (lanes : List (List Command)) (shape : Shape) (text : Text) (asked : run.trace.lanes ≡ lanes)
    (measured : run.shape ≡ shape) (is : text_of run true ≡ text) (small : length text < 2 ^ 64)
    (derived : IsDerived run) where
  notes-long : length (logs_of run) < 2 ^ 32
  notes-long = omega (arith, derived.law.logged, derived.law.measures.lanes_most)

  all-low : (lines : List Line) (n : ℕ) → n < 2 ^ 32 → All (λ (line : Line). line.0 < n) lines
      → All (λ (line : Line). line.0 < 2 ^ 32) lines
  all-low lines n low all = λ k d less. omega (arith, low, all k d less)

  -- the lines of its notes fit
  notes-fit : All FitsLine (lines_in run)
  notes-fit =
      told-fit run.shape.arenas (lines_in run) [] (lines_in run) derived.told
      (all-low (lines_in run) (length (logs_of run)) notes-long
      (told-below (logs_of run) 0 (length (logs_of run)) (omega arith)))

  -- its lines are shown
  are-shown : AreShown (texts_of run)
  are-shown = shown-all run derived notes-fit (few-roots run text is small) (few-told run text is small)

  text-lines : text ≡ unlines (texts_of run)
  text-lines = sym is ∙ text_is run

  replies-fit : FitLanes lanes (replies_told run)
  replies-fit = subst (λ (l : List (List Command)). FitLanes l (replies_told run)) asked derived.fits.replies

  -- the lanes' logs are of the law
  law-here : AreLaneLogs shape lanes (answers_of run) (logs_of run)
  law-here =
      subst (λ (s : Shape). AreLaneLogs s lanes (answers_of run) (logs_of run)) measured
      (subst (λ (l : List (List Command)). AreLaneLogs run.shape l (answers_of run) (logs_of run)) asked derived.law)

  told-here : AreTold shape.arenas (lines_in run) [] (lines_in run)
  told-here = subst (λ (s : Shape). AreTold s.arenas (lines_in run) [] (lines_in run)) measured derived.told

  some-arenas : 0 < shape.arenas
  some-arenas = omega (arith, law-here.measures.arenas_least)

  as-many : length (logs_of run) ≡ length lanes
  as-many = law-here.logged ∙ sym law-here.asked

  each-some : All (λ (log : List Note). log ≢ []) (logs_of run)
  each-some = all-some (logs_of run) (lanes-some shape lanes (answers_of run) (logs_of run) law-here)

  -- its lines in four parts: replies, notes, chunks, and what stands behind them
  lines-parted : (texts : List Text) → texts ≡ texts_of run
      → InParts texts (lanes_texts 0 lanes (replies_told run)) (map line_text (lines_in run))
      (map chunk_text run.chunks) (ends_in run)
  lines-parted texts are =
      in-parts texts (lanes_texts 0 lanes (replies_told run)) (map line_text (lines_in run))
      (map chunk_text run.chunks) (ends_in run)
      (are
      ∙ ap
      (λ (l : List (List Command)). lanes_texts 0 l (replies_told run)
      ++ (map line_text (lines_in run) ++ (map chunk_text run.chunks ++ ends_in run))) asked)

  pub is-known : IsKnown run lanes shape text
  is-known = record {
    shown = are-shown;
    lines = text-lines;
    parted = lines-parted;
    replies = replies-fit;
    fit = notes-fit;
    told = told-here;
    arenas = some-arenas;
    count = as-many;
    some = each-some;
    law = law-here;
    fits = derived.fits;
  }
