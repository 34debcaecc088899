-- A legal run whose notes stand in one order is determined by its text.
use Rattle.std.proofs.Common.{◌≡◌, List, [], ◌∷◌, ◌++◌, Some, refl, ap, ◌∙◌}
use Rattle.std.proofs.lemmas.List.{length-map}
use Rattle.pool_law.specs.declared.note.Note.{Note}
use Rattle.pool_law.specs.declared.note.Note.TheVariants.{At, Ref, Busy}
use Rattle.pool_law.specs.declared.run.LaneLog.{LaneLog}
use Rattle.pool_law.specs.declared.run.Run.{Run}
use Rattle.pool_law.specs.Legal.{IsLegal, logs_of}
use Rattle.pool_law.specs.Lives.{StandsAt}
use Rattle.pool_law.proofs.PatternLemmas.{same_root-refl}
use Rattle.run_laws.proofs.PagedHistories.{paged}
use Rattle.run_laws.proofs.RunLaws.{acts-of}
use Rattle.run_check.specs.Cutting.{AreLaneLogs}
use Rattle.run_order.specs.Order.{InOneOrder}
use Rattle.run_text.specs.Derived.{Fits, IsDerived, answers_of, lines_in}
use Rattle.run_text.specs.Lines.{AreTold, IsTold, Line, told_from}
use Rattle.run_text.specs.Told.{FitsNote}
use Rattle.text_laws.specs.Typed.{IsNoteTyped, IsTyped}
use Rattle.text_laws.proofs.DidsTold.{did-told}
use Rattle.text_laws.proofs.KindsTold.{kind-fits}
use Rattle.text_laws.proofs.RepliesTold.{replies-fit}
use Rattle.text_laws.proofs.RootsTold.{named-told}
use Rattle.text_laws.proofs.TextPlaces.{all-told, here}

-- the lanes' logs are of the law
legal-law : (run : Run) → IsLegal run → AreLaneLogs run.shape run.trace.lanes (answers_of run) (logs_of run)
legal-law run legal = record {
  measures = legal.shape;
  asked = legal.lanes;
  replied = length-map run.logs (λ (l : LaneLog). l.replies) ∙ legal.logs;
  logged = length-map run.logs (λ (l : LaneLog). l.notes) ∙ legal.logs;
  commands = legal.commands;
  histories = legal.histories;
  answers = legal.answers;
}

module _ (run : Run) (legal : IsLegal run) (order : InOneOrder (logs_of run)) (typed : IsTyped run) where
  -- each line is told
  line-told : (front back : List Line) (line : Line) → told_from 0 (logs_of run) ≡ front ++ line ∷ back
      → FitsNote line.1 × IsTold run.shape.arenas (told_from 0 (logs_of run)) front line.0 line.1
  line-told front back line is = by line.1 refl
    where
      stands : (n : Note) → line.1 ≡ n
          → StandsAt (logs_of run) line.0 (here (logs_of run) front back line is).at n
      stands n note_is = (here (logs_of run) front back line is).stands ∙ ap (λ m. Some m) note_is

      by : (n : Note) → line.1 ≡ n
          → FitsNote n × IsTold run.shape.arenas (told_from 0 (logs_of run)) front line.0 n
      by (At o k d) note_is =
          let s : StandsAt (logs_of run) line.0 (here (logs_of run) front back line is).at (At o k d) =
          stands (At o k d) note_is in
          let t : IsNoteTyped (At o k d) =
          typed.notes line.0 (here (logs_of run) front back line is).at (At o k d) s in (
            (
              t.0,
              t.1,
              t.2,
              kind-fits run.shape (logs_of run) (paged run legal) (acts-of run legal) line.0
                  (here (logs_of run) front back line is).at k o d s,
            ),
            did-told run legal order front back line is o k d note_is s,
          )
      by (Ref root d) note_is =
          let s : StandsAt (logs_of run) line.0 (here (logs_of run) front back line is).at (Ref root d) =
          stands (Ref root d) note_is in (
            typed.notes line.0 (here (logs_of run) front back line is).at (Ref root d) s,
            named-told run.shape (logs_of run) (paged run legal) (acts-of run legal) legal.counts line.0
                (here (logs_of run) front back line is).at (Ref root d) root s (same_root-refl root),
          )
      by (Busy held) note_is = (
        typed.notes line.0 (here (logs_of run) front back line is).at (Busy held) (stands (Busy held) note_is),
        tt,
      )

  lines-told : AreTold run.shape.arenas (lines_in run) [] (lines_in run)
  lines-told = all-told run.shape.arenas (told_from 0 (logs_of run)) [] (told_from 0 (logs_of run)) refl line-told

  fits : Fits run
  fits =
      record {
        replies = replies-fit run legal typed;
        counts = typed.counts;
        chunks = typed.chunks;
        leaks = typed.leaks;
      }

  pub determined : IsDerived run
  determined = record { law = legal-law run legal; told = lines-told; fits = fits }
