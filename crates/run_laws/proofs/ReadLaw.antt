-- Each read gives the bytes that were last written to its root.
use Rattle.std.proofs.Common.{inl, inr, ◌≡◌, ℕ, suc, ◌-◌, ◌≤◌, List, [], ◌∷◌, take, drop, sym, ap, subst, arith, Some, ◌∙◌}
use Rattle.std.specs.Prelude.{◌⊎◌, ◌<◌, slice_get}
use Rattle.pool_law.specs.declared.note.Object.{Object}
use Rattle.pool_law.specs.declared.note.Did.TheVariants.{Get}
use Rattle.pool_law.specs.declared.run.Reply.{Reply}
use Rattle.pool_law.specs.declared.run.Run.{Run}
use Rattle.pool_law.specs.Logs.{ToldNote, of_lane, entry_of, entries_of}
use Rattle.pool_law.specs.Legal.{IsLegal, logs_of, replies_of}
use Rattle.pool_law.specs.Lives.{Done}
use Rattle.pool_law.specs.declared.id.Part.{Part}
use Rattle.pool_law.specs.Readers.{ToldNotes}
use Rattle.pool_law.specs.LaneStates.{new_lane, log_at}
use Rattle.pool_law.specs.LaneLaw.{sweep_period, lane_run, before_stop, note_counts, replies_in}
use Rattle.pool_law.proofs.ListLemmas.{map-get}
use Rattle.pool_law.proofs.HistoryLemmas.{log-past}
use Rattle.pool_law.proofs.LogLemmas.{entry-note}
use Rattle.run_laws.specs.Reads.{get_note, groups_of, GetsPart, GetsParts, ReadsGiveWritten}
use Rattle.run_laws.proofs.Sums.{below-or}
use Rattle.run_laws.proofs.LogEntries.{entries-at}
use Rattle.run_laws.proofs.Written.{got-written}
use Rattle.run_laws.proofs.PartsRead.{GotPart, GotParts, reads-parts}
use Rattle.run_laws.proofs.LaneSteps.{no-sweep, step-is, lane_run-at, piece-there, take-take, get-in_front, get-dropped, stopped-says}

pub reads-give_written : (run : Run) → IsLegal run → ReadsGiveWritten run
reads-give_written run legal lane number command bytes is reply =
    let log = legal.answers lane low in
    let s = lane_run-at sweep_period (omega arith) run.shape lane new_lane (omega arith)
    (take stop (of_lane run.trace.lanes lane)) (take stop (groups_of run lane))
    (take stop (replies_in (replies_of run lane)), log.last) number command log.answered
    (get-in_front number stop (of_lane run.trace.lanes lane) early ∙ is) in
    let said : s.answered.0 ≡ Reply.OkBytes bytes =
    cc (sym s.reply ∙ get-in_front number stop (replies_in (replies_of run lane)) early ∙ reply) in
    let w = step-is sweep_period run.shape lane s.state command s.group s.answered s.step in
    let r = reads-parts run.shape lane s.state command (log_at s.state s.group) w.answered bytes w.by
    (w.reply ∙ said) in
    let not_due : w.swept.1 ≡ w.answered.1 = no-sweep sweep_period lane w.answered.1 w.swept
    (omega (arith, r.asked, s.low)) w.sweeps in
    let none : w.answered.1.left ≡ [] = ap (λ l. l.left) (sym not_due) ∙ w.ended in
    let there : slice_get (groups_of run lane) number
    ≡ Some s.group = sym (get-in_front number stop (groups_of run lane) early) ∙ s.there in
    record {
      state = s.state;
      before =
          ap (λ cs. lane_run sweep_period run.shape lane new_lane cs (take number (groups_of run lane)))
          (sym (take-take number stop (of_lane run.trace.lanes lane) (omega (arith, early))))
          ∙ ap (λ gs. lane_run sweep_period run.shape lane new_lane
          (take number (take stop (of_lane run.trace.lanes lane))) gs)
          (sym (take-take number stop (groups_of run lane) (omega (arith, early))))
          ∙ s.before
          ∙ ap (λ rs. Some (rs, s.state))
          (take-take number stop (replies_in (replies_of run lane)) (omega (arith, early)));
      parts = r.parts;
      is = r.is;
      notes = s.group;
      own = there;
      got = r.pieces_got;
      gives = r.gives;
      gets =
          all r.parts s.group r.pieces_got
          (λ m e at. piece-there (note_counts (replies_of run lane)) (of_lane (entries_of (logs_of run)) lane)
          s.group number m e there at) (subst (λ xs. GotParts r.parts s.group xs r.pieces_got) none r.got);
    }
  where
    -- a lane with a command is one of the run's
    low : lane < run.shape.lanes
    low = go (below-or lane run.shape.lanes)
      where
        go : (lane < run.shape.lanes) ⊎ (run.shape.lanes ≤ lane) → lane < run.shape.lanes
        go (inl less) = less
        go (inr high) =
            let none : of_lane run.trace.lanes lane
            ≡ [] = log-past run.trace.lanes lane (omega (arith, high, legal.lanes)) in
            absurd (cc (ap (λ cs. slice_get cs number) (sym none) ∙ is))

    stop : ℕ
    stop = before_stop (replies_in (replies_of run lane))

    -- what is answered with bytes is answered before a stop
    early : number < stop
    early = go (below-or number (before_stop (replies_in (replies_of run lane))))
      where
        go : (number < before_stop (replies_in (replies_of run lane)))
            ⊎ (before_stop (replies_in (replies_of run lane)) ≤ number)
            → number < before_stop (replies_in (replies_of run lane))
        go (inl less) = less
        go (inr high) =
            let at : slice_get (drop (before_stop (replies_in (replies_of run lane)))
            (replies_in (replies_of run lane))) (number - before_stop (replies_in (replies_of run lane)))
            ≡ Some (Reply.OkBytes bytes) =
            get-dropped (before_stop (replies_in (replies_of run lane)))
            (number - before_stop (replies_in (replies_of run lane))) number (replies_in (replies_of run lane))
            (omega (arith, high)) ∙ reply in
            absurd (cc (stopped-says lane (drop (before_stop (replies_in (replies_of run lane)))
            (of_lane run.trace.lanes lane))
            (drop (before_stop (replies_in (replies_of run lane))) (groups_of run lane))
            (drop (before_stop (replies_in (replies_of run lane))) (replies_in (replies_of run lane)))
            (number - before_stop (replies_in (replies_of run lane))) (Reply.OkBytes bytes)
            (legal.answers lane low).stopped at))

    one : (part : Part) (e : ToldNote) (b : List ℕ) → (i : ℕ)
        × (slice_get (of_lane (entries_of (logs_of run)) lane) i ≡ Some e) → GotPart part e b
        → GetsPart (logs_of run) part e b
    one part e b i g =
        let n = map-get (entry_of (logs_of run)) (of_lane (logs_of run) lane) i.0 e
        (ap (λ xs. slice_get xs i.0) (sym (entries-at (logs_of run) (logs_of run) lane)) ∙ i.1) in
        let note_is : n.0 ≡ get_note part g.number b = sym (entry-note (logs_of run) n.0) ∙ ap (λ x. x.note) n.2
        ∙ g.note in
        let d : Done (logs_of run) (Object.Root part.root.place) (Get part.offset b) =
        record { lane = lane; at = i.0; number = g.number; stands = n.1 ∙ ap (λ x. Some x) note_is } in
        record {
          number = g.number;
          is = sym n.2 ∙ ap (entry_of (logs_of run)) note_is;
          size = g.size;
          present = ap (λ x. (entry_of (logs_of run) x).root) (sym note_is) ∙ ap (λ x. x.root) n.2 ∙ g.root;
          written = got-written run.shape (logs_of run) legal.histories part.root.place part.offset b d;
        }

    all : (ps : List Part) (es : ToldNotes) (bs : List (List ℕ))
        → ((m : ℕ) (e : ToldNote) → slice_get es m ≡ Some e
        → (i : ℕ) × (slice_get (of_lane (entries_of (logs_of run)) lane) i ≡ Some e)) → GotParts ps es [] bs
        → GetsParts (logs_of run) ps es bs
    all [] es [] there g = subst (λ xs. GetsParts (logs_of run) [] xs []) (sym g) tt
    all [] es (b ∷ bs) there g = absurd g
    all (p ∷ ps) es [] there g = absurd g
    all (p ∷ ps) es (b ∷ bs) there g =
        let here : es ≡ g.0 ∷ g.1 = g.2 in
        subst (λ xs. GetsParts (logs_of run) (p ∷ ps) xs (b ∷ bs)) (sym here) (
          one p g.0 b (there 0 g.0 (ap (λ xs. slice_get xs 0) here)) g.3,
          all ps g.1 bs
              (λ m e at. there (suc m) e (ap (λ xs. slice_get xs (suc m)) here ∙ at)) g.4,
        )
