-- The log of a lane that has finished is its commands' and the closing's.
use Rattle.std.proofs.Common.{◌≡◌, ℕ, List, [], length, take, drop, sym, ap, subst, arith, Some, ◌∙◌}
use Rattle.std.specs.Prelude.{Option, option_map, option_and_then}
use Rattle.pool_law.specs.declared.command.Command.{Command}
use Rattle.pool_law.specs.declared.run.Answered.{Answered}
use Rattle.pool_law.specs.LaneLaw.{IsLaneLog, sweep_period, lane_run, before_stop, stopped_run, note_counts, replies_in, pieces, closes}
use Rattle.pool_law.specs.LaneStates.{new_lane, log_at}
use Rattle.pool_law.specs.Patterns.{closing}
use Rattle.pool_law.specs.Readers.{ToldNotes, Log, ended_with}
use Rattle.pool_law.proofs.HistoryLemmas.{append-nil}
use Rattle.shared_pool.specs.declared.pool.SharedPool.{SharedPool}
use Rattle.shared_pool.specs.Closing.{entry_of}
use Rattle.lane_stages.specs.declared.draining.DrainKind.TheVariants.{Close}
use Rattle.lane_stages.specs.declared.draining.Draining.TheVariants.{Done}
use Rattle.lane_core.specs.declared.lane.Lane.{Lane}
use Rattle.lane_context.specs.Contexts.{entries_of, notes_of}
use Rattle.lane_stages.specs.Drainings as draining
use Rattle.lane_core.specs.Lanes.{HasPassedOver, IsClosing, entries_since, number_of}
use Rattle.lane_core.specs.Played.{IsFinishedLane}
use Rattle.seat_work.specs.Readings.{ReadsOn}
use Rattle.lane_stages.specs.Readings.{none_asked}
use Rattle.lane_core.proofs.EitherLane.{lane_or, lane_context}
use Rattle.lane_core.proofs.LaneCloses.{close_had}
use Rattle.lane_core.proofs.StoppedLogs.{answered_passed}
use Rattle.lane_core.proofs.StoppedTurns.{stopped_had}
use Rattle.lane_core.proofs.PlayedLists.{take-all, pieces-within, behind-is, length-map}

-- what is read to its end
abbrev to_end : Unit {0} × Log → Option (Unit {0} × Log)
to_end p = option_and_then {U = Unit {0} × Log} (λ (q : Unit {0} × Log). Some (p.0, q.1)) (ended_with p.1 p.1.left)

abbrev ended : Option (Unit {0} × Log) → Option (Unit {0})
ended o = option_map (λ got. tt) (option_and_then to_end o)

module _ (pool : SharedPool) (k : ℕ) (l : Lane) (f : IsFinishedLane pool k l) where
  abbrev rs : List Answered
  rs = l.context.replies.items

  abbrev counts : List ℕ
  counts = note_counts rs

  abbrev es : ToldNotes
  es = entries_of l.context

  abbrev number : ℕ
  number = number_of l

  -- its replies are the law's, up to a stop and behind it
  pub passed-over : HasPassedOver l.context.shape number l
  passed-over =
      lane_or pool l (HasPassedOver l.context.shape number l) f.lane (λ s. s.answered)
      (λ r. answered_passed l.context.shape number l r.state r.few r.answered)

  -- none of its commands is left
  none : drop (length rs) l.commands ≡ []
  none =
      let closes : IsClosing l.stage = subst IsClosing (sym f.finished) tt in
      lane_or pool l (drop (length rs) l.commands ≡ []) f.lane (λ s. s.all_answered closes) (λ r. r.all_answered closes)

  all : take (length rs) l.commands ≡ l.commands
  all = take-all (length rs) l.commands none

  cut : pieces counts (take l.context.begun es) ≡ pieces counts es
  cut = ap (λ n. pieces counts (take n es)) (sym passed-over.counted) ∙ pieces-within counts es

  -- its closing is read to its end
  had : ReadsOn (closing number) (entries_since l) none_asked (draining.rest_of Close number Done)
  had =
      lane_or pool l (ReadsOn (closing number) (entries_since l) none_asked (draining.rest_of Close number Done)) f.lane
      (λ s. stopped_had pool l s Done f.finished) (λ r. close_had pool l r Done f.finished)

  closed : closes number (entries_since l) ≡ Some tt
  closed =
      let since = entries_since l in
      ap ended (ap (λ (xs : ToldNotes). closing number (log_at new_lane xs)) (sym (append-nil since))
      ∙ had (log_at new_lane []))

  own_log : IsLaneLog l.context.shape number l.commands rs es
  own_log =
      let n = before_stop (replies_in rs) in
      record {
        counted =
            (let a = passed-over.counted in let b = (lane_context pool l f.lane).begun in let c =
            length-map entry_of (notes_of l.context) in omega (arith, a, b, c));
        last = passed-over.state;
        answered =
            subst (λ (ps : List ToldNotes). lane_run sweep_period l.context.shape number new_lane (take n l.commands)
            (take n ps) ≡ Some (take n (replies_in rs), passed-over.state)) cut passed-over.run;
        stopped =
            subst (λ (x : List Command × List ToldNotes). stopped_run number (drop n x.0) (drop n x.1)
            ≡ Some (drop n (replies_in rs))) (λ i. (all i, cut i)) passed-over.stopped;
        closed = ap (closes number) (behind-is counts es ∙ ap (λ n. drop n es) passed-over.counted) ∙ closed;
      }

  pub lane-log : IsLaneLog l.context.shape k l.commands l.context.replies.items (entries_of l.context)
  lane-log =
      subst (λ n. IsLaneLog l.context.shape n l.commands l.context.replies.items (entries_of l.context)) f.number_is
      own_log
