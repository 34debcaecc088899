-- The run of lanes that have finished, and of their pool at its close, is legal.
use Rattle.std.proofs.Common.{⊎_elim, inl, inr, ◌≡◌, ℕ, ◌<◌, ◌≤◌, List, length, refl, sym, ap, subst, arith, Some, ◌∙◌}
use Rattle.std.specs.Prelude.{◌⊎◌, map, slice_get}
use Rattle.std.proofs.lemmas.Bool.{cases_lt}
use Rattle.size_classes.specs.Sizes.{below}
use Rattle.pool_law.specs.declared.command.Command.{Command}
use Rattle.pool_law.specs.declared.id.RootId.{RootId}
use Rattle.pool_law.specs.declared.run.Answered.{Answered}
use Rattle.pool_law.specs.declared.run.Run.{Run}
use Rattle.pool_law.specs.declared.run.Shape.{Shape}
use Rattle.pool_law.specs.Busy.{BusyHolds}
use Rattle.pool_law.specs.Counts.{CountsHold}
use Rattle.pool_law.specs.LaneLaw.{IsLaneLog}
use Rattle.pool_law.specs.Leaks.{leaks_of}
use Rattle.pool_law.specs.Legal.{AreCommands, CountsAgree, HistoriesHold, ends_from, logs_of, others_retains, replies_of}
use Rattle.pool_law.specs.Limits.{IsShape}
use Rattle.pool_law.specs.Logs.{ToldNote, of_lane, entries_of, history_of}
use Rattle.run_order.specs.Order.{InOneOrder}
use Rattle.run_order.proofs.HandOver.{handed_over}
use Rattle.leak_records.specs.declared.live.LiveRoot.{LiveRoot}
use Rattle.leak_records.specs.Records.{Sampling, new_sampler}
use Rattle.leak_records.specs.Reports.{IsReport}
use Rattle.pool_table.specs.declared.views.Part.{Part}
use Rattle.shared_pool.specs.declared.pool.SharedPool.{SharedPool}
use Rattle.shared_pool.specs.Closing.{AreWhole, logs_in, entries_in, entry_of as entry_in}
use Rattle.shared_pool.specs.Live.{AreLiveRoots}
use Rattle.shared_pool.proofs.LooksHeld.{looks-held}
use Rattle.shared_pool.proofs.ClosingWhole.{in_map}
use Rattle.lane_core.specs.declared.lane.Lane.{Lane}
use Rattle.lane_stages.specs.Sampled.{AreSampled}
use Rattle.lane_context.specs.Contexts as contexts
use Rattle.lane_core.specs.Lanes.{number_of}
use Rattle.lane_core.specs.Played.{AreFinished, IsFinishedLane, IsPlayed, IsRunOf, log_written}
use Rattle.lane_core.proofs.EitherLane.{lane_context, lane_commands}
use Rattle.lane_core.proofs.PlayedLists.{length-map, log-at, log-past}
use Rattle.lane_core.proofs.PlayedSeats.{lane-at}
use Rattle.lane_core.proofs.PlayedLogs.{own_part, parts_of_lanes, parts-are, parts-length, finished-at, logs-are, entries-at, replies-at}
use Rattle.lane_core.proofs.PlayedAnswers.{lane-log}
use Rattle.lane_core.proofs.PlayedReported.{leaks-are}

-- a lane of the log's fields, which were rewritten one by one
log-as : (shape : Shape) (k : ℕ) (a b : List Command) (r q : List Answered) (e f : List ToldNote) → a ≡ b → r ≡ q → e ≡
    f
    → IsLaneLog shape k a r e → IsLaneLog shape k b q f
log-as shape k a b r q e f x y z h =
    subst (λ c. IsLaneLog shape k c q f) x
    (subst (λ s. IsLaneLog shape k a s f) y (subst (λ t. IsLaneLog shape k a r t) z h))

module _ (pool : SharedPool) (lanes : List Lane) (run : Run) (fin : AreFinished pool lanes)
    (shape_ok : IsShape pool.table.layout.shape)
    (of : IsRunOf pool.table.layout.shape lanes run) (whole : AreWhole pool.table.layout.shape (parts_of_lanes lanes))
  where
    abbrev shape : Shape
    shape = pool.table.layout.shape

    abbrev parts : List Part
    parts = parts_of_lanes lanes

    logs-same : logs_in parts ≡ logs_of run
    logs-same = logs-are pool lanes fin shape run of

    entries-same : entries_in parts ≡ entries_of (logs_of run)
    entries-same = sym whole.entries ∙ ap entries_of logs-same

    -- a lane of the pool, or none
    lane-or : (k : ℕ) → ((l : Lane) × (slice_get lanes k ≡ Some l) × IsFinishedLane pool k l) ⊎ (length lanes ≤ k)
    lane-or k =
        ⊎_elim (λ (lt : k < shape.lanes). inl (lane-at pool lanes fin k lt))
        (λ (ge : shape.lanes ≤ k). inr (omega (arith, ge, fin.many))) (cases_lt k shape.lanes)

    commands : (k : ℕ) → AreCommands shape (of_lane run.trace.lanes k)
    commands k =
        subst (λ t. AreCommands shape (of_lane t k)) (sym of.trace)
        (⊎_elim
        (λ (a : (l : Lane) × (slice_get lanes k ≡ Some l) × IsFinishedLane pool k l).
        subst (AreCommands shape) (sym (log-at (λ (l : Lane). l.commands) lanes k a.0 a.1))
        (subst (λ s. AreCommands s a.0.commands) (lane_context pool a.0 a.2.lane).shape
        (lane_commands pool a.0 a.2.lane)))
        (λ (past : length lanes ≤ k).
        subst (AreCommands shape) (sym
        (log-past (map (λ (l : Lane). l.commands) lanes) k
        (omega (arith, past, length-map (λ (l : Lane). l.commands) lanes))))
        (record { few = omega arith; fit = refl }))
        (lane-or k))

    own-counts : (root : RootId) (k : ℕ) → CountsHold root 0 (of_lane (entries_in parts) k)
    own-counts root k =
        ⊎_elim
        (λ (a : (l : Lane) × (slice_get lanes k ≡ Some l) × IsFinishedLane pool k l).
        subst (CountsHold root 0) (sym (entries-at lanes k a.0 a.1))
        ((lane_context pool a.0 a.2.lane).counts.holds root))
        (λ (past : length lanes ≤ k).
        subst (CountsHold root 0) (sym
        (log-past (entries_in parts) k
        (omega (arith, past, parts-length lanes, length-map (λ (p : Part). map entry_in p.notes) parts)))) tt)
        (lane-or k)

    counts : CountsAgree (entries_of (logs_of run))
    counts =
        subst CountsAgree entries-same
        (record {
          lanes = own-counts;
          born = whole.born;
          totals = whole.totals;
          looks =
              λ root k. looks-held root (others_retains root k 0 (entries_in parts)) (of_lane (entries_in parts) k)
              (own-counts root k) (whole.looks root k);
        })

    answers : (k : ℕ) → k < shape.lanes → IsLaneLog shape k (of_lane run.trace.lanes k) (replies_of run k)
        (of_lane (entries_of (logs_of run)) k)
    answers k lt =
        let a = lane-at pool lanes fin k lt in
        log-as shape k a.0.commands (of_lane run.trace.lanes k) a.0.context.replies.items (replies_of run k)
        (contexts.entries_of a.0.context) (of_lane (entries_of (logs_of run)) k)
        (sym (ap (λ t. of_lane t k) of.trace ∙ log-at (λ (l : Lane). l.commands) lanes k a.0 a.1))
        (sym (replies-at shape lanes run of k a.0 a.1))
        (sym (entries-at lanes k a.0 a.1) ∙ ap (λ es. of_lane es k) entries-same)
        (subst (λ s. IsLaneLog s k a.0.commands a.0.context.replies.items (contexts.entries_of a.0.context))
        (lane_context pool a.0 a.2.lane).shape
        (lane-log pool k a.0 a.2))

    sampled : (k : ℕ) (p : Part) → slice_get parts k ≡ Some p
        → (last : Sampling) × AreSampled (new_sampler k shape.level shape.interval) p.notes last
    sampled k p e =
        let m = in_map own_part lanes k p (ap (λ ps. slice_get ps k) (sym (parts-are lanes)) ∙ e) in
        let f = finished-at pool lanes fin k m.0 m.1 in (
          m.0.context.sampler,
          subst (λ q. AreSampled (new_sampler k shape.level shape.interval) q.notes m.0.context.sampler) m.2
              (subst (λ n. AreSampled (new_sampler n shape.level shape.interval) (own_part m.0).notes
              m.0.context.sampler)
              f.number_is
              (subst (λ s. AreSampled (new_sampler (number_of m.0) s.level s.interval) (own_part m.0).notes
              m.0.context.sampler) (lane_context pool m.0 f.lane).shape (lane_context pool m.0 f.lane).sampled)),
        )

    module _ (live : List LiveRoot) (told : AreLiveRoots (parts_of_lanes lanes) live)
        (chunks : run.chunks ≡ ends_from pool.table.layout.shape (logs_in (parts_of_lanes lanes))
        (below pool.table.layout.shape.arenas))
        (report : IsReport live run.leaks) where
      -- a legal run, in which what was sent is seen in order, and all steps stand in one order
      pub is-played : IsPlayed run
      is-played = record {
        legal = record {
          shape = subst IsShape (sym of.shape_is) shape_ok;
          lanes =
              ap length of.trace ∙ length-map (λ (l : Lane). l.commands) lanes ∙ fin.many
              ∙ ap (λ s. s.lanes) (sym of.shape_is);
          logs = ap length of.logs ∙ length-map log_written lanes ∙ fin.many ∙ ap (λ s. s.lanes) (sym of.shape_is);
          commands = λ k. subst (λ s. AreCommands s (of_lane run.trace.lanes k)) (sym of.shape_is) (commands k);
          histories =
              subst (λ s. HistoriesHold s (logs_of run)) (sym of.shape_is)
              (subst (HistoriesHold shape) logs-same whole.histories);
          counts = counts;
          answers = λ k lt.
              subst (λ s. IsLaneLog s k (of_lane run.trace.lanes k) (replies_of run k)
              (of_lane (entries_of (logs_of run)) k)) (sym of.shape_is)
              (answers k (omega (arith, lt, ap (λ s. s.lanes) of.shape_is)));
          busy = λ k. subst (λ ls. BusyHolds k (λ o. history_of o ls) (of_lane ls k)) logs-same (whole.busy k);
          chunks =
              chunks ∙ ap (λ ls. ends_from shape ls (below shape.arenas)) logs-same
              ∙ ap (λ s. ends_from s (logs_of run) (below s.arenas)) (sym of.shape_is);
          leaks =
              leaks-are shape parts whole.histories whole.entries sampled live run.leaks told report
              ∙ ap (leaks_of shape) logs-same ∙ ap (λ s. leaks_of s (logs_of run)) (sym of.shape_is);
        };
        handed_over =
            handed_over shape (logs_of run) (subst (HistoriesHold shape) logs-same whole.histories)
            (subst InOneOrder logs-same whole.one_order);
        one_order = subst InOneOrder logs-same whole.one_order;
      }
