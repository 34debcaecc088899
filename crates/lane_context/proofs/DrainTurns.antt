-- The turns of a sweep, and of the closing of the caches.
use Rattle.std.proofs.Common.{◌≡◌, ◌<◌, List, [], ◌∷◌, length, map, refl, sym, ap, ◌∙◌, subst, arith}
use Rattle.pool_law.specs.declared.command.Command.{Command}
use Rattle.pool_law.specs.declared.note.Held.{Held}
use Rattle.pool_law.specs.declared.run.Reply.{Reply}
use Rattle.pool_law.specs.LaneLaw.{sweep_period, before_stop}
use Rattle.pool_law.specs.LaneStates.{LaneState}
use Rattle.pool_law.specs.Lanes.{Answer, answer}
use Rattle.pool_law.specs.Readers.{Reader, ◌>>◌, give}
use Rattle.pool_table.specs.declared.views.Entry.{Entry}
use Rattle.pool_table.specs.declared.views.SeatView.{SeatView}
use Rattle.shared_pool.specs.SeatViews.{view_of}
use Rattle.shared_pool.specs.declared.pool.SharedPool.{SharedPool}
use Rattle.shared_pool.specs.Closing.{entry_of}
use Rattle.shared_pool.specs.SeatLanes.{lane_of}
use Rattle.lane_stages.specs.declared.counts.Counted.{Counted}
use Rattle.lane_context.specs.declared.context.Context.{Context}
use Rattle.lane_context.specs.declared.context.Stage.TheVariants.{Ready, Sweeping, Closing}
use Rattle.lane_context.specs.declared.context.Turn.TheVariants.{Went, Pending}
use Rattle.lane_stages.specs.declared.draining.DrainKind.{DrainKind}
use Rattle.lane_stages.specs.declared.draining.DrainKind.TheVariants.{Trim, Close}
use Rattle.lane_stages.specs.declared.draining.Draining.{Draining}
use Rattle.lane_stages.specs.declared.draining.Draining.TheVariants.{Ask, Shed, Give, Done as AllDrained}
use Rattle.lane_stages.specs.declared.draining.Drains.{Drains}
use Rattle.lane_stages.specs.declared.draining.Drains.TheVariants.{More as DrainMore, Held as DrainHeld}
use Rattle.lane_stages.specs.Drainings as draining
use Rattle.lane_stages.specs.Budgets.{Left, Spends}
use Rattle.lane_stages.specs.Counting.{counted}
use Rattle.seat_work.specs.Hands.{Hand, empty_hand}
use Rattle.lane_context.specs.Named.{NamesAre}
use Rattle.lane_stages.specs.NextNotes.{BeginsAt}
use Rattle.seat_work.specs.Readings.{ReadsOn}
use Rattle.lane_stages.specs.Readings.{none_asked}
use Rattle.lane_context.specs.Readings.{renamed}
use Rattle.lane_context.specs.Contexts.{IsContext, reads_from, ContextGrew, SpendsAt, HasTurned, HasTurnedClosing}
use Rattle.lane_context.specs.ContextSteps.{HasNoted, HasReplied}
use Rattle.lane_stages.proofs.NextNotes.{then_begins}
use Rattle.lane_context.proofs.NameLaws.{rebound_same}
use Rattle.seat_work.proofs.HandNotes.{drained_held}
use Rattle.seat_work.proofs.ReadLaws.{then_on, given_on}
use Rattle.lane_context.proofs.ContextGrown.{answer_reads, noted_so}
use Rattle.lane_stages.proofs.SeatCounts.{adds_recounted}
use Rattle.lane_context.proofs.StageTurns.{Staged, none_of, some_of, staged, staged_answer, staged_grew, staged_on, staged_seat, staged_still}

module _ (pool : SharedPool) (old mid : Context) (kind : DrainKind) (stage : Draining)
    (d : IsContext pool (draining.hand_of kind stage) old)
    (mid_so : mid ≡ record old { seat = mid.seat; notes = mid.notes }) where
  abbrev drain_start : Context
  drain_start = record old { seat = mid.seat }

  module _ (drains : Drains) (did : draining.HasDrained pool old.seat mid.seat old.notes mid.notes kind stage drains)
    where
      abbrev wrote_so : List Entry
      wrote_so = (did.wrote old.sampler).added

      pub drained_so : Staged pool (draining.hand_of kind stage) (draining.hand_after kind drains) old drain_start mid
          wrote_so (λ root. 0)
      drained_so = record {
        context = d;
        start_is = refl;
        counts_are = refl;
        same = (did.wrote old.sampler).same;
        seat = (did.wrote old.sampler).seat;
        more = (did.wrote old.sampler).more;
        held = did.hand;
        sampled = (did.wrote old.sampler).sampled;
        adds = λ cs. adds_recounted old.counts cs (map entry_of wrote_so) (λ root. 0) (did.counts old.sampler);
        noted =
            subst (HasNoted drain_start mid) (sym (did.wrote old.sampler).noted)
            (noted_so drain_start mid did.written did.log mid_so);
      }

      abbrev after : Hand
      after = draining.hand_after kind drains

      drained_seat : mid.seat ≡ drain_start.seat
      drained_seat =
          staged_seat pool (draining.hand_of kind stage) after old drain_start mid wrote_so (λ root. 0) drained_so

      drained_grew : ContextGrew pool after old mid wrote_so
      drained_grew =
          staged_grew pool (draining.hand_of kind stage) after old drain_start mid wrote_so (λ root. 0) drained_so
          (λ root. refl)

      -- what it spent
      drained_spends : (left : Left) → left.asks ≡ 0
          → Spends (view_of old.seat) (view_of mid.seat) (draining.left_of stage (view_of old.seat)) left
          → SpendsAt old mid (draining.left_of stage (view_of old.seat)) left
      drained_spends left none spent = record {
        sweeps = 0;
        notes = (let a = spent.notes in omega (arith, a));
        asks = (let a = ap (λ (x : Context). x.asked) mid_so in omega (arith, a, none));
        moves = spent.moves;
        sends = spent.sends;
      }

  -- no more asks of the closing
  no_asks : (at : Draining) (v : SeatView) → (draining.left_of at v).asks ≡ 0
  no_asks (Ask class) v = refl
  no_asks (Shed class left) v = refl
  no_asks (Give class left region) v = refl
  no_asks AllDrained v = refl

  pub close_goes : kind ≡ Close → (next : Draining)
      → draining.HasDrained pool old.seat mid.seat old.notes mid.notes kind stage (DrainMore next)
      → HasTurnedClosing pool old mid stage (Went (Closing next))
  close_goes is next did =
      let es = wrote_so (DrainMore next) did in
      record {
        after = next;
        added = es;
        comes = (refl, some_of es did.written (did.wrote old.sampler).noted did.again);
        grew =
            subst (λ (k : DrainKind). ContextGrew pool (draining.hand_of k next) old mid es) is
            (drained_grew (DrainMore next) did);
        fits = did.fits;
        spends = did.spends;
        replies = ap (λ (x : Context). x.replies.items) mid_so;
        names = ap (λ (x : Context). x.names) mid_so;
        begun = ap (λ (x : Context). x.begun) mid_so;
        asked = ap (λ (x : Context). x.asked) mid_so;
        held = tt;
        reads =
            subst (λ (k : DrainKind). ReadsOn (draining.rest_of k (lane_of old.seat) stage) (map entry_of es) none_asked
            (draining.rest_of k (lane_of old.seat) next)) is (did.wrote old.sampler).read;
      }

  pub close_waits : kind ≡ Close → (held : Held) (next : Draining)
      → draining.HasDrained pool old.seat mid.seat old.notes mid.notes kind stage (DrainHeld held next)
      → HasTurnedClosing pool old mid stage (Pending held (Closing next))
  close_waits is held next did =
      let es = wrote_so (DrainHeld held next) did in
      record {
        after = next;
        added = es;
        comes = (did.again.0, did.again.0, none_of es ((did.wrote old.sampler).noted ∙ did.again.1));
        grew =
            subst (λ (k : DrainKind). ContextGrew pool (draining.hand_of k next) old mid es) is
            (drained_grew (DrainHeld held next) did);
        fits = did.fits;
        spends = did.spends;
        replies = ap (λ (x : Context). x.replies.items) mid_so;
        names = ap (λ (x : Context). x.names) mid_so;
        begun = ap (λ (x : Context). x.begun) mid_so;
        asked = ap (λ (x : Context). x.asked) mid_so;
        held = (
          did.again.2,
          subst (λ (k : DrainKind). BeginsAt held.object (draining.rest_of k (lane_of old.seat) stage)) is did.again.3,
        );
        reads =
            subst (λ (k : DrainKind). ReadsOn (draining.rest_of k (lane_of old.seat) stage) (map entry_of es) none_asked
            (draining.rest_of k (lane_of old.seat) next)) is (did.wrote old.sampler).read;
      }

-- ---- A sweep.

module _ (pool : SharedPool) (old mid : Context) (reply : Reply) (stage : Draining)
    (d : IsContext pool (draining.hand_of Trim stage) old) (low : old.asked < sweep_period)
    (unstopped : before_stop (reply ∷ []) ≡ 1) (more_is : stage ≡ AllDrained → ⊥)
    (mid_so : mid ≡ record old { seat = mid.seat; notes = mid.notes }) (s : LaneState) (command : Command)
    (are : NamesAre s.names old.names) where
  abbrev sweeps_at : Draining → Reader Answer
  sweeps_at at = draining.rest_of Trim (lane_of old.seat) at >> give (answer reply s.names)

  low_still : mid.asked < sweep_period
  low_still = let a = ap (λ (x : Context). x.asked) mid_so in omega (arith, a, low)

  pub sweep_goes : (next : Draining) → (next ≡ AllDrained → ⊥)
      → draining.HasDrained pool old.seat mid.seat old.notes mid.notes Trim stage (DrainMore next)
      → HasTurned pool old mid s command (Sweeping reply stage) (Went (Sweeping reply next))
  sweep_goes next more did =
      let es = wrote_so pool old mid Trim stage d mid_so (DrainMore next) did in let st =
      drained_so pool old mid Trim stage d mid_so (DrainMore next) did in
      record {
        added = es;
        grew = drained_grew pool old mid Trim stage d mid_so (DrainMore next) did;
        fits = (did.fits, low_still, unstopped, more);
        name = tt;
        spends =
            drained_spends pool old mid Trim stage d mid_so (DrainMore next) did
            (draining.left_of next (view_of mid.seat))
            (no_asks pool old mid Trim stage d mid_so next (view_of mid.seat)) did.spends;
        comes =
            staged_on pool (draining.hand_of Trim stage) (draining.hand_of Trim next) old
            (record old { seat = mid.seat }) mid es (λ root. 0) st
            (some_of es did.written (did.wrote old.sampler).noted did.again) none_asked refl (sweeps_at stage)
            (λ names. reads_from old.shape (lane_of old.seat) (renamed s names) command (Sweeping reply next)) s.names
            are
            (then_on (draining.rest_of Trim (lane_of old.seat) stage) (map entry_of es) none_asked
            (λ _. give (answer reply s.names)) (draining.rest_of Trim (lane_of old.seat) next)
            (did.wrote old.sampler).read);
        waits = tt;
        held = tt;
      }

  pub sweep_waits : (held : Held) (next : Draining)
      → draining.HasDrained pool old.seat mid.seat old.notes mid.notes Trim stage (DrainHeld held next)
      → HasTurned pool old mid s command (Sweeping reply stage) (Pending held (Sweeping reply next))
  sweep_waits held next did =
      let es = wrote_so pool old mid Trim stage d mid_so (DrainHeld held next) did in let st =
      drained_so pool old mid Trim stage d mid_so (DrainHeld held next) did in
      record {
        added = es;
        grew = drained_grew pool old mid Trim stage d mid_so (DrainHeld held next) did;
        fits = (did.fits, low_still, unstopped, λ is. more_is (sym did.again.0 ∙ is));
        name = tt;
        spends =
            drained_spends pool old mid Trim stage d mid_so (DrainHeld held next) did
            (draining.left_of next (view_of mid.seat))
            (no_asks pool old mid Trim stage d mid_so next (view_of mid.seat)) did.spends;
        comes = (
          λ log. ap (λ (at : Draining). sweeps_at at log) (sym did.again.0),
          staged_still pool (draining.hand_of Trim stage) (draining.hand_of Trim next) old
              (record old { seat = mid.seat }) mid es (λ root. 0) st
              (none_of es ((did.wrote old.sampler).noted ∙ did.again.1)) refl,
        );
        waits = tt;
        held = (
          did.again.2,
          then_begins held.object (draining.rest_of Trim (lane_of old.seat) stage) (λ _. give (answer reply s.names))
              did.again.3,
        );
      }

  pub sweep_done : (new : Context) → draining.HasDrained pool old.seat mid.seat old.notes mid.notes Trim stage
      (DrainMore AllDrained) → HasReplied mid new reply
      → HasTurned pool old new s command (Sweeping reply stage) (Went Ready)
  sweep_done new did replied =
      let start : Context = record old { seat = mid.seat } in
      let es = wrote_so pool old mid Trim stage d mid_so (DrainMore AllDrained) did in let was =
      drained_so pool old mid Trim stage d mid_so (DrainMore AllDrained) did in
      let st : Staged pool (draining.hand_of Trim stage) empty_hand old start mid es (λ root. 0) = record {
        context = was.context;
        start_is = was.start_is;
        counts_are = was.counts_are;
        same = was.same;
        seat = was.seat;
        more = was.more;
        held = drained_held (draining.hand_of Trim AllDrained) (view_of start.seat) refl was.held;
        sampled = was.sampled;
        adds = was.adds;
        noted = was.noted;
      } in
      let names_are : mid.names ≡ old.names = ap (λ (x : Context). x.names) mid_so in let counts_are : mid.counts
      ≡ old.counts = ap (λ (x : Context). x.counts) mid_so in
      let spent = did.spends in
      staged_answer pool (draining.hand_of Trim stage) empty_hand old start mid es (λ root. 0) st refl new mid.names
      mid.counts reply unstopped
      (λ root. (let b = ap (λ (cs : List Counted). counted cs root) counts_are in omega (arith, b)))
      (ap (λ (cs : List Counted). length cs) counts_are)
      (rebound_same 0 old.names mid.names names_are) s command (Sweeping reply stage) s.names
      (subst (NamesAre s.names) (sym names_are) are) replied low
      (record {
        sweeps = 0;
        notes = (let a = spent.notes in omega (arith, a));
        asks = omega arith;
        moves = spent.moves;
        sends = spent.sends;
      })
      (answer_reads pool (draining.hand_of Trim stage) empty_hand old start mid st.context st.start_is es
      (view_of old.seat).moves (staged pool (draining.hand_of Trim stage) empty_hand old start mid es (λ root. 0)
      st) st.noted new mid.names mid.counts reply replied none_asked refl (sweeps_at stage) s.names
      (given_on (draining.rest_of Trim (lane_of old.seat) stage) (map entry_of es) none_asked
      (λ _. give (answer reply s.names)) tt (did.wrote old.sampler).read))
