-- The turns of the end of a root.
use Rattle.std.proofs.Common.{◌≡◌, ◌+◌, ◌<◌, ◌≤◌, List, false, length, map, refl, sym, ap, ◌∙◌, subst, arith}
use Rattle.pool_law.specs.declared.command.Command.{Command}
use Rattle.pool_law.specs.declared.note.Held.{Held}
use Rattle.pool_law.specs.declared.run.Reply.{Reply}
use Rattle.pool_law.specs.declared.run.Shape.{Shape}
use Rattle.pool_law.specs.LaneLaw.{sweep_period}
use Rattle.pool_law.specs.LaneStates.{LaneState}
use Rattle.pool_law.specs.Lanes.{Answer, answer}
use Rattle.pool_law.specs.Readers.{Reader, ◌>>=◌, ◌>>◌, give}
use Rattle.pool_table.specs.declared.views.Entry.{Entry}
use Rattle.shared_pool.specs.SeatViews.{view_of}
use Rattle.shared_pool.specs.declared.pool.SharedPool.{SharedPool}
use Rattle.shared_pool.specs.Closing.{entry_of}
use Rattle.shared_pool.specs.SeatLanes.{lane_of}
use Rattle.shared_pool.specs.Seats.{FoundBusy}
use Rattle.lane_stages.specs.declared.counts.Counted.{Counted}
use Rattle.lane_context.specs.declared.context.Context.{Context}
use Rattle.lane_context.specs.declared.context.Stage.TheVariants.{Ready, Ending}
use Rattle.lane_context.specs.declared.context.Turn.TheVariants.{Went, Pending}
use Rattle.lane_stages.specs.declared.retirement.Ending.{Ending as EndStage}
use Rattle.lane_stages.specs.declared.retirement.Ending.TheVariants.{Root as EndRoot, Cache as EndCache, Arena as EndArena, Home as EndHome}
use Rattle.lane_stages.specs.declared.stage_step.StageStep.{StageStep}
use Rattle.lane_stages.specs.declared.stage_step.StageStep.TheVariants.{More, Held as HeldBack, Done}
use Rattle.lane_stages.specs.Endings as ending
use Rattle.lane_stages.specs.Budgets.{Spends, notes_alone}
use Rattle.lane_stages.specs.Counting.{counted}
use Rattle.seat_work.specs.Hands.{Hand, empty_hand}
use Rattle.lane_context.specs.Named.{NamesAre}
use Rattle.lane_stages.specs.NextNotes.{BeginsAt}
use Rattle.seat_work.specs.Readings.{ReadsOn}
use Rattle.lane_stages.specs.Readings.{none_asked}
use Rattle.lane_context.specs.Readings.{swept, renamed}
use Rattle.lane_context.specs.Contexts.{IsContext, reads_from, HasTurned}
use Rattle.lane_context.specs.ContextSteps.{HasNoted, HasReplied}
use Rattle.lane_stages.proofs.NextNotes.{then_begins}
use Rattle.lane_context.proofs.NameLaws.{rebound_same}
use Rattle.seat_work.proofs.ReadLaws.{then_on, given_on}
use Rattle.lane_context.proofs.ContextLaws.{spends_at}
use Rattle.lane_context.proofs.ContextGrown.{swept_reads, noted_so}
use Rattle.lane_stages.proofs.SeatCounts.{adds_recounted}
use Rattle.lane_context.proofs.StageTurns.{Staged, none_of, some_of, staged, staged_answer, staged_counts, staged_grew, staged_names, staged_on, staged_seat, staged_still}

-- it asks no cache
no_end_asks : (at : EndStage) → (ending.left_of at).asks ≡ 0
no_end_asks (EndRoot token) = refl
no_end_asks (EndCache region handle) = refl
no_end_asks (EndArena region handle) = refl
no_end_asks (EndHome handle) = refl

module _ (pool : SharedPool) (old mid : Context) (stage : EndStage) (d : IsContext pool (ending.hand_of stage) old)
    (mid_so : mid ≡ record old { seat = mid.seat; notes = mid.notes }) where
  abbrev end_start : Context
  end_start = record old { seat = mid.seat }

  module _ (came : StageStep EndStage (Unit {0}))
      (did : ending.HasEnded pool old.seat mid.seat old.notes mid.notes stage came) where
    abbrev added : List Entry
    added = (did.wrote old.sampler).added

    pub ended_so : Staged pool (ending.hand_of stage) (ending.hand_after came) old end_start mid added (λ root. 0)
    ended_so = record {
      context = d;
      start_is = refl;
      counts_are = refl;
      same = (did.wrote old.sampler).same;
      seat = (did.wrote old.sampler).seat;
      more = (did.wrote old.sampler).more;
      held = did.hand;
      sampled = (did.wrote old.sampler).sampled;
      adds = λ cs. adds_recounted old.counts cs (map entry_of added) (λ root. 0) (did.counts old.sampler);
      noted =
          subst (HasNoted end_start mid) (sym (did.wrote old.sampler).noted)
          (noted_so end_start mid did.written did.log mid_so);
    }

    pub ended_read : ReadsOn (ending.rest_of old.shape stage) (map entry_of added) none_asked
        (ending.rest_after old.shape came)
    ended_read =
        subst (λ (shape : Shape). ReadsOn (ending.rest_of shape stage) (map entry_of added) none_asked
        (ending.rest_after shape came)) (sym d.shape) (did.wrote old.sampler).read

  module _ (low : old.asked < sweep_period) (s : LaneState) (command : Command) (are : NamesAre s.names old.names) where
    abbrev ends_at : EndStage → Reader Answer
    ends_at at = ending.rest_of old.shape at >> give (answer Reply.Freed s.names)

    still_low : mid.asked < sweep_period
    still_low = let a = ap (λ (x : Context). x.asked) mid_so in omega (arith, a, low)

    same_asks : mid.asked ≡ old.asked
    same_asks = ap (λ (x : Context). x.asked) mid_so

    none_left : (next : EndStage) → (ending.left_of next).asks + mid.asked ≤ (ending.left_of stage).asks + old.asked
    none_left next =
        let a = same_asks in let b = no_end_asks next in let c = no_end_asks stage in omega (arith, a, b, c)

    pub end_goes : (next : EndStage) → ending.HasEnded pool old.seat mid.seat old.notes mid.notes stage (More next)
        → HasTurned pool old mid s command (Ending stage) (Went (Ending next))
    end_goes next did =
        let after : Hand = ending.hand_of next in let st = ended_so (More next) did in let es =
        added (More next) did in
        let seat_is = staged_seat pool (ending.hand_of stage) after old end_start mid es (λ root. 0) st in
        record {
          added = es;
          grew = staged_grew pool (ending.hand_of stage) after old end_start mid es (λ root. 0) st (λ root. refl);
          fits = (subst (λ x. ending.Fits pool x next) (sym seat_is) did.fits, still_low);
          spends =
              spends_at old mid (ending.left_of stage) (ending.left_of next)
              (subst (λ x. Spends (view_of old.seat) (view_of x) (ending.left_of stage) (ending.left_of next))
              (sym seat_is) did.spends) (none_left next);
          name = tt;
          comes =
              staged_on pool (ending.hand_of stage) after old end_start mid es (λ root. 0) st
              (some_of es did.written (did.wrote old.sampler).noted did.again) none_asked refl
              (ends_at stage >>= swept (lane_of old.seat))
              (λ names. reads_from old.shape (lane_of old.seat) (renamed s names) command (Ending next)) s.names are
              (then_on (ends_at stage) (map entry_of es) none_asked (swept (lane_of old.seat)) (ends_at next)
              (then_on (ending.rest_of old.shape stage) (map entry_of es) none_asked
              (λ _. give (answer Reply.Freed s.names)) (ending.rest_of old.shape next)
              (ended_read (More next) did)));
          waits = tt;
          held = tt;
        }

    pub end_waits : (held : Held) (next : EndStage)
        → ending.HasEnded pool old.seat mid.seat old.notes mid.notes stage (HeldBack held next)
        → HasTurned pool old mid s command (Ending stage) (Pending held (Ending next))
    end_waits held next did =
        let after : Hand = ending.hand_of next in let st = ended_so (HeldBack held next) did in let es =
        added (HeldBack held next) did in
        let seat_is = staged_seat pool (ending.hand_of stage) after old end_start mid es (λ root. 0) st in
        record {
          added = es;
          grew = staged_grew pool (ending.hand_of stage) after old end_start mid es (λ root. 0) st (λ root. refl);
          fits = (subst (λ x. ending.Fits pool x next) (sym seat_is) did.fits, still_low);
          spends =
              spends_at old mid (ending.left_of stage) (ending.left_of next)
              (subst (λ x. Spends (view_of old.seat) (view_of x) (ending.left_of stage) (ending.left_of next))
              (sym seat_is) did.spends) (none_left next);
          name = tt;
          comes = (
            λ log. ap (λ (at : EndStage). (ends_at at >>= swept (lane_of old.seat)) log) (sym did.again.0),
            staged_still pool (ending.hand_of stage) after old end_start mid es (λ root. 0) st
                (none_of es ((did.wrote old.sampler).noted ∙ did.again.1)) refl,
          );
          waits = tt;
          held = (
            subst (λ x. FoundBusy pool held.object false old.seat x held) (sym seat_is) did.again.2,
            then_begins held.object (ends_at stage) (swept (lane_of old.seat))
                (then_begins held.object (ending.rest_of old.shape stage) (λ _. give (answer Reply.Freed s.names))
                (subst (λ (shape : Shape). BeginsAt held.object (ending.rest_of shape stage)) (sym d.shape)
                did.again.3)),
          );
        }

    pub end_done : (new : Context) → ending.HasEnded pool old.seat mid.seat old.notes mid.notes stage (Done tt)
        → HasReplied mid new Reply.Freed → HasTurned pool old new s command (Ending stage) (Went Ready)
    end_done new did replied =
        let st = ended_so (Done tt) did in let es = added (Done tt) did in
        let names_are = staged_names pool (ending.hand_of stage) empty_hand old end_start mid es (λ root. 0) st in
        let counts_are = staged_counts pool (ending.hand_of stage) empty_hand old end_start mid es (λ root. 0) st in
        let final : Context = record old {
          seat = mid.seat;
          names = mid.names;
          counts = mid.counts;
          notes =
              mid.notes;
          replies = new.replies;
          begun = length mid.notes.items;
        } in
        staged_answer pool (ending.hand_of stage) empty_hand old end_start mid es (λ root. 0) st refl new mid.names
        mid.counts Reply.Freed refl
        (λ root. (let b = ap (λ (cs : List Counted). counted cs root) counts_are in omega (arith, b)))
        (ap (λ (cs : List Counted). length cs) counts_are)
        (rebound_same 0 old.names mid.names names_are) s command (Ending stage) s.names
        (subst (NamesAre s.names) (sym names_are) are) replied low
        (spends_at old final (ending.left_of stage) (notes_alone 0) did.spends
        (let c = no_end_asks stage in omega (arith, c)))
        (swept_reads pool (ending.hand_of stage) empty_hand old end_start mid st.context st.start_is es
        (view_of old.seat).moves (staged pool (ending.hand_of stage) empty_hand old end_start mid es (λ root. 0) st)
        st.noted new mid.names mid.counts Reply.Freed replied none_asked refl low (ends_at stage) s.names
        (given_on (ending.rest_of old.shape stage) (map entry_of es) none_asked (λ _. give (answer Reply.Freed s.names))
        tt (ended_read (Done tt) did)))
