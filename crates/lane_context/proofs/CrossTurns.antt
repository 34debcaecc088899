-- The turns that set and get the bytes of a composite, and those that begin what is planned of them.
use Rattle.std.proofs.Common.{◌≡◌, ℕ, ◌<◌, ◌≤◌, Bool, List, [], ◌∷◌, ◌++◌, length, map, refl, sym, ap, ◌∙◌, subst, arith, Option, Some, None}
use Rattle.std.specs.Global.{Vec}
use Rattle.std.specs.Prelude.{option_and_then, vec_capacity}
use Rattle.std.proofs.lemmas.List.Elements.{All-weaker}
use Rattle.pool_law.specs.declared.command.Command.{Command}
use Rattle.pool_law.specs.declared.id.RootId.{RootId}
use Rattle.pool_law.specs.declared.note.Held.{Held}
use Rattle.pool_law.specs.declared.run.Reply.{Reply}
use Rattle.pool_law.specs.LaneLaw.{sweep_period, before_stop}
use Rattle.pool_law.specs.LaneStates.{LaneState}
use Rattle.pool_law.specs.Lanes.{Answer, answer}
use Rattle.pool_law.specs.Names.{Bound, Names}
use Rattle.pool_law.specs.Readers.{ToldNotes, Log, Reader, ◌>>=◌, give}
use Rattle.shared_pool.specs.SeatViews.{view_of}
use Rattle.shared_pool.specs.declared.pool.SharedPool.{SharedPool}
use Rattle.shared_pool.specs.Closing.{entry_of}
use Rattle.shared_pool.specs.SeatLanes.{lane_of}
use Rattle.seat_work.specs.Hands.{empty_hand}
use Rattle.lane_context.specs.declared.access.Refusal.{Refusal}
use Rattle.lane_context.specs.declared.composed.Marks.{Marks}
use Rattle.lane_stages.specs.declared.counts.Counted.{Counted}
use Rattle.lane_stages.specs.declared.crossing.Crossing.{Crossing as CrossStage}
use Rattle.lane_stages.specs.declared.crossing.Crossing.TheVariants.{Set, Get}
use Rattle.lane_stages.specs.declared.crossing.Crossed.{Crossed}
use Rattle.lane_stages.specs.declared.crossing.Crossed.TheVariants.{Set as WasSet, Got as WasGot}
use Rattle.lane_stages.specs.declared.stage_step.StageStep.{StageStep}
use Rattle.lane_stages.specs.declared.stage_step.StageStep.TheVariants.{More, Held as HeldBack, Done}
use Rattle.lane_stages.specs.declared.crossing.Stretch.{Stretch}
use Rattle.lane_context.specs.declared.context.Context.{Context}
use Rattle.lane_context.specs.declared.context.Stage.TheVariants.{Ready, Crossing}
use Rattle.lane_context.specs.declared.context.Turn.{Turn}
use Rattle.lane_context.specs.declared.context.Turn.TheVariants.{Went, Pending}
use Rattle.lane_context.specs.declared.work.Work.TheVariants.{Refused, Empty, Cross}
use Rattle.lane_context.specs.Accesses.{reply_for}
use Rattle.lane_stages.specs.Budgets.{Left, Spends, notes_alone}
use Rattle.lane_context.specs.Composing.{IsReachable, MarksFit, changed, crossed, marked, reply_of, set_marks}
use Rattle.lane_stages.specs.Counting.{CountsAre}
use Rattle.lane_stages.specs.Crossings as crossing
use Rattle.lane_stages.specs.Logs.{HasWritten}
use Rattle.lane_context.specs.Named.{NamesAre, known_to}
use Rattle.lane_stages.specs.Readings.{none_asked}
use Rattle.lane_context.specs.Readings.{renamed, swept}
use Rattle.lane_stages.specs.Wrote.{Wrote}
use Rattle.lane_context.specs.Contexts.{HasRoomFor, HasTurned, IsContext, entries_of, log_of, reads_from}
use Rattle.lane_context.specs.ContextSteps.{CanAnswer, HasMarked, HasReplied, MarksMoved, MayGoOn, MayTurn, StageTurns}
use Rattle.lane_context.specs.Works.{IsReady, WorkTurns, left_of}
use Rattle.lane_stages.proofs.NextNotes.{then_begins}
use Rattle.lane_context.proofs.ContextLaws.{can_answer}
use Rattle.lane_stages.proofs.SeatCounts.{has_count}
use Rattle.lane_context.proofs.NameLaws.{NamesAre-changed, Rebound, rebound_marks, rebound_same}
use Rattle.lane_context.proofs.PartTurns.{Moved, between, moved_answer, moved_can, moved_grew, moved_on, moved_read, moved_spends, moved_still}
use Rattle.lane_context.proofs.StageTurns.{none_of, some_of}
use Rattle.lane_context.proofs.Turning.{noteless, refused_turn}
use Rattle.lane_context.proofs.WorkTurns.{stage_begun}

-- ---- A reader and a writer move.

module _ (old new : List (Option Bound)) (name : ℕ) where
  -- the names are bound to what they may be
  pub marks_rebound : {known : RootId → ℕ} {composes : Bool} {most : ℕ} (up : ℕ) (marks : Option Marks)
      → MarksFit old name marks
      → MarksMoved old new name marks → Rebound known composes most up old new
  marks_rebound up None fit moved = rebound_same up old new moved
  marks_rebound {known} {composes} {most} up (Some marks) fit moved =
      subst (λ (names : List (Option Bound)). Rebound known composes most up old names) (sym (moved fit.0 fit.1))
      (rebound_marks up old old refl name fit.0 fit.1 marks fit.2 fit.3)

  -- and those of the law move alike
  pub marks_named : (bs : Names) → NamesAre bs old → (marks : Option Marks) → MarksFit old name marks
      → MarksMoved old new name marks → NamesAre (marked name marks bs) new
  marks_named bs are None fit moved = subst (NamesAre bs) (sym moved) are
  marks_named bs are (Some marks) fit moved =
      subst (NamesAre (changed (set_marks marks) name bs)) (sym (moved fit.0 fit.1))
      (NamesAre-changed bs old are name (set_marks marks) fit.0 fit.1)

-- a context can be answered behind that
pub marked_can : (mid new : Context) (name : ℕ) (marks : Option Marks) → CanAnswer mid → HasMarked mid new name marks
    → CanAnswer new
marked_can mid new name marks can has =
    subst CanAnswer (sym has.rest) (record { begun = can.begun; few = can.few; room = can.room })

-- ---- A range is crossed.

-- each stage has a note left, and asks no cache
cross_left : (stage : CrossStage) → 1 ≤ (crossing.left_of stage).notes
cross_left (Set first later) = omega arith
cross_left (Get first later got) = omega arith

pub may_cross : (pool : SharedPool) (old : Context) (stage : CrossStage) → IsContext pool empty_hand old
    → HasRoomFor pool old (crossing.left_of stage) → crossing.Fits (view_of old.seat) stage
    → crossing.MayCross pool old.seat stage
may_cross pool old stage d room fits = record {
  seat_is = d.seat;
  turn = (let a = room.turns in let b = cross_left stage in omega (arith, a, b));
  hand = d.held;
  fits = fits;
}

-- the reply is the same from the next stage on
reply_on : (stage next : CrossStage) → crossing.IsAlike stage (More next) → (bytes : List ℕ)
    → reply_of stage bytes ≡ reply_of next bytes
reply_on (Set first later) (Set next left) alike bytes = refl
reply_on (Set first later) (Get next left got) alike bytes = absurd alike
reply_on (Get first later got) (Get next left more) alike bytes = refl
reply_on (Get first later got) (Set next left) alike bytes = absurd alike

-- and is this once all parts are set, or got
set_reply : (stage : CrossStage) → crossing.IsAlike stage (Done WasSet) → reply_of stage [] ≡ Reply.Ok
set_reply (Set first later) alike = refl
set_reply (Get first later got) alike = absurd alike

got_reply : (stage : CrossStage) (got : Vec ℕ) → crossing.IsAlike stage (Done (WasGot got))
    → reply_of stage got.items ≡ Reply.OkBytes got.items
got_reply (Get first later more) got alike = refl
got_reply (Set first later) got alike = absurd alike

module _ (pool : SharedPool) (old mid : Context) (stage : CrossStage) (d : IsContext pool empty_hand old)
    (mid_is : mid ≡ record old { seat = mid.seat; counts = mid.counts; notes = mid.notes })
    (kept : mid.counts ≡ old.counts) where
  module _ (result : StageStep CrossStage Crossed)
      (did : crossing.HasCrossed pool old.seat mid.seat old.notes mid.notes stage result) where
    abbrev wrote : Wrote pool old.seat mid.seat did.written old.sampler old.sampler (crossing.rest_of stage) none_asked
        (crossing.rest_after result)
    wrote = did.wrote old.sampler

    pub crossed_so : Moved pool empty_hand empty_hand old mid wrote.added
    crossed_so = record {
      context = d;
      mid_is = mid_is;
      same = wrote.same;
      seat = wrote.seat;
      more = wrote.more;
      log = subst (HasWritten old.notes mid.notes) (sym wrote.noted) did.log;
      counts =
          subst (λ (cs : List Counted). CountsAre cs (entries_of mid)) (sym kept) (did.counts old.counts d.counts);
      places = ap (λ (cs : List Counted). length cs) kept;
      held = did.hand;
      sampled = wrote.sampled;
    }

    crossed_read : (rest : ToldNotes) → crossing.rest_of stage (log_of old (map entry_of wrote.added ++ rest))
        ≡ crossing.rest_after result (log_of (between old mid) rest)
    crossed_read =
        moved_read pool empty_hand empty_hand old mid wrote.added crossed_so (crossing.rest_of stage)
        (crossing.rest_after result) wrote.read

    pub cross_can : HasRoomFor pool old (crossing.left_of stage) → length old.replies.items < vec_capacity old.replies
        → CanAnswer mid
    cross_can room replies =
        moved_can pool empty_hand empty_hand old mid wrote.added crossed_so (crossing.left_of stage)
        (crossing.left_after result) room did.spends replies

  names_same : mid.names ≡ old.names
  names_same = ap (λ (x : Context). x.names) mid_is

  module _ (name : ℕ) (marks : Option Marks) (fit : MarksFit old.names name marks) where
    -- the marks still lie in the composite behind the step
    pub fit_still : MarksFit mid.names name marks
    fit_still = subst (λ (names : List (Option Bound)). MarksFit names name marks) (sym names_same) fit

    module _ (low : old.asked < sweep_period) (s : LaneState) (command : Command)
        (are : NamesAre s.names old.names) where
      abbrev lane : ℕ
      lane = lane_of old.seat

      -- how the law reads it from a stage on, with these replies to the bytes, and all of it
      abbrev behind_cross : (List ℕ → Reply) → Option (List ℕ × Log) → Option (Answer × Log)
      behind_cross reply o =
          option_and_then (λ got. give (answer (reply got.0) (marked name marks s.names)) got.1) o

      abbrev swept_cross : (List ℕ → Reply) → Option (List ℕ × Log) → Option (Answer × Log)
      swept_cross reply o = option_and_then (λ got. swept lane got.0 got.1) (behind_cross reply o)

      abbrev crosses_at : CrossStage → Reader Answer
      crosses_at at = crossing.rest_of at >>= (λ bytes. give (crossed s name marks at bytes))

      asked_same : mid.asked ≡ old.asked
      asked_same = ap (λ (x : Context). x.asked) mid_is

      pub cross_goes : (next : CrossStage)
          → crossing.HasCrossed pool old.seat mid.seat old.notes mid.notes stage (More next)
          → HasTurned pool old mid s command (Crossing name marks stage) (Went (Crossing name marks next))
      cross_goes next did =
          let m = crossed_so (More next) did in let w = wrote (More next) did in let a = asked_same in
          record {
            added = w.added;
            grew = moved_grew pool empty_hand empty_hand old mid w.added m;
            fits = (did.fits, omega (arith, a, low));
            name = fit_still;
            spends =
                moved_spends pool empty_hand empty_hand old mid w.added m (crossing.left_of stage)
                (crossing.left_of next) did.spends (omega arith);
            comes =
                moved_on pool empty_hand empty_hand old mid w.added m (some_of w.added did.written w.noted did.again)
                (crosses_at stage >>= swept lane)
                (λ names. reads_from old.shape lane (renamed s names) command (Crossing name marks next)) s.names are
                (λ rest.
                ap (swept_cross (reply_of stage)) (crossed_read (More next) did rest)
                ∙ (λ i. swept_cross (λ bytes. reply_on stage next did.alike bytes i)
                (crossing.rest_of next (log_of (between old mid) rest))));
            waits = tt;
            held = tt;
          }

      pub cross_waits : (held : Held) (next : CrossStage)
          → crossing.HasCrossed pool old.seat mid.seat old.notes mid.notes stage (HeldBack held next)
          → HasTurned pool old mid s command (Crossing name marks stage) (Pending held (Crossing name marks next))
      cross_waits held next did =
          let m = crossed_so (HeldBack held next) did in let w = wrote (HeldBack held next) did in
          let a = asked_same in
          record {
            added = w.added;
            grew = moved_grew pool empty_hand empty_hand old mid w.added m;
            fits = (did.fits, omega (arith, a, low));
            name = fit_still;
            spends =
                moved_spends pool empty_hand empty_hand old mid w.added m (crossing.left_of stage)
                (crossing.left_of next) did.spends (omega arith);
            comes = (
              λ log. ap (λ (at : CrossStage). (crosses_at at >>= swept lane) log) (sym did.again.0),
              moved_still pool empty_hand empty_hand old mid w.added m (none_of w.added (w.noted ∙ did.again.1)),
            );
            waits = tt;
            held = (
              did.again.2,
              then_begins held.object (crosses_at stage) (swept lane)
                  (then_begins held.object (crossing.rest_of stage)
                  (λ bytes. give (crossed s name marks stage bytes)) did.again.3),
            );
          }

      -- all its bytes are set, or these were got; the marks move, and that is answered
      module _ (spot new : Context) (bytes : List ℕ) (reply : Reply) (unstopped : before_stop (reply ∷ []) ≡ 1)
          (is : reply_of stage bytes ≡ reply) (moves : HasMarked mid spot name marks)
          (replied : HasReplied spot new reply) where
        abbrev names_now : List (Option Bound)
        names_now = spot.names

        abbrev bound_now : Names
        bound_now = marked name marks s.names

        marks_moved : MarksMoved old.names spot.names name marks
        marks_moved =
            subst (λ (names : List (Option Bound)). MarksMoved names spot.names name marks) names_same moves.names

        cross_ends : (result : StageStep CrossStage Crossed) → crossing.left_after result ≡ notes_alone 0
            → crossing.rest_after result ≡ give bytes
            → crossing.HasCrossed pool old.seat mid.seat old.notes mid.notes stage result
            → HasTurned pool old new s command (Crossing name marks stage) (Went Ready)
        cross_ends result none ends did =
            let m = crossed_so result did in let w = wrote result did in
            moved_answer pool empty_hand empty_hand old mid w.added m refl new names_now reply unstopped
            (marks_rebound old.names spot.names name 0 marks fit marks_moved) s command (Crossing name marks stage)
            bound_now (marks_named old.names spot.names name s.names are marks fit marks_moved)
            (crossing.left_of stage) refl
            (subst (λ (x : Left). Spends (view_of old.seat) (view_of mid.seat) (crossing.left_of stage) x) none
            did.spends) (crosses_at stage) (λ log. refl)
            (λ rest.
            ap (behind_cross (reply_of stage)) (crossed_read result did rest)
            ∙ (λ i. behind_cross (reply_of stage) (ends i (log_of (between old mid) rest)))
            ∙ (λ i. Some (answer (is i) bound_now, log_of (between old mid) rest)))
            (subst (λ (x : Context). HasReplied x new reply) moves.rest replied) low

      pub cross_was_set : (spot new : Context) → HasMarked mid spot name marks → HasReplied spot new Reply.Ok
          → crossing.HasCrossed pool old.seat mid.seat old.notes mid.notes stage (Done WasSet)
          → HasTurned pool old new s command (Crossing name marks stage) (Went Ready)
      cross_was_set spot new moves replied did =
          cross_ends spot new [] Reply.Ok refl (set_reply stage did.alike) moves replied (Done WasSet) refl refl did

      pub cross_was_got : (spot new : Context) (got : Vec ℕ) → HasMarked mid spot name marks
          → HasReplied spot new (Reply.OkBytes got.items)
          → crossing.HasCrossed pool old.seat mid.seat old.notes mid.notes stage (Done (WasGot got))
          → HasTurned pool old new s command (Crossing name marks stage) (Went Ready)
      cross_was_got spot new got moves replied did =
          cross_ends spot new got.items (Reply.OkBytes got.items) refl (got_reply stage got did.alike) moves replied
          (Done (WasGot got)) refl refl did

-- ---- What is planned of bytes is begun.

-- it is refused
pub refused_work : (pool : SharedPool) (old new : Context) (refusal : Refusal)
    → MayTurn pool (left_of (Refused refusal)) old → HasReplied old new (reply_for refusal)
    → WorkTurns pool old new (Refused refusal) (Went Ready)
refused_work pool old new refusal may replied = λ s command state planned.
    refused_turn pool (left_of (Refused refusal)) old new may refusal replied s command state.names_are
    (λ log. planned.read (lane_of old.seat) log)

-- no byte is reached
module _ (pool : SharedPool) (old mid : Context) (name : ℕ) (marks : Option Marks) (reply : Reply)
    (may : MayTurn pool (left_of (Empty name marks reply)) old) (ready : IsReady old (Empty name marks reply))
    (moves : HasMarked old mid name marks) where
  pub empty_can : CanAnswer mid
  empty_can = marked_can old mid name marks (can_answer pool (left_of (Empty name marks reply)) old may) moves

  pub empty_work : (new : Context) → HasReplied mid new reply
      → WorkTurns pool old new (Empty name marks reply) (Went Ready)
  empty_work new replied = λ s command state planned.
      noteless pool old new may.context may.asked mid.names reply ready.1
      (subst (λ (x : Context). HasReplied x new reply) moves.rest replied)
      (marks_rebound old.names mid.names name 1 marks ready.0 moves.names) s command (marked name marks s.names)
      (marks_named old.names mid.names name s.names state.names_are marks ready.0 moves.names)
      (λ log. planned.read (lane_of old.seat) log)

-- a range is crossed
module _ (pool : SharedPool) (old : Context) (name : ℕ) (marks : Option Marks) (stage : CrossStage)
    (may : MayTurn pool (left_of (Cross name marks stage)) old) (ready : IsReady old (Cross name marks stage)) where
  -- what is counted is counted in the seat's view
  within_view : (s : Stretch) → IsReachable (known_to old.seat) old.counts s
      → crossing.IsWithin (view_of old.seat) s
  within_view s is = record {
    counts = has_count old.counts (view_of old.seat) may.context.seat.alone may.context.counts s.part.root is.counts;
    inside = is.inside;
    bytes = is.bytes;
  }

  pub may_begin_cross : MayGoOn pool (Crossing name marks stage) old
  may_begin_cross = record {
    context = may.context;
    fits = (
      (
        All-weaker (IsReachable (known_to old.seat) old.counts) (crossing.IsWithin (view_of old.seat)) within_view
            (crossing.stretches stage) ready.1.0,
        ready.1.1,
      ),
      may.asked,
    );
    name = ready.0;
    room = λ command. may.room;
    replies = may.replies;
  }

  pub cross_begun : (new : Context) (turn : Turn) → StageTurns pool old new (Crossing name marks stage) turn
      → WorkTurns pool old new (Cross name marks stage) turn
  cross_begun new turn turns =
      stage_begun pool old (Cross name marks stage) may new (Crossing name marks stage) tt
      (λ lane s command log. refl)
      (λ command. record {
        notes = omega arith;
        asks = omega arith;
        takes = omega arith;
        moves = omega arith;
        sends = λ to. omega arith;
      }) turn turns
