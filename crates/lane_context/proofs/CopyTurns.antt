-- The turns that copy parts to a root.
use Rattle.std.proofs.Common.{◌≡◌, ℕ, ◌≤◌, List, ◌++◌, length, map, refl, sym, ap, ◌∙◌, subst, arith, Option, None}
use Rattle.std.specs.Global.{Box, Vec}
use Rattle.std.specs.Prelude.{Ok, option_and_then}
use Rattle.pool_law.specs.declared.command.Command.{Command}
use Rattle.pool_law.specs.declared.id.Part.{Part}
use Rattle.pool_law.specs.declared.note.Held.{Held}
use Rattle.pool_law.specs.Composites.{Composite}
use Rattle.pool_law.specs.LaneLaw.{sweep_period}
use Rattle.pool_law.specs.LaneStates.{LaneState}
use Rattle.pool_law.specs.Lanes.{Answer, composed, release_parts}
use Rattle.pool_law.specs.Readers.{ToldNotes, Log, Reader, ◌>>=◌, ◌>>◌, give}
use Rattle.pool_table.specs.declared.views.SeatView.{SeatView}
use Rattle.shared_pool.specs.SeatViews.{view_of}
use Rattle.shared_pool.specs.declared.pool.SharedPool.{SharedPool}
use Rattle.shared_pool.specs.Closing.{entry_of}
use Rattle.shared_pool.specs.SeatLanes.{lane_of}
use Rattle.seat_work.specs.Hands.{empty_hand}
use Rattle.lane_stages.specs.declared.copying.Copying.{Copying as CopyStage}
use Rattle.lane_stages.specs.declared.copying.Copying.TheVariants.{Get, Set}
use Rattle.lane_stages.specs.declared.stage_step.StageStep.{StageStep}
use Rattle.lane_stages.specs.declared.stage_step.StageStep.TheVariants.{More, Held as HeldBack, Done}
use Rattle.lane_stages.specs.declared.counts.Counted.{Counted}
use Rattle.lane_context.specs.declared.context.Context.{Context}
use Rattle.lane_context.specs.declared.context.Stage.TheVariants.{Copying, Replacing}
use Rattle.lane_context.specs.declared.context.Turn.TheVariants.{Went, Pending}
use Rattle.lane_stages.specs.declared.releasing.Releasing.{Releasing}
use Rattle.lane_stages.specs.Budgets.{Left, Spends}
use Rattle.lane_context.specs.Composing.{IsBindable}
use Rattle.lane_stages.specs.Copyings as copying
use Rattle.lane_stages.specs.Counting.{CountsAre}
use Rattle.lane_stages.specs.Logs.{HasWritten}
use Rattle.lane_context.specs.Named.{NamesAre}
use Rattle.lane_stages.specs.Readings.{none_asked}
use Rattle.lane_context.specs.Readings.{renamed, swept}
use Rattle.lane_stages.specs.Releasings as releasing
use Rattle.lane_stages.specs.Releasings.{AreUncounted}
use Rattle.lane_stages.specs.Wrote.{Wrote}
use Rattle.lane_context.specs.Contexts.{HasRoomFor, HasTurned, IsContext, entries_of, log_of, reads_from, with_parts}
use Rattle.lane_stages.proofs.NextNotes.{then_begins}
use Rattle.lane_context.proofs.PartTurns.{Moved, between, bindable_on, moved_grew, moved_on, moved_read, moved_spends, moved_still}
use Rattle.lane_context.proofs.StageTurns.{none_of, some_of}

-- each stage has a note left, and asks no cache
copy_left : (stage : CopyStage) → 1 ≤ (copying.left_of stage).notes
copy_left (Get root at first later) = omega arith
copy_left (Set root at bytes later) = omega arith

no_copy_asks : (stage : CopyStage) → (copying.left_of stage).asks ≡ 0
no_copy_asks (Get root at first later) = refl
no_copy_asks (Set root at bytes later) = refl

pub may_copy : (pool : SharedPool) (old : Context) (stage : CopyStage) (parts : ℕ) → IsContext pool empty_hand old
    → HasRoomFor pool old (with_parts 0 parts (copying.left_of stage)) → copying.Fits (view_of old.seat) stage
    → copying.MayCopy pool old.seat stage
may_copy pool old stage parts d room fits = record {
  seat_is = d.seat;
  turn = (let a = room.turns in let b = copy_left stage in omega (arith, a, b));
  hand = d.held;
  fits = fits;
}

-- what is left beside it is left behind it
beside : (v w : SeatView) (left next : Left) (parts : ℕ) → Spends v w left next
    → Spends v w (with_parts 0 parts left) (with_parts 0 parts next)
beside v w left next parts spends = record {
  notes = (let a = spends.notes in omega (arith, a));
  takes = spends.takes;
  moves = spends.moves;
  sends = spends.sends;
}

-- all of these are to be released
abbrev all_left : Vec Part → Releasing
all_left parts = record { ending = None; left = parts }

module _ (pool : SharedPool) (old mid : Context) (stage : CopyStage) (d : IsContext pool empty_hand old)
    (mid_is : mid ≡ record old { seat = mid.seat; counts = mid.counts; notes = mid.notes })
    (kept : mid.counts ≡ old.counts) where
  module _ (result : StageStep CopyStage (Unit {0}))
      (did : copying.HasCopied pool old.seat mid.seat old.notes mid.notes stage result) where
    abbrev wrote : Wrote pool old.seat mid.seat did.written old.sampler old.sampler (copying.rest_of stage) none_asked
        (copying.rest_after result)
    wrote = did.wrote old.sampler

    pub copied_so : Moved pool empty_hand empty_hand old mid wrote.added
    copied_so = record {
      context = d;
      mid_is = mid_is;
      same = wrote.same;
      seat = wrote.seat;
      more = wrote.more;
      log = subst (HasWritten old.notes mid.notes) (sym wrote.noted) did.log;
      counts =
          subst (λ (cs : List Counted). CountsAre cs (entries_of mid)) (sym kept) (did.counts old.counts d.counts);
      places = ap (λ (cs : List Counted). length cs) kept;
      held = did.hand;
      sampled = wrote.sampled;
    }

    copied_read : (rest : ToldNotes) → copying.rest_of stage (log_of old (map entry_of wrote.added ++ rest))
        ≡ copying.rest_after result (log_of (between old mid) rest)
    copied_read =
        moved_read pool empty_hand empty_hand old mid wrote.added copied_so (copying.rest_of stage)
        (copying.rest_after result) wrote.read

  module _ (name : ℕ) (whole : Box Composite) (parts : Vec Part) (may : IsBindable old name whole.value)
      (low : old.asked ≤ sweep_period) (some : AreUncounted old.counts parts.items → ⊥)
      (s : LaneState) (command : Command) (are : NamesAre s.names old.names) where
    abbrev lane : ℕ
    lane = lane_of old.seat

    abbrev count_parts : ℕ
    count_parts = length parts.items

    -- how the law reads what follows the copying, and all of it
    abbrev behind_copy : Option (Unit {0} × Log) → Option (Answer × Log)
    behind_copy o =
        option_and_then (λ got. swept lane got.0 got.1)
        (option_and_then (λ got. give (composed s name (Ok whole.value)) got.1)
        (option_and_then (λ got. release_parts old.shape parts.items got.1) o))

    abbrev copies_at : CopyStage → Reader Answer
    copies_at at =
        copying.rest_of at >> release_parts old.shape parts.items >> give (composed s name (Ok whole.value))
        >>= swept lane

    asked_same : mid.asked ≡ old.asked
    asked_same = ap (λ (x : Context). x.asked) mid_is

    some_still : AreUncounted mid.counts parts.items → ⊥
    some_still = subst (λ (cs : List Counted). AreUncounted cs parts.items → ⊥) (sym kept) some

    copy_spends : (result : StageStep CopyStage (Unit {0}))
        → copying.HasCopied pool old.seat mid.seat old.notes mid.notes stage result
        → Spends (view_of old.seat) (view_of mid.seat) (with_parts 0 count_parts (copying.left_of stage))
        (with_parts 0 count_parts (copying.left_after result))
    copy_spends result did =
        beside (view_of old.seat) (view_of mid.seat) (copying.left_of stage) (copying.left_after result) count_parts
        did.spends

    pub copy_goes : (next : CopyStage)
        → copying.HasCopied pool old.seat mid.seat old.notes mid.notes stage (More next)
        → HasTurned pool old mid s command (Copying name whole parts stage) (Went (Copying name whole parts next))
    copy_goes next did =
        let m = copied_so (More next) did in let w = wrote (More next) did in let a = asked_same in
        let b = no_copy_asks next in
        record {
          added = w.added;
          grew = moved_grew pool empty_hand empty_hand old mid w.added m;
          fits = (did.fits, omega (arith, a, low), some_still);
          name = bindable_on old mid w.added w.more mid_is name whole.value may;
          spends =
              moved_spends pool empty_hand empty_hand old mid w.added m
              (with_parts 0 count_parts (copying.left_of stage)) (with_parts 0 count_parts (copying.left_of next))
              (copy_spends (More next) did) (omega (arith, b));
          comes =
              moved_on pool empty_hand empty_hand old mid w.added m (some_of w.added did.written w.noted did.again)
              (copies_at stage)
              (λ names. reads_from old.shape lane (renamed s names) command (Copying name whole parts next)) s.names are
              (λ rest. ap behind_copy (copied_read (More next) did rest));
          waits = tt;
          held = tt;
        }

    pub copy_waits : (held : Held) (next : CopyStage)
        → copying.HasCopied pool old.seat mid.seat old.notes mid.notes stage (HeldBack held next)
        → HasTurned pool old mid s command (Copying name whole parts stage)
        (Pending held (Copying name whole parts next))
    copy_waits held next did =
        let m = copied_so (HeldBack held next) did in let w = wrote (HeldBack held next) did in
        let a = asked_same in let b = no_copy_asks next in
        record {
          added = w.added;
          grew = moved_grew pool empty_hand empty_hand old mid w.added m;
          fits = (did.fits, omega (arith, a, low), some_still);
          name = bindable_on old mid w.added w.more mid_is name whole.value may;
          spends =
              moved_spends pool empty_hand empty_hand old mid w.added m
              (with_parts 0 count_parts (copying.left_of stage)) (with_parts 0 count_parts (copying.left_of next))
              (copy_spends (HeldBack held next) did) (omega (arith, b));
          comes = (
            λ log. ap (λ (at : CopyStage). copies_at at log) (sym did.again.0),
            moved_still pool empty_hand empty_hand old mid w.added m (none_of w.added (w.noted ∙ did.again.1)),
          );
          waits = tt;
          held = (
            did.again.2,
            then_begins held.object
                (copying.rest_of stage >> release_parts old.shape parts.items
                >> give (composed s name (Ok whole.value))) (swept lane)
                (then_begins held.object (copying.rest_of stage >> release_parts old.shape parts.items)
                (λ _. give (composed s name (Ok whole.value)))
                (then_begins held.object (copying.rest_of stage) (λ _. release_parts old.shape parts.items)
                did.again.3)),
          );
        }

    -- all are copied, and are to be released
    copy_ends : copying.HasCopied pool old.seat mid.seat old.notes mid.notes stage (Done tt)
        → HasTurned pool old mid s command (Copying name whole parts stage)
        (Went (Replacing name whole (all_left parts)))
    copy_ends did =
        let m = copied_so (Done tt) did in let w = wrote (Done tt) did in let a = asked_same in
        record {
          added = w.added;
          grew = moved_grew pool empty_hand empty_hand old mid w.added m;
          fits = (tt, omega (arith, a, low), λ over. some_still over.1);
          name = bindable_on old mid w.added w.more mid_is name whole.value may;
          spends =
              moved_spends pool empty_hand empty_hand old mid w.added m
              (with_parts 0 count_parts (copying.left_of stage)) (releasing.left_of (all_left parts))
              (record {
                notes = (let n = did.spends.notes in omega (arith, n));
                takes = did.spends.takes;
                moves = did.spends.moves;
                sends = did.spends.sends;
              }) (omega arith);
          comes =
              moved_on pool empty_hand empty_hand old mid w.added m (some_of w.added did.written w.noted did.again)
              (copies_at stage)
              (λ names. reads_from old.shape lane (renamed s names) command
              (Replacing name whole (all_left parts))) s.names are
              (λ rest. ap behind_copy (copied_read (Done tt) did rest));
          waits = tt;
          held = tt;
        }

    pub copy_done : (next : Releasing) → next.ending ≡ None → next.left ≡ parts
        → copying.HasCopied pool old.seat mid.seat old.notes mid.notes stage (Done tt)
        → HasTurned pool old mid s command (Copying name whole parts stage) (Went (Replacing name whole next))
    copy_done next none left did =
        subst (λ (x : Releasing). HasTurned pool old mid s command (Copying name whole parts stage)
        (Went (Replacing name whole x))) (λ i. record { ending = sym none i; left = sym left i }) (copy_ends did)
