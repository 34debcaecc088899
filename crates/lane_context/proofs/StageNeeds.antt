-- What a stage needs of the context, and that the context can be answered behind it.
use Rattle.std.proofs.Common.{◌≡◌, ℕ, ◌+◌, ◌<◌, ◌≤◌, List, [], ◌∷◌, length, map, refl, sym, ap, ◌∙◌, subst, arith, length-append}
use Rattle.std.specs.Prelude.{vec_capacity}
use Rattle.std.proofs.lemmas.List.{length-map}
use Rattle.pool_law.specs.declared.note.Did.{Did}
use Rattle.pool_law.specs.declared.note.Note.{Note}
use Rattle.leak_records.specs.Records.{Sampling, new_sampler}
use Rattle.pool_table.specs.declared.views.Entry.{Entry}
use Rattle.pool_table.specs.declared.views.Entry.TheVariants.{At, Ref, Busy}
use Rattle.pool_table.specs.declared.views.SeatView.{SeatView}
use Rattle.shared_pool.specs.SeatViews.{view_of}
use Rattle.shared_pool.specs.declared.pool.SharedPool.{SharedPool}
use Rattle.shared_pool.specs.Closing.{note_of}
use Rattle.shared_pool.specs.SeatLanes.{lane_of}
use Rattle.lane_context.specs.declared.context.Context.{Context}
use Rattle.lane_stages.specs.declared.allotment.Allotting.{Allotting as AllotStage}
use Rattle.lane_stages.specs.declared.retirement.Ending.{Ending as EndStage}
use Rattle.lane_stages.specs.declared.stage_step.StageStep.{StageStep}
use Rattle.lane_stages.specs.declared.stage_step.StageStep.TheVariants.{Done}
use Rattle.lane_stages.specs.declared.draining.DrainKind.{DrainKind}
use Rattle.lane_stages.specs.declared.draining.Draining.{Draining}
use Rattle.lane_stages.specs.declared.draining.Draining.TheVariants.{Done as AllDrained}
use Rattle.lane_stages.specs.declared.draining.Drains.{Drains}
use Rattle.lane_stages.specs.Drainings as draining
use Rattle.lane_stages.specs.Allotments as allotment
use Rattle.lane_stages.specs.Endings as ending
use Rattle.lane_stages.specs.Budgets.{Left, Spends}
use Rattle.seat_work.specs.Hands.{Hand}
use Rattle.lane_stages.specs.Sampled.{AreSampled, sampler_after}
use Rattle.seat_work.specs.Growth.{HasMore}
use Rattle.lane_context.specs.Contexts.{IsContext, notes_of, HasRoomFor}
use Rattle.lane_context.specs.ContextSteps.{HasNoted, CanAnswer}
use Rattle.lane_stages.proofs.AllotSteps.{allot_left}
use Rattle.lane_stages.proofs.EndSteps.{end_left}
use Rattle.lane_stages.proofs.DrainSteps.{drain_left}
use Rattle.lane_context.proofs.ContextGrown.{noted_so}

pub may_end : (pool : SharedPool) (old : Context) (stage : EndStage) → IsContext pool (ending.hand_of stage) old
    → HasRoomFor pool old (ending.left_of stage) → ending.Fits pool old.seat stage → ending.MayEnd pool old.seat stage
may_end pool old stage d room fits =
    record {
      seat_is = d.seat;
      turn = (let a = room.turns in let b = end_left stage in omega (arith, a, b));
      hand =
          d.held;
      fits = fits;
    }

pub may_allot : (pool : SharedPool) (old : Context) (class : ℕ) (stage : AllotStage)
    → IsContext pool (allotment.hand_of stage) old → HasRoomFor pool old (allotment.left_of stage)
    → allotment.Fits pool old.seat class stage → allotment.MayAllot pool old.seat class stage
may_allot pool old class stage d room fits =
    record {
      seat_is = d.seat;
      turn = (let a = room.turns in let b = allot_left stage in omega (arith, a, b));
      hand =
          d.held;
      fits = fits;
    }

-- what is said of what a step came to is said of the answer that it came to
pub done_with : {S A : Type 0} (Is : StageStep S A → Type 0) {came : StageStep S A} {answer same : A}
    → came ≡ Done answer → answer ≡ same → Is came → Is (Done same)
done_with {A} Is done it is = subst (λ (x : A). Is (Done x)) it (subst Is done is)

-- the log has the room that is left for its notes
pub log_room : (pool : SharedPool) (hand : Hand) (old : Context) (left : Left) → IsContext pool hand old
    → HasRoomFor pool old left → length old.notes.items + left.notes ≤ vec_capacity old.notes
log_room pool hand old left d room =
    let a = ap (λ (ns : List Note). length ns) d.log in let b = length-map (notes_of old) note_of in let e =
    room.notes in
    omega (arith, a, b, e)

-- the notes of a stage are few, and it can be answered behind them
module _ (pool : SharedPool) (hand : Hand) (old : Context) (d : IsContext pool hand old) (left after : Left)
    (room : HasRoomFor pool old left) (w : SeatView) (added : List Entry) (notes : List Note)
    (more : HasMore (view_of old.seat) w added) (are : map note_of added ≡ notes)
    (spent : Spends (view_of old.seat) w left after) where
  added_few : length notes + after.notes ≤ left.notes
  added_few =
      let a = ap (λ (es : List Entry). length es) more.notes in let b = length-append (notes_of old) added in
      let c : length added ≡ length notes = sym (length-map added note_of) ∙ ap (λ (ns : List Note). length ns) are in
      let e = spent.notes in omega (arith, a, b, c, e)

  own_length : length old.notes.items ≡ length (notes_of old)
  own_length = ap (λ (ns : List Note). length ns) d.log ∙ length-map (notes_of old) note_of

  pub answers_behind : (start mid : Context) → start ≡ record old
      { seat = start.seat; counts = start.counts; sampler = start.sampler; asked = start.asked }
      → HasNoted start mid notes → length old.replies.items < vec_capacity old.replies → CanAnswer mid
  answers_behind start mid start_is noted replies =
      let path : mid ≡ record old {
        seat = start.seat;
        counts = start.counts;
        sampler = start.sampler;
        notes =
            mid.notes;
        asked = start.asked;
      } = noted.rest ∙ ap (λ (x : Context). record x { notes = mid.notes }) start_is in
      let a = own_length in let b = added_few in let c = room.few in
      let e = ap (λ (ns : List Note). length ns) noted.log in let f = length-append start.notes.items notes in
      let g = ap (λ (x : Context). length x.notes.items) start_is in let h = d.begun in let k =
      ap (λ (x : Context). x.begun) path in
      record {
        begun = omega (arith, a, e, f, g, h, k);
        few = omega (arith, a, b, c, e, f, g);
        room = subst (λ (x : Context). length x.replies.items < vec_capacity x.replies) (sym path) replies;
      }

-- a context behind a step of the end of a root can be answered
pub end_can : (pool : SharedPool) (old mid : Context) (stage : EndStage) (d : IsContext pool (ending.hand_of stage) old)
    → mid ≡ record old { seat = mid.seat; notes = mid.notes } → (came : StageStep EndStage (Unit {0}))
    → ending.HasEnded pool old.seat mid.seat old.notes mid.notes stage came →
    HasRoomFor pool old (ending.left_of stage) → length old.replies.items < vec_capacity old.replies → CanAnswer mid
end_can pool old mid stage d mid_so came did room replies =
    let start : Context = record old { seat = mid.seat } in let wrote = did.wrote old.sampler in
    answers_behind pool (ending.hand_of stage) old d (ending.left_of stage) (ending.left_after came) room
    (view_of mid.seat) wrote.added did.written wrote.more wrote.noted did.spends start mid refl
    (noted_so start mid did.written did.log mid_so) replies

pub may_drain : (pool : SharedPool) (old : Context) (kind : DrainKind) (stage : Draining)
    → IsContext pool (draining.hand_of kind stage) old → HasRoomFor pool old (draining.left_of stage (view_of old.seat))
    → draining.Fits pool old.seat stage → (stage ≡ AllDrained → ⊥) → draining.MayDrain pool old.seat kind stage
may_drain pool old kind stage d room fits more =
    record {
      seat_is = d.seat;
      turn =
          (let a = room.turns in let b = drain_left pool old.seat stage fits more in omega (arith, a, b));
      hand =
          d.held;
      fits = fits;
    }

-- a context behind a step of a sweep can be answered
pub drain_can : (pool : SharedPool) (old mid : Context) (kind : DrainKind) (stage : Draining)
    (d : IsContext pool (draining.hand_of kind stage) old) → mid ≡ record old { seat = mid.seat; notes = mid.notes }
    → (drains : Drains) → draining.HasDrained pool old.seat mid.seat old.notes mid.notes kind stage drains →
    HasRoomFor pool old (draining.left_of stage (view_of old.seat))
    → length old.replies.items < vec_capacity old.replies → CanAnswer mid
drain_can pool old mid kind stage d mid_so drains did room replies =
    let start : Context = record old { seat = mid.seat } in let wrote = did.wrote old.sampler in
    answers_behind pool (draining.hand_of kind stage) old d (draining.left_of stage (view_of old.seat))
    (draining.left_after drains (view_of mid.seat)) room (view_of mid.seat) wrote.added did.written wrote.more
    wrote.noted did.spends start mid refl (noted_so start mid did.written did.log mid_so) replies

-- a sampler has had no more births than there are entries
one_birth : (first : Sampling) (did : Did) → (sampler_after first did).births ≤ first.births + 1
one_birth first (Did.Birth root region) = omega arith
one_birth first _ = omega arith

births_few : (first last : Sampling) (es : List Entry) → AreSampled first es last
    → last.births ≤ first.births + length es
births_few first last [] is = let a = ap (λ (x : Sampling). x.births) is in omega (arith, a)
births_few first last (At o k n ∷ es) is =
    let a = births_few (sampler_after first n.did) last es is.1 in let b = one_birth first n.did in omega (arith, a, b)
births_few first last (Ref r d ∷ es) is = let a = births_few first last es is in omega (arith, a)
births_few first last (Busy h ∷ es) is = let a = births_few first last es is in omega (arith, a)

pub few_births : (pool : SharedPool) (hand : Hand) (old : Context) (left : Left) → IsContext pool hand old
    → HasRoomFor pool old left → old.sampler.births < 4294967295
few_births pool hand old left d room =
    let a = births_few (new_sampler (lane_of old.seat) old.shape.level old.shape.interval) old.sampler (notes_of old)
    d.sampled in let b = room.few in
    omega (arith, a, b)
