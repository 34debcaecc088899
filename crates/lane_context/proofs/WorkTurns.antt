-- The turns that begin what was planned for a composite that ends, is bound, or is consolidated.
use Rattle.std.proofs.Common.{◌≡◌, ℕ, ◌+◌, ◌*◌, ◌≤◌, length, refl, sym, ap, ◌∙◌, subst, arith, Option, Some, None}
use Rattle.std.specs.Global.{Box, Vec}
use Rattle.std.specs.Prelude.{option_and_then, slice_set}
use Rattle.pool_law.specs.declared.command.Command.{Command}
use Rattle.pool_law.specs.declared.id.Part.{Part}
use Rattle.pool_law.specs.declared.run.Reply.{Reply}
use Rattle.pool_law.specs.Composites.{Composite, size_of}
use Rattle.pool_law.specs.LaneLaw.{sweep_period}
use Rattle.pool_law.specs.LaneStates.{LaneState}
use Rattle.pool_law.specs.Lanes.{Answer}
use Rattle.pool_law.specs.Names.{Composed, bind}
use Rattle.pool_law.specs.Readers.{Log}
use Rattle.pool_table.specs.declared.views.SeatView.{SeatView}
use Rattle.shared_pool.specs.SeatViews.{view_of}
use Rattle.shared_pool.specs.declared.pool.SharedPool.{SharedPool}
use Rattle.shared_pool.specs.SeatLanes.{lane_of}
use Rattle.lane_stages.specs.declared.allotment.Allotting.TheVariants.{Handle as AskHandle}
use Rattle.lane_context.specs.declared.context.Context.{Context}
use Rattle.lane_context.specs.declared.context.Stage.{Stage}
use Rattle.lane_context.specs.declared.context.Stage.TheVariants.{Ready, Allotting, Ending, Sweeping, Closing, Crossing, Parting, Consolidating, Copying, Replacing, Growing}
use Rattle.lane_context.specs.declared.context.Turn.{Turn}
use Rattle.lane_context.specs.declared.context.Turn.TheVariants.{Went, Pending, Waiting}
use Rattle.lane_stages.specs.declared.releasing.Releasing.{Releasing}
use Rattle.lane_context.specs.declared.work.Consolidation.{Consolidation}
use Rattle.lane_context.specs.declared.work.Work.{Work}
use Rattle.lane_context.specs.declared.work.Work.TheVariants.{End, Bind, Consolidate}
use Rattle.lane_stages.specs.Budgets.{notes_alone, with_sheds}
use Rattle.lane_context.specs.Readings.{swept}
use Rattle.lane_context.specs.Contexts.{HasRoomFor, IsUnderway, left_for, left_now, reads_from}
use Rattle.lane_context.specs.ContextSteps.{Concludes, MayGoOn, MayTurn, StageTurns, bound_to}
use Rattle.lane_context.specs.Works.{IsReady, IsWithin, WorkTurns, left_of, reads}
use Rattle.lane_context.proofs.BeginTurns.{begun_turn, within_sheds}
use Rattle.lane_context.proofs.NameLaws.{NamesAre-bind, rebound_composite}
use Rattle.lane_context.proofs.Turning.{noteless}

-- who has room for so many notes has room for fewer
room_for_fewer : (pool : SharedPool) (d : Context) (fewer notes : ℕ) → fewer ≤ notes
    → HasRoomFor pool d (notes_alone notes) → HasRoomFor pool d (notes_alone fewer)
room_for_fewer pool d fewer notes le room = record {
  notes = (let a = room.notes in omega (arith, a, le));
  few = (let a = room.few in omega (arith, a, le));
  turns = (let a = room.turns in omega (arith, a, le));
  moves = omega arith;
  mails = room.mails;
}

module _ (pool : SharedPool) (old : Context) (work : Work) (may : MayTurn pool (left_of work) old) where
  -- ---- A stage that is begun.

  module _ (new : Context) (at : Stage) (under : IsUnderway at)
      (same : (lane : ℕ) (s : LaneState) (command : Command) (log : Log) →
      option_and_then (λ got. swept lane got.0 got.1) (reads old.shape lane s work log)
      ≡ reads_from old.shape lane s command at log)
      (left : (command : Command) → IsWithin (left_now old.composes command at (view_of old.seat))
      (with_sheds (view_of old.seat) (left_of work))) where
    -- it turns as the stage does
    pub stage_begun : (turn : Turn) → StageTurns pool old new at turn → WorkTurns pool old new work turn
    stage_begun turn turns = λ s command state planned.
        let v : SeatView = view_of old.seat in let lane = lane_of old.seat in
        let a = left command in let b = within_sheds v (left_of work) (left_for old.composes command) planned.within in
        begun_turn pool old new s command at under
        (λ log.
        ap (λ (o : Option (Answer × Log)). option_and_then (λ got. swept lane got.0 got.1) o) (planned.read lane log)
        ∙ same lane s command log)
        (record {
          notes = (let x = a.notes in let y = b.notes in omega (arith, x, y));
          asks = (let x = a.asks in let y = b.asks in omega (arith, x, y));
          takes = (let x = a.takes in let y = b.takes in omega (arith, x, y));
          moves = (let x = a.moves in let y = b.moves in omega (arith, x, y));
          sends = λ to. (let x = a.sends to in let y = b.sends to in omega (arith, x, y));
        }) turn (turns s command state.names_are)

-- ---- A composite ends.

module _ (pool : SharedPool) (old : Context) (name : ℕ) (parts : Vec Part)
    (may : MayTurn pool (left_of (End name parts)) old) (ready : IsReady old (End name parts))
    (stage : Releasing) (none : stage.ending ≡ None) (left : stage.left ≡ parts) where
  abbrev all_left : Releasing
  all_left = record { ending = None; left = parts }

  stage_is : all_left ≡ stage
  stage_is = λ i. record { ending = sym none i; left = sym left i }

  may_end_all : MayGoOn pool (Parting name all_left) old
  may_end_all = record {
    context = may.context;
    fits = (tt, may.asked);
    name = (ready.0, ready.1, ready.2);
    room = λ command.
        room_for_fewer pool old (0 + 6 * length parts.items) (6 * length parts.items) (omega arith) may.room;
    replies = may.replies;
  }

  pub may_part : MayGoOn pool (Parting name stage) old
  may_part = subst (λ (x : Releasing). MayGoOn pool (Parting name x) old) stage_is may_end_all

  pub end_begun : (new : Context) (turn : Turn) → StageTurns pool old new (Parting name stage) turn
      → WorkTurns pool old new (End name parts) turn
  end_begun new turn turns =
      stage_begun pool old (End name parts) may new (Parting name all_left) tt (λ lane s command log. refl)
      (λ command. record {
        notes = omega arith;
        asks = omega arith;
        takes = omega arith;
        moves = omega arith;
        sends = λ to. omega arith;
      }) turn (subst (λ (x : Releasing). StageTurns pool old new (Parting name x) turn) (sym stage_is) turns)

-- ---- A composite is consolidated.

module _ (pool : SharedPool) (old : Context) (p : Consolidation)
    (may : MayTurn pool (left_of (Consolidate p)) old) (ready : IsReady old (Consolidate p)) where
  pub may_consolidate : MayGoOn pool (Consolidating p AskHandle) old
  may_consolidate = record {
    context = may.context;
    fits = (ready.1, tt, (let a = may.asked in omega (arith, a)));
    name = ready.0;
    room = λ command. may.room;
    replies = may.replies;
  }

  pub consolidation_begun : (new : Context) (turn : Turn) → StageTurns pool old new (Consolidating p AskHandle) turn
      → WorkTurns pool old new (Consolidate p) turn
  consolidation_begun new turn turns =
      stage_begun pool old (Consolidate p) may new (Consolidating p AskHandle) tt (λ lane s command log. refl)
      (λ command. record {
        notes = omega arith;
        asks = omega arith;
        takes = omega arith;
        moves = omega arith;
        sends = λ to. omega arith;
      }) turn turns

-- ---- A name is bound.

module _ (pool : SharedPool) (old new : Context) (name : ℕ) (whole : Box Composite)
    (may : MayTurn pool (left_of (Bind name whole)) old) (ready : IsReady old (Bind name whole)) where
  abbrev c : Composite
  c = whole.value

  abbrev Concluded : Turn → Type 0
  Concluded turn = Concludes (bound_to old name c) new (Reply.OkNumber (size_of c.parts)) turn

  no_sweep : sweep_period ≤ old.asked → ⊥
  no_sweep due = let a = may.asked in omega (arith, a, due)

  pub bind_concludes : (turn : Turn) → Concluded turn → WorkTurns pool old new (Bind name whole) turn
  bind_concludes (Went Ready) did = λ s command state planned.
      noteless pool old new may.context may.asked (slice_set old.names name (Some (Composed c)))
      (Reply.OkNumber (size_of c.parts)) refl did.0
      (rebound_composite 1 old.names old.names refl name ready.0.name_is c ready.0.composes
      (let a = ready.0.few in omega (arith, a)) (record { marked = ready.0.marked; parts = ready.1 }) ready.0.inside) s
      command
      (bind name (Composed c) s.names)
      (NamesAre-bind s.names old.names state.names_are name (Composed c) ready.0.name_is)
      (λ log. planned.read (lane_of old.seat) log)
  bind_concludes (Went (Sweeping later next)) did = absurd (no_sweep did.3)
  bind_concludes (Went (Allotting other size class next)) did = absurd did
  bind_concludes (Went (Ending next)) did = absurd did
  bind_concludes (Went (Closing next)) did = absurd did
  bind_concludes (Went (Crossing other marks next)) did = absurd did
  bind_concludes (Went (Parting other next)) did = absurd did
  bind_concludes (Went (Consolidating p next)) did = absurd did
  bind_concludes (Went (Copying other of parts next)) did = absurd did
  bind_concludes (Went (Replacing other of next)) did = absurd did
  bind_concludes (Went (Growing other v size class next)) did = absurd did
  bind_concludes (Pending held next) did = absurd did
  bind_concludes (Waiting sender) did = absurd did
