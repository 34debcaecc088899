-- A command that begins a stage turns as the stage does.
use Rattle.std.proofs.Common.{◌≡◌, ◌++◌, map, sym, ◌∙◌, subst, arith}
use Rattle.pool_law.specs.declared.command.Command.{Command}
use Rattle.pool_law.specs.declared.note.Held.{Held}
use Rattle.pool_law.specs.LaneStates.{LaneState}
use Rattle.pool_law.specs.Lanes.{Answer}
use Rattle.pool_law.specs.Readers.{Log, Reader}
use Rattle.pool_table.specs.declared.views.SeatView.{SeatView}
use Rattle.shared_pool.specs.SeatViews.{view_of}
use Rattle.shared_pool.specs.declared.pool.SharedPool.{SharedPool}
use Rattle.shared_pool.specs.Closing.{entry_of}
use Rattle.shared_pool.specs.SeatLanes.{lane_of}
use Rattle.lane_context.specs.declared.context.Context.{Context}
use Rattle.lane_context.specs.declared.context.Stage.{Stage}
use Rattle.lane_context.specs.declared.context.Stage.TheVariants.{Ready}
use Rattle.lane_context.specs.declared.context.Turn.{Turn}
use Rattle.lane_context.specs.declared.context.Turn.TheVariants.{Went, Pending, Waiting}
use Rattle.lane_stages.specs.Budgets.{Left, with_sheds}
use Rattle.lane_context.specs.Contexts.{HasTurned, IsUnderway, SpendsAt, left_after, left_now, log_of, reads_from}
use Rattle.lane_context.specs.Works.{IsWithin}
use Rattle.lane_stages.proofs.NextNotes.{same_begins}
use Rattle.lane_context.proofs.StageCases.{by_kind, left_on, on_waits, on_went, waits_on, went_on}

-- what is left is within what is, and so with what caches may shed
pub within_same : (a : Left) → IsWithin a a
within_same a = record {
  notes = omega arith;
  asks = omega arith;
  takes = omega arith;
  moves = omega arith;
  sends = λ to. omega arith;
}

pub within_sheds : (v : SeatView) (a b : Left) → IsWithin a b → IsWithin (with_sheds v a) (with_sheds v b)
within_sheds v a b w = record {
  notes = (let n = w.notes in let t = w.takes in omega (arith, n, t));
  asks = w.asks;
  takes = w.takes;
  moves = w.moves;
  sends = w.sends;
}

-- who had more left spends no more either
pub spends_within : (old new : Context) (less before after : Left) → IsWithin less before → SpendsAt old new less after
    → SpendsAt old new before after
spends_within old new less before after w sp = record {
  sweeps = sp.sweeps;
  notes = (let a = w.notes in let b = sp.notes in omega (arith, a, b));
  asks = (let a = w.asks in let b = sp.asks in omega (arith, a, b));
  moves = (let a = w.moves in let b = sp.moves in omega (arith, a, b));
  sends = λ to. (let a = w.sends to in let b = sp.sends to in omega (arith, a, b));
}

module _ (pool : SharedPool) (old new : Context) (s : LaneState) (command : Command) (at : Stage)
    (under : IsUnderway at)
    (same : (log : Log) → reads_from old.shape (lane_of old.seat) s command Ready log
    ≡ reads_from old.shape (lane_of old.seat) s command at log)
    (within : IsWithin (left_now old.composes command at (view_of old.seat))
    (left_now old.composes command Ready (view_of old.seat))) where
  abbrev reads : LaneState → Stage → Reader Answer
  reads state = reads_from old.shape (lane_of old.seat) state command

  abbrev TurnedAt : Turn → Type 0
  TurnedAt turn = HasTurned pool old new s command at turn

  abbrev TurnedReady : Turn → Type 0
  TurnedReady turn = HasTurned pool old new s command Ready turn

  begun_spends : (after : Left) → SpendsAt old new (left_now old.composes command at (view_of old.seat)) after
      → SpendsAt old new (left_now old.composes command Ready (view_of old.seat)) after
  begun_spends after =
      spends_within old new (left_now old.composes command at (view_of old.seat))
      (left_now old.composes command Ready (view_of old.seat)) after within

  -- a turn that goes on leaves the same, from whichever stage
  begun_went : (next : Stage) → IsUnderway next
      → SpendsAt old new (left_now old.composes command at (view_of old.seat))
      (left_after old.composes command at (Went next) (view_of new.seat))
      → SpendsAt old new (left_now old.composes command Ready (view_of old.seat))
      (left_after old.composes command Ready (Went next) (view_of new.seat))
  begun_went next u sp =
      let v : SeatView = view_of new.seat in
      let is : left_after old.composes command at (Went next) v ≡ left_after old.composes command Ready (Went next) v =
      left_on old.composes command at next v u ∙ sym (left_on old.composes command Ready next v u) in
      subst (λ (left : Left). SpendsAt old new (left_now old.composes command Ready (view_of old.seat)) left) is
      (begun_spends (left_after old.composes command at (Went next) v) sp)

  begun_answered : TurnedAt (Went Ready) → TurnedReady (Went Ready)
  begun_answered t = record {
    added = t.added;
    grew = t.grew;
    fits = t.fits;
    name = t.name;
    spends = begun_spends (left_after old.composes command at (Went Ready) (view_of new.seat)) t.spends;
    comes = record {
      answered = t.comes.answered;
      replies = t.comes.replies;
      unstopped = t.comes.unstopped;
      notes = t.comes.notes;
      begun = t.comes.begun;
      bound = t.comes.bound;
      names = t.comes.names;
      reads = λ rest. same (log_of old (map entry_of t.added ++ rest)) ∙ t.comes.reads rest;
    };
    waits = tt;
    held = tt;
  }

  begun_on : (next : Stage) → IsUnderway next → TurnedAt (Went next) → TurnedReady (Went next)
  begun_on next u t =
      let on = went_on reads s old new t.added at next u t.comes in
      record {
        added = t.added;
        grew = t.grew;
        fits = t.fits;
        name = t.name;
        spends = begun_went next u t.spends;
        comes = on_went reads s old new t.added Ready next u (record {
          some = on.some;
          replies = on.replies;
          begun = on.begun;
          bound = on.bound;
          names = on.names;
          reads = λ rest. same (log_of old (map entry_of t.added ++ rest)) ∙ on.reads rest;
        });
        waits = tt;
        held = tt;
      }

  begun_held : (held : Held) (next : Stage) → IsUnderway next → TurnedAt (Pending held next)
      → TurnedReady (Pending held next)
  begun_held held next u t =
      let on = waits_on reads s old new t.added at held next u t.comes in
      record {
        added = t.added;
        grew = t.grew;
        fits = t.fits;
        name = t.name;
        spends = begun_spends (left_now old.composes command next (view_of new.seat)) t.spends;
        comes = on_waits reads s old new t.added Ready held next u (λ log. same log ∙ on.0 log, on.1);
        waits = tt;
        held = (t.held.0, same_begins held.object (reads s at) (reads s Ready) same t.held.1);
      }

  -- the command is not at its beginning any more
  not_ready : at ≡ Ready → ⊥
  not_ready is = subst IsUnderway is under

  pub begun_turn : (turn : Turn) → TurnedAt turn → TurnedReady turn
  begun_turn (Went next) =
      by_kind (λ x. TurnedAt (Went x) → TurnedReady (Went x)) begun_answered (λ x t. absurd t.comes) begun_on next
  begun_turn (Pending held next) =
      by_kind (λ x. TurnedAt (Pending held x) → TurnedReady (Pending held x)) (λ t. absurd (not_ready t.comes.0))
      (λ x t. absurd t.comes) (begun_held held) next
  begun_turn (Waiting sender) = λ t. absurd (not_ready t.comes.0)
