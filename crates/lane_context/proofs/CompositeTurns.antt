-- The turns of the commands on the count of a composite: none of them makes a note.
use Rattle.std.proofs.Common.{◌≡◌, ℕ, ◌+◌, ◌-◌, ◌<◌, ◌≤◌, Bool, [], ◌∷◌, refl, ap, ◌∙◌, arith, Option, Some, ne_eqb}
use Rattle.std.specs.Prelude.{slice_set, if◌then◌else◌}
use Rattle.pool_law.specs.declared.command.Command.{Command}
use Rattle.pool_law.specs.declared.run.Reply.{Reply}
use Rattle.pool_law.specs.Composites.{Composite}
use Rattle.pool_law.specs.LaneLaw.{sweep_period, before_stop}
use Rattle.pool_law.specs.LaneStates.{LaneState}
use Rattle.pool_law.specs.Lanes.{answer, answer_of, retain_of, release_of, release_parts, count_in}
use Rattle.pool_law.specs.Names.{Bound, Composed, bind}
use Rattle.pool_law.specs.Readers.{Log, ◌>>=◌, ◌>>◌, give, given}
use Rattle.shared_pool.specs.declared.pool.SharedPool.{SharedPool}
use Rattle.shared_pool.specs.SeatLanes.{lane_of}
use Rattle.lane_context.specs.declared.context.Context.{Context}
use Rattle.lane_context.specs.declared.context.Stage.TheVariants.{Ready}
use Rattle.lane_context.specs.declared.context.Turn.TheVariants.{Went}
use Rattle.lane_context.specs.Accesses.{IsState}
use Rattle.seat_work.specs.Hands.{empty_hand}
use Rattle.lane_context.specs.Named.{bound_at}
use Rattle.lane_context.specs.Contexts.{IsContext, HasTurned}
use Rattle.lane_context.specs.ContextSteps.{HasReplied, recounted}
use Rattle.lane_context.proofs.NameLaws.{NamesAre-bind, bound_within, rebound_same, rebound_count}
use Rattle.lane_context.proofs.StateReads.{named_so, goes_composite}
use Rattle.lane_context.proofs.Turning.{noteless}

module _ (pool : SharedPool) (name : ℕ) (old new : Context) (d : IsContext pool empty_hand old)
    (low : old.asked < sweep_period) (s : LaneState) (state : IsState s old.names old.counts) (c : Composite)
    (is : bound_at old.names name ≡ Some (Composed c)) (lt : 0 < c.count) where
  abbrev with_count : ℕ → Bound
  with_count count = Composed (record c { count = count })

  -- it has another count
  recounted_turn : (count : ℕ) → count ≤ c.count + 1 → (reply : Reply) → before_stop (reply ∷ []) ≡ 1
      → HasReplied (recounted old name c count) new reply → (command : Command)
      → ((log : Log) → answer_of old.shape (lane_of old.seat) s command log
      ≡ Some (answer reply (bind name (with_count count) s.names), log))
      → HasTurned pool old new s command Ready (Went Ready)
  recounted_turn count le reply unstopped replied command reads =
      noteless pool old new d low (slice_set old.names name (Some (with_count count))) reply unstopped replied
      (rebound_count 1 old.names old.names refl name c is count le) s command (bind name (with_count count) s.names)
      (NamesAre-bind s.names old.names state.names_are name (with_count count)
      (bound_within old.names name (Composed c) is)) reads

  pub composite_retained : HasReplied (recounted old name c (c.count + 1)) new Reply.Ok
      → HasTurned pool old new s (Command.Retain name) Ready (Went Ready)
  composite_retained replied =
      recounted_turn (c.count + 1) (omega arith) Reply.Ok refl replied (Command.Retain name)
      (λ log.
      goes_composite s old.names old.counts state old.shape (lane_of old.seat) (Command.Retain name) name c is lt refl
      log
      ∙ ap (λ (o : Option Bound). (given o >>= retain_of s name) log)
      (named_so s old.names old.counts state name (Some (Composed c)) is))

  pub composite_released : 1 < c.count → HasReplied (recounted old name c (c.count - 1)) new Reply.Kept
      → HasTurned pool old new s (Command.Release name) Ready (Went Ready)
  composite_released more replied =
      let less = bind name (with_count (c.count - 1)) s.names in
      recounted_turn (c.count - 1) (omega arith) Reply.Kept refl replied (Command.Release name)
      (λ log.
      goes_composite s old.names old.counts state old.shape (lane_of old.seat) (Command.Release name) name c is lt refl
      log
      ∙ ap (λ (o : Option Bound). (given o >>= release_of old.shape s name) log)
      (named_so s old.names old.counts state name (Some (Composed c)) is)
      ∙ ap (λ (last : Bool). (if last then release_parts old.shape c.parts >> give (answer Reply.Freed less)
      else give (answer Reply.Kept less)) log) (ne_eqb c.count 1 (λ e. absurd (omega (arith, e, more)))))

  pub composite_looked : HasReplied old new (Reply.OkNumber c.count)
      → HasTurned pool old new s (Command.Refcnt name) Ready (Went Ready)
  composite_looked replied =
      noteless pool old new d low old.names (Reply.OkNumber c.count) refl replied
      (rebound_same 1 old.names old.names refl) s (Command.Refcnt name) s.names state.names_are
      (λ log.
      goes_composite s old.names old.counts state old.shape (lane_of old.seat) (Command.Refcnt name) name c is lt refl
      log
      ∙ ap (λ (o : Option Bound). (given o >>= count_in s) log)
      (named_so s old.names old.counts state name (Some (Composed c)) is))
