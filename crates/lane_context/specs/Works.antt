-- What a command on a composite is planned to do, and how the law reads it.
use Rattle.std.specs.Prelude.{◌≡◌, ℕ, ◌+◌, ◌*◌, ◌≤◌, ⊤, true, false, List, [], ◌∷◌, length, Option, Some, Ok}
use Rattle.pool_law.specs.declared.command.Command.{Command}
use Rattle.pool_law.specs.declared.run.Shape.{Shape}
use Rattle.pool_law.specs.Composites.{Composite}
use Rattle.pool_law.specs.LaneLaw.{before_stop}
use Rattle.pool_law.specs.LaneStates.{LaneState}
use Rattle.pool_law.specs.Lanes.{Answer, answer, answer_of, composed, copied_to, release_parts}
use Rattle.pool_law.specs.Names.{Bound, Composed}
use Rattle.pool_law.specs.Patterns.{allot}
use Rattle.pool_law.specs.Readers.{Log, Reader, ◌>>=◌, ◌>>◌, give}
use Rattle.shared_pool.specs.declared.pool.SharedPool.{SharedPool}
use Rattle.lane_context.specs.declared.context.Context.{Context}
use Rattle.lane_context.specs.declared.context.Stage.TheVariants.{Ready}
use Rattle.lane_context.specs.declared.context.Turn.{Turn}
use Rattle.lane_context.specs.declared.work.Work.{Work}
use Rattle.lane_context.specs.declared.work.Work.TheVariants.{Refused, Empty, Cross, End, Bind, Consolidate}
use Rattle.lane_context.specs.Accesses.{IsState, reply_for}
use Rattle.lane_stages.specs.Allotments.{left_with}
use Rattle.lane_stages.specs.Budgets.{Left, notes_alone}
use Rattle.lane_context.specs.Composing.{AreReachable, HasLast, IsBindable, IsCandidate, IsConsolidation, MarksFit, crossed, ended, marked}
use Rattle.lane_stages.specs.Crossings as crossing
use Rattle.lane_context.specs.Contexts.{HasTurned, left_for}
use Rattle.lane_context.specs.Named.{bound_at, known_to}

-- what the work may spend
abbrev pub left_of : Work → Left
left_of (Refused refusal) = notes_alone 0
left_of (Empty name marks reply) = notes_alone 0
left_of (Cross name marks stage) = crossing.left_of stage
left_of (End name parts) = notes_alone (6 * length parts.items)
left_of (Bind name whole) = notes_alone 0
left_of (Consolidate p) =
    left_with (5 + 2 * length p.transfers.items + 6 * length p.parts.items) 1 1 1

-- no more of anything than that
pub record IsWithin (a b : Left) : Type 0 where
  pub notes : a.notes ≤ b.notes
  pub asks : a.asks ≤ b.asks
  pub takes : a.takes ≤ b.takes
  pub moves : a.moves ≤ b.moves
  pub sends : (to : ℕ) → a.sends to ≤ b.sends to

-- the work may be done at the context
abbrev pub IsReady : Context → Work → Type 0
IsReady d (Refused refusal) = ⊤
IsReady d (Empty name marks reply) = MarksFit d.names name marks × (before_stop (reply ∷ []) ≡ 1)
IsReady d (Cross name marks stage) =
    MarksFit d.names name marks × AreReachable (known_to d.seat) d.counts stage
IsReady d (End name parts) =
    (c : Composite) × (bound_at d.names name ≡ Some (Composed c))
    × (c.count ≡ 1) × (parts.items ≡ c.parts)
IsReady d (Bind name whole) = IsBindable d name whole.value
IsReady d (Consolidate p) =
    IsCandidate d p.name p.whole.value
    × IsConsolidation (known_to d.seat) d.shape d.counts p

-- how the law reads its notes
abbrev pub reads : Shape → ℕ → LaneState → Work → Reader Answer
reads shape lane s (Refused refusal) = give (answer (reply_for refusal) s.names)
reads shape lane s (Empty name marks reply) = give (answer reply (marked name marks s.names))
reads shape lane s (Cross name marks stage) =
    crossing.rest_of stage >>= (λ bytes. give (crossed s name marks stage bytes))
reads shape lane s (End name parts) = release_parts shape parts.items >> give (ended s name)
reads shape lane s (Bind name whole) = give (composed s name (Ok whole.value))
reads shape lane s (Consolidate p) =
    allot shape lane p.size >>= copied_to shape p.whole.value
    >>= (λ made. give (composed s p.name made))

-- the work is what the law reads of the command
pub record IsPlanned (d : Context) (command : Command) (work : Work) (s : LaneState) : Type 0 where
  pub within : IsWithin (left_of work) (left_for d.composes command)
  pub read : (lane : ℕ) (log : Log) →
      answer_of d.shape lane s command log ≡ reads d.shape lane s work log

-- a turn of any command that this work was planned for
abbrev pub WorkTurns : SharedPool → Context → Context → Work → Turn → Type 0
WorkTurns pool old new work turn =
    (s : LaneState) (command : Command) → IsState s old.names old.counts →
    IsPlanned old command work s → HasTurned pool old new s command Ready turn

-- no name is bound to a composite there
abbrev pub IsPlainAt : List (Option Bound) → ℕ → Type 0
IsPlainAt names name = (c : Composite) → bound_at names name ≡ Some (Composed c) → ⊥

-- the command makes no composite, and neither reaches the bytes of one nor ends one
abbrev pub IsUnplanned : List (Option Bound) → Command → Type 0
IsUnplanned names (Command.Alloc name size) = ⊤
IsUnplanned names (Command.Set name at bytes false) = IsPlainAt names name
IsUnplanned names (Command.Set name at bytes true) = ⊤
IsUnplanned names (Command.Get name at len false) = IsPlainAt names name
IsUnplanned names (Command.Get name at len true) = ⊤
IsUnplanned names (Command.Write name bytes) = IsPlainAt names name
IsUnplanned names (Command.Read name len) = IsPlainAt names name
IsUnplanned names (Command.Slice fresh name at len retained) = ⊤
IsUnplanned names (Command.Dup fresh name) = ⊤
IsUnplanned names (Command.Retain name) = ⊤
IsUnplanned names (Command.Release name) = HasLast names name → ⊥
IsUnplanned names (Command.Refcnt name) = ⊤
IsUnplanned names (Command.Touch name) = ⊤
IsUnplanned names (Command.Forget name) = ⊤
IsUnplanned names (Command.Send name lane) = ⊤
IsUnplanned names (Command.Recv fresh lane) = ⊤
IsUnplanned names (Command.Compose fresh names_of) = ⊥
IsUnplanned names (Command.Add whole name) = ⊥
IsUnplanned names (Command.Capacity name size) = ⊤
