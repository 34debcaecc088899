-- What the lane context's own functions add to its log and its counts, before a command is
-- answered.
use Rattle.std.specs.Prelude.{◌≡◌, ℕ, ◌+◌, ◌-◌, ◌<◌, ◌≤◌, ◌==◌, if◌then◌else◌, Bool, true, false, List, [], ◌∷◌, ◌++◌, length, Option, Some, None, slice_set, vec_capacity}
use Rattle.pool_law.specs.declared.command.Command.{Command}
use Rattle.pool_law.specs.declared.id.RootId.{RootId}
use Rattle.pool_law.specs.declared.id.Parcel.{Parcel}
use Rattle.pool_law.specs.declared.note.Did.{Did}
use Rattle.pool_law.specs.declared.note.Held.{Held}
use Rattle.pool_law.specs.declared.note.Note.{Note}
use Rattle.pool_law.specs.declared.note.Object.TheVariants.{Mail}
use Rattle.pool_law.specs.declared.note.RefDid.TheVariants.{Retain}
use Rattle.pool_law.specs.declared.run.Reply.{Reply}
use Rattle.pool_law.specs.Composites.{Composite}
use Rattle.pool_law.specs.LaneLaw.{sweep_period}
use Rattle.pool_law.specs.LaneStates.{LaneState}
use Rattle.pool_law.specs.Names.{Bound, Composed}
use Rattle.pool_table.specs.Counts.{with_ref}
use Rattle.shared_pool.specs.SeatViews.{view_of, SameSeat, HasView}
use Rattle.shared_pool.specs.declared.pool.SharedPool.{SharedPool}
use Rattle.shared_pool.specs.SeatLanes.{lane_of}
use Rattle.shared_pool.specs.MailAnswers.{IsPosted}
use Rattle.shared_pool.specs.Seats.{IsPoolSeat}
use Rattle.lane_context.specs.declared.access.Access.{Access}
use Rattle.lane_stages.specs.declared.counts.Counted.{Counted}
use Rattle.lane_stages.specs.declared.draining.Draining.TheVariants.{Ask}
use Rattle.lane_context.specs.declared.context.Context.{Context}
use Rattle.lane_context.specs.declared.composed.Marks.{Marks}
use Rattle.lane_context.specs.declared.context.Stage.{Stage}
use Rattle.lane_context.specs.declared.context.Stage.TheVariants.{Ready, Sweeping}
use Rattle.lane_context.specs.declared.context.Turn.{Turn}
use Rattle.lane_context.specs.declared.context.Turn.TheVariants.{Went, Pending}
use Rattle.lane_context.specs.Accesses.{IsState, IsPrepared}
use Rattle.lane_stages.specs.Budgets.{Left}
use Rattle.seat_work.specs.Changes.{one_for}
use Rattle.lane_stages.specs.Counting.{counted}
use Rattle.seat_work.specs.Hands.{empty_hand}
use Rattle.lane_context.specs.Composing.{set_marks}
use Rattle.lane_context.specs.Contexts.{IsContext, Fits, HasRoomFor, HasTurned, NameFits, hand_of, left_at}
use Rattle.lane_context.specs.Named.{NamesAre, bound_at}

-- the log has these notes more, and nothing else at the context is new
pub record HasNoted (old new : Context) (notes : List Note) : Type 0 where
  pub log : new.notes.items ≡ old.notes.items ++ notes
  pub room : vec_capacity old.notes ≤ vec_capacity new.notes
  pub rest : new ≡ record old { notes = new.notes }

-- there is a command under way, and room for its reply
pub record CanAnswer (d : Context) : Type 0 where
  pub begun : d.begun ≤ length d.notes.items
  pub few : length d.notes.items < 4294967296
  pub room : length d.replies.items < vec_capacity d.replies

-- the command that is under way has this reply, and the notes since it began are its own
pub record HasReplied (old new : Context) (reply : Reply) : Type 0 where
  pub replies :
      let notes = length old.notes.items - old.begun in
      new.replies.items ≡ old.replies.items ++ record { reply = reply; notes = notes } ∷ []
  pub room : vec_capacity old.replies ≤ vec_capacity new.replies
  pub rest : new ≡ record old { replies = new.replies; begun = length old.notes.items }

-- the composite that a name is bound to has another count of its own
abbrev pub recounted : Context → ℕ → Composite → ℕ → Context
recounted d name c count =
    let more = record c { count = count } in
    record d { names = slice_set d.names name (Some (Composed more)) }

-- the command has this reply, or where a sweep is due it has it once that is done
abbrev pub Concludes : Context → Context → Reply → Turn → Type 0
Concludes old new reply (Went Ready) = HasReplied old new reply × (old.asked < sweep_period)
Concludes old new reply (Went (Sweeping later stage)) =
    (later ≡ reply) × (stage ≡ Ask 0) × (new ≡ record old { asked = 0 })
    × (sweep_period ≤ old.asked)
Concludes old new reply _ = ⊥

-- a root is counted once more, and once less
pub record CountsMore (old new : List Counted) (root : RootId) : Type 0 where
  pub counts : (other : RootId) → counted new other ≡ counted old other + one_for root other
  pub places : length new ≡ length old

pub record CountsLess (old new : List Counted) (root : RootId) : Type 0 where
  pub counts : (other : RootId) → counted new other + one_for root other ≡ counted old other
  pub places : length new ≡ length old

-- another seat was there: a command that only tries notes that and says so, another waits
abbrev pub FindsBusy : Bool → Context → Context → Held → Turn → Type 0
FindsBusy true old new held turn =
    (mid : Context) × HasNoted old mid (Note.Busy held ∷ [])
    × HasReplied mid new (Reply.Busy held.number) × (turn ≡ Went Ready)
FindsBusy false old new held turn = (new ≡ old) × (turn ≡ Pending held Ready)

-- a root was retained, noted and counted
pub record HasRetained (pool : SharedPool) (old new : Context) (root : RootId) : Type 0 where
  pub same : SameSeat old.seat new.seat
  pub seat : IsPoolSeat pool new.seat
  pub did :
      let v = view_of old.seat in HasView new.seat (with_ref v root Retain (v.moves - 1))
  pub noted :
      HasNoted (record old { seat = new.seat; counts = new.counts }) new
      (Note.Ref root Retain ∷ [])
  pub counts : CountsMore old.counts new.counts root

-- a parcel was posted and noted
pub record HasPosted (pool : SharedPool) (old new : Context) (receiver : ℕ) (sent : Parcel) : Type 0
  where
    pub number : ℕ
    pub same : SameSeat old.seat new.seat
    pub seat : IsPoolSeat pool new.seat
    pub did : IsPosted old.seat new.seat receiver number sent
    pub noted :
        let mail = Mail (lane_of old.seat) receiver in
        HasNoted (record old { seat = new.seat }) new (Note.At mail number (Did.Post sent) ∷ [])

-- what a parcel costs
abbrev pub left_to_post : ℕ → Left
left_to_post receiver =
    record {
      notes = 1;
      asks = 0;
      takes = 0;
      moves = 0;
      sends = λ to. if receiver == to then 1 else 0;
    }

-- a context with nothing in hand, with room for what is left and for a reply, and with no sweep due
pub record MayTurn (pool : SharedPool) (left : Left) (d : Context) : Type 0 where
  pub context : IsContext pool empty_hand d
  pub room : HasRoomFor pool d left
  pub replies : length d.replies.items < vec_capacity d.replies
  pub asked : d.asked < sweep_period

-- the name is bound to this composite
abbrev pub bound_to : Context → ℕ → Composite → Context
bound_to d name c = record d { names = slice_set d.names name (Some (Composed c)) }

-- the names once the reader and the writer of one have moved, if they do
abbrev pub MarksMoved :
    List (Option Bound) → List (Option Bound) → ℕ → Option Marks → Type 0
MarksMoved old new name None = new ≡ old
MarksMoved old new name (Some marks) =
    (c : Composite) → bound_at old name ≡ Some (Composed c) →
    new ≡ slice_set old name (Some (Composed (set_marks marks c)))

-- and nothing else at the context is new
pub record HasMarked (old new : Context) (name : ℕ) (marks : Option Marks) : Type 0 where
  pub names : MarksMoved old.names new.names name marks
  pub rest : new ≡ record old { names = new.names }

-- a context at a stage of a command, with room for what is left and for a reply
pub record MayGoOn (pool : SharedPool) (stage : Stage) (d : Context) : Type 0 where
  pub context : IsContext pool (hand_of stage) d
  pub fits : Fits pool d stage
  pub name : NameFits d stage
  pub room : (command : Command) →
      HasRoomFor pool d (left_at d.composes command stage (view_of d.seat))
  pub replies : length d.replies.items < vec_capacity d.replies

-- a turn from a stage on, whatever the law's bindings and the command are
abbrev pub StageTurns : SharedPool → Context → Context → Stage → Turn → Type 0
StageTurns pool old new stage turn =
    (s : LaneState) (command : Command) → NamesAre s.names old.names →
    HasTurned pool old new s command stage turn

-- a turn of a command from its beginning on, whatever the law's bindings are
abbrev pub Turns : SharedPool → Context → Context → Command → Turn → Type 0
Turns pool old new command turn =
    (s : LaneState) → IsState s old.names old.counts →
    HasTurned pool old new s command Ready turn

-- the same of a command that this access was prepared for
abbrev pub AccessTurns : SharedPool → Context → Context → Access → Turn → Type 0
AccessTurns pool old new access turn =
    (s : LaneState) (command : Command) → IsState s old.names old.counts →
    IsPrepared old.names old.counts command access s →
    HasTurned pool old new s command Ready turn
