-- What a seat that plays calls has noted, and what that tells. No public clause cites this module.
use Rattle.std.specs.Prelude.{◌≡◌, ℕ, ◌+◌, ◌-◌, ◌*◌, ◌<◌, ◌≤◌, Bool, true, false, List, [], ◌∷◌, ◌++◌, length, map, drop, replicate, Some, IfSome, slice_get}
use Rattle.pool_law.specs.declared.id.RootId.{RootId}
use Rattle.pool_law.specs.declared.note.Did.{Did}
use Rattle.pool_law.specs.declared.note.Note.{Note}
use Rattle.pool_law.specs.declared.note.Note.TheVariants.{At, Ref}
use Rattle.pool_law.specs.declared.note.Object.{Object}
use Rattle.pool_law.specs.declared.note.RefDid.{RefDid}
use Rattle.pool_law.specs.declared.note.RefDid.TheVariants as steps
use Rattle.pool_law.specs.Counts.{is_born, is_retain, is_release}
use Rattle.pool_law.specs.Histories.{place_after}
use Rattle.pool_law.specs.Logs.{own}
use Rattle.pool_law.specs.Roots.{RootPlace}
use Rattle.shared_pool.specs.declared.seat.PoolSeat.{PoolSeat}
use Rattle.pool_table.specs.Counts.{gained_of, lost_of}
use Rattle.shared_pool.specs.SeatViews.{view_of}
use Rattle.shared_pool.specs.declared.pool.SharedPool.{SharedPool}
use Rattle.shared_pool.specs.Closing.{note_of}
use Rattle.seat_work.specs.Growth.{how_many}
use Rattle.seat_work.specs.Hands.{empty_hand}
use Rattle.seat_work.specs.Works.{Works}
use Rattle.counted_view.specs.declared.calls.NestNo.{NestNo}
use Rattle.counted_view.specs.declared.calls.NestNo.TheVariants as refusals
use Rattle.counted_view.specs.Nests.{NestedView, NestState, root_counts}
use Rattle.counted_view.specs.NestSeats.{CountsRoot}
use Rattle.nest_run.specs.declared.calls.Call.{Call}
use Rattle.nest_run.specs.declared.calls.Input.{Input}
use Rattle.nest_run.specs.declared.replies.Reply.{Reply}
use Rattle.nest_run.specs.declared.replies.Reply.TheVariants as replies
use Rattle.nest_run.specs.declared.play.Played.{Played}
use Rattle.nest_run.specs.declared.views.Playing.{Playing}
use Rattle.nest_run.specs.Inputs.{capacity_limit, call_limit}
use Rattle.nest_run.specs.Plays.{Stage, first_root, step, stage_after, replies_from, replies_to, live_after}

-- ---- Notes.

-- the notes of a seat
abbrev pub log_of : PoolSeat → List Note
log_of s = map note_of (view_of s).own.notes

-- what was done at the first root place, in order
abbrev pub dids_of : List Note → List Did
dids_of log = map (λ e. e.1) (own (Object.Root 0) log)

-- the notes leave so many counts of the root
abbrev pub Leave : List Note → RootId → ℕ → Type 0
Leave log root n =
    how_many (is_born root) log + how_many (is_retain root) log
    ≡ how_many (is_release root) log + n

-- a release that keeps its root finds two counts, and one that ends it the last
abbrev pub FitsRelease : List Note → RootId → RefDid → Type 0
FitsRelease before root steps.Kept = (n : ℕ) × (1 < n) × Leave before root n
FitsRelease before root steps.Ended = Leave before root 1
FitsRelease before root _ = Unit {0}

-- what the close of the pool tells of all notes
pub record IsWhole (log : List Note) : Type 0 where
  pub state : RootPlace
  pub place : place_after 0 (dids_of log) ≡ Some state
  pub releases : (before after : List Note) (root : RootId) (did : RefDid) →
      log ≡ before ++ Ref root did ∷ after → FitsRelease before root did

-- the root that is present, if one is, has these bytes
abbrev pub HasBytes : List Note → List ℕ → Type 0
HasBytes log bytes =
    (state : RootPlace) → place_after 0 (dids_of log) ≡ Some state →
    IfSome state.present (λ p. p.bytes ≡ bytes)

-- ---- Between two calls.

abbrev pub stage_of : NestState → List ℕ → Stage
stage_of nest bytes = record { nest = nest; bytes = bytes }

-- no view is held more often than calls can hold it
abbrev pub AreHeld : ℕ → List NestedView → Type 0
AreHeld most views =
    (v : ℕ) (x : NestedView) → slice_get views v ≡ Some x → x.holds ≤ most

-- the seat can play so many calls more, and counts the root as often as the nest does
pub record Stands (pool : SharedPool) (calls : ℕ) (p : Playing) : Type 0 where
  pub works : Works pool empty_hand (4 * calls) calls p.seat
  pub counts : CountsRoot p.nest p.seat
  pub root : p.root ≡ p.nest.root
  pub place : p.nest.root.place ≡ 0
  pub capacity : p.nest.root.capacity ≤ capacity_limit
  pub bound : p.nest.bound ≡ call_limit
  pub few : length p.nest.views + calls ≤ call_limit + 1
  pub most : ℕ
  pub held : AreHeld most p.nest.views
  pub enough : most + calls ≤ call_limit + 1
  pub leave : Leave (log_of p.seat) p.nest.root (root_counts p.nest)

-- the reply is right, and so are the nest and the bytes from then on
pub record IsRight (call : Call) (old : Playing) (reply : Reply) (new : Playing) (bytes : List ℕ) :
    Type 0 where
  pub then_bytes : List ℕ
  pub step_is : step (stage_of old.nest bytes) call ≡ (reply, stage_of new.nest then_bytes)
  pub has : HasBytes (log_of new.seat) then_bytes

-- a call was played: it is right, if the notes turn out to be whole
pub record IsPlayed (pool : SharedPool) (call : Call) (old : Playing) (reply : Reply) (new : Playing) :
    Type 0 where
  pub next : (calls : ℕ) → Stands pool (calls + 1) old → Stands pool calls new
  pub whole : IsWhole (log_of new.seat) → IsWhole (log_of old.seat)
  pub right : IsWhole (log_of new.seat) → (bytes : List ℕ) → HasBytes (log_of old.seat) bytes →
      IsRight call old reply new bytes

-- the calls before a place in the list were played: what is left comes to what all come to
pub record IsSoFar
    (calls : List Call) (at : ℕ) (old : Playing) (answers : List Reply) (new : Playing)
    (bytes : List ℕ) : Type 0 where
  pub then_bytes : List ℕ
  pub has : HasBytes (log_of new.seat) then_bytes
  pub answers_are : answers ++ replies_from (stage_of new.nest then_bytes) (drop at calls)
      ≡ replies_from (stage_of old.nest bytes) calls
  pub stage_is : stage_after (stage_of new.nest then_bytes) (drop at calls)
      ≡ stage_after (stage_of old.nest bytes) calls

pub record HasGone
    (pool : SharedPool) (calls : List Call) (at : ℕ) (old : Playing) (answers : List Reply)
    (new : Playing) : Type 0 where
  pub stands : Stands pool (length calls - at) new
  pub whole : IsWhole (log_of new.seat) → IsWhole (log_of old.seat)
  pub right : IsWhole (log_of new.seat) → (bytes : List ℕ) → HasBytes (log_of old.seat) bytes →
      IsSoFar calls at old answers new bytes

-- calls were played one after another: all is right, if the notes turn out to be whole
pub record HasAnswered
    (pool : SharedPool) (calls : List Call) (old : Playing) (answers : List Reply) (new : Playing) :
    Type 0 where
  pub stands : Stands pool 0 new
  pub whole : IsWhole (log_of new.seat) → IsWhole (log_of old.seat)
  pub right : IsWhole (log_of new.seat) → (bytes : List ℕ) → HasBytes (log_of old.seat) bytes →
      (answers ≡ replies_from (stage_of old.nest bytes) calls)
      × (new.nest ≡ (stage_after (stage_of old.nest bytes) calls).nest)

-- the reply to a call that is refused
abbrev pub refusal : NestNo → Reply
refusal refusals.Gone = replies.Gone
refusal refusals.Range = replies.Range
refusal refusals.Full = replies.Range

-- ---- The first moment, the root's end, and the last moment.

-- a note at an object that is no root place
abbrev pub is_elsewhere : Note → Bool
is_elsewhere (At (Object.Arena number) k did) = true
is_elsewhere (At (Object.Bin lane) k did) = true
is_elsewhere _ = false

-- the seat has born a root, which it counts once
pub record IsBorn (pool : SharedPool) (capacity : ℕ) (root : RootId) (s : PoolSeat) :
    Type 0 where
  pub works : Works pool empty_hand (4 * call_limit) call_limit s
  pub counts : gained_of root (view_of s) ≡ lost_of root (view_of s) + 1
  pub place : root.place ≡ 0
  pub capacity_is : root.capacity ≡ capacity
  pub leave : Leave (log_of s) root 1
  pub first : IsWhole (log_of s) → root ≡ first_root capacity
  pub zeros : HasBytes (log_of s) (replicate capacity 0)

-- the seat noted the root's end, and two things elsewhere
pub record HasEnded (root : RootId) (old new : PoolSeat) : Type 0 where
  pub number : ℕ
  pub first : Note
  pub second : Note
  pub notes : log_of new ≡ log_of old
      ++ At (Object.Root root.place) number (Did.End root)
      ∷ Ref root steps.Vacated
      ∷ first
      ∷ second
      ∷ []
  pub first_is : is_elsewhere first ≡ true
  pub second_is : is_elsewhere second ≡ true

-- the seat has played an input: what came of it is right, if the notes turn out to be whole
pub record HasPlayed
    (pool : SharedPool) (input : Input) (played : Played) (s : PoolSeat) : Type 0 where
  pub works : Works pool empty_hand 0 0 s
  pub replies : IsWhole (log_of s) → played.replies ≡ replies_to input
  pub live : IsWhole (log_of s) → played.live ≡ live_after input
