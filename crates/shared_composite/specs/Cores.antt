-- A core: what its pool seat counts, knows and has in hand, before and while its components are
-- released.
use Rattle.std.specs.Prelude.{◌≡◌, ℕ, ◌+◌, ◌*◌, ◌<◌, ◌≤◌, false, List, [], ◌∷◌, ◌++◌, length, drop, map, All, Contains, Option, None, IfSome, IsTrue}
use Rattle.std.specs.List.{list_all}
use Rattle.pool_law.specs.declared.id.Part.{Part}
use Rattle.pool_law.specs.declared.id.RootId.{RootId}
use Rattle.pool_law.specs.declared.note.Did.{Did}
use Rattle.pool_law.specs.declared.note.Object.TheVariants.{Root}
use Rattle.pool_law.specs.declared.run.Shape.{Shape}
use Rattle.pool_law.specs.Patterns.{release}
use Rattle.pool_law.specs.Readers.{Reader, ◌>>◌, nothing}
use Rattle.pool_table.specs.declared.views.Entry.{Entry}
use Rattle.pool_table.specs.declared.views.Entry.TheVariants.{At, Ref, Busy}
use Rattle.pool_table.specs.declared.views.SeatView.{SeatView}
use Rattle.pool_table.specs.Capacities.{knows_of}
use Rattle.pool_table.specs.Counts.{gained_of, lost_of}
use Rattle.shared_pool.specs.declared.pool.SharedPool.{SharedPool}
use Rattle.shared_pool.specs.declared.seat.PoolSeat.{PoolSeat}
use Rattle.shared_pool.specs.Closing.{entry_of}
use Rattle.shared_pool.specs.Seated.{HasNothing}
use Rattle.shared_pool.specs.Seats.{IsPoolSeat, FoundBusy}
use Rattle.shared_pool.specs.SeatViews.{view_of, SameSeat}
use Rattle.seat_work.specs.Changes.{times}
use Rattle.seat_work.specs.Growth.{HasMore, is_quiet_entry}
use Rattle.seat_work.specs.Hands.{empty_hand, IsHeld}
use Rattle.lane_stages.specs.declared.stepped.Stepped.{Stepped}
use Rattle.lane_stages.specs.declared.stepped.Stepped.TheVariants.{Went, Pending, Waiting, Finished}
use Rattle.lane_stages.specs.declared.retirement.Ending.{Ending}
use Rattle.seat_work.specs.Readings.{ReadsOn}
use Rattle.lane_stages.specs.Readings.{none_asked}
use Rattle.lane_stages.specs.Releasings.{hand_in, rest_in}
use Rattle.shared_composite.specs.declared.cores.Core.{Core}
use Rattle.shared_composite.specs.Endings.{Holds, HasOnly, turns_in}

-- ---- What the seat of a core counts and knows.

-- the roots of parts, in order
abbrev pub roots_of : List Part → List RootId
roots_of parts = map (λ p. p.root) parts

-- the view counts each of these roots exactly as often as it is there, and no other
abbrev pub CountsJust : List RootId → SeatView → Type 0
CountsJust roots v = (root : RootId) → gained_of root v ≡ lost_of root v + times root roots

-- the view knows that the root has the bytes of the part
abbrev pub IsKnown : SeatView → Part → Type 0
IsKnown v p = p.offset + p.len ≤ knows_of p.root v

-- a numbered seat of the pool with nothing in hand, which counts and knows just these components
pub record IsFit (pool : SharedPool) (seat : PoolSeat) (parts : List Part) : Type 0 where
  pub seat_is : IsPoolSeat pool seat
  pub nothing : HasNothing (view_of seat)
  pub counted : CountsJust (roots_of parts) (view_of seat)
  pub known : All (IsKnown (view_of seat)) parts

-- ---- Cores.

-- the turns that the core's seat has left in the pool
abbrev pub turns_of : Core → ℕ
turns_of c = (view_of c.seat).turns

-- no component was released yet
pub record IsBegun (c : Core) : Type 0 where
  pub next : c.next ≡ 0
  pub ending : c.ending ≡ None

-- a core of the pool of which no component was released yet: its seat is fit for its components, and
-- has the turns that their releases need
pub record IsCore (pool : SharedPool) (c : Core) : Type 0 where
  pub fit : IsFit pool c.seat c.parts
  pub begun : IsBegun c
  pub few : length c.parts ≤ 25
  pub turns : 100 ≤ turns_of c

-- the components that are still to be released
abbrev pub left_of : Core → List Part
left_of c = drop c.next c.parts

-- at most so many turns are still to be spent: one for the rest of each end, four for each component
abbrev pub turns_left : Core → ℕ
turns_left c = turns_in c.ending + 4 * length (left_of c)

-- a core of the pool, whose components are being released: its seat counts those that are left, has
-- in hand what is left of a root that ended, and has the turns that are still to be spent
pub record IsUnderway (pool : SharedPool) (c : Core) : Type 0 where
  pub seat : IsPoolSeat pool c.seat
  pub next : c.next ≤ length c.parts
  pub counted : CountsJust (roots_of (left_of c)) (view_of c.seat)
  pub known : All (IsKnown (view_of c.seat)) c.parts
  pub only : HasOnly (hand_in c.ending) (view_of c.seat)
  pub holds : IfSome c.ending (Holds pool c.seat)
  pub turns : turns_left c ≤ turns_of c

-- all components are released, and nothing of a root that ended is left
pub record IsOver (c : Core) : Type 0 where
  pub next : c.next ≡ length c.parts
  pub ending : c.ending ≡ None

-- a seat of the pool that counts no root and has nothing in hand
pub record IsEmptied (pool : SharedPool) (seat : PoolSeat) : Type 0 where
  pub seat_is : IsPoolSeat pool seat
  pub nothing : HasNothing (view_of seat)
  pub counted : CountsJust [] (view_of seat)

-- ---- What reads leave of a core.

-- the entry is a get of bytes of one of these roots
abbrev pub IsGetOf : List RootId → Entry → Type 0
IsGetOf roots (At object number n) =
    (root : RootId) × (offset : ℕ) × (bytes : List ℕ)
    × Contains roots root × (object ≡ Root root.place) × (n.did ≡ Did.Get offset bytes)
IsGetOf roots (Ref root did) = ⊥
IsGetOf roots (Busy held) = ⊥

-- the same core with the same components further on: its seat noted gets of their roots and nothing
-- else, so it released none
pub record IsKept (old new : Core) : Type 0 where
  pub parts : new.parts ≡ old.parts
  pub next : new.next ≡ old.next
  pub ending : new.ending ≡ old.ending
  pub same : SameSeat old.seat new.seat
  pub number : (view_of new.seat).own.number ≡ (view_of old.seat).own.number
  pub added : List Entry
  pub notes : (view_of new.seat).own.notes ≡ (view_of old.seat).own.notes ++ added
  pub gets : All (IsGetOf (roots_of old.parts)) added
  pub hand : IsHeld empty_hand (view_of old.seat) → IsHeld empty_hand (view_of new.seat)

-- ---- What steps of a core do.

-- the law's notes of the releases of parts: each once, in order
abbrev pub releases : Shape → List Part → Reader (Unit {0})
releases shape [] = nothing
releases shape (p ∷ ps) = release shape p.root >> releases shape ps

-- and of all that is left of a core: what is left of a root that ended, and then the releases
abbrev pub rest_of : Shape → Core → Reader (Unit {0})
rest_of shape c = rest_in shape c.ending >> releases shape (left_of c)

-- one step of the core added these entries, at most one section's and one on a count, and they are
-- the next of what the law says is left; none accesses the bytes of a root or passes a parcel
pub record Advances (pool : SharedPool) (old new : Core) (added : List Entry) : Type 0 where
  pub parts : new.parts ≡ old.parts
  pub same : SameSeat old.seat new.seat
  pub more : HasMore (view_of old.seat) (view_of new.seat) added
  pub quiet : IsTrue (list_all is_quiet_entry added)
  pub read :
      let shape = pool.table.layout.shape in
      ReadsOn (rest_of shape old) (map entry_of added) none_asked (rest_of shape new)
  pub hand :
      IsHeld (hand_in old.ending) (view_of old.seat)
      → IsHeld (hand_in new.ending) (view_of new.seat)

-- the core with this left of a root that ended
abbrev pub with_ending : Core → Option Ending → Core
with_ending c stage = record c { ending = stage }

-- the same is still to be done
pub record IsAsBefore (old new : Core) : Type 0 where
  pub parts : new.parts ≡ old.parts
  pub next : new.next ≡ old.next
  pub ending : new.ending ≡ old.ending
  pub same : SameSeat old.seat new.seat

-- what a step did, by its answer: where it went it noted something; where it is pending its claim
-- found another seat, and nothing changed; it never waits; where it is finished nothing was done
abbrev pub HasStepped : SharedPool → Core → Core → Stepped → Type 0
HasStepped pool old new Went = (added : List Entry) × (0 < length added) × Advances pool old new added
HasStepped pool old new (Pending held) =
    IsAsBefore old new × FoundBusy pool held.object false old.seat new.seat held
HasStepped pool old new (Waiting sender) = ⊥
HasStepped pool old new Finished = new ≡ old
