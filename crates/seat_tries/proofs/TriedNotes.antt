-- How the law reads on what a try of an allocation adds.
use Rattle.std.proofs.Common.{◌≡◌, ℕ, ◌%◌, ◌<◌, ◌≤◌, Option, Some, None, sym, ap, subst, true}
use Rattle.std.specs.Prelude.{Result, Ok, Err, unwrap_or}
use Rattle.handle_bin.specs.Bins.{HandleValue}
use Rattle.size_classes.specs.Sizes.{class_of}
use Rattle.pool_law.specs.declared.id.Region.{Region}
use Rattle.pool_law.specs.declared.id.RegionId.{RegionId}
use Rattle.pool_law.specs.declared.id.RootId.{RootId}
use Rattle.pool_law.specs.declared.note.Did.{Did}
use Rattle.pool_law.specs.declared.note.Held.{Held}
use Rattle.pool_law.specs.declared.note.Noted.{Noted}
use Rattle.pool_law.specs.declared.note.Object.{Object}
use Rattle.pool_law.specs.declared.note.Object.TheVariants.{Arena, Bin, Cache}
use Rattle.pool_law.specs.declared.report.Watch.{Watch}
use Rattle.pool_law.specs.declared.run.Reply.{Reply}
use Rattle.pool_law.specs.declared.run.Shape.{Shape}
use Rattle.pool_law.specs.Dids as says
use Rattle.pool_law.specs.Limits.{cached_classes, geometry_of}
use Rattle.pool_law.specs.Patterns.{New, allot, ask_arena, ask_cache, bear, obtain, with_handle}
use Rattle.pool_law.specs.Readers.{Log, Reader, ◌>>=◌, ◌>>◌, give, note}
use Rattle.pool_table.specs.declared.views.SeatView.{SeatView}
use Rattle.shared_pool.specs.declared.pool.SharedPool.{SharedPool}
use Rattle.shared_pool.specs.declared.seat.PoolSeat.{PoolSeat}
use Rattle.shared_pool.specs.Notes.{plain}
use Rattle.shared_pool.specs.SeatLanes.{lane_of}
use Rattle.shared_pool.specs.Seats.{FoundBusy, IsNoted}
use Rattle.shared_pool.specs.SeatViews.{view_of}
use Rattle.seat_work.specs.Answers.{with_arena, with_class}
use Rattle.seat_work.specs.Readings.{NotesAs, NotesOn}
use Rattle.seat_work.proofs.Handles.{handle_noted}
use Rattle.seat_work.proofs.Noting.{bears_behind, bears_from, notes_from, notes_given, notes_on, notes_then}
use Rattle.seat_work.proofs.PartReads.{class_given}
use Rattle.seat_work.proofs.RegionNotes.{hit_noted, obtain_noted, passed_by, take_noted, taken_only}
use Rattle.seat_tries.specs.declared.allocation.AllocNo.{AllocNo}
use Rattle.seat_tries.specs.declared.allocation.AllocNo.TheVariants.{Busy, NoHandle, Full, Worn}
use Rattle.seat_tries.specs.declared.begun.Begun.{Begun}
use Rattle.seat_tries.specs.Allocations.{Allots}
use Rattle.seat_tries.specs.Leaving.{left_of}

-- ---- One reading after another.

module _ (r q : Reader (Result New Reply)) (class : ℕ) (watch : Option Watch) (left : Begun) where
  tried_on : (u v w : SeatView) (answer : Result RootId AllocNo) → NotesOn r q u v
      → Allots q class watch answer left v w
      → Allots r class watch answer left u w
  tried_on u v w (Ok root) x y = bears_behind r q class watch u v w root x y
  tried_on u v w (Err Busy) x y = tt
  tried_on u v w (Err NoHandle) x y = notes_on r q u v (give (Err Reply.Handles)) w x y
  tried_on u v w (Err Full) x y = notes_on r q u v (left_of left >> give (Err Reply.Full)) w x y
  tried_on u v w (Err Worn) x y = tt

  tried_from : (u v : SeatView) → ((log : Log) → r log ≡ q log) → (answer : Result RootId AllocNo)
      → Allots q class watch answer left u v → Allots r class watch answer left u v
  tried_from u v same (Ok root) y = bears_from r q class watch u v same root y
  tried_from u v same (Err Busy) y = tt
  tried_from u v same (Err NoHandle) y = notes_from q (give (Err Reply.Handles)) u v r same y
  tried_from u v same (Err Full) y = notes_from q (left_of left >> give (Err Reply.Full)) u v r same y
  tried_from u v same (Err Worn) y = tt

-- ---- Step by step.

pub noted_lane : (pool : SharedPool) (old mid : PoolSeat) (o : Object) (number : ℕ) (n : Noted)
    → IsNoted pool old mid o number n → lane_of mid ≡ lane_of old
noted_lane pool old mid o number n noted = ap (λ m. unwrap_or m.0.own.number 0) noted.seat

module _ (pool : SharedPool) (old mid new : PoolSeat) (class size : ℕ) (watch : Option Watch)
    (answer : Result RootId AllocNo) (left : Begun) where
  abbrev shape : Shape
  shape = pool.table.layout.shape

  abbrev lane : ℕ
  lane = lane_of old

  -- what is answered of this, from the middle seat on, and from the first
  abbrev after : (ℕ → Reader (Result New Reply)) → ℕ → Type 0
  after r class = Allots (r (lane_of mid)) class watch answer left (view_of mid) (view_of new)

  abbrev whole : Reader (Result New Reply) → Type 0
  whole r = Allots r class watch answer left (view_of old) (view_of new)

  -- with a region in hand of the class, in the first seat's lane
  born_so : (place : ℕ) (r : Region) → lane_of mid ≡ lane_of old → r.id.class ≡ class
      → after (λ l. bear l place size (Some r.id)) r.id.class
      → Allots (bear lane place size (Some r.id)) class watch answer left (view_of mid) (view_of new)
  born_so place r same is x =
      subst (λ (k : ℕ). Allots (bear lane place size (Some r.id)) k watch answer left (view_of mid) (view_of new)) is
      (subst (λ (l : ℕ).
      Allots (bear l place size (Some r.id)) r.id.class watch answer left (view_of mid) (view_of new)) same x)

  module _ (place number : ℕ) where
    abbrev born : Option RegionId → Reader (Result New Reply)
    born = bear lane place size

    pub taken_then : (r : Region)
        → IsNoted pool old mid (Arena (lane % shape.arenas)) number (plain (Did.Take class r.id))
        → r.id.class ≡ class → after (λ l. bear l place size (Some r.id)) r.id.class
        → whole (with_arena shape lane class size place)
    taken_then r noted is x =
        tried_on (ask_arena shape lane class >>= born) (born (Some r.id)) class watch left (view_of old) (view_of mid)
        (view_of new) answer
        (notes_given (ask_arena shape lane class) (Some r.id) born (view_of old) (view_of mid)
        (take_noted pool old mid class (Some r) number noted))
        (born_so place r (noted_lane pool old mid _ number _ noted) is x)

    pub hit_then : class < cached_classes → (r : Region)
        → IsNoted pool old mid (Cache lane class) number (plain (Did.Hit r.id)) → r.id.class ≡ class
        → after (λ l. bear l place size (Some r.id)) r.id.class → whole (with_class shape lane class size place)
    hit_then less r noted is x =
        tried_on (obtain shape lane class >>= born) (born (Some r.id)) class watch left (view_of old) (view_of mid)
        (view_of new) answer
        (notes_then (obtain shape lane class) (give (Some r.id)) (view_of old) (view_of mid) born
        (obtain_noted shape lane class less (Some r.id) (view_of old) (view_of mid)
        (hit_noted pool old mid class (Some r) number noted)))
        (born_so place r (noted_lane pool old mid _ number _ noted) is x)

  module _ (place : ℕ) where
    abbrev bears : Option RegionId → Reader (Result New Reply)
    bears = bear lane place size

    -- the cache gave nothing
    past_then : class < cached_classes → NotesAs (ask_cache lane class) None (view_of old) (view_of mid)
        → lane_of mid ≡ lane_of old → after (λ l. with_arena shape l class size place) class
        → whole (with_class shape lane class size place)
    past_then less none same x =
        tried_on (obtain shape lane class >>= bears) (ask_arena shape lane class >>= bears) class watch left
        (view_of old) (view_of mid) (view_of new) answer
        (notes_then (obtain shape lane class) (ask_arena shape lane class) (view_of old) (view_of mid) bears
        (obtain_noted shape lane class less None (view_of old) (view_of mid) none))
        (subst (λ (l : ℕ).
        Allots (with_arena shape l class size place) class watch answer left (view_of mid) (view_of new)) same x)

    pub missed_then : class < cached_classes → (number : ℕ)
        → IsNoted pool old mid (Cache lane class) number (plain Did.Miss)
        → after (λ l. with_arena shape l class size place) class → whole (with_class shape lane class size place)
    missed_then less number noted x =
        past_then less (hit_noted pool old mid class None number noted) (noted_lane pool old mid _ number _ noted) x

    pub passed_then : class < cached_classes → (held : Held) → FoundBusy pool (Cache lane class) true old mid held
        → after (λ l. with_arena shape l class size place) class → whole (with_class shape lane class size place)
    passed_then less held found x =
        past_then less (passed_by pool old mid class held found) (ap (λ m. unwrap_or m.0.own.number 0) found.marked) x

    pub got_then : (number : ℕ) → class_of (geometry_of shape) size ≡ Some class → (h : HandleValue) → h.place ≡ place
        → IsNoted pool old mid (Bin lane) number (plain (Did.Handle h.place))
        → after (λ l. with_class shape l class size place) class → whole (allot shape lane size)
    got_then number class_is h at noted x =
        tried_on (allot shape lane size) (with_handle shape lane size h.place) class watch left (view_of old)
        (view_of mid) (view_of new) answer (handle_noted pool old mid (Some h) number noted size)
        (tried_from (with_handle shape lane size h.place) (with_class shape lane class size h.place) class watch left
        (view_of mid) (view_of new) (class_given shape lane class size h.place class_is) answer
        (subst (λ (p : ℕ).
        Allots (with_class shape lane class size p) class watch answer left (view_of mid) (view_of new)) (sym at)
        (subst (λ (l : ℕ).
        Allots (with_class shape l class size place) class watch answer left (view_of mid) (view_of new))
        (noted_lane pool old mid _ number _ noted) x)))

  -- the class has no cache
  pub arena_only : (place : ℕ) → cached_classes ≤ class → whole (with_arena shape lane class size place)
      → whole (with_class shape lane class size place)
  arena_only place more x =
      tried_from (with_class shape lane class size place) (with_arena shape lane class size place) class watch left
      (view_of old) (view_of new) (taken_only shape lane class (bear lane place size) more) answer x

-- the arena was full, and the handle goes home, or is left to
pub full_then : (pool : SharedPool) (old mid new : PoolSeat) (class size number : ℕ) (h : HandleValue) (left : Begun)
    → h.lane ≡ lane_of old
    → IsNoted pool old mid (Arena (lane_of old % pool.table.layout.shape.arenas)) number (plain (Did.Full class))
    → NotesOn (note (Bin h.lane) (says.home h.place)) (left_of left) (view_of mid) (view_of new) →
    NotesOn (with_arena pool.table.layout.shape (lane_of old) class size h.place)
    (left_of left >> give (Err Reply.Full)) (view_of old) (view_of new)
full_then pool old mid new class size number h left own noted x =
    let shape = pool.table.layout.shape in let lane = lane_of old in let born = bear lane h.place size in
    notes_on (ask_arena shape lane class >>= born) (born None) (view_of old) (view_of mid)
    (left_of left >> give (Err Reply.Full)) (view_of new)
    (notes_given (ask_arena shape lane class) None born (view_of old) (view_of mid)
    (take_noted pool old mid class None number noted))
    (notes_then (note (Bin lane) (says.home h.place)) (left_of left) (view_of mid) (view_of new)
    (λ _. give (Err Reply.Full))
    (subst (λ (l : ℕ). NotesOn (note (Bin l) (says.home h.place)) (left_of left) (view_of mid) (view_of new)) own x))
