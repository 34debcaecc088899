-- What a seat notes of a region that it obtains or puts away, as the law reads it.
use Rattle.std.proofs.Common.{◌≡◌, ℕ, ◌%◌, ◌<◌, ◌≤◌, Option, None, true, ap}
use Rattle.std.specs.Prelude.{option_and_then, option_map}
use Rattle.pool_arena.specs.Standing.{taken_or_full}
use Rattle.pool_law.specs.declared.id.Region.{Region}
use Rattle.pool_law.specs.declared.id.RegionId.{RegionId}
use Rattle.pool_law.specs.declared.note.CacheNo.{CacheNo}
use Rattle.pool_law.specs.declared.note.Did.{Did}
use Rattle.pool_law.specs.declared.note.Held.{Held}
use Rattle.pool_law.specs.declared.note.Object.TheVariants.{Arena, Cache}
use Rattle.pool_law.specs.declared.run.Shape.{Shape}
use Rattle.pool_law.specs.Limits.{cached_classes}
use Rattle.pool_law.specs.Patterns.{ask_arena, ask_cache, give_back, obtain, offer}
use Rattle.pool_law.specs.Readers.{Log, Reader, ◌>>=◌, give, nothing, unless_there}
use Rattle.pool_table.specs.declared.views.SeatView.{SeatView}
use Rattle.shared_pool.specs.declared.pool.SharedPool.{SharedPool}
use Rattle.shared_pool.specs.declared.seat.PoolSeat.{PoolSeat}
use Rattle.shared_pool.specs.Notes.{hit, plain}
use Rattle.shared_pool.specs.SeatLanes.{lane_of}
use Rattle.shared_pool.specs.Seats.{FoundBusy, IsNoted}
use Rattle.shared_pool.specs.SeatViews.{view_of}
use Rattle.seat_work.specs.Readings.{NotesAs, NotesOn}
use Rattle.seat_work.proofs.Noting.{notes_from, notes_given, notes_one, one_marked, one_noted}
use Rattle.seat_work.proofs.PartReads.{away_read, back_read, busy_read, give_read, hit_read, kept_read, obtain_cached, obtain_uncached, take_read}
use Rattle.seat_work.proofs.ReadLaws.{none_asked, one_asked}

module _ (pool : SharedPool) (old new : PoolSeat) where
  module _ (class : ℕ) where
    pub hit_noted : (r : Option Region) (number : ℕ)
        → IsNoted pool old new (Cache (lane_of old) class) number (plain (hit r))
        → NotesAs (ask_cache (lane_of old) class) (option_map (λ x. x.id) r) (view_of old) (view_of new)
    hit_noted r number noted =
        let lane = lane_of old in
        notes_one (ask_cache lane class) (give (option_map (λ x. x.id) r)) (view_of old) (view_of new) _ one_asked
        (one_noted pool old new (Cache lane class) number (plain (hit r)) noted)
        (hit_read number (view_of old).own.number lane class r)

    pub passed_by : (held : Held) → FoundBusy pool (Cache (lane_of old) class) true old new held
        → NotesAs (ask_cache (lane_of old) class) None (view_of old) (view_of new)
    passed_by held found =
        let lane = lane_of old in
        notes_one (ask_cache lane class) (give None) (view_of old) (view_of new) _ one_asked
        (one_marked pool old new (Cache lane class) held found)
        (busy_read 0 None lane class held found.object)

    pub take_noted : (r : Option Region) (number : ℕ)
        → IsNoted pool old new (Arena (lane_of old % pool.table.layout.shape.arenas)) number
        (plain (taken_or_full class r)) →
        NotesAs (ask_arena pool.table.layout.shape (lane_of old) class) (option_map (λ x. x.id) r) (view_of old)
        (view_of new)
    take_noted r number noted =
        let lane = lane_of old in let shape = pool.table.layout.shape in
        notes_one (ask_arena shape lane class) (give (option_map (λ x. x.id) r)) (view_of old) (view_of new) _
        none_asked (one_noted pool old new (Arena (lane % shape.arenas)) number (plain (taken_or_full class r)) noted)
        (take_read number (view_of old).own.number lane class shape r)

  module _ (r : RegionId) where
    pub give_noted : (number : ℕ) → IsNoted pool old new (Arena r.place.arena) number (plain (Did.Give r))
        → NotesAs (give_back r) tt (view_of old) (view_of new)
    give_noted number noted =
        notes_one (give_back r) (give tt) (view_of old) (view_of new) _ none_asked
        (one_noted pool old new (Arena r.place.arena) number (plain (Did.Give r)) noted)
        (give_read number (view_of old).own.number r)

    pub kept_noted : (number : ℕ) → IsNoted pool old new (Cache r.owner r.class) number (plain (Did.Kept r))
        → NotesOn (offer r) nothing (view_of old) (view_of new)
    kept_noted number noted =
        notes_one (offer r) nothing (view_of old) (view_of new) _ none_asked
        (one_noted pool old new (Cache r.owner r.class) number (plain (Did.Kept r)) noted)
        (kept_read number (view_of old).own.number r)

    pub back_noted : (number : ℕ) (why : CacheNo)
        → IsNoted pool old new (Cache r.owner r.class) number (plain (Did.Back r why))
        → NotesOn (offer r) (give_back r) (view_of old) (view_of new)
    back_noted number why noted =
        notes_one (offer r) (give_back r) (view_of old) (view_of new) _ none_asked
        (one_noted pool old new (Cache r.owner r.class) number (plain (Did.Back r why)) noted)
        (back_read number (view_of old).own.number r why)

    pub not_asked : (held : Held) → FoundBusy pool (Cache r.owner r.class) true old new held
        → NotesOn (offer r) (give_back r) (view_of old) (view_of new)
    not_asked held found =
        notes_one (offer r) (give_back r) (view_of old) (view_of new) _ none_asked
        (one_marked pool old new (Cache r.owner r.class) held found) (away_read 0 None r held found.object)

-- ---- A region is obtained, from the cache or else from the arena.

module _ (shape : Shape) (lane class : ℕ) where
  -- the cache was asked, and gave this
  pub obtain_noted : class < cached_classes → (c : Option RegionId) (u v : SeatView)
      → NotesAs (ask_cache lane class) c u v
      → NotesOn (obtain shape lane class) (unless_there c (ask_arena shape lane class)) u v
  obtain_noted less c u v x =
      let rest : Option RegionId → Reader (Option RegionId) = λ got. unless_there got (ask_arena shape lane class) in
      notes_from (ask_cache lane class >>= rest) (rest c) u v (obtain shape lane class)
      (obtain_cached shape lane class less) (notes_given (ask_cache lane class) c rest u v x)

  -- the class has no cache
  pub taken_only : {A : Type 0} (f : Option RegionId → Reader A) → cached_classes ≤ class → (log : Log)
      → (obtain shape lane class >>= f) log ≡ (ask_arena shape lane class >>= f) log
  taken_only f more log = ap (λ o. option_and_then (λ got. f got.0 got.1) o) (obtain_uncached shape lane class more log)
