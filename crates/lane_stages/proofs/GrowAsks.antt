-- What a root that is asked for capacity answers, and the lane's cache and its arena.
use Rattle.std.proofs.Common.{◌≡◌, ℕ, ◌%◌, ◌<◌, ◌≤◌, [], ◌∷◌, Bool, true, false, refl, ◌∙◌, arith, Some, None}
use Rattle.std.specs.Prelude.{if◌then◌else◌}
use Rattle.std.specs.Global.{Vec}
use Rattle.size_classes.specs.Sizes.{class_of}
use Rattle.pool_law.specs.declared.id.Region.{Region}
use Rattle.pool_law.specs.declared.id.RootId.{RootId}
use Rattle.pool_law.specs.declared.note.Did.{Did}
use Rattle.pool_law.specs.declared.note.Held.{Held}
use Rattle.pool_law.specs.declared.note.Note.{Note}
use Rattle.pool_law.specs.declared.note.Object.{Object}
use Rattle.pool_law.specs.declared.note.Object.TheVariants as object
use Rattle.pool_law.specs.declared.run.Shape.{Shape}
use Rattle.pool_law.specs.Limits.{geometry_of, has_cache}
use Rattle.pool_law.specs.Patterns.{grow_with}
use Rattle.pool_law.proofs.PatternLemmas.{same_root-refl}
use Rattle.pool_table.specs.declared.views.Entry.{Entry}
use Rattle.pool_table.specs.declared.views.Entry.TheVariants.{Busy}
use Rattle.pool_table.specs.declared.views.SeatView.{SeatView}
use Rattle.shared_pool.specs.declared.seat.PoolSeat.{PoolSeat}
use Rattle.shared_pool.specs.declared.pool.SharedPool.{SharedPool}
use Rattle.shared_pool.specs.Closing.{entry_of}
use Rattle.shared_pool.specs.Holding.{HoldsRegion}
use Rattle.shared_pool.specs.Knowing.{KnowsOf}
use Rattle.shared_pool.specs.Notes.{plain}
use Rattle.shared_pool.specs.RootNotes.{access}
use Rattle.shared_pool.specs.SeatLanes.{lane_of}
use Rattle.shared_pool.specs.SeatViews.{view_of, SameSeat}
use Rattle.shared_pool.specs.Seats.{IsPoolSeat, IsNoted, FoundBusy}
use Rattle.seat_work.specs.Hands.{empty_hand}
use Rattle.lane_stages.specs.declared.growing.Growing.TheVariants.{Ask, Cache, Arena, Grow}
use Rattle.lane_stages.specs.declared.growing.Regrown.TheVariants.{Has, Full}
use Rattle.lane_stages.specs.declared.stage_step.StageStep.TheVariants.{More, Done}
use Rattle.lane_stages.specs.Growings.{MayGrow, HasGrown, left_of, left_after, obtaining}
use Rattle.lane_stages.specs.Logs.{HasWritten}
use Rattle.seat_work.specs.Readings.{behind}
use Rattle.lane_stages.specs.Readings.{none_asked}
use Rattle.lane_stages.proofs.GrowReads.{read_enough, read_extended, read_short}
use Rattle.lane_stages.proofs.GrowSteps.{Adds, adds_root, adds_plain, adds_mark, root_entry, plain_entry, counted_still, known_now, went}
use Rattle.lane_stages.proofs.Grown.{spends}
use Rattle.lane_stages.proofs.RegionReads.{in_cache, obtain_uncached, past_caches, hit_on, missed_on, busy_on, taken_on, full_on}
use Rattle.seat_work.proofs.HandNotes.{region_taken, arena_full, region_hit, cache_missed, marked_busy, root_asked, root_extended}
use Rattle.seat_work.proofs.Holds.{is_region}

module _ (pool : SharedPool) (old new : PoolSeat) (root : RootId) (size class : ℕ) (is : IsPoolSeat pool new)
    (same : SameSeat old new) where
  abbrev shape : Shape
  shape = pool.table.layout.shape

  abbrev lane : ℕ
  lane = lane_of old

  abbrev v : SeatView
  v = view_of old

  abbrev w : SeatView
  w = view_of new

  -- ---- The root is asked.

  module _ (may : MayGrow pool old root size class Ask) (class_is : class_of (geometry_of shape) size ≡ Some class)
      (number : ℕ) (note : Note) (log later : Vec Note) (wrote : HasWritten log later (note ∷ [])) where
    module _ (did : Did) where
      abbrev asked : Entry
      asked = root_entry pool old new may.seat_is is number note log later wrote root did None

    abbrev AsksFor : Did → Type 0
    AsksFor did =
        IsNoted pool old new (object.Root root.place) number (access root did)
        × (note ≡ Note.At (object.Root root.place) number did)

    told : (k : ℕ) → AsksFor (Did.Room size k) → Adds v w (asked (Did.Room size k)) log later
    told k made =
        adds_root pool old new may.seat_is is number note log later wrote root (Did.Room size k) None refl may.fits
        made.0 made.1

    pub room_enough : (k : ℕ) → AsksFor (Did.Room size k) → size ≤ k → KnowsOf pool new root k
        → HasGrown pool old new log later root size class Ask (Done (Has k))
    room_enough k made le knows =
        let e = asked (Did.Room size k) in let adds = told k made in
        went pool old new root size class is same Ask (Done (Has k)) may e log later adds
        (read_enough shape lane class size number root (entry_of e) (same_root-refl root) class_is k le refl)
        (root_asked lane number v.own.number empty_hand root size k) (known_now pool new root size k le knows)
        (omega arith)
        (spends v w (e ∷ []) 0 adds.grows (left_of Ask) (left_after (Done (Has k))) (omega arith) (omega arith)
        (omega arith) (λ to. omega arith))
        (λ n. omega arith)

    pub room_extended : AsksFor (Did.Extend size) → KnowsOf pool new root size
        → HasGrown pool old new log later root size class Ask (Done (Has size))
    room_extended made knows =
        let e = asked (Did.Extend size) in
        let adds = adds_root pool old new may.seat_is is number note log later wrote root (Did.Extend size) None refl
        may.fits made.0 made.1 in
        went pool old new root size class is same Ask (Done (Has size)) may e log later adds
        (read_extended shape lane class size number root (entry_of e) (same_root-refl root) class_is refl)
        (root_extended lane number v.own.number empty_hand root size)
        (known_now pool new root size size (omega arith) knows) (omega arith)
        (spends v w (e ∷ []) 0 adds.grows (left_of Ask) (left_after (Done (Has size))) (omega arith) (omega arith)
        (omega arith) (λ to. omega arith))
        (λ n. omega arith)

    module _ (k : ℕ) (made : AsksFor (Did.Room size k)) (lt : k < size) where
      abbrev e : Entry
      e = asked (Did.Room size k)

      adds : Adds v w e log later
      adds = told k made

      short_in : (b : Bool) → has_cache class ≡ b
          → HasGrown pool old new log later root size class Ask (More (if b then Cache else Arena))
      short_in true less =
          went pool old new root size class is same Ask (More Cache) may e log later adds
          (read_short shape lane class size number root (entry_of e) (same_root-refl root) class_is k lt refl)
          (root_asked lane number v.own.number empty_hand root size k)
          (counted_still v w e log later adds root may.fits, in_cache class less) (omega arith)
          (spends v w (e ∷ []) 0 adds.grows (left_of Ask) (left_of Cache) (omega arith) (omega arith)
          (omega arith) (λ to. omega arith))
          (λ n. omega arith)
      short_in false more =
          went pool old new root size class is same Ask (More Arena) may e log later adds
          (λ read.
          read_short shape lane class size number root (entry_of e) (same_root-refl root) class_is k lt refl read
          ∙ obtain_uncached shape lane class (grow_with root size) (past_caches class more)
          (behind read (entry_of e ∷ []) none_asked))
          (root_asked lane number v.own.number empty_hand root size k)
          (counted_still v w e log later adds root may.fits) (omega arith)
          (spends v w (e ∷ []) 0 adds.grows (left_of Ask) (left_of Arena) (omega arith) (omega arith)
          (omega arith) (λ to. omega arith))
          (λ n. omega arith)

      pub room_short : HasGrown pool old new log later root size class Ask (More (obtaining class))
      room_short = short_in (has_cache class) refl

  -- ---- The lane's cache is asked.

  module _ (may : MayGrow pool old root size class Cache) where
    abbrev cache : Object
    cache = object.Cache lane class

    module _ (number : ℕ) (note : Note) (log later : Vec Note) (wrote : HasWritten log later (note ∷ [])) where
      pub cache_hit : (r : Region) → IsNoted pool old new cache number (plain (Did.Hit r.id))
          → HoldsRegion pool new r → r.id.class ≡ class → note ≡ Note.At cache number (Did.Hit r.id)
          → HasGrown pool old new log later root size class Cache (More (Grow r))
      cache_hit r noted holds classed it =
          let e = plain_entry pool old new may.seat_is is number note log later wrote cache (Did.Hit r.id) in
          let adds = adds_plain pool old new may.seat_is is number note log later wrote cache (Did.Hit r.id) refl noted
          it in
          went pool old new root size class is same Cache (More (Grow r)) may e log later adds
          (hit_on shape lane class number (entry_of e) (grow_with root size) may.fits.1 r.id refl)
          (region_hit lane number v.own.number empty_hand lane class r.id)
          (counted_still v w e log later adds root may.fits.0, is_region pool new r holds, classed) (omega arith)
          (spends v w (e ∷ []) 0 adds.grows (left_of Cache) (left_of (Grow r)) (omega arith) (omega arith)
          (omega arith) (λ to. omega arith))
          (λ n. omega arith)

      pub cache_empty : IsNoted pool old new cache number (plain Did.Miss) → note ≡ Note.At cache number Did.Miss
          → HasGrown pool old new log later root size class Cache (More Arena)
      cache_empty noted it =
          let e = plain_entry pool old new may.seat_is is number note log later wrote cache Did.Miss in
          let adds = adds_plain pool old new may.seat_is is number note log later wrote cache Did.Miss refl noted it in
          went pool old new root size class is same Cache (More Arena) may e log later adds
          (missed_on shape lane class number (entry_of e) (grow_with root size) may.fits.1 refl)
          (cache_missed lane number v.own.number empty_hand lane class)
          (counted_still v w e log later adds root may.fits.0) (omega arith)
          (spends v w (e ∷ []) 0 adds.grows (left_of Cache) (left_of Arena) (omega arith) (omega arith)
          (omega arith) (λ to. omega arith))
          (λ n. omega arith)

    pub cache_busy : (held : Held) (log later : Vec Note) → HasWritten log later (Note.Busy held ∷ [])
        → FoundBusy pool cache true old new held → HasGrown pool old new log later root size class Cache (More Arena)
    cache_busy held log later wrote found =
        let e = Busy held in let adds = adds_mark pool old new may.seat_is is cache held log later wrote found in
        went pool old new root size class is same Cache (More Arena) may e log later adds
        (busy_on shape lane class 0 (entry_of e) (grow_with root size) may.fits.1 held found.object refl)
        (marked_busy lane 0 v.own.number empty_hand held) (counted_still v w e log later adds root may.fits.0)
        (omega arith)
        (spends v w (e ∷ []) 0 adds.grows (left_of Cache) (left_of Arena) (omega arith) (omega arith)
        (omega arith) (λ to. omega arith))
        (λ n. omega arith)

  -- ---- The lane's arena is asked.

  module _ (may : MayGrow pool old root size class Arena) (number : ℕ) (note : Note) (log later : Vec Note)
      (wrote : HasWritten log later (note ∷ [])) where
    abbrev arena : Object
    arena = object.Arena (lane % shape.arenas)

    pub arena_gave : (r : Region) → IsNoted pool old new arena number (plain (Did.Take class r.id))
        → HoldsRegion pool new r → r.id.class ≡ class → note ≡ Note.At arena number (Did.Take class r.id)
        → HasGrown pool old new log later root size class Arena (More (Grow r))
    arena_gave r noted holds classed it =
        let e = plain_entry pool old new may.seat_is is number note log later wrote arena (Did.Take class r.id) in
        let adds = adds_plain pool old new may.seat_is is number note log later wrote arena (Did.Take class r.id) refl
        noted it in
        went pool old new root size class is same Arena (More (Grow r)) may e log later adds
        (taken_on shape lane class number (entry_of e) (grow_with root size) r.id refl)
        (region_taken lane number v.own.number empty_hand (lane % shape.arenas) class r.id)
        (counted_still v w e log later adds root may.fits, is_region pool new r holds, classed) (omega arith)
        (spends v w (e ∷ []) 0 adds.grows (left_of Arena) (left_of (Grow r)) (omega arith) (omega arith)
        (omega arith) (λ to. omega arith))
        (λ n. omega arith)

    pub arena_was_full : IsNoted pool old new arena number (plain (Did.Full class))
        → note ≡ Note.At arena number (Did.Full class)
        → HasGrown pool old new log later root size class Arena (Done Full)
    arena_was_full noted it =
        let e = plain_entry pool old new may.seat_is is number note log later wrote arena (Did.Full class) in
        let adds = adds_plain pool old new may.seat_is is number note log later wrote arena (Did.Full class) refl noted
        it in
        went pool old new root size class is same Arena (Done Full) may e log later adds
        (full_on shape lane class number (entry_of e) (grow_with root size) refl)
        (arena_full lane number v.own.number empty_hand (lane % shape.arenas) class) tt (omega arith)
        (spends v w (e ∷ []) 0 adds.grows (left_of Arena) (left_after (Done Full)) (omega arith) (omega arith)
        (omega arith) (λ to. omega arith))
        (λ n. omega arith)
