-- What comes of a root that is given a region to grow into, and of the region that is left over.
use Rattle.std.proofs.Common.{◌≡◌, ℕ, ◌≤◌, [], ◌∷◌, Bool, true, false, refl, ◌∙◌, arith, Option, Some, None, Ok}
use Rattle.std.specs.Prelude.{if◌then◌else◌}
use Rattle.std.specs.Global.{Vec}
use Rattle.pool_law.specs.declared.id.Region.{Region}
use Rattle.pool_law.specs.declared.id.RegionId.{RegionId}
use Rattle.pool_law.specs.declared.id.RootId.{RootId}
use Rattle.pool_law.specs.declared.note.CacheNo.{CacheNo}
use Rattle.pool_law.specs.declared.note.Did.{Did}
use Rattle.pool_law.specs.declared.note.Held.{Held}
use Rattle.pool_law.specs.declared.note.Note.{Note}
use Rattle.pool_law.specs.declared.note.Object.{Object}
use Rattle.pool_law.specs.declared.note.Object.TheVariants as object
use Rattle.pool_law.specs.Limits.{has_cache}
use Rattle.pool_law.specs.Patterns.{grow_with, one_more, put_away}
use Rattle.pool_law.specs.Readers.{◌>>◌, give}
use Rattle.pool_law.proofs.PatternLemmas.{same_root-refl}
use Rattle.pool_table.specs.declared.views.Entry.{Entry}
use Rattle.pool_table.specs.declared.views.Entry.TheVariants.{Busy}
use Rattle.pool_table.specs.declared.views.SeatView.{SeatView}
use Rattle.shared_pool.specs.declared.seat.PoolSeat.{PoolSeat}
use Rattle.shared_pool.specs.declared.pool.SharedPool.{SharedPool}
use Rattle.shared_pool.specs.Closing.{entry_of}
use Rattle.shared_pool.specs.Holding.{HoldsRegion}
use Rattle.shared_pool.specs.Knowing.{KnowsOf}
use Rattle.shared_pool.specs.Notes.{plain}
use Rattle.shared_pool.specs.SeatLanes.{lane_of}
use Rattle.shared_pool.specs.SeatViews.{view_of, SameSeat}
use Rattle.shared_pool.specs.Seats.{IsPoolSeat, IsNoted, FoundBusy}
use Rattle.seat_work.specs.Hands.{Hand, empty_hand, IsRegion}
use Rattle.seat_work.proofs.HandLaws.{Carries}
use Rattle.lane_stages.specs.declared.growing.Growing.TheVariants.{Grow, Put, Give}
use Rattle.lane_stages.specs.declared.growing.Regrown.TheVariants.{Has}
use Rattle.lane_stages.specs.declared.stage_step.StageStep.TheVariants.{More, Done}
use Rattle.lane_stages.specs.Allotments.{left_with}
use Rattle.lane_stages.specs.Budgets.{Spends}
use Rattle.lane_stages.specs.Growings.{MayGrow, HasGrown, Knows, hand_of, left_of, left_after, leaving}
use Rattle.lane_stages.specs.Logs.{HasWritten}
use Rattle.seat_work.specs.Readings.{ReadsOn, behind}
use Rattle.lane_stages.specs.Readings.{none_asked}
use Rattle.lane_stages.proofs.GrowReads.{read_found, read_extended_in, read_grown}
use Rattle.lane_stages.proofs.GrowSteps.{Adds, adds_root, adds_plain, adds_mark, root_entry, plain_entry, known_now, known_still, went}
use Rattle.lane_stages.proofs.Grown.{spends}
use Rattle.lane_stages.proofs.RegionReads.{in_cache, past_caches, put_uncached, kept_on, back_on, away_busy_on, given_behind}
use Rattle.seat_work.proofs.HandNotes.{region_given, region_kept, region_back, marked_busy, root_asked, root_extended, root_moved}
use Rattle.seat_work.proofs.Holds.{is_region, region_stays}

module _ (pool : SharedPool) (old new : PoolSeat) (root : RootId) (size class : ℕ) (is : IsPoolSeat pool new)
    (same : SameSeat old new) where
  abbrev lane : ℕ
  lane = lane_of old

  abbrev v : SeatView
  v = view_of old

  abbrev w : SeatView
  w = view_of new

  -- ---- The root is asked again.

  module _ (r : Region) (may : MayGrow pool old root size class (Grow r)) (number : ℕ) (note : Note)
      (log later : Vec Note) (wrote : HasWritten log later (note ∷ [])) where
    module _ (did : Did) (with : Option RegionId) where
      abbrev asked : Entry
      asked = root_entry pool old new may.seat_is is number note log later wrote root did with

    abbrev hand : RegionId → Hand
    hand id = record empty_hand { region = Some id }

    -- the root has its capacity, and this region is left over
    module _ (k : ℕ) (left : Region) (e : Entry) (adds : Adds v w e log later) (knows : Knows root size k w)
        (region : IsRegion pool new left)
        (read : ReadsOn (grow_with root size (Some r.id)) (entry_of e ∷ []) none_asked
        (put_away left.id >> give (Ok k)))
        (carries : Carries lane (hand r.id) (hand left.id) (e ∷ []))
        (spent : (notes : ℕ) → notes ≤ 2 → Spends v w (left_of (Grow r)) (left_with notes 0 0 0)) where
      over_in : (b : Bool) → has_cache left.id.class ≡ b
          → HasGrown pool old new log later root size class (Grow r) (More (if b then Put k left else Give k left))
      over_in true less =
          went pool old new root size class is same (Grow r) (More (Put k left)) may e log later adds read carries
          (region, in_cache left.id.class less, knows) (omega arith) (spent 2 (omega arith)) (λ n. omega arith)
      over_in false more =
          went pool old new root size class is same (Grow r) (More (Give k left)) may e log later adds
          (λ log. read log
          ∙ put_uncached (give (Ok k)) left.id (past_caches left.id.class more)
          (behind log (entry_of e ∷ []) none_asked)) carries (region, knows) (omega arith) (spent 1 (omega arith))
          (λ n. omega arith)

      left_over : HasGrown pool old new log later root size class (Grow r) (More (leaving k left))
      left_over = over_in (has_cache left.id.class) refl

    -- what is noted, where another region goes with it or none
    abbrev AsksAgain : Did → Option RegionId → Type 0
    AsksAgain did with =
        IsNoted pool old new (object.Root root.place) number
        (record { did = did; lane = None; watch = None; root = Some root; region = with })
        × (note ≡ Note.At (object.Root root.place) number did)

    pub grow_found : (k : ℕ) → AsksAgain (Did.Room size k) None → size ≤ k → KnowsOf pool new root k
        → HoldsRegion pool new r → HasGrown pool old new log later root size class (Grow r) (More (leaving k r))
    grow_found k made le knows holds =
        let e = asked (Did.Room size k) None in
        let adds = adds_root pool old new may.seat_is is number note log later wrote root (Did.Room size k) None refl
        may.fits.0 made.0 made.1 in
        left_over k r e adds (known_now pool new root size k le knows) (is_region pool new r holds)
        (read_found size number root r.id (entry_of e) (same_root-refl root) k le refl)
        (root_asked lane number v.own.number (hand r.id) root size k)
        (λ notes few. spends v w (e ∷ []) 0 adds.grows (left_of (Grow r)) (left_with notes 0 0 0) (omega (arith, few))
        (omega arith) (omega arith) (λ to. omega arith))

    pub grow_extended : AsksAgain (Did.Extend size) None → KnowsOf pool new root size → HoldsRegion pool new r
        → HasGrown pool old new log later root size class (Grow r) (More (leaving size r))
    grow_extended made knows holds =
        let e = asked (Did.Extend size) None in
        let adds = adds_root pool old new may.seat_is is number note log later wrote root (Did.Extend size) None refl
        may.fits.0 made.0 made.1 in
        left_over size r e adds (known_now pool new root size size (omega arith) knows) (is_region pool new r holds)
        (read_extended_in size number root r.id (entry_of e) (same_root-refl root) refl)
        (root_extended lane number v.own.number (hand r.id) root size)
        (λ notes few. spends v w (e ∷ []) 0 adds.grows (left_of (Grow r)) (left_with notes 0 0 0) (omega (arith, few))
        (omega arith) (omega arith) (λ to. omega arith))

    pub grow_replaced : (left : Region) → AsksAgain (Did.Grow size (one_more r.id)) (Some left.id)
        → KnowsOf pool new root size → HoldsRegion pool new left
        → HasGrown pool old new log later root size class (Grow r) (More (leaving size left))
    grow_replaced left made knows holds =
        let did = Did.Grow size (one_more r.id) in let e = asked did (Some left.id) in
        let adds = adds_root pool old new may.seat_is is number note log later wrote root did (Some left.id) refl
        may.fits.0 made.0 made.1 in
        left_over size left e adds (known_now pool new root size size (omega arith) knows)
        (is_region pool new left holds)
        (read_grown size number root r.id (entry_of e) (same_root-refl root) left.id refl refl)
        (root_moved lane number v.own.number empty_hand root size r.id left.id)
        (λ notes few. spends v w (e ∷ []) 0 adds.grows (left_of (Grow r)) (left_with notes 0 0 0) (omega (arith, few))
        (omega arith) (omega arith) (λ to. omega arith))

  -- ---- The region that is left over is put away.

  module _ (k : ℕ) (r : Region) where
    abbrev cache : Object
    cache = object.Cache r.id.owner r.id.class

    module _ (may : MayGrow pool old root size class (Put k r)) where
      module _ (number : ℕ) (note : Note) (log later : Vec Note) (wrote : HasWritten log later (note ∷ [])) where
        pub kept_there : IsNoted pool old new cache number (plain (Did.Kept r.id))
            → note ≡ Note.At cache number (Did.Kept r.id)
            → HasGrown pool old new log later root size class (Put k r) (Done (Has k))
        kept_there noted it =
            let e = plain_entry pool old new may.seat_is is number note log later wrote cache (Did.Kept r.id) in
            let adds = adds_plain pool old new may.seat_is is number note log later wrote cache (Did.Kept r.id) refl
            noted it in
            went pool old new root size class is same (Put k r) (Done (Has k)) may e log later adds
            (kept_on number (entry_of e) (give (Ok k)) r.id may.fits.1 refl)
            (region_kept lane number v.own.number empty_hand r.id.owner r.id.class r.id)
            (known_still v w e log later adds root size k (omega arith) may.fits.2) (omega arith)
            (spends v w (e ∷ []) 0 adds.grows (left_of (Put k r)) (left_after (Done (Has k))) (omega arith)
            (omega arith) (omega arith) (λ to. omega arith))
            (λ n. omega arith)

        pub came_back : (why : CacheNo) → IsNoted pool old new cache number (plain (Did.Back r.id why))
            → note ≡ Note.At cache number (Did.Back r.id why)
            → HasGrown pool old new log later root size class (Put k r) (More (Give k r))
        came_back why noted it =
            let e = plain_entry pool old new may.seat_is is number note log later wrote cache (Did.Back r.id why) in
            let adds = adds_plain pool old new may.seat_is is number note log later wrote cache (Did.Back r.id why) refl
            noted it in
            went pool old new root size class is same (Put k r) (More (Give k r)) may e log later adds
            (back_on number (entry_of e) (give (Ok k)) r.id may.fits.1 why refl)
            (region_back lane number v.own.number (hand_of (Put k r)) r.id.owner r.id.class r.id why) (
              region_stays pool old new r adds.grows.more.setting may.fits.0,
              known_still v w e log later adds root size k (omega arith) may.fits.2,
            ) (omega arith)
            (spends v w (e ∷ []) 0 adds.grows (left_of (Put k r)) (left_of (Give k r)) (omega arith) (omega arith)
            (omega arith) (λ to. omega arith))
            (λ n. omega arith)

      pub away_busy : (held : Held) (log later : Vec Note) → HasWritten log later (Note.Busy held ∷ [])
          → FoundBusy pool cache true old new held
          → HasGrown pool old new log later root size class (Put k r) (More (Give k r))
      away_busy held log later wrote found =
          let e = Busy held in let adds = adds_mark pool old new may.seat_is is cache held log later wrote found in
          went pool old new root size class is same (Put k r) (More (Give k r)) may e log later adds
          (away_busy_on 0 (entry_of e) (give (Ok k)) r.id may.fits.1 held found.object refl)
          (marked_busy lane 0 v.own.number (hand_of (Put k r)) held) (
            region_stays pool old new r adds.grows.more.setting may.fits.0,
            known_still v w e log later adds root size k (omega arith) may.fits.2,
          ) (omega arith)
          (spends v w (e ∷ []) 0 adds.grows (left_of (Put k r)) (left_of (Give k r)) (omega arith) (omega arith)
          (omega arith) (λ to. omega arith))
          (λ n. omega arith)

    pub given_back : (may : MayGrow pool old root size class (Give k r)) (number : ℕ) (note : Note)
        (log later : Vec Note) → HasWritten log later (note ∷ [])
        → IsNoted pool old new (object.Arena r.id.place.arena) number (plain (Did.Give r.id))
        → note ≡ Note.At (object.Arena r.id.place.arena) number (Did.Give r.id)
        → HasGrown pool old new log later root size class (Give k r) (Done (Has k))
    given_back may number note log later wrote noted it =
        let o = object.Arena r.id.place.arena in
        let e = plain_entry pool old new may.seat_is is number note log later wrote o (Did.Give r.id) in
        let adds = adds_plain pool old new may.seat_is is number note log later wrote o (Did.Give r.id) refl noted it in
        went pool old new root size class is same (Give k r) (Done (Has k)) may e log later adds
        (given_behind number (entry_of e) (give (Ok k)) r.id refl)
        (region_given lane number v.own.number empty_hand r.id.place.arena r.id)
        (known_still v w e log later adds root size k (omega arith) may.fits.1) (omega arith)
        (spends v w (e ∷ []) 0 adds.grows (left_of (Give k r)) (left_after (Done (Has k))) (omega arith) (omega arith)
        (omega arith) (λ to. omega arith))
        (λ n. omega arith)
