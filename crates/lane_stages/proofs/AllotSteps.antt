-- The steps of an allocation, by what the pool answered.
use Rattle.std.proofs.Common.{◌≡◌, ℕ, ◌+◌, ◌%◌, ◌<◌, ◌≤◌, List, [], ◌∷◌, true, false, refl, sym, ap, ◌∙◌, subst, arith}
use Rattle.std.specs.Prelude.{⊤, Option, Some, unwrap_or}
use Rattle.size_classes.specs.Sizes.{class_of}
use Rattle.std.specs.Global.{Vec}
use Rattle.pool_law.specs.declared.id.Region.{Region}
use Rattle.pool_law.specs.declared.note.Did.{Did}
use Rattle.pool_law.specs.declared.note.Held.{Held}
use Rattle.pool_law.specs.declared.note.Note.{Note}
use Rattle.pool_law.specs.declared.note.Noted.{Noted}
use Rattle.pool_law.specs.declared.note.Object.{Object}
use Rattle.pool_law.specs.declared.note.Object.TheVariants.{Arena, Cache, Bin}
use Rattle.pool_law.specs.declared.run.Shape.{Shape}
use Rattle.pool_law.specs.Limits.{cached_classes, geometry_of}
use Rattle.pool_law.specs.Patterns.{bear}
use Rattle.leak_records.specs.Records.{Sampling}
use Rattle.handle_bin.specs.Bins.{HandleValue}
use Rattle.pool_table.specs.declared.views.Entry.{Entry}
use Rattle.pool_table.specs.declared.views.Entry.TheVariants.{Busy}
use Rattle.pool_table.specs.declared.views.SeatView.{SeatView}
use Rattle.shared_pool.specs.declared.seat.PoolSeat.{PoolSeat}
use Rattle.shared_pool.specs.SeatViews.{view_of, SameSeat}
use Rattle.shared_pool.specs.declared.pool.SharedPool.{SharedPool}
use Rattle.shared_pool.specs.Closing.{entry_of}
use Rattle.shared_pool.specs.Holding.{HoldsHandle, HoldsRegion}
use Rattle.shared_pool.specs.Notes.{plain}
use Rattle.shared_pool.specs.SeatLanes.{lane_of}
use Rattle.shared_pool.specs.Seats.{IsPoolSeat, IsNoted, FoundBusy}
use Rattle.lane_stages.specs.Logs.{HasWritten}
use Rattle.lane_stages.specs.declared.allotment.Allotting.{Allotting}
use Rattle.lane_stages.specs.declared.allotment.Allotting.TheVariants.{Handle, Cache as AskCache, Arena as AskArena, Birth, Home}
use Rattle.lane_stages.specs.declared.allotment.Allotted.TheVariants.{NoHandle, Full}
use Rattle.lane_stages.specs.declared.stage_step.StageStep.TheVariants.{More, Held as HeldBack, Done}
use Rattle.seat_work.specs.Hands.{empty_hand, IsHeld}
use Rattle.lane_stages.specs.Allotments.{MayAllot, HasAllotted, Fits, IsOwnHandle, hand_of, left_of, left_after, rest_of, rest_after, asks_of}
use Rattle.lane_stages.proofs.SeatCounts.{none_added, still_added}
use Rattle.seat_work.proofs.Grown.{Grows, note_at, grows_noted, grows_busy, grows_held}
use Rattle.lane_stages.proofs.Grown.{spends}
use Rattle.seat_work.proofs.HandLaws.{held_on}
use Rattle.seat_work.proofs.HandNotes.{handle_comes, handle_goes, no_handle, region_taken, arena_full, region_hit, cache_missed, marked_busy}
use Rattle.seat_work.proofs.Holds.{is_handle, is_region}
use Rattle.lane_stages.proofs.LogLaws.{wrote_none}
use Rattle.lane_stages.proofs.NextNotes.{begins_there}
use Rattle.lane_stages.proofs.OneNote.{wrote_note, wrote_mark, wrote_nothing, found_there}
use Rattle.lane_stages.specs.NextNotes.{BeginsAt}
use Rattle.seat_work.specs.Readings.{ReadsOn}
use Rattle.lane_stages.specs.Readings.{none_asked, one_asked}
use Rattle.lane_stages.proofs.ReadLaws.{still_on}
use Rattle.lane_stages.proofs.Readings.{read_no_handle, read_handle, read_handle_uncached, read_home}
use Rattle.lane_stages.proofs.RegionReads.{hit_on, missed_on, busy_on, taken_on, full_on}

-- each stage has a note left
pub allot_left : (stage : Allotting) → 1 ≤ (left_of stage).notes
allot_left Handle = omega arith
allot_left (AskCache handle) = omega arith
allot_left (AskArena handle) = omega arith
allot_left (Birth handle region) = omega arith
allot_left (Home handle) = omega arith

-- the step at this stage asks no cache
abbrev pub IsUnasked : Allotting → Type 0
IsUnasked (AskCache handle) = ⊥
IsUnasked _ = ⊤

module _ (pool : SharedPool) (old new : PoolSeat) (class : ℕ)
    (is : IsPoolSeat pool new) (same : SameSeat old new) where
  abbrev shape : Shape
  shape = pool.table.layout.shape

  abbrev lane : ℕ
  lane = lane_of old

  abbrev v : SeatView
  v = view_of old

  abbrev w : SeatView
  w = view_of new

  -- a handle that was the seat's own is so still
  pub own_still : (h : HandleValue) (es : List Entry) (spent : ℕ) → Grows v w es spent → IsOwnHandle pool old h
      → IsOwnHandle pool new h
  own_still h es spent grows own = (own.0, own.1 ∙ sym (ap (λ (x : Option ℕ). unwrap_or x 0) grows.more.number))

  module _ (number : ℕ) (note : Note) (log later : Vec Note) (adds : HasWritten log later (note ∷ []))
      (sampler : Sampling) (size : ℕ) where
    pub asked_none : MayAllot pool old class Handle → IsNoted pool old new (Bin lane) number (plain Did.NoHandle)
        → note ≡ Note.At (Bin lane) number Did.NoHandle →
        HasAllotted pool old new sampler sampler log later size class Handle (Done NoHandle)
    asked_none may noted it =
        let n : Noted = plain Did.NoHandle in let e : Entry = note_at pool old new may.seat_is is (Bin lane) number n in
        let grows : Grows v w (e ∷ []) 0 = grows_noted pool old new may.seat_is is (Bin lane) number n noted in
        record {
          written = note ∷ [];
          log = adds;
          wrote =
              wrote_note pool old new may.seat_is is same sampler (rest_of shape lane size class Handle) none_asked
              (rest_after shape lane size class (Done NoHandle)) (Bin lane) number n note noted it (tt, refl)
              (read_no_handle shape lane size class 0 number (entry_of e) refl);
          hand =
              held_on v w (e ∷ []) 0 empty_hand empty_hand grows (no_handle lane number v.own.number empty_hand lane)
              may.hand;
          fits = tt;
          again = omega arith;
          counts =
              still_added (entry_of e) (record
              { gains = λ q. refl; loses = λ q. refl; needs = λ q. refl; ends = λ q. refl }) refl;
          place = tt;
          spends =
              spends v w (e ∷ []) 0 grows (left_of Handle) (left_after (Done NoHandle)) (omega arith) (omega arith)
              (omega arith) (λ to. omega arith);
          asked = λ n. omega arith;
        }

    module _ (h : HandleValue) where
      pub asked_handle : class_of (geometry_of shape) size ≡ Some class → class < cached_classes
          → MayAllot pool old class Handle → IsNoted pool old new (Bin lane) number (plain (Did.Handle h.place))
          → HoldsHandle pool new h → h.lane ≡ lane → note ≡ Note.At (Bin lane) number (Did.Handle h.place) →
          HasAllotted pool old new sampler sampler log later size class Handle (More (AskCache h))
      asked_handle class_is less may noted holds own it =
          let n : Noted = plain (Did.Handle h.place) in let e : Entry =
          note_at pool old new may.seat_is is (Bin lane) number n in
          let grows : Grows v w (e ∷ []) 0 = grows_noted pool old new may.seat_is is (Bin lane) number n noted in
          record {
            written = note ∷ [];
            log = adds;
            wrote =
                wrote_note pool old new may.seat_is is same sampler (rest_of shape lane size class Handle) none_asked
                (rest_after shape lane size class (More (AskCache h))) (Bin lane) number n note noted it (tt, refl)
                (read_handle shape lane size class h.place number (entry_of e) class_is refl);
            hand =
                held_on v w (e ∷ []) 0 empty_hand (hand_of (AskCache h)) grows
                (handle_comes lane number v.own.number empty_hand lane h.place) may.hand;
            fits = (own_still h (e ∷ []) 0 grows (is_handle pool new h holds, own), less);
            again = omega arith;
            counts =
                still_added (entry_of e) (record
                { gains = λ q. refl; loses = λ q. refl; needs = λ q. refl; ends = λ q. refl }) refl;
            place = tt;
            spends =
                spends v w (e ∷ []) 0 grows (left_of Handle) (left_of (AskCache h)) (omega arith) (omega arith)
                (omega arith) (λ to. omega arith);
            asked = λ n. omega arith;
          }

      pub asked_handle_uncached : class_of (geometry_of shape) size ≡ Some class → cached_classes ≤ class
          → MayAllot pool old class Handle → IsNoted pool old new (Bin lane) number (plain (Did.Handle h.place))
          → HoldsHandle pool new h → h.lane ≡ lane → note ≡ Note.At (Bin lane) number (Did.Handle h.place) →
          HasAllotted pool old new sampler sampler log later size class Handle (More (AskArena h))
      asked_handle_uncached class_is more may noted holds own it =
          let n : Noted = plain (Did.Handle h.place) in let e : Entry =
          note_at pool old new may.seat_is is (Bin lane) number n in
          let grows : Grows v w (e ∷ []) 0 = grows_noted pool old new may.seat_is is (Bin lane) number n noted in
          record {
            written = note ∷ [];
            log = adds;
            wrote =
                wrote_note pool old new may.seat_is is same sampler (rest_of shape lane size class Handle) none_asked
                (rest_after shape lane size class (More (AskArena h))) (Bin lane) number n note noted it (tt, refl)
                (read_handle_uncached shape lane size class h.place number (entry_of e) class_is refl more);
            hand =
                held_on v w (e ∷ []) 0 empty_hand (hand_of (AskArena h)) grows
                (handle_comes lane number v.own.number empty_hand lane h.place) may.hand;
            fits = own_still h (e ∷ []) 0 grows (is_handle pool new h holds, own);
            again = omega arith;
            counts =
                still_added (entry_of e) (record
                { gains = λ q. refl; loses = λ q. refl; needs = λ q. refl; ends = λ q. refl }) refl;
            place = tt;
            spends =
                spends v w (e ∷ []) 0 grows (left_of Handle) (left_of (AskArena h)) (omega arith) (omega arith)
                (omega arith) (λ to. omega arith);
            asked = λ n. omega arith;
          }

      pub cache_hit : (r : Region) → MayAllot pool old class (AskCache h)
          → IsNoted pool old new (Cache lane class) number (plain (Did.Hit r.id)) → HoldsRegion pool new r
          → r.id.class ≡ class → note ≡ Note.At (Cache lane class) number (Did.Hit r.id) →
          HasAllotted pool old new sampler sampler log later size class (AskCache h) (More (Birth h r))
      cache_hit r may noted holds classed it =
          let o : Object = Cache lane class in let n : Noted = plain (Did.Hit r.id) in let e : Entry =
          note_at pool old new may.seat_is is o number n in
          let grows : Grows v w (e ∷ []) 0 = grows_noted pool old new may.seat_is is o number n noted in
          record {
            written = note ∷ [];
            log = adds;
            wrote =
                wrote_note pool old new may.seat_is is same sampler (rest_of shape lane size class (AskCache h))
                one_asked (rest_after shape lane size class (More (Birth h r))) o number n note noted it (tt, refl)
                (hit_on shape lane class number (entry_of e) (bear lane h.place size) may.fits.1 r.id refl);
            hand =
                held_on v w (e ∷ []) 0 (hand_of (AskCache h)) (hand_of (Birth h r)) grows
                (region_hit lane number v.own.number (hand_of (AskCache h)) lane class r.id) may.hand;
            fits = (may.fits.0.0, is_region pool new r holds, classed);
            again = omega arith;
            counts =
                still_added (entry_of e) (record
                { gains = λ q. refl; loses = λ q. refl; needs = λ q. refl; ends = λ q. refl }) refl;
            place = tt;
            spends =
                spends v w (e ∷ []) 0 grows (left_of (AskCache h)) (left_of (Birth h r)) (omega arith) (omega arith)
                (omega arith) (λ to. omega arith);
            asked = λ n. omega arith;
          }

      pub cache_empty : MayAllot pool old class (AskCache h)
          → IsNoted pool old new (Cache lane class) number (plain Did.Miss)
          → note ≡ Note.At (Cache lane class) number Did.Miss →
          HasAllotted pool old new sampler sampler log later size class (AskCache h) (More (AskArena h))
      cache_empty may noted it =
          let o : Object = Cache lane class in let n : Noted = plain Did.Miss in let e : Entry =
          note_at pool old new may.seat_is is o number n in
          let grows : Grows v w (e ∷ []) 0 = grows_noted pool old new may.seat_is is o number n noted in
          record {
            written = note ∷ [];
            log = adds;
            wrote =
                wrote_note pool old new may.seat_is is same sampler (rest_of shape lane size class (AskCache h))
                one_asked (rest_after shape lane size class (More (AskArena h))) o number n note noted it (tt, refl)
                (missed_on shape lane class number (entry_of e) (bear lane h.place size) may.fits.1 refl);
            hand =
                held_on v w (e ∷ []) 0 (hand_of (AskCache h)) (hand_of (AskArena h)) grows
                (cache_missed lane number v.own.number (hand_of (AskCache h)) lane class) may.hand;
            fits = own_still h (e ∷ []) 0 grows may.fits.0;
            again = omega arith;
            counts =
                still_added (entry_of e) (record
                { gains = λ q. refl; loses = λ q. refl; needs = λ q. refl; ends = λ q. refl }) refl;
            place = tt;
            spends =
                spends v w (e ∷ []) 0 grows (left_of (AskCache h)) (left_of (AskArena h)) (omega arith) (omega arith)
                (omega arith) (λ to. omega arith);
            asked = λ n. omega arith;
          }

      pub arena_gave : (r : Region) → MayAllot pool old class (AskArena h)
          → IsNoted pool old new (Arena (lane % shape.arenas)) number (plain (Did.Take class r.id))
          → HoldsRegion pool new r → r.id.class ≡ class →
          note ≡ Note.At (Arena (lane % shape.arenas)) number (Did.Take class r.id)
          → HasAllotted pool old new sampler sampler log later size class (AskArena h) (More (Birth h r))
      arena_gave r may noted holds classed it =
          let o : Object = Arena (lane % shape.arenas) in let n : Noted = plain (Did.Take class r.id) in let e : Entry =
          note_at pool old new may.seat_is is o number n in
          let grows : Grows v w (e ∷ []) 0 = grows_noted pool old new may.seat_is is o number n noted in
          record {
            written = note ∷ [];
            log = adds;
            wrote =
                wrote_note pool old new may.seat_is is same sampler (rest_of shape lane size class (AskArena h))
                none_asked (rest_after shape lane size class (More (Birth h r))) o number n note noted it (tt, refl)
                (taken_on shape lane class number (entry_of e) (bear lane h.place size) r.id refl);
            hand =
                held_on v w (e ∷ []) 0 (hand_of (AskArena h)) (hand_of (Birth h r)) grows
                (region_taken lane number v.own.number (hand_of (AskArena h)) (lane % shape.arenas) class r.id)
                may.hand;
            fits = (may.fits.0, is_region pool new r holds, classed);
            again = omega arith;
            counts =
                still_added (entry_of e) (record
                { gains = λ q. refl; loses = λ q. refl; needs = λ q. refl; ends = λ q. refl }) refl;
            place = tt;
            spends =
                spends v w (e ∷ []) 0 grows (left_of (AskArena h)) (left_of (Birth h r)) (omega arith) (omega arith)
                (omega arith) (λ to. omega arith);
            asked = λ n. omega arith;
          }

      pub arena_was_full : MayAllot pool old class (AskArena h)
          → IsNoted pool old new (Arena (lane % shape.arenas)) number (plain (Did.Full class))
          → note ≡ Note.At (Arena (lane % shape.arenas)) number (Did.Full class) →
          HasAllotted pool old new sampler sampler log later size class (AskArena h) (More (Home h))
      arena_was_full may noted it =
          let o : Object = Arena (lane % shape.arenas) in let n : Noted = plain (Did.Full class) in let e : Entry =
          note_at pool old new may.seat_is is o number n in
          let grows : Grows v w (e ∷ []) 0 = grows_noted pool old new may.seat_is is o number n noted in
          record {
            written = note ∷ [];
            log = adds;
            wrote =
                wrote_note pool old new may.seat_is is same sampler (rest_of shape lane size class (AskArena h))
                none_asked (rest_after shape lane size class (More (Home h))) o number n note noted it (tt, refl)
                (full_on shape lane class number (entry_of e) (bear lane h.place size) refl);
            hand =
                held_on v w (e ∷ []) 0 (hand_of (AskArena h)) (hand_of (Home h)) grows
                (arena_full lane number v.own.number (hand_of (AskArena h)) (lane % shape.arenas) class) may.hand;
            fits = own_still h (e ∷ []) 0 grows may.fits;
            again = omega arith;
            counts =
                still_added (entry_of e) (record
                { gains = λ q. refl; loses = λ q. refl; needs = λ q. refl; ends = λ q. refl }) refl;
            place = tt;
            spends =
                spends v w (e ∷ []) 0 grows (left_of (AskArena h)) (left_of (Home h)) (omega arith) (omega arith)
                (omega arith) (λ to. omega arith);
            asked = λ n. omega arith;
          }

      pub went_home : MayAllot pool old class (Home h)
          → IsNoted pool old new (Bin h.lane) number (plain (Did.Home h.place))
          → note ≡ Note.At (Bin h.lane) number (Did.Home h.place) →
          HasAllotted pool old new sampler sampler log later size class (Home h) (Done Full)
      went_home may noted it =
          let o : Object = Bin h.lane in let n : Noted = plain (Did.Home h.place) in let e : Entry =
          note_at pool old new may.seat_is is o number n in
          let grows : Grows v w (e ∷ []) 0 = grows_noted pool old new may.seat_is is o number n noted in
          record {
            written = note ∷ [];
            log = adds;
            wrote =
                wrote_note pool old new may.seat_is is same sampler (rest_of shape lane size class (Home h)) none_asked
                (rest_after shape lane size class (Done Full)) o number n note noted it (tt, refl)
                (read_home shape lane size class h.place number (entry_of e) h.lane may.fits.1 refl);
            hand =
                held_on v w (e ∷ []) 0 (hand_of (Home h)) empty_hand grows
                (handle_goes lane number v.own.number (hand_of (Home h)) h.lane h.place) may.hand;
            fits = tt;
            again = omega arith;
            counts =
                still_added (entry_of e) (record
                { gains = λ q. refl; loses = λ q. refl; needs = λ q. refl; ends = λ q. refl }) refl;
            place = tt;
            spends =
                spends v w (e ∷ []) 0 grows (left_of (Home h)) (left_after (Done Full)) (omega arith) (omega arith)
                (omega arith) (λ to. omega arith);
            asked = λ n. omega arith;
          }

  -- another lane was in the cache
  pub cache_busy : (h : HandleValue) (held : Held) (log later : Vec Note) → HasWritten log later (Note.Busy held ∷ [])
      → (sampler : Sampling) (size : ℕ) → MayAllot pool old class (AskCache h)
      → FoundBusy pool (Cache lane class) true old new held →
      HasAllotted pool old new sampler sampler log later size class (AskCache h) (More (AskArena h))
  cache_busy h held log later adds sampler size may found =
      let grows : Grows v w (Busy held ∷ []) 0 = grows_busy pool old new may.seat_is is (Cache lane class) held found in
      record {
        written = Note.Busy held ∷ [];
        log = adds;
        wrote =
            wrote_mark pool old new may.seat_is is same sampler (rest_of shape lane size class (AskCache h)) one_asked
            (rest_after shape lane size class (More (AskArena h))) (Cache lane class) held found
            (busy_on shape lane class 0 (entry_of (Busy held)) (bear lane h.place size) may.fits.1 held found.object
            refl);
        hand =
            held_on v w (Busy held ∷ []) 0 (hand_of (AskCache h)) (hand_of (AskArena h)) grows
            (marked_busy lane 0 v.own.number (hand_of (AskCache h)) held) may.hand;
        fits = own_still h (Busy held ∷ []) 0 grows may.fits.0;
        again = omega arith;
        counts =
            still_added (entry_of (Busy held))
            (record { gains = λ q. refl; loses = λ q. refl; needs = λ q. refl; ends = λ q. refl }) refl;
        place = tt;
        spends =
            spends v w (Busy held ∷ []) 0 grows (left_of (AskCache h)) (left_of (AskArena h)) (omega arith)
            (omega arith) (omega arith) (λ to. omega arith);
        asked = λ n. omega arith;
      }

  still_asked : (stage : Allotting) → IsUnasked stage → (n : ℕ)
      → (left_of stage).asks + asks_of stage n ≤ (left_of stage).asks + n
  still_asked Handle un n = omega arith
  still_asked (AskCache h) un n = absurd un
  still_asked (AskArena h) un n = omega arith
  still_asked (Birth h r) un n = omega arith
  still_asked (Home h) un n = omega arith

  -- where no cache is asked, the same is read of no notes
  still_at : (size : ℕ) (stage : Allotting) → IsUnasked stage
      → ReadsOn (rest_of shape lane size class stage) [] (asks_of stage) (rest_of shape lane size class stage)
  still_at size Handle un = still_on (rest_of shape lane size class Handle)
  still_at size (AskCache h) un = absurd un
  still_at size (AskArena h) un = still_on (rest_of shape lane size class (AskArena h))
  still_at size (Birth h r) un = still_on (rest_of shape lane size class (Birth h r))
  still_at size (Home h) un = still_on (rest_of shape lane size class (Home h))

  -- another seat was there, and the same is to be tried again
  pub found_held : (o : Object) (held : Held) (stage again : Allotting) (log : Vec Note) (sampler : Sampling) (size : ℕ)
      → IsUnasked stage → MayAllot pool old class stage → FoundBusy pool o false old new held → again ≡ stage
      → Fits pool new class stage → BeginsAt o (rest_of shape lane size class stage) →
      HasAllotted pool old new sampler sampler log log size class stage (HeldBack held again)
  found_held o held stage again log sampler size unasked may found alike fits begins =
      let grows : Grows v w [] 0 = grows_held pool old new may.seat_is is o held found in
      subst (λ (x : Allotting). HasAllotted pool old new sampler sampler log log size class stage (HeldBack held x))
      (sym alike)
      (record {
        written = [];
        log = wrote_none log;
        wrote =
            wrote_nothing pool old new may.seat_is is same sampler (rest_of shape lane size class stage) (asks_of stage)
            (rest_of shape lane size class stage) o held found (still_at size stage unasked);
        hand = subst (λ (x : SeatView). IsHeld (hand_of stage) x) (sym (ap (λ m. m.0) found.marked)) may.hand;
        fits = fits;
        again = (
          refl,
          refl,
          found_there pool old new may.seat_is is same o false held found,
          begins_there o held (rest_of shape lane size class stage) found.object begins,
        );
        counts = none_added;
        place = tt;
        spends =
            spends v w [] 0 grows (left_of stage) (left_of stage) (omega arith) (omega arith) (omega arith)
            (λ to. omega arith);
        asked = still_asked stage unasked;
      })
