-- The steps of the end of a root, by what the pool answered.
use Rattle.std.proofs.Common.{◌≡◌, ℕ, ◌<◌, ◌≤◌, List, [], ◌∷◌, true, false, refl, sym, ap, ◌∙◌, subst, arith}
use Rattle.std.specs.Prelude.{map}
use Rattle.std.specs.Global.{Vec}
use Rattle.pool_law.specs.declared.id.Region.{Region}
use Rattle.pool_law.specs.declared.note.CacheNo.{CacheNo}
use Rattle.pool_law.specs.declared.note.Did.{Did}
use Rattle.pool_law.specs.declared.note.Held.{Held}
use Rattle.pool_law.specs.declared.note.Note.{Note}
use Rattle.pool_law.specs.declared.note.Noted.{Noted}
use Rattle.pool_law.specs.declared.note.Object.{Object}
use Rattle.pool_law.specs.declared.note.Object.TheVariants.{Arena, Cache, Bin, Root}
use Rattle.pool_law.specs.declared.note.RefDid.TheVariants.{Vacated}
use Rattle.pool_law.specs.declared.run.Shape.{Shape}
use Rattle.pool_law.specs.Limits.{cached_classes}
use Rattle.handle_bin.specs.Bins.{HandleValue}
use Rattle.pool_table.specs.declared.roots.EndToken.{EndToken}
use Rattle.pool_table.specs.declared.views.Entry.{Entry}
use Rattle.pool_table.specs.declared.views.Entry.TheVariants.{Ref, Busy}
use Rattle.pool_table.specs.declared.views.SeatView.{SeatView}
use Rattle.shared_pool.specs.declared.seat.PoolSeat.{PoolSeat}
use Rattle.shared_pool.specs.SeatViews.{view_of, SameSeat}
use Rattle.shared_pool.specs.declared.pool.SharedPool.{SharedPool}
use Rattle.shared_pool.specs.Closing.{entry_of}
use Rattle.shared_pool.specs.Holding.{HoldsHandle, HoldsRegion}
use Rattle.shared_pool.specs.Notes.{plain}
use Rattle.shared_pool.specs.RootNotes.{end_of, IsNotedWith}
use Rattle.shared_pool.specs.SeatLanes.{lane_of}
use Rattle.shared_pool.specs.Seats.{IsPoolSeat, IsNoted, FoundBusy}
use Rattle.lane_stages.specs.Logs.{HasWritten}
use Rattle.lane_stages.specs.declared.retirement.Ending.{Ending}
use Rattle.lane_stages.specs.declared.retirement.Ending.TheVariants.{Root as EndRoot, Cache as AskCache, Arena as AskArena, Home}
use Rattle.lane_stages.specs.declared.stage_step.StageStep.TheVariants.{More, Held as HeldBack, Done}
use Rattle.seat_work.specs.Hands.{empty_hand, IsHeld, IsRegion}
use Rattle.lane_stages.specs.Endings.{MayEnd, HasEnded, Fits, goes_home, hand_of, left_of, left_after, rest_of, rest_after}
use Rattle.lane_stages.proofs.SeatCounts.{none_added, still_added, vacated_added}
use Rattle.seat_work.proofs.Grown.{Grows, note_at, grows_noted, grows_busy, grows_held, grows_with}
use Rattle.lane_stages.proofs.Grown.{spends}
use Rattle.seat_work.proofs.HandLaws.{held_on}
use Rattle.seat_work.proofs.HandNotes.{handle_goes, region_given, region_kept, region_back, marked_busy, both_come}
use Rattle.seat_work.proofs.Holds.{is_handle, is_region, region_stays}
use Rattle.lane_stages.proofs.LogLaws.{wrote_none}
use Rattle.lane_stages.proofs.NextNotes.{begins_there}
use Rattle.lane_stages.proofs.OneNote.{wrote_note, wrote_mark, wrote_nothing, found_there}
use Rattle.lane_stages.specs.NextNotes.{BeginsAt}
use Rattle.seat_work.specs.Readings.{behind}
use Rattle.lane_stages.specs.Readings.{none_asked}
use Rattle.lane_stages.proofs.ReadLaws.{still_on}
use Rattle.lane_stages.proofs.Readings.{read_end, read_gone}
use Rattle.lane_stages.proofs.RegionReads.{put_uncached, kept_on, back_on, away_busy_on, given_behind}

-- each stage has a note left
pub end_left : (stage : Ending) → 1 ≤ (left_of stage).notes
end_left (EndRoot token) = omega arith
end_left (AskCache region handle) = omega arith
end_left (AskArena region handle) = omega arith
end_left (Home handle) = omega arith

module _ (pool : SharedPool) (old new : PoolSeat) (is : IsPoolSeat pool new)
    (same : SameSeat old new) where
  abbrev shape : Shape
  shape = pool.table.layout.shape

  abbrev lane : ℕ
  lane = lane_of old

  abbrev v : SeatView
  v = view_of old

  abbrev w : SeatView
  w = view_of new

  module _ (number : ℕ) (note : Note) (log later : Vec Note) (adds : HasWritten log later (note ∷ [])) (h : HandleValue)
    where
      module _ (r : Region) where
        pub kept_there : MayEnd pool old (AskCache r h)
            → IsNoted pool old new (Cache r.id.owner r.id.class) number (plain (Did.Kept r.id))
            → note ≡ Note.At (Cache r.id.owner r.id.class) number (Did.Kept r.id) →
            HasEnded pool old new log later (AskCache r h) (More (Home h))
        kept_there may noted it =
            let o : Object = Cache r.id.owner r.id.class in let n : Noted = plain (Did.Kept r.id) in let e : Entry =
            note_at pool old new may.seat_is is o number n in
            let grows : Grows v w (e ∷ []) 0 = grows_noted pool old new may.seat_is is o number n noted in
            record {
              written = note ∷ [];
              log = adds;
              wrote =
                  λ sampler. wrote_note pool old new may.seat_is is same sampler (rest_of shape (AskCache r h))
                  none_asked
                  (rest_after shape (More (Home h))) o number n note noted it (tt, refl)
                  (kept_on number (entry_of e) (goes_home shape h.place) r.id may.fits.2 refl);
              hand =
                  held_on v w (e ∷ []) 0 (hand_of (AskCache r h)) (hand_of (Home h)) grows
                  (region_kept lane number v.own.number (hand_of (Home h)) r.id.owner r.id.class r.id) may.hand;
              fits = may.fits.0;
              again = omega arith;
              counts =
                  λ sampler. still_added (entry_of e)
                  (record { gains = λ q. refl; loses = λ q. refl; needs = λ q. refl; ends = λ q. refl }) refl;
              spends =
                  spends v w (e ∷ []) 0 grows (left_of (AskCache r h)) (left_of (Home h)) (omega arith) (omega arith)
                  (omega arith) (λ to. omega arith);
            }

        pub came_back : (why : CacheNo) → MayEnd pool old (AskCache r h)
            → IsNoted pool old new (Cache r.id.owner r.id.class) number (plain (Did.Back r.id why))
            → note ≡ Note.At (Cache r.id.owner r.id.class) number (Did.Back r.id why) →
            HasEnded pool old new log later (AskCache r h) (More (AskArena r h))
        came_back why may noted it =
            let o : Object = Cache r.id.owner r.id.class in let n : Noted = plain (Did.Back r.id why) in let e : Entry =
            note_at pool old new may.seat_is is o number n in
            let grows : Grows v w (e ∷ []) 0 = grows_noted pool old new may.seat_is is o number n noted in
            record {
              written = note ∷ [];
              log = adds;
              wrote =
                  λ sampler. wrote_note pool old new may.seat_is is same sampler (rest_of shape (AskCache r h))
                  none_asked
                  (rest_after shape (More (AskArena r h))) o number n note noted it (tt, refl)
                  (back_on number (entry_of e) (goes_home shape h.place) r.id may.fits.2 why refl);
              hand =
                  held_on v w (e ∷ []) 0 (hand_of (AskCache r h)) (hand_of (AskArena r h)) grows
                  (region_back lane number v.own.number (hand_of (AskCache r h)) r.id.owner r.id.class r.id why)
                  may.hand;
              fits = (may.fits.0, region_stays pool old new r grows.more.setting may.fits.1);
              again = omega arith;
              counts =
                  λ sampler. still_added (entry_of e)
                  (record { gains = λ q. refl; loses = λ q. refl; needs = λ q. refl; ends = λ q. refl }) refl;
              spends =
                  spends v w (e ∷ []) 0 grows (left_of (AskCache r h)) (left_of (AskArena r h)) (omega arith)
                  (omega arith) (omega arith) (λ to. omega arith);
            }

        pub given_back : MayEnd pool old (AskArena r h)
            → IsNoted pool old new (Arena r.id.place.arena) number (plain (Did.Give r.id))
            → note ≡ Note.At (Arena r.id.place.arena) number (Did.Give r.id) →
            HasEnded pool old new log later (AskArena r h) (More (Home h))
        given_back may noted it =
            let o : Object = Arena r.id.place.arena in let n : Noted = plain (Did.Give r.id) in let e : Entry =
            note_at pool old new may.seat_is is o number n in
            let grows : Grows v w (e ∷ []) 0 = grows_noted pool old new may.seat_is is o number n noted in
            record {
              written = note ∷ [];
              log = adds;
              wrote =
                  λ sampler. wrote_note pool old new may.seat_is is same sampler (rest_of shape (AskArena r h))
                  none_asked
                  (rest_after shape (More (Home h))) o number n note noted it (tt, refl)
                  (given_behind number (entry_of e) (goes_home shape h.place) r.id refl);
              hand =
                  held_on v w (e ∷ []) 0 (hand_of (AskArena r h)) (hand_of (Home h)) grows
                  (region_given lane number v.own.number (hand_of (Home h)) r.id.place.arena r.id) may.hand;
              fits = may.fits.0;
              again = omega arith;
              counts =
                  λ sampler. still_added (entry_of e)
                  (record { gains = λ q. refl; loses = λ q. refl; needs = λ q. refl; ends = λ q. refl }) refl;
              spends =
                  spends v w (e ∷ []) 0 grows (left_of (AskArena r h)) (left_of (Home h)) (omega arith) (omega arith)
                  (omega arith) (λ to. omega arith);
            }

      pub gone_home : MayEnd pool old (Home h) → IsNoted pool old new (Bin h.lane) number (plain (Did.Home h.place))
          → note ≡ Note.At (Bin h.lane) number (Did.Home h.place) → HasEnded pool old new log later (Home h) (Done tt)
      gone_home may noted it =
          let o : Object = Bin h.lane in let n : Noted = plain (Did.Home h.place) in let e : Entry =
          note_at pool old new may.seat_is is o number n in
          let grows : Grows v w (e ∷ []) 0 = grows_noted pool old new may.seat_is is o number n noted in
          record {
            written = note ∷ [];
            log = adds;
            wrote =
                λ sampler. wrote_note pool old new may.seat_is is same sampler (rest_of shape (Home h)) none_asked
                (rest_after shape (Done tt)) o number n note noted it (tt, refl)
                (read_gone shape h.place number (entry_of e) h.lane may.fits.lane refl);
            hand =
                held_on v w (e ∷ []) 0 (hand_of (Home h)) empty_hand grows
                (handle_goes lane number v.own.number (hand_of (Home h)) h.lane h.place) may.hand;
            fits = tt;
            again = omega arith;
            counts =
                λ sampler. still_added (entry_of e)
                (record { gains = λ q. refl; loses = λ q. refl; needs = λ q. refl; ends = λ q. refl }) refl;
            spends =
                spends v w (e ∷ []) 0 grows (left_of (Home h)) (left_after (Done tt)) (omega arith) (omega arith)
                (omega arith)
                (λ to. omega arith);
          }

  -- another lane was in the cache
  pub away_busy : (r : Region) (h : HandleValue) (held : Held) (log later : Vec Note)
      → HasWritten log later (Note.Busy held ∷ []) → MayEnd pool old (AskCache r h)
      → FoundBusy pool (Cache r.id.owner r.id.class) true old new held
      → HasEnded pool old new log later (AskCache r h) (More (AskArena r h))
  away_busy r h held log later adds may found =
      let o : Object = Cache r.id.owner r.id.class in
      let grows : Grows v w (Busy held ∷ []) 0 = grows_busy pool old new may.seat_is is o held found in
      record {
        written = Note.Busy held ∷ [];
        log = adds;
        wrote =
            λ sampler. wrote_mark pool old new may.seat_is is same sampler (rest_of shape (AskCache r h)) none_asked
            (rest_after shape (More (AskArena r h))) o held found
            (away_busy_on 0 (entry_of (Busy held)) (goes_home shape h.place) r.id may.fits.2 held found.object refl);
        hand =
            held_on v w (Busy held ∷ []) 0 (hand_of (AskCache r h)) (hand_of (AskArena r h)) grows
            (marked_busy lane 0 v.own.number (hand_of (AskCache r h)) held) may.hand;
        fits = (may.fits.0, region_stays pool old new r grows.more.setting may.fits.1);
        again = omega arith;
        counts =
            λ sampler. still_added (entry_of (Busy held))
            (record { gains = λ q. refl; loses = λ q. refl; needs = λ q. refl; ends = λ q. refl }) refl;
        spends =
            spends v w (Busy held ∷ []) 0 grows (left_of (AskCache r h)) (left_of (AskArena r h)) (omega arith)
            (omega arith) (omega arith) (λ to. omega arith);
      }

  -- a root ends, and its region is put away
  module _ (token : EndToken) (r : Region) (h : HandleValue) (number : ℕ) (ended vacated : Note) (log later : Vec Note)
      (adds : HasWritten log later (ended ∷ vacated ∷ [])) (may : MayEnd pool old (EndRoot token))
      (noted : IsNotedWith pool old new token.root number (end_of token.root r.id) Vacated v.moves)
      (holds : HoldsRegion pool new r) (handle : HoldsHandle pool new h) (at : h.place ≡ token.root.place)
      (it : ended ≡ Note.At (Root token.root.place) number (Did.End token.root))
      (next_it : vacated ≡ Note.Ref token.root Vacated) where
    abbrev n : Noted
    n = end_of token.root r.id

    abbrev e : Entry
    e = note_at pool old new may.seat_is is (Root token.root.place) number n

    abbrev es : List Entry
    es = e ∷ Ref token.root Vacated ∷ []

    grows : Grows v w es 0
    grows = grows_with pool old new may.seat_is is token.root number n Vacated v.moves 0 noted (omega arith)

    pub root_ended : r.id.class < cached_classes → HasEnded pool old new log later (EndRoot token) (More (AskCache r h))
    root_ended less = record {
      written = ended ∷ vacated ∷ [];
      log = adds;
      wrote = λ sampler. record {
        added = es;
        same = same;
        seat = is;
        more = grows.more;
        noted = λ i. sym it i ∷ sym next_it i ∷ [];
        sampled = (tt, refl);
        read =
            read_end shape h.place number (entry_of e) token.root r.id (entry_of (Ref token.root Vacated)) at refl refl
            refl;
      };
      hand =
          held_on v w es 0 (hand_of (EndRoot token)) (hand_of (AskCache r h)) grows
          (both_come lane number v.own.number empty_hand token.root r.id h.place at) may.hand;
      fits = (is_handle pool new h handle, is_region pool new r holds, less);
      again = omega arith;
      counts =
          λ sampler. vacated_added (entry_of e) token.root
          (record { gains = λ q. refl; loses = λ q. refl; needs = λ q. refl; ends = λ q. refl }) refl;
      spends =
          spends v w es 0 grows (left_of (EndRoot token)) (left_of (AskCache r h)) (omega arith) (omega arith)
          (omega arith) (λ to. omega arith);
    }

    pub root_ended_uncached : cached_classes ≤ r.id.class
        → HasEnded pool old new log later (EndRoot token) (More (AskArena r h))
    root_ended_uncached more = record {
      written = ended ∷ vacated ∷ [];
      log = adds;
      wrote = λ sampler. record {
        added = es;
        same = same;
        seat = is;
        more = grows.more;
        noted = λ i. sym it i ∷ sym next_it i ∷ [];
        sampled = (tt, refl);
        read = λ log.
            read_end shape h.place number (entry_of e) token.root r.id (entry_of (Ref token.root Vacated)) at refl refl
            refl log
            ∙ put_uncached (goes_home shape h.place) r.id more (behind log (map entry_of es) none_asked);
      };
      hand =
          held_on v w es 0 (hand_of (EndRoot token)) (hand_of (AskArena r h)) grows
          (both_come lane number v.own.number empty_hand token.root r.id h.place at) may.hand;
      fits = (is_handle pool new h handle, is_region pool new r holds);
      again = omega arith;
      counts =
          λ sampler. vacated_added (entry_of e) token.root
          (record { gains = λ q. refl; loses = λ q. refl; needs = λ q. refl; ends = λ q. refl }) refl;
      spends =
          spends v w es 0 grows (left_of (EndRoot token)) (left_of (AskArena r h)) (omega arith) (omega arith)
          (omega arith) (λ to. omega arith);
    }

  -- another seat was there, and the same is to be tried again
  pub found_held : (o : Object) (held : Held) (stage again : Ending) (log : Vec Note) → MayEnd pool old stage
      → FoundBusy pool o false old new held → again ≡ stage → Fits pool new stage → BeginsAt o (rest_of shape stage)
      → HasEnded pool old new log log stage (HeldBack held again)
  found_held o held stage again log may found alike fits begins =
      let grows : Grows v w [] 0 = grows_held pool old new may.seat_is is o held found in
      subst (λ (x : Ending). HasEnded pool old new log log stage (HeldBack held x)) (sym alike)
      (record {
        written = [];
        log = wrote_none log;
        wrote =
            λ sampler. wrote_nothing pool old new may.seat_is is same sampler (rest_of shape stage) none_asked
            (rest_of shape stage) o held found (still_on (rest_of shape stage));
        hand = subst (λ (x : SeatView). IsHeld (hand_of stage) x) (sym (ap (λ m. m.0) found.marked)) may.hand;
        fits = fits;
        again = (
          refl,
          refl,
          found_there pool old new may.seat_is is same o false held found,
          begins_there o held (rest_of shape stage) found.object begins,
        );
        counts = λ sampler. none_added;
        spends =
            spends v w [] 0 grows (left_of stage) (left_of stage) (omega arith) (omega arith) (omega arith)
            (λ to. omega arith);
      })

  -- what is in hand is the pool's still
  pub region_still : (o : Object) (held : Held) (r : Region) (stage : Ending) → MayEnd pool old stage
      → FoundBusy pool o false old new held → IsRegion pool old r → IsRegion pool new r
  region_still o held r stage may found =
      region_stays pool old new r (grows_held pool old new may.seat_is is o held found).more.setting
