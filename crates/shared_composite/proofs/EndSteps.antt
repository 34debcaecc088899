-- The steps of the end of a root, by what the pool answered.
use Rattle.std.proofs.Common.{◌≡◌, ℕ, ◌+◌, ◌<◌, ◌≤◌, List, [], ◌∷◌, false, true, refl, sym, ap, ◌∙◌, subst, arith}
use Rattle.std.specs.Prelude.{length, map, Option, Some, None, IfSome, IsTrue}
use Rattle.std.specs.List.{list_all}
use Rattle.pool_law.specs.declared.id.Region.{Region}
use Rattle.pool_law.specs.declared.note.CacheNo.{CacheNo}
use Rattle.pool_law.specs.declared.note.Did.{Did}
use Rattle.pool_law.specs.declared.note.Held.{Held}
use Rattle.pool_law.specs.declared.note.Noted.{Noted}
use Rattle.pool_law.specs.declared.note.Object.{Object}
use Rattle.pool_law.specs.declared.note.Object.TheVariants.{Arena, Cache, Bin, Root}
use Rattle.pool_law.specs.declared.note.RefDid.TheVariants.{Vacated}
use Rattle.pool_law.specs.declared.run.Shape.{Shape}
use Rattle.pool_law.specs.Limits.{cached_classes}
use Rattle.pool_law.specs.Same.{same_root}
use Rattle.handle_bin.specs.Bins.{HandleValue}
use Rattle.pool_table.specs.declared.roots.EndToken.{EndToken}
use Rattle.pool_table.specs.declared.views.Entry.{Entry}
use Rattle.pool_table.specs.declared.views.Entry.TheVariants.{Ref, Busy}
use Rattle.pool_table.specs.declared.views.SeatView.{SeatView}
use Rattle.shared_pool.specs.declared.pool.SharedPool.{SharedPool}
use Rattle.shared_pool.specs.declared.seat.PoolSeat.{PoolSeat}
use Rattle.shared_pool.specs.Closing.{entry_of}
use Rattle.shared_pool.specs.Holding.{HoldsHandle, HoldsRegion}
use Rattle.shared_pool.specs.Notes.{plain}
use Rattle.shared_pool.specs.RootNotes.{end_of, IsNotedWith}
use Rattle.shared_pool.specs.SeatLanes.{lane_of}
use Rattle.shared_pool.specs.Seats.{IsPoolSeat, IsNoted, FoundBusy}
use Rattle.shared_pool.specs.SeatViews.{view_of, SameSeat}
use Rattle.seat_work.specs.Changes.{no_change}
use Rattle.seat_work.specs.Growth.{is_quiet_entry}
use Rattle.seat_work.specs.Hands.{Hand, empty_hand}
use Rattle.seat_work.proofs.Counting.{Tells, changes_by}
use Rattle.seat_work.proofs.Grown.{Grows, note_at, grows_noted, grows_busy, grows_with}
use Rattle.seat_work.proofs.HandLaws.{Carries, held_on}
use Rattle.seat_work.proofs.HandNotes.{handle_goes, region_given, region_kept, region_back, marked_busy, both_come, weightless}
use Rattle.lane_stages.specs.declared.retirement.Ending.{Ending}
use Rattle.lane_stages.specs.declared.retirement.Ending.TheVariants.{Root as EndRoot, Cache as AskCache, Arena as AskArena, Home}
use Rattle.lane_stages.specs.declared.stage_step.StageStep.TheVariants.{More, Held as HeldBack, Done}
use Rattle.lane_stages.specs.Endings.{goes_home}
use Rattle.seat_work.specs.Readings.{ReadsOn, behind}
use Rattle.lane_stages.specs.Readings.{none_asked}
use Rattle.lane_stages.specs.Releasings.{hand_in, rest_in}
use Rattle.lane_stages.proofs.Readings.{read_end, read_gone}
use Rattle.lane_stages.proofs.RegionReads.{put_uncached, kept_on, back_on, away_busy_on, given_behind}
use Rattle.shared_composite.specs.Endings.{MayEnd, HasEnded, Ended, Holds, turns_in}
use Rattle.shared_composite.proofs.HandsOnly.{only_on, handle_on, region_on, held_token}

module _ (pool : SharedPool) (old new : PoolSeat) (is : IsPoolSeat pool new) (same : SameSeat old new) where
  abbrev shape : Shape
  shape = pool.table.layout.shape

  abbrev lane : ℕ
  lane = lane_of old

  abbrev v : SeatView
  v = view_of old

  abbrev w : SeatView
  w = view_of new

  -- a step that added these entries
  ended_by : (stage : Ending) (next : Option Ending) (es : List Entry) → MayEnd pool old stage → Grows v w es 0
      → 0 < length es → v.turns + turns_in next ≤ w.turns + turns_in (Some stage)
      → Carries lane (hand_in (Some stage)) (hand_in next) es → Tells no_change es → IfSome next (Holds pool new)
      → ReadsOn (rest_in shape (Some stage)) (map entry_of es) none_asked (rest_in shape next)
      → IsTrue (list_all is_quiet_entry es) → Ended pool old new stage next es
  ended_by stage next es may grows some turns carries tells holds read quiet = record {
    same = same;
    seat = is;
    more = grows.more;
    quiet = quiet;
    some = some;
    turns = turns;
    counts = changes_by no_change v w es 0 grows tells;
    holds = holds;
    only =
        only_on v w es 0 grows (hand_in (Some stage)) (hand_in next) carries (held_token pool old stage may.holds)
        may.only;
    hand = held_on v w es 0 (hand_in (Some stage)) (hand_in next) grows carries;
    read = read;
  }

  module _ (number : ℕ) (h : HandleValue) where
    module _ (r : Region) where
      pub kept_there : MayEnd pool old (AskCache r h)
          → IsNoted pool old new (Cache r.id.owner r.id.class) number (plain (Did.Kept r.id))
          → HasEnded pool old new (AskCache r h) (More (Home h))
      kept_there may noted =
          let o : Object = Cache r.id.owner r.id.class in let n : Noted = plain (Did.Kept r.id) in let e : Entry =
          note_at pool old new may.seat_is is o number n in
          let grows : Grows v w (e ∷ []) 0 = grows_noted pool old new may.seat_is is o number n noted in
          let turns = ap (λ m. m.0.turns) noted.seat in
          let carries : Carries lane (hand_in (Some (AskCache r h))) (hand_in (Some (Home h))) (e ∷ []) =
          region_kept lane number v.own.number (hand_in (Some (Home h))) r.id.owner r.id.class r.id in (
            e ∷ [],
            ended_by (AskCache r h) (Some (Home h)) (e ∷ []) may grows (omega arith) (omega (arith, turns)) carries
                (record { counts = λ root. refl; ended = λ root. refl; empty = refl; full = refl })
                (handle_on pool old new (e ∷ []) 0 grows (hand_in (Some (AskCache r h))) (hand_in (Some (Home h))) h
                carries refl may.holds.1)
                (kept_on number (entry_of e) (goes_home shape h.place) r.id may.holds.2 refl) refl,
          )

      pub came_back : (why : CacheNo) → MayEnd pool old (AskCache r h)
          → IsNoted pool old new (Cache r.id.owner r.id.class) number (plain (Did.Back r.id why))
          → HasEnded pool old new (AskCache r h) (More (AskArena r h))
      came_back why may noted =
          let o : Object = Cache r.id.owner r.id.class in let n : Noted = plain (Did.Back r.id why) in let e : Entry =
          note_at pool old new may.seat_is is o number n in
          let grows : Grows v w (e ∷ []) 0 = grows_noted pool old new may.seat_is is o number n noted in
          let turns = ap (λ m. m.0.turns) noted.seat in let hand : Hand = hand_in (Some (AskCache r h)) in
          let carries : Carries lane hand hand (e ∷ []) =
          region_back lane number v.own.number hand r.id.owner r.id.class r.id why in (
            e ∷ [],
            ended_by (AskCache r h) (Some (AskArena r h)) (e ∷ []) may grows (omega arith) (omega (arith, turns))
                carries (record { counts = λ root. refl; ended = λ root. refl; empty = refl; full = refl }) (
                  region_on pool old new (e ∷ []) 0 grows hand r carries may.holds.0,
                  handle_on pool old new (e ∷ []) 0 grows hand hand h carries refl may.holds.1,
                )
                (back_on number (entry_of e) (goes_home shape h.place) r.id may.holds.2 why refl) refl,
          )

      pub given_back : MayEnd pool old (AskArena r h)
          → IsNoted pool old new (Arena r.id.place.arena) number (plain (Did.Give r.id))
          → HasEnded pool old new (AskArena r h) (More (Home h))
      given_back may noted =
          let o : Object = Arena r.id.place.arena in let n : Noted = plain (Did.Give r.id) in let e : Entry =
          note_at pool old new may.seat_is is o number n in
          let grows : Grows v w (e ∷ []) 0 = grows_noted pool old new may.seat_is is o number n noted in
          let turns = ap (λ m. m.0.turns) noted.seat in
          let carries : Carries lane (hand_in (Some (AskArena r h))) (hand_in (Some (Home h))) (e ∷ []) =
          region_given lane number v.own.number (hand_in (Some (Home h))) r.id.place.arena r.id in (
            e ∷ [],
            ended_by (AskArena r h) (Some (Home h)) (e ∷ []) may grows (omega arith) (omega (arith, turns)) carries
                (record { counts = λ root. refl; ended = λ root. refl; empty = refl; full = refl })
                (handle_on pool old new (e ∷ []) 0 grows (hand_in (Some (AskArena r h))) (hand_in (Some (Home h))) h
                carries refl may.holds.1)
                (given_behind number (entry_of e) (goes_home shape h.place) r.id refl) refl,
          )

    pub gone_home : MayEnd pool old (Home h) → IsNoted pool old new (Bin h.lane) number (plain (Did.Home h.place))
        → HasEnded pool old new (Home h) (Done tt)
    gone_home may noted =
        let o : Object = Bin h.lane in let n : Noted = plain (Did.Home h.place) in let e : Entry =
        note_at pool old new may.seat_is is o number n in
        let grows : Grows v w (e ∷ []) 0 = grows_noted pool old new may.seat_is is o number n noted in
        let turns = ap (λ m. m.0.turns) noted.seat in (
          e ∷ [],
          ended_by (Home h) None (e ∷ []) may grows (omega arith) (omega (arith, turns))
              (handle_goes lane number v.own.number empty_hand h.lane h.place)
              (record { counts = λ root. refl; ended = λ root. refl; empty = refl; full = refl }) tt
              (read_gone shape h.place number (entry_of e) h.lane may.holds.lane refl) refl,
        )

  -- another seat was in the cache
  pub away_busy : (r : Region) (h : HandleValue) (held : Held) → MayEnd pool old (AskCache r h)
      → FoundBusy pool (Cache r.id.owner r.id.class) true old new held
      → HasEnded pool old new (AskCache r h) (More (AskArena r h))
  away_busy r h held may found =
      let o : Object = Cache r.id.owner r.id.class in let hand : Hand = hand_in (Some (AskCache r h)) in
      let grows : Grows v w (Busy held ∷ []) 0 = grows_busy pool old new may.seat_is is o held found in
      let turns = ap (λ m. m.0.turns) found.marked in
      let carries : Carries lane hand hand (Busy held ∷ []) = marked_busy lane 0 v.own.number hand held in (
        Busy held ∷ [],
        ended_by (AskCache r h) (Some (AskArena r h)) (Busy held ∷ []) may grows (omega arith)
            (omega (arith, turns)) carries
            (record { counts = λ root. refl; ended = λ root. refl; empty = refl; full = refl }) (
              region_on pool old new (Busy held ∷ []) 0 grows hand r carries may.holds.0,
              handle_on pool old new (Busy held ∷ []) 0 grows hand hand h carries refl may.holds.1,
            )
            (away_busy_on 0 (entry_of (Busy held)) (goes_home shape h.place) r.id may.holds.2 held found.object refl)
            refl,
      )

  -- a root ends, and its region is put away
  module _ (token : EndToken) (r : Region) (h : HandleValue) (number : ℕ) (may : MayEnd pool old (EndRoot token))
      (noted : IsNotedWith pool old new token.root number (end_of token.root r.id) Vacated v.moves)
      (region : HoldsRegion pool new r) (handle : HoldsHandle pool new h) (at : h.place ≡ token.root.place) where
    abbrev n : Noted
    n = end_of token.root r.id

    abbrev e : Entry
    e = note_at pool old new may.seat_is is (Root token.root.place) number n

    abbrev es : List Entry
    es = e ∷ Ref token.root Vacated ∷ []

    grows : Grows v w es 0
    grows = grows_with pool old new may.seat_is is token.root number n Vacated v.moves 0 noted (omega arith)

    carries : Carries lane (hand_in (Some (EndRoot token))) (hand_in (Some (AskArena r h))) es
    carries = both_come lane number v.own.number empty_hand token.root r.id h.place at

    tells : Tells no_change es
    tells = record {
      counts = λ q. (let b = weightless (same_root token.root q) 0 refl in omega (arith, b));
      ended = λ q. (let b = weightless (same_root token.root q) 0 refl in omega (arith, b));
      empty = refl;
      full = refl;
    }

    reads : ReadsOn (rest_in shape (Some (EndRoot token))) (map entry_of es) none_asked
        (rest_in shape (Some (AskCache r h)))
    reads = read_end shape h.place number (entry_of e) token.root r.id (entry_of (Ref token.root Vacated)) at refl refl
        refl

    pub root_ended : r.id.class < cached_classes → HasEnded pool old new (EndRoot token) (More (AskCache r h))
    root_ended less =
        let turns = ap (λ m. m.0.turns) noted.seat in (
          es,
          ended_by (EndRoot token) (Some (AskCache r h)) es may grows (omega arith) (omega (arith, turns)) carries
              tells (region, handle, less) reads refl,
        )

    pub root_ended_uncached : cached_classes ≤ r.id.class
        → HasEnded pool old new (EndRoot token) (More (AskArena r h))
    root_ended_uncached more =
        let turns = ap (λ m. m.0.turns) noted.seat in (
          es,
          ended_by (EndRoot token) (Some (AskArena r h)) es may grows (omega arith) (omega (arith, turns)) carries
              tells (region, handle) (λ log. reads log
              ∙ put_uncached (goes_home shape h.place) r.id more (behind log (map entry_of es) none_asked))
              refl,
        )

  -- another seat was there, and the same is to be tried again
  pub found_held : (o : Object) (held : Held) (stage again : Ending) → FoundBusy pool o false old new held
      → again ≡ stage → HasEnded pool old new stage (HeldBack held again)
  found_held o held stage again found alike = (
    alike,
    record { same = same; seat = is; view = ap (λ m. m.0) found.marked },
    subst (λ (p : Object). FoundBusy pool p false old new held) (sym found.object) found,
  )
