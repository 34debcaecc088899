-- What each call of the pool leaves to a seat that works.
use Rattle.std.proofs.Common.{◌≡◌, ℕ, ◌+◌, ◌-◌, ◌<◌, ◌≤◌, List, [], ◌∷◌, Bool, true, false, Option, Some, None, refl, ap, arith}
use Rattle.std.specs.Prelude.{IfSome}
use Rattle.handle_bin.specs.Bins.{HandleValue}
use Rattle.pool_arena.specs.Standing.{taken_or_full}
use Rattle.pool_law.specs.declared.id.Region.{Region}
use Rattle.pool_law.specs.declared.id.RegionId.{RegionId}
use Rattle.pool_law.specs.declared.id.RootId.{RootId}
use Rattle.pool_law.specs.declared.note.CacheNo.{CacheNo}
use Rattle.pool_law.specs.declared.note.Did.{Did}
use Rattle.pool_law.specs.declared.note.Held.{Held}
use Rattle.pool_law.specs.declared.note.Noted.{Noted}
use Rattle.pool_law.specs.declared.note.Object.{Object}
use Rattle.pool_law.specs.declared.note.Object.TheVariants.{Arena, Cache, Bin, Root}
use Rattle.pool_law.specs.declared.note.RefDid.{RefDid}
use Rattle.pool_law.specs.declared.note.RefDid.TheVariants.{Born, Retain, Kept, Ended, Vacated}
use Rattle.pool_law.specs.declared.report.Watch.{Watch}
use Rattle.pool_law.specs.Naming.{noted_by}
use Rattle.pool_law.specs.Same.{same_root}
use Rattle.shared_pool.specs.declared.seat.PoolSeat.{PoolSeat}
use Rattle.pool_table.specs.declared.views.Entry.{Entry}
use Rattle.pool_table.specs.declared.views.Entry.TheVariants.{At, Ref, Busy}
use Rattle.pool_table.specs.declared.views.SeatView.{SeatView}
use Rattle.pool_table.specs.Counts.{HasCount, with_ref}
use Rattle.shared_pool.specs.SeatViews.{view_of, HasView}
use Rattle.shared_pool.specs.declared.pool.SharedPool.{SharedPool}
use Rattle.shared_pool.specs.Holding.{HoldsRegion, HoldsHandle}
use Rattle.shared_pool.specs.Notes.{plain, popped, hit}
use Rattle.pool_table.specs.Letters.{sent_on}
use Rattle.shared_pool.specs.RootNotes.{birth, end_of, IsNotedWith}
use Rattle.shared_pool.specs.SeatLanes.{lane_of}
use Rattle.shared_pool.specs.Seats.{IsPoolSeat, IsNoted, FoundBusy}
use Rattle.seat_work.specs.Hands.{Hand, empty_hand, IsHandle, IsRegion, lane_in}
use Rattle.seat_work.specs.Changes.{Holds, Change, no_change, once_more, once_less}
use Rattle.seat_work.specs.Works.{Works, Proceeds}
use Rattle.seat_work.specs.Answers.{with_place, with_both, with_token, hand_got, hand_with, handle_told, region_told}
use Rattle.seat_work.proofs.Counting.{Tells, holds_one, one_as}
use Rattle.seat_work.proofs.Grown.{grows_noted, grows_busy, grows_with, grows_ref}
use Rattle.seat_work.proofs.HandLaws.{Carries}
use Rattle.seat_work.proofs.HandNotes.{handle_comes, handle_goes, no_handle, region_taken, arena_full, region_given, region_hit, cache_missed, region_kept, region_back, marked_busy, both_born, both_come, ref_carries, ended_carries, weightless}
use Rattle.seat_work.proofs.Holds.{is_handle, is_region}
use Rattle.seat_work.proofs.Proceeding.{proceeds_by}

-- ---- What comes is the pool's.

module _ (pool : SharedPool) (new : PoolSeat) where
  pub some_handle : (o : Option HandleValue) (lane : ℕ) → IfSome o (λ h. HoldsHandle pool new h × (h.lane ≡ lane))
      → IfSome o (IsHandle pool)
  some_handle None lane holds = tt
  some_handle (Some h) lane holds = is_handle pool new h holds.0

  pub hit_region : (o : Option Region) (lane class : ℕ)
      → IfSome o (λ r. HoldsRegion pool new r × (r.id.owner ≡ lane) × (r.id.class ≡ class))
      → IfSome o (λ r. IsRegion pool new r × (r.id.class ≡ class))
  hit_region None lane class holds = tt
  hit_region (Some r) lane class holds = (is_region pool new r holds.0, holds.2)

  pub taken_region : (o : Option Region) (lane class : ℕ)
      → IfSome o (λ r. HoldsRegion pool new r × (r.id.owner ≡ lane) × (r.id.class ≡ class) × (r.id.uses ≡ 0))
      → IfSome o (λ r. IsRegion pool new r × (r.id.class ≡ class))
  taken_region None lane class holds = tt
  taken_region (Some r) lane class holds = (is_region pool new r holds.0, holds.2)

-- ---- Calls that make one note.

module _ (pool : SharedPool) (old new : PoolSeat) (is : IsPoolSeat pool new)
    (number : ℕ) where
  abbrev v : SeatView
  v = view_of old

  abbrev entries : Object → Noted → List Entry
  entries o n = At o number (noted_by v.own.number n) ∷ []

  -- a note that tells of no count's end
  pub proceeds_noted : (before after : Hand) (c : Change) (o : Object) (n : Noted) → Works pool before 1 0 old
      → IsNoted pool old new o number n → Carries (lane_in v) before after (entries o n) → Tells c (entries o n)
      → Holds c.gone v → ((to : ℕ) → sent_on (lane_in v) to (entries o n) ≤ 0) → Proceeds pool after 1 0 c old new
  proceeds_noted before after c o n works noted carries tells holds unsent =
      let turns = ap (λ m. m.0.turns) noted.seat in
      proceeds_by pool before after 1 0 old new works is c (entries o n) 1 0
      (grows_noted pool old new works.seat is o number n noted) (omega (arith, turns)) carries tells holds unsent

  -- a note that tells nothing
  pub quiet : (before after : Hand) (o : Object) (n : Noted) → Works pool before 1 0 old
      → IsNoted pool old new o number n → Carries (lane_in v) before after (entries o n) → Tells no_change (entries o n)
      → ((to : ℕ) → sent_on (lane_in v) to (entries o n) ≤ 0) → Proceeds pool after 1 0 no_change old new
  quiet before after o n works noted carries tells unsent =
      proceeds_noted before after no_change o n works noted carries tells works.paid unsent

  pub popped_handle : (o : Option HandleValue) → Works pool empty_hand 1 0 old
      → IsNoted pool old new (Bin (lane_of old)) number (plain (popped o))
      → Proceeds pool (hand_got o) 1 0 (handle_told o) old new
  popped_handle None works noted =
      proceeds_noted empty_hand empty_hand (handle_told None) (Bin (lane_of old)) (plain Did.NoHandle) works noted
      (no_handle (lane_in v) number v.own.number empty_hand (lane_of old))
      (record { counts = λ root. refl; ended = λ root. refl; empty = refl; full = refl }) works.paid (λ to. omega arith)
  popped_handle (Some h) works noted =
      quiet empty_hand (with_place h.place) (Bin (lane_of old)) (plain (Did.Handle h.place)) works noted
      (handle_comes (lane_in v) number v.own.number empty_hand (lane_of old) h.place)
      (record { counts = λ root. refl; ended = λ root. refl; empty = refl; full = refl }) (λ to. omega arith)

  pub handle_home : (h : HandleValue) → Works pool (with_place h.place) 1 0 old
      → IsNoted pool old new (Bin h.lane) number (plain (Did.Home h.place))
      → Proceeds pool empty_hand 1 0 no_change old new
  handle_home h works noted =
      quiet (with_place h.place) empty_hand (Bin h.lane) (plain (Did.Home h.place)) works noted
      (handle_goes (lane_in v) number v.own.number empty_hand h.lane h.place)
      (record { counts = λ root. refl; ended = λ root. refl; empty = refl; full = refl }) (λ to. omega arith)

  -- ---- A region, beside the handle of a place or none.

  module _ (place : Option ℕ) where
    abbrev at_place : Hand
    at_place = hand_with place None

    pub popped_region : (class : ℕ) (o : Option Region) → Works pool at_place 1 0 old
        → IsNoted pool old new (Cache (lane_of old) class) number (plain (hit o))
        → Proceeds pool (hand_with place o) 1 0 no_change old new
    popped_region class None works noted =
        quiet at_place at_place (Cache (lane_of old) class) (plain Did.Miss) works noted
        (cache_missed (lane_in v) number v.own.number at_place (lane_of old) class)
        (record { counts = λ root. refl; ended = λ root. refl; empty = refl; full = refl }) (λ to. omega arith)
    popped_region class (Some r) works noted =
        quiet at_place (hand_with place (Some r)) (Cache (lane_of old) class) (plain (Did.Hit r.id)) works noted
        (region_hit (lane_in v) number v.own.number at_place (lane_of old) class r.id)
        (record { counts = λ root. refl; ended = λ root. refl; empty = refl; full = refl }) (λ to. omega arith)

    pub took_region : (arena class : ℕ) (o : Option Region) → Works pool at_place 1 0 old
        → IsNoted pool old new (Arena arena) number (plain (taken_or_full class o))
        → Proceeds pool (hand_with place o) 1 0 (region_told o) old new
    took_region arena class None works noted =
        proceeds_noted at_place at_place (region_told None) (Arena arena) (plain (Did.Full class)) works noted
        (arena_full (lane_in v) number v.own.number at_place arena class)
        (record { counts = λ root. refl; ended = λ root. refl; empty = refl; full = refl }) works.paid
        (λ to. omega arith)
    took_region arena class (Some r) works noted =
        quiet at_place (hand_with place (Some r)) (Arena arena) (plain (Did.Take class r.id)) works noted
        (region_taken (lane_in v) number v.own.number at_place arena class r.id)
        (record { counts = λ root. refl; ended = λ root. refl; empty = refl; full = refl }) (λ to. omega arith)

    module _ (r : Region) (works : Works pool (hand_with place (Some r)) 1 0 old) where
      pub gave_region : IsNoted pool old new (Arena r.id.place.arena) number (plain (Did.Give r.id))
          → Proceeds pool at_place 1 0 no_change old new
      gave_region noted =
          quiet (hand_with place (Some r)) at_place (Arena r.id.place.arena) (plain (Did.Give r.id)) works noted
          (region_given (lane_in v) number v.own.number at_place r.id.place.arena r.id)
          (record { counts = λ root. refl; ended = λ root. refl; empty = refl; full = refl }) (λ to. omega arith)

      pub kept_region : IsNoted pool old new (Cache r.id.owner r.id.class) number (plain (Did.Kept r.id))
          → Proceeds pool at_place 1 0 no_change old new
      kept_region noted =
          quiet (hand_with place (Some r)) at_place (Cache r.id.owner r.id.class) (plain (Did.Kept r.id)) works noted
          (region_kept (lane_in v) number v.own.number at_place r.id.owner r.id.class r.id)
          (record { counts = λ root. refl; ended = λ root. refl; empty = refl; full = refl }) (λ to. omega arith)

      -- and one that comes back
      pub back_region : (why : CacheNo)
          → IsNoted pool old new (Cache r.id.owner r.id.class) number (plain (Did.Back r.id why))
          → Proceeds pool (hand_with place (Some r)) 1 0 no_change old new
      back_region why noted =
          let hand = hand_with place (Some r) in
          quiet hand hand (Cache r.id.owner r.id.class) (plain (Did.Back r.id why)) works noted
          (region_back (lane_in v) number v.own.number hand r.id.owner r.id.class r.id why)
          (record { counts = λ root. refl; ended = λ root. refl; empty = refl; full = refl }) (λ to. omega arith)

-- a cache that another seat was in is passed by, with a mark
pub marked : (pool : SharedPool) (old new : PoolSeat) → IsPoolSeat pool new
    → (hand : Hand) (o : Object) (held : Held) → Works pool hand 1 0 old → FoundBusy pool o true old new held
    → Proceeds pool hand 1 0 no_change old new
marked pool old new is hand o held works found =
    let v = view_of old in let turns = ap (λ m. m.0.turns) found.marked in
    proceeds_by pool hand hand 1 0 old new works is no_change (Busy held ∷ []) 1 0
    (grows_busy pool old new works.seat is o held found) (omega (arith, turns))
    (marked_busy (lane_in v) 0 v.own.number hand held)
    (record { counts = λ root. refl; ended = λ root. refl; empty = refl; full = refl }) works.paid (λ to. omega arith)

-- ---- Calls on a root.

module _ (pool : SharedPool) (old new : PoolSeat) (is : IsPoolSeat pool new)
    (root : RootId) where
  abbrev u : SeatView
  u = view_of old

  -- a root is born
  pub born_root : (place number : ℕ) (r : RegionId) (watch : Option Watch) → Works pool (with_both place r) 1 0 old
      → IsNotedWith pool old new root number (birth root r watch) Born u.moves → root.place ≡ place
      → Proceeds pool empty_hand 1 0 (once_more root) old new
  born_root place number r watch works noted at =
      let e : Entry = At (Root root.place) number (noted_by u.own.number (birth root r watch)) in
      let es : List Entry = e ∷ Ref root Born ∷ [] in
      let turns = ap (λ m. m.0.turns) noted.seat in
      proceeds_by pool (with_both place r) empty_hand 1 0 old new works is (once_more root) es 1 0
      (grows_with pool old new works.seat is root number (birth root r watch) Born u.moves 0 noted (omega arith))
      (omega (arith, turns))
      (both_born (lane_in u) number u.own.number empty_hand root r watch place at)
      (record {
        counts =
            λ q. (let a = one_as (same_root root q) in let b = weightless (same_root root q) 0 refl in
            omega (arith, a, b));
        ended = λ q. (let b = weightless (same_root root q) 0 refl in omega (arith, b));
        empty = refl;
        full = refl;
      }) works.paid (λ to. omega arith)

  -- and ends
  pub ended_root : (place number : ℕ) (r : RegionId) → Works pool (with_token root) 1 0 old
      → IsNotedWith pool old new root number (end_of root r) Vacated u.moves → place ≡ root.place
      → Proceeds pool (with_both place r) 1 0 no_change old new
  ended_root place number r works noted at =
      let e : Entry = At (Root root.place) number (noted_by u.own.number (end_of root r)) in
      let es : List Entry = e ∷ Ref root Vacated ∷ [] in
      let turns = ap (λ m. m.0.turns) noted.seat in
      proceeds_by pool (with_token root) (with_both place r) 1 0 old new works is no_change es 1 0
      (grows_with pool old new works.seat is root number (end_of root r) Vacated u.moves 0 noted (omega arith))
      (omega (arith, turns))
      (both_come (lane_in u) number u.own.number empty_hand root r place at)
      (record {
        counts = λ q. (let b = weightless (same_root root q) 0 refl in omega (arith, b));
        ended = λ q. (let b = weightless (same_root root q) 0 refl in omega (arith, b));
        empty = refl;
        full = refl;
      }) works.paid (λ to. omega arith)

  -- a step on its count
  module _ (t m : ℕ) (works : Works pool empty_hand t m old) (counts : HasCount root u) where
    pub retained : 0 < u.moves → HasView new (with_ref u root Retain (u.moves - 1))
        → Proceeds pool empty_hand 0 1 (once_more root) old new
    retained some has =
        let turns = ap (λ m. m.0.turns) has in
        proceeds_by pool empty_hand empty_hand t m old new works is (once_more root) (Ref root Retain ∷ []) 0 1
        (grows_ref pool old new works.seat is root Retain (u.moves - 1) 1 has (omega (arith, some)))
        (omega (arith, turns)) (ref_carries (lane_in u) empty_hand root Retain refl refl refl)
        (record {
          counts =
              λ q. (let a = one_as (same_root root q) in let b = weightless (same_root root q) 0 refl in
              omega (arith, a, b));
          ended = λ q. (let b = weightless (same_root root q) 0 refl in omega (arith, b));
          empty = refl;
          full = refl;
        }) works.paid (λ to. omega arith)

    pub released : (did : RefDid) (last : Bool) (after : Hand) (moves : ℕ) → Carries (lane_in u) empty_hand after
        (Ref root did ∷ []) → Tells (once_less root last) (Ref root did ∷ []) → u.moves ≤ moves
        → HasView new (with_ref u root did moves) → Proceeds pool after 0 0 (once_less root last) old new
    released did last after moves carries tells most has =
        let turns = ap (λ m. m.0.turns) has in
        proceeds_by pool empty_hand after t m old new works is (once_less root last) (Ref root did ∷ []) 0 0
        (grows_ref pool old new works.seat is root did moves 0 has (omega (arith, most)))
        (omega (arith, turns)) carries tells (holds_one u root works.paid counts) (λ to. omega arith)

    pub released_kept : HasView new (with_ref u root Kept (u.moves + 1))
        → Proceeds pool empty_hand 0 0 (once_less root false) old new
    released_kept has =
        released Kept false empty_hand (u.moves + 1) (ref_carries (lane_in u) empty_hand root Kept refl refl refl)
        (record {
          counts =
              λ q. (let a = one_as (same_root root q) in let b = weightless (same_root root q) 0 refl in
              omega (arith, a, b));
          ended = λ q. (let b = weightless (same_root root q) 0 refl in omega (arith, b));
          empty = refl;
          full = refl;
        }) (omega arith) has

    pub released_last : HasView new (with_ref u root Ended u.moves)
        → Proceeds pool (with_token root) 0 0 (once_less root true) old new
    released_last has =
        released Ended true (with_token root) u.moves (ended_carries (lane_in u) root)
        (record {
          counts =
              λ q. (let a = one_as (same_root root q) in let b = weightless (same_root root q) 0 refl in
              omega (arith, a, b));
          ended = λ q. (let a = one_as (same_root root q) in omega (arith, a));
          empty = refl;
          full = refl;
        }) (omega arith) has
