-- How the law reads what the parts of an allocation and of an end note.
use Rattle.std.proofs.Common.{eq-eqb, ◌≡◌, ℕ, ◌%◌, ◌<◌, ◌≤◌, [], ◌∷◌, Bool, true, false, Option, Some, None, refl, ap, ◌∙◌, arith, append_assoc}
use Rattle.std.specs.Prelude.{if◌then◌else◌, option_map, Ok}
use Rattle.std.proofs.lemmas.Bool.Decides.{nat_tests}
use Rattle.handle_bin.specs.Bins.{HandleValue}
use Rattle.size_classes.specs.Sizes.{class_of}
use Rattle.pool_arena.specs.Standing.{taken_or_full}
use Rattle.pool_law.specs.declared.id.Region.{Region}
use Rattle.pool_law.specs.declared.id.RegionId.{RegionId}
use Rattle.pool_law.specs.declared.id.RootId.{RootId}
use Rattle.pool_law.specs.declared.note.CacheNo.{CacheNo}
use Rattle.pool_law.specs.declared.note.Did.{Did}
use Rattle.pool_law.specs.declared.note.Held.{Held}
use Rattle.pool_law.specs.declared.note.Note.{Note}
use Rattle.pool_law.specs.declared.note.Object.{Object}
use Rattle.pool_law.specs.declared.note.Object.TheVariants.{Arena, Bin, Cache, Root}
use Rattle.pool_law.specs.declared.note.RefDid.TheVariants.{Born}
use Rattle.pool_law.specs.declared.report.Watch.{Watch}
use Rattle.pool_law.specs.declared.run.Shape.{Shape}
use Rattle.pool_law.specs.Dids as says
use Rattle.pool_law.specs.Limits.{cached_classes, geometry_of, has_cache}
use Rattle.pool_law.specs.Logs.{ToldNote}
use Rattle.pool_law.specs.Naming.{noted_by}
use Rattle.pool_law.specs.Patterns.{New, allot, ask_arena, ask_cache, bear, give_back, not_kept, obtain, offer, one_more, put_away, with_handle}
use Rattle.pool_law.specs.Readers.{Log, Reader, ◌>>=◌, ◌>>◌, ◌or◌, give, given, nothing, unless_there, found, not_found, note, step, busy}
use Rattle.pool_law.proofs.PatternLemmas.{allot-handle, allot-no_handle, same_number, same_region-refl}
use Rattle.pool_table.specs.declared.views.Entry.{Entry}
use Rattle.pool_table.specs.declared.views.Entry.TheVariants.{At, Ref, Busy}
use Rattle.shared_pool.specs.Closing.{entry_of}
use Rattle.shared_pool.specs.declared.pool.SharedPool.{SharedPool}
use Rattle.shared_pool.specs.declared.seat.PoolSeat.{PoolSeat}
use Rattle.shared_pool.specs.Notes.{hit, plain, popped}
use Rattle.shared_pool.specs.RootNotes.{birth, IsNotedWith}
use Rattle.shared_pool.specs.SeatViews.{view_of}
use Rattle.seat_work.specs.Answers.{Bears, with_got}
use Rattle.seat_work.specs.Readings.{before_left, ReadsOn}
use Rattle.seat_work.proofs.ReadLaws.{asked_on, first_on, given_on, mark_off, mark_on, none_asked, none_then, note_off, note_on, on_append, one_asked, second_on, step_on}

-- ---- The caches.

pub cached : (class : ℕ) → class < cached_classes → has_cache class ≡ true
cached class less = grind (arith, nat_tests)

pub uncached : (class : ℕ) → cached_classes ≤ class → has_cache class ≡ false
uncached class more = grind (arith, nat_tests)

-- ---- A handle, and a region.

module _ (number : ℕ) (own : Option ℕ) where
  -- the entry of a note of a lane
  abbrev pub plainly : Object → Did → ToldNote
  plainly o did = entry_of (At o number (noted_by own (plain did)))

  pub handle_read : (shape : Shape) (lane size : ℕ) (h : Option HandleValue)
      → ReadsOn (allot shape lane size) (plainly (Bin lane) (popped h) ∷ []) none_asked (with_got shape lane size h)
  handle_read shape lane size None log =
      allot-no_handle shape lane size (before_left log (plainly (Bin lane) Did.NoHandle ∷ []))
      (plainly (Bin lane) Did.NoHandle) log.left refl number refl
  handle_read shape lane size (Some h) log =
      allot-handle shape lane size (before_left log (plainly (Bin lane) (Did.Handle h.place) ∷ []))
      (plainly (Bin lane) (Did.Handle h.place)) log.left refl h.place number refl

  pub home_read : (lane place : ℕ)
      → ReadsOn (note (Bin lane) (says.home place)) (plainly (Bin lane) (Did.Home place) ∷ []) none_asked (give tt)
  home_read lane place =
      let so : says.home place (Did.Home place) ≡ Some tt = rw (same_number place) refl in
      note_on (plainly (Bin lane) (Did.Home place)) (Bin lane) (says.home place) number (Did.Home place) refl tt so

  module _ (lane class : ℕ) where
    abbrev cache : Object
    cache = Cache lane class

    abbrev hits : Reader (Option RegionId)
    hits = found (note cache says.hit)

    abbrev misses : Reader (Option RegionId)
    misses = not_found (note cache says.miss)

    abbrev marks : Reader (Option RegionId)
    marks = not_found (busy cache)

    pub hit_read : (r : Option Region)
        → ReadsOn (ask_cache lane class) (plainly cache (hit r) ∷ []) one_asked (give (option_map (λ x. x.id) r))
    hit_read (Some r) =
        let e = plainly cache (Did.Hit r.id) in
        asked_on (hits or misses or marks) (give (Some r.id)) (e ∷ [])
        (first_on hits (misses or marks) (e ∷ []) none_asked (Some r.id)
        (given_on (note cache says.hit) (e ∷ []) none_asked (λ a. give (Some a)) r.id
        (note_on e cache says.hit number (Did.Hit r.id) refl r.id refl)))
    hit_read None =
        let e = plainly cache Did.Miss in
        asked_on (hits or misses or marks) (give None) (e ∷ [])
        (second_on hits (misses or marks) (e ∷ []) none_asked (give None)
        (λ log. none_then (note cache says.hit) (λ a. give (Some a)) (before_left log (e ∷ []))
        (note_off e cache says.hit number Did.Miss refl refl log))
        (first_on misses marks (e ∷ []) none_asked None
        (given_on (note cache says.miss) (e ∷ []) none_asked (λ _. give None) tt
        (note_on e cache says.miss number Did.Miss refl tt refl))))

    pub busy_read : (held : Held) → held.object ≡ cache
        → ReadsOn (ask_cache lane class) (entry_of (Busy held) ∷ []) one_asked (give None)
    busy_read held at =
        let e = entry_of (Busy held) in
        asked_on (hits or misses or marks) (give None) (e ∷ [])
        (second_on hits (misses or marks) (e ∷ []) none_asked (give None)
        (λ log. none_then (note cache says.hit) (λ a. give (Some a)) (before_left log (e ∷ []))
        (mark_off e cache says.hit held refl log))
        (second_on misses marks (e ∷ []) none_asked (give None)
        (λ log. none_then (note cache says.miss) (λ _. give None) (before_left log (e ∷ []))
        (mark_off e cache says.miss held refl log))
        (given_on (busy cache) (e ∷ []) none_asked (λ _. give None) held.number (mark_on e cache held at refl))))

    module _ (shape : Shape) where
      abbrev arena : Object
      arena = Arena (lane % shape.arenas)

      abbrev takes : Reader (Option RegionId)
      takes = found (note arena (says.take class))

      abbrev fulls : Reader (Option RegionId)
      fulls = not_found (note arena (says.full class))

      pub take_read : (r : Option Region)
          → ReadsOn (ask_arena shape lane class) (plainly arena (taken_or_full class r) ∷ []) none_asked
          (give (option_map (λ x. x.id) r))
      take_read (Some r) =
          let e = plainly arena (Did.Take class r.id) in
          let so : says.take class (Did.Take class r.id) ≡ Some r.id = rw (same_number class) refl in
          first_on takes fulls (e ∷ []) none_asked (Some r.id)
          (given_on (note arena (says.take class)) (e ∷ []) none_asked (λ a. give (Some a)) r.id
          (note_on e arena (says.take class) number (Did.Take class r.id) refl r.id so))
      take_read None =
          let e = plainly arena (Did.Full class) in
          let so : says.full class (Did.Full class) ≡ Some tt = rw (same_number class) refl in
          second_on takes fulls (e ∷ []) none_asked (give None)
          (λ log. none_then (note arena (says.take class)) (λ a. give (Some a)) (before_left log (e ∷ []))
          (note_off e arena (says.take class) number (Did.Full class) refl refl log))
          (given_on (note arena (says.full class)) (e ∷ []) none_asked (λ _. give None) tt
          (note_on e arena (says.full class) number (Did.Full class) refl tt so))

  -- ---- A region is put away.

  module _ (r : RegionId) where
    abbrev home : Object
    home = Cache r.owner r.class

    abbrev keeps : Reader (Unit {0})
    keeps = note home (says.kept r)

    pub give_read : ReadsOn (give_back r) (plainly (Arena r.place.arena) (Did.Give r) ∷ []) none_asked (give tt)
    give_read =
        let so : says.give r (Did.Give r) ≡ Some tt = rw (same_region-refl r) refl in
        note_on (plainly (Arena r.place.arena) (Did.Give r)) (Arena r.place.arena) (says.give r) number (Did.Give r)
        refl tt so

    pub kept_read : ReadsOn (offer r) (plainly home (Did.Kept r) ∷ []) none_asked nothing
    kept_read =
        let e = plainly home (Did.Kept r) in
        let so : says.kept r (Did.Kept r) ≡ Some tt = rw (same_region-refl r) refl in
        first_on keeps (not_kept r >> give_back r) (e ∷ []) none_asked tt
        (note_on e home (says.kept r) number (Did.Kept r) refl tt so)

    -- what was not kept is given back
    not_kept_on : (e : ToldNote) → ((log : Log) → keeps (before_left log (e ∷ [])) ≡ None)
        → ReadsOn (not_kept r) (e ∷ []) none_asked nothing → ReadsOn (offer r) (e ∷ []) none_asked (give_back r)
    not_kept_on e none on =
        second_on keeps (not_kept r >> give_back r) (e ∷ []) none_asked (give_back r) none
        (given_on (not_kept r) (e ∷ []) none_asked (λ _. give_back r) tt on)

    pub back_read : (why : CacheNo) → ReadsOn (offer r) (plainly home (Did.Back r why) ∷ []) none_asked (give_back r)
    back_read why =
        let e = plainly home (Did.Back r why) in
        let so : says.back r (Did.Back r why) ≡ Some tt = rw (same_region-refl r) refl in
        not_kept_on e (note_off e home (says.kept r) number (Did.Back r why) refl refl)
        (first_on (note home (says.back r)) (busy home >> nothing) (e ∷ []) none_asked tt
        (note_on e home (says.back r) number (Did.Back r why) refl tt so))

    pub away_read : (held : Held) → held.object ≡ home
        → ReadsOn (offer r) (entry_of (Busy held) ∷ []) none_asked (give_back r)
    away_read held at =
        let e = entry_of (Busy held) in
        not_kept_on e (mark_off e home (says.kept r) held refl)
        (second_on (note home (says.back r)) (busy home >> nothing) (e ∷ []) none_asked nothing
        (mark_off e home (says.back r) held refl)
        (given_on (busy home) (e ∷ []) none_asked (λ _. nothing) held.number (mark_on e home held at refl)))

-- by whether its class has a cache
pub put_cached : (r : RegionId) → r.class < cached_classes → (log : Log) → put_away r log ≡ offer r log
put_cached r less log = ap (λ (b : Bool). (if b then offer r else give_back r) log) (cached r.class less)

pub put_uncached : (r : RegionId) → cached_classes ≤ r.class → (log : Log) → put_away r log ≡ give_back r log
put_uncached r more log = ap (λ (b : Bool). (if b then offer r else give_back r) log) (uncached r.class more)

module _ (shape : Shape) (lane class : ℕ) where
  -- a region of the class, where a cache may be asked or not
  abbrev obtains : Bool → Reader (Option RegionId)
  obtains asks =
      (if asks then ask_cache lane class else give None)
      >>= (λ cached. unless_there cached (ask_arena shape lane class))

  pub obtain_cached : class < cached_classes → (log : Log)
      → obtain shape lane class log
      ≡ (ask_cache lane class >>= (λ cached. unless_there cached (ask_arena shape lane class))) log
  obtain_cached less log = ap (λ (b : Bool). obtains b log) (cached class less)

  pub obtain_uncached : cached_classes ≤ class → (log : Log)
      → obtain shape lane class log ≡ ask_arena shape lane class log
  obtain_uncached more log = ap (λ (b : Bool). obtains b log) (uncached class more)

  -- the class of what is allotted
  pub class_given : (size place : ℕ) → class_of (geometry_of shape) size ≡ Some class → (log : Log)
      → with_handle shape lane size place log ≡ (obtain shape lane class >>= bear lane place size) log
  class_given size place is log =
      ap (λ (o : Option ℕ). (given o >>= (λ c. obtain shape lane c >>= bear lane place size)) log) is

-- ---- A birth.

module _ (lane size : ℕ) (r : RegionId) (root : RootId) (number : ℕ) (own : Option ℕ) (watch : Option Watch) where
  abbrev noted : Entry
  noted = At (Root root.place) number (noted_by own (birth root r watch))

  abbrev new : New
  new = record { root = root; region = one_more r }

  birth_read : (place : ℕ) → root.place ≡ place → root.capacity ≡ size →
      ReadsOn (bear lane place size (Some r)) (entry_of noted ∷ entry_of (Ref root Born) ∷ []) (λ n. n)
      (give (Ok new))
  birth_read place at long =
      let e = entry_of noted in let f = entry_of (Ref root Born) in
      let born : Did → Option RootId = says.birth place size (one_more r) in
      let so : born (Did.Birth root (one_more r)) ≡ Some root =
      rw (eq-eqb root.place place at, eq-eqb root.capacity size long, same_region-refl (one_more r)) refl in
      on_append (bear lane place size (Some r)) (step root says.born >> give (Ok new)) (give (Ok new)) (e ∷ []) (f ∷ [])
      none_asked none_asked
      (given_on (note (Root place) born) (e ∷ []) none_asked
      (λ root. step root says.born >> give (Ok (record { root = root; region = one_more r }))) root
      (note_on e (Root place) born number (Did.Birth root (one_more r))
      (ap (λ (p : ℕ). Note.At (Root p) number (Did.Birth root (one_more r))) at) root so))
      (given_on (step root says.born) (f ∷ []) none_asked (λ _. give (Ok new)) tt
      (step_on f root says.born Born refl tt refl))

pub birth_noted : (pool : SharedPool) (old new : PoolSeat) (lane place size : ℕ) (r : RegionId) (root : RootId)
    (number moves : ℕ) (watch : Option Watch) → root.place ≡ place → root.capacity ≡ size
    → IsNotedWith pool old new root number (birth root r watch) Born moves
    → Bears (bear lane place size (Some r)) r.class watch root (view_of old) (view_of new)
birth_noted pool old after lane place size r root number moves watch at long is =
    let v = view_of old in let e = At (Root root.place) number (noted_by v.own.number (birth root r watch)) in
    record {
      region = r;
      class_is = refl;
      notes = record {
        added = e ∷ Ref root Born ∷ [];
        notes = ap (λ m. m.0.own.notes) is.seat ∙ append_assoc v.own.notes (e ∷ []) (Ref root Born ∷ []);
        asks = λ n. n;
        reads = birth_read lane size r root number v.own.number watch place at long;
      };
      born = record { at = 0; number = number; lane = v.own.number; stands = refl };
    }
