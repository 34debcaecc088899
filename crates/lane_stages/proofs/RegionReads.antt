-- How the law reads the notes of a region that is obtained, and of one that is put away, whatever
-- follows.
use Rattle.std.proofs.Common.{◌≡◌, ℕ, ◌%◌, ◌<◌, ◌≤◌, [], ◌∷◌, List, Bool, true, false, refl, ap, ◌∙◌, arith, Option, Some, None}
use Rattle.std.specs.Prelude.{if◌then◌else◌, option_and_then}
use Rattle.std.proofs.lemmas.Bool.Decides.{nat_tests}
use Rattle.pool_law.specs.declared.id.RegionId.{RegionId}
use Rattle.pool_law.specs.declared.note.CacheNo.{CacheNo}
use Rattle.pool_law.specs.declared.note.Did.{Did}
use Rattle.pool_law.specs.declared.note.Held.{Held}
use Rattle.pool_law.specs.declared.note.Note.{Note}
use Rattle.pool_law.specs.declared.note.Object.TheVariants.{Arena, Cache}
use Rattle.pool_law.specs.declared.run.Shape.{Shape}
use Rattle.pool_law.specs.Dids as says
use Rattle.pool_law.specs.Limits.{cached_classes, has_cache}
use Rattle.pool_law.specs.Logs.{ToldNote}
use Rattle.pool_law.specs.Patterns.{obtain, ask_cache, ask_arena, put_away, offer, not_kept, give_back}
use Rattle.pool_law.specs.Readers.{Log, Reader, ◌>>=◌, ◌>>◌, ◌or◌, give, nothing, unless_there, found, not_found, note, busy}
use Rattle.pool_law.proofs.PatternLemmas.{same_number, same_region-refl}
use Rattle.seat_work.specs.Readings.{before_left, ReadsOn}
use Rattle.lane_stages.specs.Readings.{none_asked, one_asked}
use Rattle.seat_work.proofs.PartReads.{cached, uncached}
use Rattle.seat_work.proofs.ReadLaws.{then_on, given_on, first_on, second_on, none_then, asked_on, note_on, note_off, mark_off, mark_on}

pub in_cache : (class : ℕ) → has_cache class ≡ true → class < cached_classes
in_cache class is = grind (arith, nat_tests)

pub past_caches : (class : ℕ) → has_cache class ≡ false → cached_classes ≤ class
past_caches class is = grind (arith, nat_tests)

-- ---- A region is obtained.

-- a region of the class, where a cache may be asked or not
abbrev pub obtains : Shape → ℕ → ℕ → Bool → Reader (Option RegionId)
obtains shape lane class asks =
    (if asks then ask_cache lane class else give None) >>= (λ cached. unless_there cached (ask_arena shape lane class))

-- where its class has no cache the arena is asked
pub obtain_uncached : {A : Type 0} (shape : Shape) (lane class : ℕ) (next : Option RegionId → Reader A)
    → cached_classes ≤ class → (log : Log)
    → (obtain shape lane class >>= next) log ≡ (ask_arena shape lane class >>= next) log
obtain_uncached shape lane class next more log =
    ap (λ (b : Bool). (obtains shape lane class b >>= next) log) (uncached class more)

module _ {A : Type 0} (shape : Shape) (lane class n : ℕ) (e : ToldNote) (next : Option RegionId → Reader A) where
  -- what the cache answers
  abbrev hits : Reader (Option RegionId)
  hits = found (note (Cache lane class) says.hit)

  abbrev misses : Reader (Option RegionId)
  misses = not_found (note (Cache lane class) says.miss)

  abbrev marks : Reader (Option RegionId)
  marks = not_found (busy (Cache lane class))

  -- a cache was asked, and what follows its answer
  asked_cache : class < cached_classes → (c : Option RegionId)
      → ReadsOn (hits or misses or marks) (e ∷ []) none_asked (give c) →
      ReadsOn (obtain shape lane class >>= next) (e ∷ []) one_asked
      (unless_there c (ask_arena shape lane class) >>= next)
  asked_cache less c on log =
      ap (λ (b : Bool). (obtains shape lane class b >>= next) (before_left log (e ∷ []))) (cached class less)
      ∙ ap (λ o. option_and_then (λ got. next got.0 got.1)
      (option_and_then (λ got. unless_there got.0 (ask_arena shape lane class) got.1) o))
      (asked_on (hits or misses or marks) (give c) (e ∷ []) on log)

  pub hit_on : class < cached_classes → (r : RegionId) → e.note ≡ Note.At (Cache lane class) n (Did.Hit r)
      → ReadsOn (obtain shape lane class >>= next) (e ∷ []) one_asked (next (Some r))
  hit_on less r is =
      asked_cache less (Some r)
      (first_on hits (misses or marks) (e ∷ []) none_asked (Some r)
      (given_on (note (Cache lane class) says.hit) (e ∷ []) none_asked (λ a. give (Some a)) r
      (note_on e (Cache lane class) says.hit n (Did.Hit r) is r refl)))

  pub missed_on : class < cached_classes → e.note ≡ Note.At (Cache lane class) n Did.Miss
      → ReadsOn (obtain shape lane class >>= next) (e ∷ []) one_asked (ask_arena shape lane class >>= next)
  missed_on less is =
      asked_cache less None
      (second_on hits (misses or marks) (e ∷ []) none_asked (give None)
      (λ log. none_then (note (Cache lane class) says.hit) (λ a. give (Some a)) (before_left log (e ∷ []))
      (note_off e (Cache lane class) says.hit n Did.Miss is refl log))
      (first_on misses marks (e ∷ []) none_asked None
      (given_on (note (Cache lane class) says.miss) (e ∷ []) none_asked (λ _. give None) tt
      (note_on e (Cache lane class) says.miss n Did.Miss is tt refl))))

  pub busy_on : class < cached_classes → (held : Held) → held.object ≡ Cache lane class → e.note ≡ Note.Busy held
      → ReadsOn (obtain shape lane class >>= next) (e ∷ []) one_asked (ask_arena shape lane class >>= next)
  busy_on less held at is =
      asked_cache less None
      (second_on hits (misses or marks) (e ∷ []) none_asked (give None)
      (λ log. none_then (note (Cache lane class) says.hit) (λ a. give (Some a)) (before_left log (e ∷ []))
      (mark_off e (Cache lane class) says.hit held is log))
      (second_on misses marks (e ∷ []) none_asked (give None)
      (λ log. none_then (note (Cache lane class) says.miss) (λ _. give None) (before_left log (e ∷ []))
      (mark_off e (Cache lane class) says.miss held is log))
      (given_on (busy (Cache lane class)) (e ∷ []) none_asked (λ _. give None) held.number
      (mark_on e (Cache lane class) held at is))))

  abbrev takes : Reader (Option RegionId)
  takes = found (note (Arena (lane % shape.arenas)) (says.take class))

  abbrev fulls : Reader (Option RegionId)
  fulls = not_found (note (Arena (lane % shape.arenas)) (says.full class))

  pub taken_on : (r : RegionId) → e.note ≡ Note.At (Arena (lane % shape.arenas)) n (Did.Take class r)
      → ReadsOn (ask_arena shape lane class >>= next) (e ∷ []) none_asked (next (Some r))
  taken_on r is =
      let o = Arena (lane % shape.arenas) in
      let so : says.take class (Did.Take class r) ≡ Some r = rw (same_number class) refl in
      given_on (takes or fulls) (e ∷ []) none_asked next (Some r)
      (first_on takes fulls (e ∷ []) none_asked (Some r)
      (given_on (note o (says.take class)) (e ∷ []) none_asked (λ a. give (Some a)) r
      (note_on e o (says.take class) n (Did.Take class r) is r so)))

  pub full_on : e.note ≡ Note.At (Arena (lane % shape.arenas)) n (Did.Full class)
      → ReadsOn (ask_arena shape lane class >>= next) (e ∷ []) none_asked (next None)
  full_on is =
      let o = Arena (lane % shape.arenas) in
      let so : says.full class (Did.Full class) ≡ Some tt = rw (same_number class) refl in
      given_on (takes or fulls) (e ∷ []) none_asked next None
      (second_on takes fulls (e ∷ []) none_asked (give None)
      (λ log. none_then (note o (says.take class)) (λ a. give (Some a)) (before_left log (e ∷ []))
      (note_off e o (says.take class) n (Did.Full class) is refl log))
      (given_on (note o (says.full class)) (e ∷ []) none_asked (λ _. give None) tt
      (note_on e o (says.full class) n (Did.Full class) is tt so)))

-- ---- A region is put away.

-- a region whose class has no cache is given back
pub put_uncached : {A : Type 0} (next : Reader A) (r : RegionId) → cached_classes ≤ r.class → (log : Log)
    → (put_away r >> next) log ≡ (give_back r >> next) log
put_uncached next r more log =
    ap (λ (b : Bool). ((if b then offer r else give_back r) >> next) log) (uncached r.class more)

module _ {A : Type 0} (n : ℕ) (e : ToldNote) (next : Reader A) where
  module _ (r : RegionId) where
    abbrev keeps : Reader (Unit {0})
    keeps = note (Cache r.owner r.class) (says.kept r)

    abbrev refuses : Reader (Unit {0})
    refuses = not_kept r

    -- where the class has one, that is asked
    offered : (after : Reader A) (es : List ToldNote) → r.class < cached_classes
        → ReadsOn (offer r >> next) es none_asked after → ReadsOn (put_away r >> next) es none_asked after
    offered after es less on log =
        ap (λ (b : Bool). ((if b then offer r else give_back r) >> next) (before_left log es)) (cached r.class less)
        ∙ on log

    pub kept_on : r.class < cached_classes → e.note ≡ Note.At (Cache r.owner r.class) n (Did.Kept r)
        → ReadsOn (put_away r >> next) (e ∷ []) none_asked next
    kept_on less is =
        let so : says.kept r (Did.Kept r) ≡ Some tt = rw (same_region-refl r) refl in
        offered next (e ∷ []) less
        (given_on (offer r) (e ∷ []) none_asked (λ _. next) tt
        (first_on keeps (refuses >> give_back r) (e ∷ []) none_asked tt
        (note_on e (Cache r.owner r.class) (says.kept r) n (Did.Kept r) is tt so)))

    -- what was not kept is given back
    not_kept_on : r.class < cached_classes → ((log : Log) → keeps (before_left log (e ∷ [])) ≡ None)
        → ReadsOn refuses (e ∷ []) none_asked nothing
        → ReadsOn (put_away r >> next) (e ∷ []) none_asked (give_back r >> next)
    not_kept_on less none on =
        offered (give_back r >> next) (e ∷ []) less
        (then_on (offer r) (e ∷ []) none_asked (λ _. next) (give_back r)
        (second_on keeps (refuses >> give_back r) (e ∷ []) none_asked (give_back r) none
        (given_on refuses (e ∷ []) none_asked (λ _. give_back r) tt on)))

    pub back_on : r.class < cached_classes → (why : CacheNo)
        → e.note ≡ Note.At (Cache r.owner r.class) n (Did.Back r why)
        → ReadsOn (put_away r >> next) (e ∷ []) none_asked (give_back r >> next)
    back_on less why is =
        let o = Cache r.owner r.class in
        let so : says.back r (Did.Back r why) ≡ Some tt = rw (same_region-refl r) refl in
        not_kept_on less (note_off e o (says.kept r) n (Did.Back r why) is refl)
        (first_on (note o (says.back r)) (busy o >> nothing) (e ∷ []) none_asked tt
        (note_on e o (says.back r) n (Did.Back r why) is tt so))

    pub away_busy_on : r.class < cached_classes → (held : Held) → held.object ≡ Cache r.owner r.class
        → e.note ≡ Note.Busy held → ReadsOn (put_away r >> next) (e ∷ []) none_asked (give_back r >> next)
    away_busy_on less held at is =
        let o = Cache r.owner r.class in
        not_kept_on less (mark_off e o (says.kept r) held is)
        (second_on (note o (says.back r)) (busy o >> nothing) (e ∷ []) none_asked nothing
        (mark_off e o (says.back r) held is)
        (given_on (busy o) (e ∷ []) none_asked (λ _. nothing) held.number (mark_on e o held at is)))

    given_back_on : e.note ≡ Note.At (Arena r.place.arena) n (Did.Give r)
        → ReadsOn (give_back r) (e ∷ []) none_asked nothing
    given_back_on is =
        let so : says.give r (Did.Give r) ≡ Some tt = rw (same_region-refl r) refl in
        note_on e (Arena r.place.arena) (says.give r) n (Did.Give r) is tt so

    pub given_behind : e.note ≡ Note.At (Arena r.place.arena) n (Did.Give r)
        → ReadsOn (give_back r >> next) (e ∷ []) none_asked next
    given_behind is = given_on (give_back r) (e ∷ []) none_asked (λ _. next) tt (given_back_on is)
