-- The roots that a seat alone has, behind steps of its own.
use Rattle.std.proofs.Common.{◌≡◌, ◌≢◌, ℕ, ◌+◌, Bool, true, false, cond, List, [], ◌∷◌, ◌++◌, replicate, Option, Some, None, refl, sym, ap, ◌∙◌, ⊎_elim, arith, append-nil, append_assoc}
use Rattle.std.specs.Prelude.{◌==◌, ◌&&◌, if◌then◌else◌, sum_by, fold}
use Rattle.std.specs.List.{list_all}
use Rattle.std.proofs.lemmas.Bool.{and_parts, or_cases}
use Rattle.std.proofs.lemmas.List.{replicate-append-replicate}
use Rattle.std.proofs.lemmas.List.Sums.{fold-append, sum_by-append, sum_by-cons}
use Rattle.history_laws.specs.NoteCounts.{did_birth_as, did_post_of}
use Rattle.pool_law.specs.declared.id.RootId.{RootId}
use Rattle.pool_law.specs.declared.note.Did.{Did}
use Rattle.pool_law.specs.declared.note.Did.TheVariants.{Birth, Set, Extend, Grow, Post, Room}
use Rattle.pool_law.specs.Counts.{root_is}
use Rattle.pool_law.specs.Roots.{zeros_to}
use Rattle.pool_table.specs.Counts.{posts}
use Rattle.pool_table.specs.Lone.{births, laid_by, laid_in, own_bytes, IsLone}
use Rattle.pool_table.specs.declared.views.Entry.{Entry}
use Rattle.pool_table.specs.declared.views.Entry.TheVariants.{At, Busy, Ref}
use Rattle.pool_table.proofs.Capacities.{told_root}
use Rattle.shared_pool.specs.declared.pool.SharedPool.{SharedPool}
use Rattle.shared_pool.specs.declared.seat.PoolSeat.{PoolSeat}
use Rattle.shared_pool.specs.SeatViews.{view_of}
use Rattle.seat_work.specs.Growth.{is_ask, is_quiet, is_quiet_but, is_quiet_entry}
use Rattle.seat_work.specs.Works.{IsLater, IsLaterBut, IsLaterBy}
use Rattle.seat_work.proofs.Later.{quiet_note_posts}
use Rattle.pool_member.specs.declared.member.Member.{Member}
use Rattle.pool_member.specs.Alone.{GrowsAlone, KeepsAlone}
use Rattle.pool_member.proofs.Alone.{apart, not_none, Stays}

-- ---- What one entry lays.

-- a birth of another root lays nothing in this one
unborn : (x y : List ℕ) (a b c : Bool) → cond {A = ℕ} ((a && b) && c) 1 0 ≡ 0 → (if a && (b && c) then x else y) ≡ y
unborn x y true true true none = absurd (omega (arith, none))
unborn x y true true false none = refl
unborn x y true false c none = refl
unborn x y false b c none = refl

module _ (r : RootId) (on : Option RootId) (bytes : List ℕ) where
  quiet_lays : (d : Did) → is_quiet d ≡ true → did_birth_as r.place r.generation r.capacity d ≡ 0
      → laid_by r bytes on d ≡ bytes
  quiet_lays (Birth q region) quiet none =
      unborn (replicate r.capacity 0) bytes (q.place == r.place) (q.generation == r.generation)
      (q.capacity == r.capacity) none
  quiet_lays (Set offset more) quiet none = absurd (cc quiet)
  quiet_lays (Extend size) quiet none = absurd (cc quiet)
  quiet_lays (Grow size region) quiet none = absurd (cc quiet)
  quiet_lays d quiet none = refl

  -- an ask of another root lays nothing in this one
  other_lays : (d : Did) → is_ask d ≡ true → root_is r on ≡ false → laid_by r bytes on d ≡ bytes
  other_lays (Extend size) asks other = ap (λ (b : Bool). if b then zeros_to size bytes else bytes) other
  other_lays (Grow size region) asks other = ap (λ (b : Bool). if b then zeros_to size bytes else bytes) other
  other_lays (Room asked capacity) asks other = refl
  other_lays (Birth q region) asks other = absurd (cc asks)
  other_lays (Set offset more) asks other = absurd (cc asks)
  other_lays d asks other = refl

  zeros : (b : Bool) (size : ℕ)
      → (more : ℕ) × ((if b then zeros_to size bytes else bytes) ≡ bytes ++ replicate more 0)
  zeros true size = (_, refl)
  zeros false size = (0, sym (append-nil bytes))

  -- an ask lays zeros behind what is there, or nothing
  ask_lays : (d : Did) → is_ask d ≡ true → (more : ℕ) × (laid_by r bytes on d ≡ bytes ++ replicate more 0)
  ask_lays (Extend size) asks = zeros (root_is r on) size
  ask_lays (Grow size region) asks = zeros (root_is r on) size
  ask_lays (Birth q region) asks = absurd (cc asks)
  ask_lays (Set offset more) asks = absurd (cc asks)
  ask_lays d asks = (0, sym (append-nil bytes))

ask_posts : (r : RootId) (d : Did) → is_ask d ≡ true → did_post_of r d ≡ 0
ask_posts r (Post parcel) asks = absurd (cc asks)
ask_posts r d asks = refl

-- ---- What an entry lays that is quiet, or asks a root.

module _ (r : RootId) (bytes : List ℕ) where
  quiet_entry : (e : Entry) → is_quiet_entry e ≡ true → births r e ≡ 0 → laid_in r bytes e ≡ bytes
  quiet_entry (At o k n) quiet none = quiet_lays r n.root bytes n.did quiet none
  quiet_entry (Ref q d) quiet none = refl
  quiet_entry (Busy held) quiet none = refl

  module _ (root : RootId) where
    other_entry : Some root ≢ Some r → (e : Entry) → is_quiet_but root e ≡ true → births r e ≡ 0
        → laid_in r bytes e ≡ bytes
    other_entry ne (Ref q d) quiet none = refl
    other_entry ne (Busy held) quiet none = refl
    other_entry ne (At o k n) quiet none = ⊎_elim
        (λ (q : is_quiet n.did ≡ true). quiet_lays r n.root bytes n.did q none)
        (λ (a : (is_ask n.did && root_is root n.root) ≡ true).
        (let both = and_parts (is_ask n.did) (root_is root n.root) a in
        other_lays r n.root bytes n.did both.0
        (ap (root_is r) (told_root root n.root both.1) ∙ apart root r ne)))
        (or_cases (is_quiet n.did) (is_ask n.did && root_is root n.root) quiet)

    asked_entry : (e : Entry) → is_quiet_but root e ≡ true → births r e ≡ 0
        → (more : ℕ) × (laid_in r bytes e ≡ bytes ++ replicate more 0)
    asked_entry (Ref q d) quiet none = (0, sym (append-nil bytes))
    asked_entry (Busy held) quiet none = (0, sym (append-nil bytes))
    asked_entry (At o k n) quiet none = ⊎_elim
        (λ (q : is_quiet n.did ≡ true). (0, quiet_lays r n.root bytes n.did q none ∙ sym (append-nil bytes)))
        (λ (a : (is_ask n.did && root_is root n.root) ≡ true).
        ask_lays r n.root bytes n.did (and_parts (is_ask n.did) (root_is root n.root) a).0)
        (or_cases (is_quiet n.did) (is_ask n.did && root_is root n.root) quiet)

-- none of them posts
module _ (r : RootId) where
  quiet_none : (e : Entry) → is_quiet_entry e ≡ true → posts r e ≡ 0
  quiet_none (At o k n) quiet = quiet_note_posts r n.did quiet
  quiet_none (Ref q d) quiet = refl
  quiet_none (Busy held) quiet = refl

  asked_none : (root : RootId) (e : Entry) → is_quiet_but root e ≡ true → posts r e ≡ 0
  asked_none root (Ref q d) quiet = refl
  asked_none root (Busy held) quiet = refl
  asked_none root (At o k n) quiet = ⊎_elim
      (λ (q : is_quiet n.did ≡ true). quiet_note_posts r n.did q)
      (λ (a : (is_ask n.did && root_is root n.root) ≡ true).
      ask_posts r n.did (and_parts (is_ask n.did) (root_is root n.root) a).0)
      (or_cases (is_quiet n.did) (is_ask n.did && root_is root n.root) quiet)

-- ---- Entries one after the other.

module _ (r : RootId) (is_so : Entry → Bool) where
  none_posted : ((e : Entry) → is_so e ≡ true → posts r e ≡ 0) → (es : List Entry) → list_all is_so es ≡ true
      → sum_by (posts r) es ≡ 0
  none_posted each [] all = refl
  none_posted each (e ∷ es) all =
      let both = and_parts (is_so e) (list_all is_so es) all in let a = sum_by-cons (posts r) e es in
      let b = each e both.0 in let c = none_posted each es both.1 in omega (arith, a, b, c)

  -- no birth is among the first, and none among the rest
  first_none : (e : Entry) (es : List Entry) → sum_by (births r) (e ∷ es) ≡ 0 → births r e ≡ 0
  first_none e es none = let a = sum_by-cons (births r) e es in omega (arith, a, none)

  rest_none : (e : Entry) (es : List Entry) → sum_by (births r) (e ∷ es) ≡ 0 → sum_by (births r) es ≡ 0
  rest_none e es none = let a = sum_by-cons (births r) e es in omega (arith, a, none)

  all_same : ((bytes : List ℕ) (e : Entry) → is_so e ≡ true → births r e ≡ 0 → laid_in r bytes e ≡ bytes)
      → (es : List Entry) (bytes : List ℕ) → list_all is_so es ≡ true → sum_by (births r) es ≡ 0
      → fold (laid_in r) bytes es ≡ bytes
  all_same each [] bytes all none = refl
  all_same each (e ∷ es) bytes all none =
      let both = and_parts (is_so e) (list_all is_so es) all in
      ap (λ (b : List ℕ). fold (laid_in r) b es) (each bytes e both.0 (first_none e es none))
      ∙ all_same each es bytes both.1 (rest_none e es none)

  all_zeros : ((bytes : List ℕ) (e : Entry) → is_so e ≡ true → births r e ≡ 0
      → (more : ℕ) × (laid_in r bytes e ≡ bytes ++ replicate more 0)) → (es : List Entry) (bytes : List ℕ)
      → list_all is_so es ≡ true → sum_by (births r) es ≡ 0
      → (more : ℕ) × (fold (laid_in r) bytes es ≡ bytes ++ replicate more 0)
  all_zeros each [] bytes all none = (0, sym (append-nil bytes))
  all_zeros each (e ∷ es) bytes all none =
      let both = and_parts (is_so e) (list_all is_so es) all in
      let one = each bytes e both.0 (first_none e es none) in
      let rest = all_zeros each es (bytes ++ replicate one.0 0) both.1 (rest_none e es none) in (
        one.0 + rest.0,
        ap (λ (b : List ℕ). fold (laid_in r) b es) one.1 ∙ rest.1
            ∙ append_assoc bytes (replicate one.0 0) (replicate rest.0 0)
            ∙ ap (λ (z : List ℕ). bytes ++ z) (replicate-append-replicate one.0 rest.0 0),
      )

-- ---- Seats.

module _ (is_so : Entry → Bool) (pool : SharedPool) (old new : PoolSeat) (later : IsLaterBy is_so pool old new) where
  abbrev xs : List Entry
  xs = (view_of old).own.notes

  still_lone : (r : RootId) → ((e : Entry) → is_so e ≡ true → posts r e ≡ 0) → IsLone r (view_of old)
      → IsLone r (view_of new)
  still_lone r each lone =
      let es = later.added in let is = later.grown.notes in
      let a = ap (sum_by (births r)) is in let b = sum_by-append (births r) xs es in
      let c = ap (sum_by (posts r)) is in let d = sum_by-append (posts r) xs es in
      let n = none_posted r is_so each es later.quiet in
      let born = lone.born in let kept = lone.kept in
      record { born = omega (arith, a, b, born); kept = omega (arith, c, d, n, kept) }

  -- the bytes are those before, with what the steps lay
  bytes_then : (r : RootId) → own_bytes r (view_of new) ≡ fold (laid_in r) (own_bytes r (view_of old)) later.added
  bytes_then r = ap (fold (laid_in r) []) later.grown.notes ∙ fold-append (laid_in r) [] xs later.added

module _ (pool : SharedPool) where
  pub stays_later : (old new : PoolSeat) → IsLater pool old new → Stays None old new
  stays_later old new later = record {
    alone = λ r lone. still_lone is_quiet_entry pool old new later r (quiet_none r) lone;
    laid =
        λ r ne lone.
        bytes_then is_quiet_entry pool old new later r
        ∙ all_same r is_quiet_entry (quiet_entry r) later.added (own_bytes r (view_of old)) later.quiet
        (later.once r lone.born);
  }

  module _ (root : RootId) (old new : PoolSeat) (later : IsLaterBut root pool old new) where
    pub stays_asked : Stays (Some root) old new
    stays_asked = record {
      alone = λ r lone. still_lone (is_quiet_but root) pool old new later r (asked_none r root) lone;
      laid =
          λ r ne lone.
          bytes_then (is_quiet_but root) pool old new later r
          ∙ all_same r (is_quiet_but root) (λ bytes. other_entry r bytes root ne) later.added
          (own_bytes r (view_of old)) later.quiet (later.once r lone.born);
    }

    pub grown_asked : IsLone root (view_of old)
        → (more : ℕ) × (own_bytes root (view_of new) ≡ own_bytes root (view_of old) ++ replicate more 0)
    grown_asked lone =
        let z = all_zeros root (is_quiet_but root) (λ bytes. asked_entry root bytes root) later.added
        (own_bytes root (view_of old)) later.quiet (later.once root lone.born) in
        (z.0, bytes_then (is_quiet_but root) pool old new later root ∙ z.1)

  -- ---- Threads.

  -- what it alone has of a root that it asked for capacity
  pub grows_alone : (root : RootId) (old new : Member) → IsLaterBut root pool old.seat new.seat
      → GrowsAlone root old new
  grows_alone root old new later alone =
      let more = grown_asked root old.seat new.seat later alone in
      ((stays_asked root old.seat new.seat later).alone root alone, more.0, more.1)

-- behind what changed nothing of it
pub grows_on : (root : RootId) (old mid new : Member) → KeepsAlone None old mid → GrowsAlone root mid new
    → GrowsAlone root old new
grows_on root old mid new keeps grows alone =
    let a = keeps root (not_none root) alone in let b = grows a.0 in
    (b.0, b.1, b.2 ∙ ap (λ (z : List ℕ). z ++ replicate b.1 0) a.1)

-- nothing was laid in it
pub grows_none : (root : RootId) (old new : Member) → KeepsAlone None old new → GrowsAlone root old new
grows_none root old new keeps alone =
    let a = keeps root (not_none root) alone in (a.0, 0, a.1 ∙ sym (append-nil (own_bytes root (view_of old.seat))))
