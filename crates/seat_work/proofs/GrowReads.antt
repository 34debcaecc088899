-- How the law reads the notes of a root that is asked for capacity.
use Rattle.std.proofs.Common.{◌≡◌, ℕ, ◌<◌, ◌≤◌, [], ◌∷◌, Bool, true, false, refl, sym, ap, ◌∙◌, subst, arith, Option, Some, None}
use Rattle.std.specs.Prelude.{if◌then◌else◌, nat_le, Result, Ok}
use Rattle.std.proofs.lemmas.Bool.Decides.{nat_tests}
use Rattle.size_classes.specs.Sizes.{class_of}
use Rattle.pool_law.specs.declared.id.Region.{Region}
use Rattle.pool_law.specs.declared.id.RegionId.{RegionId}
use Rattle.pool_law.specs.declared.id.RootId.{RootId}
use Rattle.pool_law.specs.declared.note.Did.{Did}
use Rattle.pool_law.specs.declared.note.Noted.{Noted}
use Rattle.pool_law.specs.declared.note.Object.TheVariants.{Root}
use Rattle.pool_law.specs.declared.run.Reply.{Reply}
use Rattle.pool_law.specs.declared.run.Shape.{Shape}
use Rattle.pool_law.specs.Dids as says
use Rattle.pool_law.specs.Limits.{geometry_of}
use Rattle.pool_law.specs.Logs.{ToldNote}
use Rattle.pool_law.specs.Naming.{noted_by}
use Rattle.pool_law.specs.Options.{check}
use Rattle.pool_law.specs.Patterns.{Grown as LawGrown, found_room, grow_with, grown as grows, obtain, one_more, put_away}
use Rattle.pool_law.specs.Readers.{Log, Reader, ◌>>=◌, ◌>>◌, give, given, access, growth}
use Rattle.pool_law.proofs.PatternLemmas.{same_number, same_region-refl, same_root-refl}
use Rattle.pool_table.specs.declared.views.Entry.TheVariants.{At}
use Rattle.shared_pool.specs.Closing.{entry_of}
use Rattle.shared_pool.specs.declared.went.Grown.{Grown}
use Rattle.shared_pool.specs.declared.went.Grown.TheVariants as grown
use Rattle.shared_pool.specs.declared.went.Room.{Room}
use Rattle.shared_pool.specs.declared.went.Room.TheVariants.{Enough, Extended, Short}
use Rattle.shared_pool.specs.Regrowing.{grown_note, room_capacity, room_did, IsGrownFor}
use Rattle.shared_pool.specs.Regrowing as regrowing
use Rattle.shared_pool.specs.RootNotes as notes
use Rattle.seat_work.specs.Readings.{before_left, ReadsOn}
use Rattle.seat_work.specs.Regrowths.{as_grown}
use Rattle.seat_work.proofs.ReadLaws.{access_off, access_on, first_on, given_on, none_asked, none_then, second_on}

pub at_least : (a b : ℕ) → a ≤ b → nat_le a b ≡ true
at_least a b le = grind (arith, nat_tests)

pub too_few : (a b : ℕ) → b < a → nat_le a b ≡ false
too_few a b lt = grind (arith, nat_tests)

-- ---- What the root answers.

module _ (root : RootId) (size number : ℕ) (own : Option ℕ) where
  -- the entry of a note at the root's place
  abbrev noted : Noted → ToldNote
  noted n = entry_of (At (Root root.place) number (noted_by own n))

  abbrev extends : Reader ℕ
  extends = access root (says.extend size) >> give size

  abbrev tells : Reader ℕ
  tells = access root (says.room size)

  tells_on : (k : ℕ)
      → ReadsOn (found_room root size) (noted (notes.access root (Did.Room size k)) ∷ []) none_asked (give k)
  tells_on k =
      let e = noted (notes.access root (Did.Room size k)) in let here = same_root-refl root in
      let so : says.room size (Did.Room size k) ≡ Some k = rw (same_number size) refl in
      second_on extends tells (e ∷ []) none_asked (give k)
      (λ log. none_then (access root (says.extend size)) (λ _. give size) (before_left log (e ∷ []))
      (access_off e root (says.extend size) number (Did.Room size k) refl here refl log))
      (access_on e root (says.room size) number (Did.Room size k) refl here k so)

  extends_on : ReadsOn (found_room root size) (noted (notes.access root (Did.Extend size)) ∷ []) none_asked (give size)
  extends_on =
      let e = noted (notes.access root (Did.Extend size)) in
      let so : says.extend size (Did.Extend size) ≡ Some tt = rw (same_number size) refl in
      first_on extends tells (e ∷ []) none_asked size
      (given_on (access root (says.extend size)) (e ∷ []) none_asked (λ _. give size) tt
      (access_on e root (says.extend size) number (Did.Extend size) refl (same_root-refl root) tt so))

  pub room_read : (room : Room)
      → ReadsOn (found_room root size) (noted (notes.access root (room_did size room)) ∷ []) none_asked
      (give (room_capacity size room))
  room_read (Enough k) = tells_on k
  room_read Extended = extends_on
  room_read (Short k) = tells_on k

  -- ---- The root is asked again, with a region.

  module _ (into : RegionId) where
    -- the root grows into the region, or has so much without it
    abbrev moves : Reader LawGrown
    moves = growth root size (one_more into) >>= (λ left. give (record { capacity = size; spare = left }))

    abbrev stays : Reader LawGrown
    stays = found_room root size >>= (λ k. give (record { capacity = k; spare = into }))

    -- what is found or extended is no growth
    stays_on : (did : Did) (k : ℕ) → says.grow size (one_more into) did ≡ None
        → ReadsOn (found_room root size) (noted (notes.access root did) ∷ []) none_asked (give k)
        → ReadsOn (grows root size into) (noted (notes.access root did) ∷ []) none_asked
        (give (record { capacity = k; spare = into }))
    stays_on did k none on =
        let e = noted (notes.access root did) in
        second_on moves stays (e ∷ []) none_asked (give (record { capacity = k; spare = into }))
        (λ log. none_then (growth root size (one_more into)) (λ left. give (record { capacity = size; spare = left }))
        (before_left log (e ∷ [])) (rw (same_root-refl root, same_number root.place, none) refl))
        (given_on (found_room root size) (e ∷ []) none_asked (λ x. give (record { capacity = x; spare = into })) k on)

    moves_on : (left : RegionId)
        → ReadsOn (grows root size into) (noted (regrowing.growth root size into left) ∷ []) none_asked
        (give (record { capacity = size; spare = left }))
    moves_on left =
        let e = noted (regrowing.growth root size into left) in
        let on : ReadsOn (growth root size (one_more into)) (e ∷ []) none_asked (give left) =
        (λ log. rw (same_root-refl root, same_number root.place, same_number size, same_region-refl (one_more into))
        refl)
        in
        first_on moves stays (e ∷ []) none_asked (record { capacity = size; spare = left })
        (given_on (growth root size (one_more into)) (e ∷ []) none_asked
        (λ x. give (record { capacity = size; spare = x })) left on)

-- a region that the root doesn't take is the one that was given
module _ (root : RootId) (size number : ℕ) (own : Option ℕ) (into : Region) where
  pub grown_read : (g : Grown) → IsGrownFor size into g
      → ReadsOn (grows root size into.id) (noted root size number own (grown_note root size into.id g) ∷ []) none_asked
      (give (as_grown size g))
  grown_read (grown.Enough k r) is =
      subst (λ (x : Region). ReadsOn (grows root size into.id)
      (noted root size number own (notes.access root (Did.Room size k)) ∷ []) none_asked
      (give (record { capacity = k; spare = x.id }))) (sym is.1)
      (stays_on root size number own into.id (Did.Room size k) k refl (tells_on root size number own k))
  grown_read (grown.Extended r) is =
      subst (λ (x : Region). ReadsOn (grows root size into.id)
      (noted root size number own (notes.access root (Did.Extend size)) ∷ []) none_asked
      (give (record { capacity = size; spare = x.id }))) (sym is)
      (stays_on root size number own into.id (Did.Extend size) size refl (extends_on root size number own))
  grown_read (grown.Replaced r) is = moves_on root size number own into.id r.id

-- ---- What follows an ask.

module _ (shape : Shape) (lane class size : ℕ) (root : RootId)
    (class_is : class_of (geometry_of shape) size ≡ Some class) where
  abbrev obtaining : ℕ → Reader (Result ℕ Reply)
  obtaining c = obtain shape lane c >>= grow_with root size

  -- what follows once the root has so much
  abbrev pub after_ask : ℕ → Reader (Result ℕ Reply)
  after_ask k =
      given (class_of (geometry_of shape) size) >>= (λ c. if nat_le size k then give (Ok k) else obtaining c)

  tested : (k : ℕ) (b : Bool) → nat_le size k ≡ b → (log : Log)
      → after_ask k log ≡ (if b then give (Ok k) else obtaining class) log
  tested k b is log =
      ap (λ (o : Option ℕ). (given o >>= (λ c. if nat_le size k then give (Ok k) else obtaining c)) log) class_is
      ∙ ap (λ (t : Bool). (if t then give (Ok k) else obtaining class) log) is

  pub after_enough : (k : ℕ) → size ≤ k → (log : Log) → after_ask k log ≡ give (Ok k) log
  after_enough k le = tested k true (at_least size k le)

  pub after_short : (k : ℕ) → k < size → (log : Log) → after_ask k log ≡ obtaining class log
  after_short k lt = tested k false (too_few size k lt)

-- and what follows once it was given a region
abbrev pub after_grown : ℕ → LawGrown → Reader (Result ℕ Reply)
after_grown size g = given (check (nat_le size g.capacity)) >> (put_away g.spare >> give (Ok g.capacity))

pub grown_enough : (size : ℕ) (g : LawGrown) → size ≤ g.capacity → (log : Log)
    → after_grown size g log ≡ (put_away g.spare >> give (Ok g.capacity)) log
grown_enough size g le log =
    ap (λ (b : Bool). (given (check b) >> (put_away g.spare >> give (Ok g.capacity))) log)
    (at_least size g.capacity le)
