-- How the law reads the notes of a root that is asked for capacity.
use Rattle.std.proofs.Common.{◌≡◌, ℕ, ◌<◌, ◌≤◌, [], ◌∷◌, Bool, true, false, refl, ap, ◌∙◌, arith, Option, Some, None, Ok}
use Rattle.std.specs.Prelude.{if◌then◌else◌, nat_le, Result}
use Rattle.size_classes.specs.Sizes.{class_of}
use Rattle.pool_law.specs.declared.id.RegionId.{RegionId}
use Rattle.pool_law.specs.declared.id.RootId.{RootId}
use Rattle.pool_law.specs.declared.note.Did.{Did}
use Rattle.pool_law.specs.declared.note.Note.{Note}
use Rattle.pool_law.specs.declared.note.Object.TheVariants.{Root}
use Rattle.pool_law.specs.declared.run.Reply.{Reply}
use Rattle.pool_law.specs.declared.run.Shape.{Shape}
use Rattle.pool_law.specs.Dids as says
use Rattle.pool_law.specs.Limits.{geometry_of}
use Rattle.pool_law.specs.Logs.{ToldNote}
use Rattle.pool_law.specs.Counts.{root_is}
use Rattle.pool_law.specs.Options.{check}
use Rattle.pool_law.specs.Patterns.{Grown, found_room, grow_with, grown, obtain, one_more, put_away, regrow}
use Rattle.pool_law.specs.Readers.{Log, Reader, ◌>>=◌, ◌>>◌, give, given, access, growth}
use Rattle.pool_law.proofs.PatternLemmas.{same_number, same_region-refl}
use Rattle.seat_work.specs.Readings.{before_left, behind, ReadsOn}
use Rattle.lane_stages.specs.Readings.{none_asked}
use Rattle.seat_work.proofs.GrowReads.{at_least, too_few}
use Rattle.seat_work.proofs.ReadLaws.{given_on, first_on, second_on, none_then, access_on, access_off}

-- ---- What the root answers.

module _ (root : RootId) (size n : ℕ) (e : ToldNote) (here : root_is root e.root ≡ true) where
  abbrev extends : Reader ℕ
  extends = access root (says.extend size) >> give size

  abbrev tells : Reader ℕ
  tells = access root (says.room size)

  pub room_on : (k : ℕ) → e.note ≡ Note.At (Root root.place) n (Did.Room size k)
      → ReadsOn (found_room root size) (e ∷ []) none_asked (give k)
  room_on k is =
      let so : says.room size (Did.Room size k) ≡ Some k = rw (same_number size) refl in
      second_on extends tells (e ∷ []) none_asked (give k)
      (λ log. none_then (access root (says.extend size)) (λ _. give size) (before_left log (e ∷ []))
      (access_off e root (says.extend size) n (Did.Room size k) is here refl log))
      (access_on e root (says.room size) n (Did.Room size k) is here k so)

  pub extended_on : e.note ≡ Note.At (Root root.place) n (Did.Extend size)
      → ReadsOn (found_room root size) (e ∷ []) none_asked (give size)
  extended_on is =
      let so : says.extend size (Did.Extend size) ≡ Some tt = rw (same_number size) refl in
      first_on extends tells (e ∷ []) none_asked size
      (given_on (access root (says.extend size)) (e ∷ []) none_asked (λ _. give size) tt
      (access_on e root (says.extend size) n (Did.Extend size) is here tt so))

-- ---- The root is asked first.

module _ (shape : Shape) (lane class size n : ℕ) (root : RootId) (e : ToldNote) (here : root_is root e.root ≡ true)
    (class_is : class_of (geometry_of shape) size ≡ Some class) where
  abbrev obtaining : ℕ → Reader (Result ℕ Reply)
  obtaining c = obtain shape lane c >>= grow_with root size

  -- what follows once the root has so much
  abbrev classed : ℕ → Option ℕ → Reader (Result ℕ Reply)
  classed k o = given o >>= (λ c. if nat_le size k then give (Ok k) else obtaining c)

  abbrev found_so : ℕ → Reader (Result ℕ Reply)
  found_so k = classed k (class_of (geometry_of shape) size)

  tested : (k : ℕ) (b : Bool) → nat_le size k ≡ b → (log : Log)
      → found_so k log ≡ (if b then give (Ok k) else obtaining class) log
  tested k b is log =
      ap (λ (o : Option ℕ). classed k o log) class_is
      ∙ ap (λ (t : Bool). (if t then give (Ok k) else obtaining class) log) is

  asked : (k : ℕ) → ReadsOn (found_room root size) (e ∷ []) none_asked (give k) → (b : Bool) → nat_le size k ≡ b
      → ReadsOn (regrow shape lane root size) (e ∷ []) none_asked (if b then give (Ok k) else obtaining class)
  asked k on b is log =
      given_on (found_room root size) (e ∷ []) none_asked found_so k on log
      ∙ tested k b is (behind log (e ∷ []) none_asked)

  pub read_enough : (k : ℕ) → size ≤ k → e.note ≡ Note.At (Root root.place) n (Did.Room size k)
      → ReadsOn (regrow shape lane root size) (e ∷ []) none_asked (give (Ok k))
  read_enough k le is = asked k (room_on root size n e here k is) true (at_least size k le)

  pub read_extended : e.note ≡ Note.At (Root root.place) n (Did.Extend size)
      → ReadsOn (regrow shape lane root size) (e ∷ []) none_asked (give (Ok size))
  read_extended is = asked size (extended_on root size n e here is) true (at_least size size (omega arith))

  pub read_short : (k : ℕ) → k < size → e.note ≡ Note.At (Root root.place) n (Did.Room size k)
      → ReadsOn (regrow shape lane root size) (e ∷ []) none_asked (obtaining class)
  read_short k lt is = asked k (room_on root size n e here k is) false (too_few size k lt)

-- ---- The root is asked again, with a region.

module _ (size n : ℕ) (root : RootId) (r : RegionId) (e : ToldNote) (here : root_is root e.root ≡ true) where
  -- the root grows into the region, or has so much without it
  abbrev moves : Reader Grown
  moves = growth root size (one_more r) >>= (λ left. give (record { capacity = size; spare = left }))

  abbrev stays : Reader Grown
  stays = found_room root size >>= (λ k. give (record { capacity = k; spare = r }))

  abbrev checked : Grown → Bool → Reader (Result ℕ Reply)
  checked g b = given (check b) >> (put_away g.spare >> give (Ok g.capacity))

  came_to : (g : Grown) → size ≤ g.capacity → ReadsOn (grown root size r) (e ∷ []) none_asked (give g)
      → ReadsOn (grow_with root size (Some r)) (e ∷ []) none_asked (put_away g.spare >> give (Ok g.capacity))
  came_to g le on log =
      given_on (grown root size r) (e ∷ []) none_asked (λ (x : Grown). checked x (nat_le size x.capacity)) g on log
      ∙ ap (λ (b : Bool). checked g b (behind log (e ∷ []) none_asked)) (at_least size g.capacity le)

  -- what is found or extended is no growth
  stays_on : (did : Did) → e.note ≡ Note.At (Root root.place) n did → says.grow size (one_more r) did ≡ None → (k : ℕ)
      → ReadsOn (found_room root size) (e ∷ []) none_asked (give k)
      → ReadsOn (grown root size r) (e ∷ []) none_asked (give (record { capacity = k; spare = r }))
  stays_on did is none k on =
      second_on moves stays (e ∷ []) none_asked (give (record { capacity = k; spare = r }))
      (λ log. none_then (growth root size (one_more r)) (λ left. give (record { capacity = size; spare = left }))
      (before_left log (e ∷ [])) (rw (is, same_number root.place, here, none) refl))
      (given_on (found_room root size) (e ∷ []) none_asked (λ x. give (record { capacity = x; spare = r })) k on)

  pub read_found : (k : ℕ) → size ≤ k → e.note ≡ Note.At (Root root.place) n (Did.Room size k)
      → ReadsOn (grow_with root size (Some r)) (e ∷ []) none_asked (put_away r >> give (Ok k))
  read_found k le is =
      came_to (record { capacity = k; spare = r }) le
      (stays_on (Did.Room size k) is refl k (room_on root size n e here k is))

  pub read_extended_in : e.note ≡ Note.At (Root root.place) n (Did.Extend size)
      → ReadsOn (grow_with root size (Some r)) (e ∷ []) none_asked (put_away r >> give (Ok size))
  read_extended_in is =
      came_to (record { capacity = size; spare = r }) (omega arith)
      (stays_on (Did.Extend size) is refl size (extended_on root size n e here is))

  pub read_grown : (left : RegionId) → e.region ≡ Some left
      → e.note ≡ Note.At (Root root.place) n (Did.Grow size (one_more r))
      → ReadsOn (grow_with root size (Some r)) (e ∷ []) none_asked (put_away left >> give (Ok size))
  read_grown left has is =
      let on : ReadsOn (growth root size (one_more r)) (e ∷ []) none_asked (give left) =
      (λ log. rw (is, same_number root.place, here, same_number size, same_region-refl (one_more r), has) refl) in
      came_to (record { capacity = size; spare = left }) (omega arith)
      (first_on moves stays (e ∷ []) none_asked (record { capacity = size; spare = left })
      (given_on (growth root size (one_more r)) (e ∷ []) none_asked
      (λ x. give (record { capacity = size; spare = x })) left on))
