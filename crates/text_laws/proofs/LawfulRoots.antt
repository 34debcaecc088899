-- How regions are obtained and put away, and roots allotted, grown and ended: what is noted of it is lawful.
use Rattle.std.proofs.Common.{⊎_elim, ◌≡◌, ℕ, ◌<◌, ◌/◌, ◌%◌, [], ◌∷◌, Option, Some, None, Ok, Err, refl, sym, ap, subst, arith, ◌∙◌, eqb-true}
use Rattle.std.specs.Prelude.{◌==◌, if◌then◌else◌, nat_le}
use Rattle.std.proofs.lemmas.List.Quantifiers.{position-Some}
use Rattle.size_classes.specs.Sizes.{Geometry, class_count, class_of, sizes}
use Rattle.size_classes.proofs.Powers.{length-first_sizes}
use Rattle.pool_law.specs.declared.id.RegionId.{RegionId}
use Rattle.pool_law.specs.declared.id.RootId.{RootId}
use Rattle.pool_law.specs.declared.note.Did.{Did}
use Rattle.pool_law.specs.declared.note.Did.TheVariants.{Back, Give, Take}
use Rattle.pool_law.specs.declared.note.Object.{Object}
use Rattle.pool_law.specs.declared.run.Reply.{Reply}
use Rattle.pool_law.specs.declared.run.Shape.{Shape}
use Rattle.pool_law.specs.Dids as says
use Rattle.pool_law.specs.Limits.{geometry_of, has_cache}
use Rattle.pool_law.specs.Logs.{ToldNote}
use Rattle.pool_law.specs.Options.{check}
use Rattle.pool_law.specs.Patterns.{allot, ask_arena, ask_cache, bear, end_of, found_room, give_back, grow_with, grown, not_kept, obtain, offer, one_more, put_away, regrow, release, with_handle}
use Rattle.pool_law.specs.Readers.{Log, Reader, ◌>>=◌, ◌>>◌, ◌or◌, access, ask, busy, ending, found, give, given, growth, marked, not_found, note, nothing, step, unless_there}
use Rattle.pool_law.specs.Same.{same_region}
use Rattle.pool_law.proofs.SameLemmas.{same_region-is}
use Rattle.run_laws.proofs.Acts.{IsAt}
use Rattle.run_laws.proofs.EndActs.{ending-read}
use Rattle.run_laws.proofs.GrowActs.{growth-read}
use Rattle.run_laws.proofs.Keeping.{Chains, Keeps, keeps-bind, keeps-give, keeps-given, keeps-if, keeps-or, keeps-then}
use Rattle.run_laws.proofs.LaneActs.{AnyNote}
use Rattle.run_laws.proofs.PlaceLaw.{if_so-test}
use Rattle.run_laws.proofs.Readings.{bind-some, check-true, give_back-read, next-read, note-read, or-some}
use Rattle.text_laws.proofs.Lawful.{IsDidLawful, IsLawful, Lawful, access-lawful, ask-lawful, busy-lawful, found-lawful, given-lawful, lawful-chain, marked-lawful, not_found-lawful, note-lawful, one-lawful, step-lawful, unless-lawful}

-- the class of a request is one of the pool's
pub class-inside : (g : Geometry) (n class : ℕ) → class_of g n ≡ Some class → class < class_count g
class-inside g n class e =
    omega (
      arith,
      (position-Some (λ size. nat_le n size) (sizes g) class 0 e).0,
      length-first_sizes (class_count g),
    )

module _ (shape : Shape) where
  abbrev count : ℕ
  count = class_count (geometry_of shape)

  abbrev Keep : {A : Type 0} → Reader A → Type 0
  Keep r = Keeps (Lawful (class_count (geometry_of shape))) r

  abbrev c : Chains (Lawful (class_count (geometry_of shape)))
  c = lawful-chain (class_count (geometry_of shape))

  -- ---- A region is obtained.

  take-lawful : (o : Object) (class : ℕ) → class < count → Keep (note o (says.take class))
  take-lawful o class low log p is =
      let n = note-read o (says.take class) log p is in
      one-lawful count n.entry log.left p.1.left n.are
      (subst (λ m. IsLawful count m []) (sym n.is) (takes n.did p.0 n.said))
    where
      takes : (d : Did) (r : RegionId) → says.take class d ≡ Some r → IsDidLawful count d []
      takes (Take other region) r e =
          let same : class ≡ other = eqb-true class other (if_so-test (class == other) region r e) in
          subst (λ k. k < count) same low
      takes _ r e = absurd (cc e)

  ask_arena-lawful : (lane class : ℕ) → class < count → Keep (ask_arena shape lane class)
  ask_arena-lawful lane class low =
      keeps-or c (found (note (Object.Arena (lane % shape.arenas)) (says.take class)))
      (not_found (note (Object.Arena (lane % shape.arenas)) (says.full class)))
      (found-lawful count (note (Object.Arena (lane % shape.arenas)) (says.take class))
      (take-lawful (Object.Arena (lane % shape.arenas)) class low))
      (not_found-lawful count (note (Object.Arena (lane % shape.arenas)) (says.full class))
      (note-lawful count (Object.Arena (lane % shape.arenas)) (says.full class) (λ k r. refl) (λ r why. refl)))

  ask_cache-lawful : (lane class : ℕ) → Keep (ask_cache lane class)
  ask_cache-lawful lane class =
      keeps-then c ask
      (found (note (Object.Cache lane class) says.hit) or
      (not_found (note (Object.Cache lane class) says.miss) or not_found (busy (Object.Cache lane class))))
      (ask-lawful count)
      (keeps-or c (found (note (Object.Cache lane class) says.hit))
      (not_found (note (Object.Cache lane class) says.miss) or not_found (busy (Object.Cache lane class)))
      (found-lawful count (note (Object.Cache lane class) says.hit)
      (note-lawful count (Object.Cache lane class) says.hit (λ k r. refl) (λ r why. refl)))
      (keeps-or c (not_found (note (Object.Cache lane class) says.miss)) (not_found (busy (Object.Cache lane class)))
      (not_found-lawful count (note (Object.Cache lane class) says.miss)
      (note-lawful count (Object.Cache lane class) says.miss (λ k r. refl) (λ r why. refl)))
      (not_found-lawful count (busy (Object.Cache lane class)) (busy-lawful count (Object.Cache lane class)))))

  obtain-lawful : (lane class : ℕ) → class < count → Keep (obtain shape lane class)
  obtain-lawful lane class low =
      let none : Option RegionId = None in
      keeps-bind c (if has_cache class then ask_cache lane class else give none)
      (λ cached. unless_there cached (ask_arena shape lane class))
      (keeps-if c (has_cache class) (ask_cache lane class) (give none) (ask_cache-lawful lane class)
      (keeps-give c none))
      (λ cached. unless-lawful count cached (ask_arena shape lane class) (ask_arena-lawful lane class low))

  -- ---- A root is allotted.

  bear-lawful : (lane place size : ℕ) (o : Option RegionId) → Keep (bear lane place size o)
  bear-lawful lane place size None =
      keeps-then c (note (Object.Bin lane) (says.home place)) (give (Err Reply.Full))
      (note-lawful count (Object.Bin lane) (says.home place) (λ k r. refl) (λ r why. refl))
      (keeps-give c (Err Reply.Full))
  bear-lawful lane place size (Some region) =
      keeps-bind c (note (Object.Root place) (says.birth place size (one_more region))) _
      (note-lawful count (Object.Root place) (says.birth place size (one_more region)) (λ k r. refl) (λ r why. refl))
      (λ root. keeps-then c (step root says.born) _ (step-lawful count root says.born) (keeps-give c _))

  pub allot-lawful : (lane size : ℕ) → Keep (allot shape lane size)
  allot-lawful lane size =
      keeps-or c (note (Object.Bin lane) says.no_handle >> give (Err Reply.Handles))
      (note (Object.Bin lane) says.handle >>= with_handle shape lane size)
      (keeps-then c (note (Object.Bin lane) says.no_handle) (give (Err Reply.Handles))
      (note-lawful count (Object.Bin lane) says.no_handle (λ k r. refl) (λ r why. refl))
      (keeps-give c (Err Reply.Handles)))
      (keeps-bind c (note (Object.Bin lane) says.handle) (with_handle shape lane size)
      (note-lawful count (Object.Bin lane) says.handle (λ k r. refl) (λ r why. refl))
      (λ place. given-lawful count (class_of (geometry_of shape) size)
      (λ class. obtain shape lane class >>= bear lane place size)
      (λ class is. keeps-bind c (obtain shape lane class) (bear lane place size)
      (obtain-lawful lane class (class-inside (geometry_of shape) size class is)) (bear-lawful lane place size))))

  -- ---- A region is put away.

  pub give_back-lawful : (r : RegionId) → Keep (give_back r)
  give_back-lawful r =
      note-lawful count (Object.Arena r.place.arena) (says.give r) (λ k x. refl) (λ x why. refl)

  -- a note, behind which the region is given
  before-given : (r : RegionId) (e : ToldNote) (log mid : Log) (p : Unit {0} × Log) → log.left ≡ e ∷ mid.left
      → ((given : ToldNote) → IsAt (Give r) given.note → IsLawful count e.note (given ∷ []))
      → give_back r mid ≡ Some p → Lawful count log.left p.1.left
  before-given r e log mid p are lawful is =
      let g = give_back-read r mid p is in
      let given_is : IsAt (Give r) g.0.note =
      record { object = Object.Arena r.place.arena; number = g.1; is = g.3 } in
      let second : IsLawful count g.0.note [] = subst (λ m. IsLawful count m []) (sym g.3) tt in
      (e ∷ g.0 ∷ [], are ∙ ap (λ xs. e ∷ xs) g.2, (lawful g.0 given_is, (second, tt)))

  offer-lawful : (r : RegionId) → Keep (offer r)
  offer-lawful r log p is =
      ⊎_elim
      (λ e. note-lawful count (Object.Cache r.owner r.class) (says.kept r) (λ k x. refl) (λ x why. refl) log p e)
      (λ e.
      let x = bind-some (not_kept r log) (λ got. give_back r got.1) p e in
      ⊎_elim (λ back. sent x.0 back x.2) (λ mark. busy_there x.0 mark x.2)
      (or-some (note (Object.Cache r.owner r.class) (says.back r) log)
      ((busy (Object.Cache r.owner r.class) >> nothing) log) x.0 x.1))
      (or-some (note (Object.Cache r.owner r.class) (says.kept r) log) ((not_kept r >> give_back r) log) p is)
    where
      backs : (d : Did) (u : Unit {0}) → says.back r d ≡ Some u → (given : ToldNote) → IsAt (Give r) given.note
          → IsDidLawful count d (given ∷ [])
      backs (Back other why) u e given at =
          let same : r ≡ other = same_region-is r other (check-true (same_region r other) u e) in
          subst (λ x. IsAt (Give x) given.note) same at
      backs _ u e given at = absurd (cc e)

      sent : (x : Unit {0} × Log) → note (Object.Cache r.owner r.class) (says.back r) log ≡ Some x
          → give_back r x.1 ≡ Some p → Lawful count log.left p.1.left
      sent x back gives =
          let n = note-read (Object.Cache r.owner r.class) (says.back r) log x back in
          before-given r n.entry log x.1 p n.are
          (λ given at. subst (λ m. IsLawful count m (given ∷ [])) (sym n.is) (backs n.did x.0 n.said given at))
          gives

      busy_there : (x : Unit {0} × Log) → (busy (Object.Cache r.owner r.class) >> nothing) log ≡ Some x
          → give_back r x.1 ≡ Some p → Lawful count log.left p.1.left
      busy_there x mark gives =
          let y = bind-some (busy (Object.Cache r.owner r.class) log) (λ got. nothing got.1) x mark in
          let n = next-read (λ z. marked (Object.Cache r.owner r.class) z.note) log y.0 y.1 in
          let same : ◌≡◌ {A = Unit {0} × Log} (tt, y.0.1) x = cc y.2 in
          before-given r n.0 log x.1 p (n.1 ∙ ap (λ q. n.0 ∷ q.1.left) same)
          (λ given at. marked-lawful count (Object.Cache r.owner r.class) n.0.note y.0.0 (given ∷ []) n.2) gives

  pub put_away-lawful : (r : RegionId) → Keep (put_away r)
  put_away-lawful r =
      keeps-if c (has_cache r.class) (offer r) (give_back r) (offer-lawful r) (give_back-lawful r)

  -- ---- A root ends, or grows.

  ending-lawful : (root : RootId) → Keep (ending root)
  ending-lawful root log p is =
      let e = ending-read AnyNote root log p is in
      one-lawful count e.entry log.left p.1.left e.are (subst (λ m. IsLawful count m []) (sym e.is.is) tt)

  growth-lawful : (root : RootId) (size : ℕ) (r : RegionId) → Keep (growth root size r)
  growth-lawful root size r log p is =
      let e = growth-read AnyNote root size r log p is in
      one-lawful count e.entry log.left p.1.left e.are (subst (λ m. IsLawful count m []) (sym e.is.is) tt)

  pub release-lawful : (root : RootId) → Keep (release shape root)
  release-lawful root =
      keeps-or c (step root says.count_kept >> give Reply.Kept) (end_of shape root >> give Reply.Freed)
      (keeps-then c (step root says.count_kept) (give Reply.Kept) (step-lawful count root says.count_kept)
      (keeps-give c Reply.Kept))
      (keeps-then c (end_of shape root) (give Reply.Freed) ends (keeps-give c Reply.Freed))
    where
      ends : Keep (end_of shape root)
      ends =
          keeps-then c (step root says.ended) _ (step-lawful count root says.ended)
          (keeps-bind c (ending root) _ (ending-lawful root)
          (λ region. keeps-then c (step root says.vacated) _ (step-lawful count root says.vacated)
          (keeps-then c (put_away region) (note (Object.Bin (root.place / shape.handles)) (says.home root.place))
          (put_away-lawful region)
          (note-lawful count (Object.Bin (root.place / shape.handles)) (says.home root.place) (λ k r. refl)
          (λ r why. refl)))))

  found_room-lawful : (root : RootId) (size : ℕ) → Keep (found_room root size)
  found_room-lawful root size =
      keeps-or c (access root (says.extend size) >> give size) (access root (says.room size))
      (keeps-then c (access root (says.extend size)) (give size)
      (access-lawful count root (says.extend size) (λ k r. refl) (λ r why. refl)) (keeps-give c size))
      (access-lawful count root (says.room size) (λ k r. refl) (λ r why. refl))

  grown-lawful : (root : RootId) (size : ℕ) (r : RegionId) → Keep (grown root size r)
  grown-lawful root size r =
      keeps-or c (growth root size (one_more r) >>= (λ old. give (record { capacity = size; spare = old })))
      (found_room root size >>= (λ k. give (record { capacity = k; spare = r })))
      (keeps-bind c (growth root size (one_more r)) (λ old. give (record { capacity = size; spare = old }))
      (growth-lawful root size (one_more r)) (λ old. keeps-give c (record { capacity = size; spare = old })))
      (keeps-bind c (found_room root size) (λ k. give (record { capacity = k; spare = r }))
      (found_room-lawful root size) (λ k. keeps-give c (record { capacity = k; spare = r })))

  grow_with-lawful : (root : RootId) (size : ℕ) (o : Option RegionId) → Keep (grow_with root size o)
  grow_with-lawful root size None = keeps-give c (Err Reply.Full)
  grow_with-lawful root size (Some r) =
      keeps-bind c (grown root size r) _ (grown-lawful root size r)
      (λ g. keeps-then c (given (check (nat_le size g.capacity))) _ (keeps-given c (check (nat_le size g.capacity)))
      (keeps-then c (put_away g.spare) (give (Ok g.capacity)) (put_away-lawful g.spare)
      (keeps-give c (Ok g.capacity))))

  pub regrow-lawful : (lane : ℕ) (root : RootId) (size : ℕ) → Keep (regrow shape lane root size)
  regrow-lawful lane root size =
      keeps-bind c (found_room root size) _ (found_room-lawful root size)
      (λ capacity. given-lawful count (class_of (geometry_of shape) size) _
      (λ class is. keeps-if c (nat_le size capacity) (give (Ok capacity))
      (obtain shape lane class >>= grow_with root size) (keeps-give c (Ok capacity))
      (keeps-bind c (obtain shape lane class) (grow_with root size)
      (obtain-lawful lane class (class-inside (geometry_of shape) size class is)) (grow_with-lawful root size))))
