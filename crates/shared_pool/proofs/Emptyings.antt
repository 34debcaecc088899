-- What is out of the arenas of a closed pool, as what is left is given back.
use Rattle.std.proofs.Common.{◌≡◌, ◌≢◌, ℕ, zero, suc, ◌+◌, ◌<◌, ◌≤◌, List, [], ◌∷◌, ◌++◌, append_assoc, append-nil, length, take, drop, Bool, true, false, cond, sym, refl, ap, ◌∙◌, subst, arith, get_or, eq-eqb, ne_eqb, inl, Some, None}
use Rattle.std.specs.Prelude.{◌==◌, ◌||◌, not, if◌then◌else◌, Option, All, sum_by, slice_get, slice_set}
use Rattle.std.specs.List.{list_any}
use Rattle.std.proofs.lemmas.List.Elements.{All-head, All-tail, All-append}
use Rattle.std.proofs.lemmas.List.Sums.{sum_by-cons, sum_by-append}
use Rattle.std.proofs.lemmas.Option.{slice_get_within}
use mathlib.Core.Logic.{dite}
use native.Mathlib.Decide.{ℕ_discrete}
use Rattle.ground.specs.Ground.{Origin, Segment}
use Rattle.ground.specs.Grounds.{Grounds}
use Rattle.size_classes.specs.Sizes.{Geometry}
use Rattle.pool_law.specs.declared.id.RegionId.{RegionId}
use Rattle.pool_law.specs.Arenas.{Arena as ArenaLaw, is_out_of}
use Rattle.pool_law.specs.Places.{IsInPlace}
use Rattle.pool_law.specs.Same.{same_taking}
use Rattle.pool_law.proofs.PatternLemmas.{same_taking-refl}
use Rattle.pool_law.proofs.ListLemmas.{slice_get-set_other, get-front, item-at as place_there, front-is}
use Rattle.history_laws.specs.NoteCounts.{one_if_so, is_taking}
use Rattle.history_laws.proofs.Names.{same_taking-is, same_taking-both, same_taking-key}
use Rattle.arena_laws.specs.Slots.{ArenaHolds, IsLocated, EachOf}
use Rattle.arena_laws.specs.Covered.{IsCovered}
use Rattle.arena_laws.proofs.ArenaLaw.{give-holds}
use Rattle.arena_laws.proofs.CoveredGives.{give-covered}
use Rattle.arena_laws.proofs.CoveredLaw.{covered-rests}
use Rattle.arena_laws.proofs.ElementGives.{EachOf-one}
use Rattle.arena_laws.proofs.OutSlots.{out-slot}
use Rattle.pool_arena.specs.ArenaStates.{ArenaState, law_of, IsOutOf, Gives, AtRest, without_taking}
use Rattle.shared_pool.specs.declared.home.Home.{Home}
use Rattle.shared_pool.specs.declared.home.Home.TheVariants.{Arena, Cache, Bin, Root}
use Rattle.shared_pool.proofs.ClosingEntries.{from_at}
use Rattle.shared_pool.specs.Emptying.{Left, left_at, left_of, IsOutside, IsArenaWith, AreOut, MayGive, GivesAt, IsResting}
use Rattle.step_law.proofs.Changes.{each_front, each_back}

-- ---- Takings in a list.

all_alike : (q r : RegionId) (xs : List RegionId) → same_taking q r ≡ true
    → sum_by (is_taking q) xs ≡ sum_by (is_taking r) xs
all_alike q r [] e = refl
all_alike q r (x ∷ xs) e =
    let a = sum_by-cons (is_taking q) x xs in let b = sum_by-cons (is_taking r) x xs in let c =
    ap one_if_so (same_taking-key q r x e) in let d = all_alike q r xs e in
    omega (arith, a, b, c, d)

none_left : (r : RegionId) (xs : List RegionId) → sum_by (is_taking r) (without_taking r xs) ≡ 0
none_left r [] = refl
none_left r (x ∷ xs) = by (same_taking r x) refl (none_left r xs)
  where
    by : (b : Bool) → same_taking r x ≡ b → sum_by (is_taking r) (without_taking r xs) ≡ 0
        → sum_by (is_taking r) (if not b then x ∷ without_taking r xs else without_taking r xs) ≡ 0
    by true e ih = ih
    by false e ih =
        let a = sum_by-cons (is_taking r) x (without_taking r xs) in let b = ap one_if_so e in omega (arith, a, b, ih)

others_left : (q r : RegionId) (xs : List RegionId) → same_taking q r ≡ false
    → sum_by (is_taking q) (without_taking r xs) ≡ sum_by (is_taking q) xs
others_left q r [] e = refl
others_left q r (x ∷ xs) e = by (same_taking r x) refl (others_left q r xs e)
  where
    by : (b : Bool) → same_taking r x ≡ b → sum_by (is_taking q) (without_taking r xs) ≡ sum_by (is_taking q) xs →
        sum_by (is_taking q) (if not b then x ∷ without_taking r xs else without_taking r xs)
        ≡ sum_by (is_taking q) (x ∷ xs)
    by true t ih =
        let a = sum_by-cons (is_taking q) x xs in let b = ap one_if_so (same_taking-both q r x t ∙ e) in
        omega (arith, a, b, ih)
    by false t ih =
        let a = sum_by-cons (is_taking q) x xs in let b = sum_by-cons (is_taking q) x (without_taking r xs) in
        omega (arith, a, b, ih)

-- a taking that is there once leaves the list
removed : (q r : RegionId) (xs : List RegionId) → sum_by (is_taking r) xs ≡ 1
    → sum_by (is_taking q) xs ≡ is_taking q r + sum_by (is_taking q) (without_taking r xs)
removed q r xs one = by (same_taking q r) refl
  where
    by : (b : Bool) → same_taking q r ≡ b → sum_by (is_taking q) xs
        ≡ one_if_so (same_taking q r) + sum_by (is_taking q) (without_taking r xs)
    by true e =
        let a = all_alike q r xs e in let b = all_alike q r (without_taking r xs) e in let c = none_left r xs in let d =
        ap one_if_so e in
        omega (arith, a, b, c, d, one)
    by false e = let a = others_left q r xs e in let d = ap one_if_so e in omega (arith, a, d)

any_of : (r : RegionId) (xs : List RegionId) → 0 < sum_by (is_taking r) xs
    → list_any (λ other. same_taking r other) xs ≡ true
any_of r [] lt = absurd (omega (arith, lt))
any_of r (x ∷ xs) lt = by (same_taking r x) refl (any_of r xs)
  where
    by : (b : Bool) → same_taking r x ≡ b
        → (0 < sum_by (is_taking r) xs → list_any (λ other. same_taking r other) xs ≡ true)
        → (b || list_any (λ other. same_taking r other) xs) ≡ true
    by true e ih = refl
    by false e ih = ih (let a = sum_by-cons (is_taking r) x xs in let b = ap one_if_so e in omega (arith, a, b, lt))

one_self : (r : RegionId) → is_taking r r ≡ 1
one_self r = ap one_if_so (same_taking-refl r)

-- ---- One arena.

module _ (grounds : Grounds) (k : ℕ) (out : List RegionId) (a : ArenaState) (r : RegionId)
    (o : IsOutside grounds k out a) (is_out : 0 < sum_by (is_taking r) out) where
  any : is_out_of (law_of a out) r ≡ true
  any = any_of r out is_out

  outs : r.place.arena ≡ k → IsOutOf a r
  outs e = (e ∙ sym o.number_is, out-slot a.geometry a.number (law_of a out) r o.holds any)

  given : (new : ArenaState) → Gives a r new → IsOutside grounds k (without_taking r out) new
  given new g = record {
    number_is = g.same.number ∙ o.number_is;
    on =
        subst (λ (x : ℕ × List Origin). slice_get grounds x.0 ≡ Some x.1)
        (λ i. (sym g.same.number i, sym g.same.grounds i)) o.on;
    holds =
        subst (λ (y : Geometry × ℕ). ArenaHolds y.0 y.1 (law_of new (without_taking r out)))
        (λ i. (sym g.same.geometry i, sym g.same.number i))
        (subst (λ (x : ArenaLaw). ArenaHolds a.geometry a.number x) (g.step out)
        (give-holds a.geometry a.number (law_of a out) r o.holds any));
    covered = subst (λ (y : Geometry). IsCovered y (law_of new (without_taking r out))) (sym g.same.geometry)
        (subst (λ (x : ArenaLaw). IsCovered a.geometry x) (g.step out)
        (give-covered a.geometry (law_of a out) o.holds.sound o.holds.whole o.covered r
        (out-slot a.geometry a.number (law_of a out) r o.holds any)));
  }

-- where no taking is out nothing of a chunk is
resting : (grounds : Grounds) (k : ℕ) (out : List RegionId) (a : ArenaState) → IsOutside grounds k out a
    → ((q : RegionId) → q.place.arena ≡ k → sum_by (is_taking q) out ≡ 0) → AtRest a
resting grounds k [] a o none c = covered-rests a.geometry (law_of a []) o.covered refl c
resting grounds k (x ∷ out) a o none c =
    let here = (EachOf-one (λ (y : RegionId). y.place.arena ≡ a.number) (x ∷ out) x (places (x ∷ out) o.holds.located)
    (inl refl)) in
    let z = none x (here ∙ o.number_is) in let one = sum_by-cons (is_taking x) x out in let self = one_self x in
    absurd (omega (arith, z, one, self))
  where
    places : (ys : List RegionId) → EachOf (IsLocated a.geometry a.number (law_of a (x ∷ out))) ys
        → EachOf (λ (y : RegionId). y.place.arena ≡ a.number) ys
    places [] all = tt
    places (y ∷ ys) all = (all.0.0, places ys all.1)

-- ---- All arenas.

module _ (n : ℕ) (homes : List (Option Home)) (r : RegionId) (p : Segment) (left : List Left)
    (o : AreOut n homes ((r, p) ∷ left)) where
  abbrev k : ℕ
  k = r.place.arena

  here : (k < n) × IsInPlace o.grounds r.place p
  here = All-head (λ (x : Left). (x.0.place.arena < n) × IsInPlace o.grounds x.0.place x.1) (r, p) left o.placed

  -- it is as long as its place
  pub fits_at : length p.bytes ≡ r.place.len
  fits_at = here.1.size

  -- it is out, once, and is not left a second time
  once_out : sum_by (is_taking r) (o.out k) ≡ 1
  once_out =
      let a = sum_by-cons (λ (x : Left). is_taking r x.0) (r, p) left in let b = o.left_is r here.0 in let c =
      o.once r here.0 in let d = one_self r in
      omega (arith, a, b, c, d)

  may_home : (x : Option (Option Home)) → slice_get homes k ≡ x → IsArenaWith o.grounds k (o.out k) x
      → (y : Option Home) × (x ≡ Some y) × MayGive y r p
  may_home (Some (Some (Arena a))) is at = (
    Some (Arena a),
    refl,
    (
      outs o.grounds k (o.out k) a.value r at (let e = once_out in omega (arith, e)) refl,
      record
          { grounds = o.grounds; are = at.on; place = here.1 },
    ),
  )
  may_home None is at = absurd at
  may_home (Some None) is at = absurd at
  may_home (Some (Some (Cache q))) is at = absurd at
  may_home (Some (Some (Bin b))) is at = absurd at
  may_home (Some (Some (Root s))) is at = absurd at

  -- the arena of its place takes it back
  pub may_give : (y : Option Home) × (slice_get homes k ≡ Some y) × MayGive y r p
  may_give = let t = may_home (slice_get homes k) refl (o.arena k here.0) in (t.0, t.1, t.2)

  -- the takings that are out then
  abbrev out_then : ℕ → List RegionId
  out_then j = cond (j == k) (without_taking r (o.out k)) (o.out j)

  then_here : (j : ℕ) → j ≡ k → out_then j ≡ without_taking r (o.out k)
  then_here j e = ap (λ (b : Bool). cond b (without_taking r (o.out k)) (o.out j)) (eq-eqb j k e)

  then_other : (j : ℕ) → j ≢ k → out_then j ≡ o.out j
  then_other j ne = ap (λ (b : Bool). cond b (without_taking r (o.out k)) (o.out j)) (ne_eqb j k ne)

  given_home : (y z : Option Home) → IsArenaWith o.grounds k (o.out k) (Some y) → GivesAt y r z
      → IsArenaWith o.grounds k (without_taking r (o.out k)) (Some z)
  given_home (Some (Arena a)) (Some (Arena b)) at gives =
      given o.grounds k (o.out k) a.value r at (let e = once_out in omega (arith, e)) b.value gives
  given_home (Some (Arena a)) None at gives = absurd gives
  given_home (Some (Arena a)) (Some (Cache q)) at gives = absurd gives
  given_home (Some (Arena a)) (Some (Bin b)) at gives = absurd gives
  given_home (Some (Arena a)) (Some (Root s)) at gives = absurd gives
  given_home None z at gives = absurd at
  given_home (Some (Cache q)) z at gives = absurd at
  given_home (Some (Bin b)) z at gives = absurd at
  given_home (Some (Root s)) z at gives = absurd at

  -- the others are still out
  sums : (q : RegionId) → q.place.arena < n → sum_by (λ (x : Left). is_taking q x.0) left
      ≡ sum_by (is_taking q) (out_then q.place.arena)
  sums q lt =
      let all = o.left_is q lt in let more = sum_by-cons (λ (x : Left). is_taking q x.0) (r, p) left in
      dite (ℕ_discrete q.place.arena k)
      (λ e.
      let a = removed q r (o.out k) once_out in let b = ap (λ (j : ℕ). sum_by (is_taking q) (o.out j)) e in let c =
      ap (λ (xs : List RegionId). sum_by (is_taking q) xs) (then_here q.place.arena e) in
      omega (arith, all, more, a, b, c))
      (λ ne.
      let none : is_taking q r ≡ 0 = by (same_taking q r) refl ne in let c =
      ap (λ (xs : List RegionId). sum_by (is_taking q) xs) (then_other q.place.arena ne) in
      omega (arith, all, more, none, c))
    where
      by : (b : Bool) → same_taking q r ≡ b → q.place.arena ≢ k → one_if_so (same_taking q r) ≡ 0
      by true e ne = let s = same_taking-is q r e in absurd (ne (λ i. (s.place i).arena))
      by false e ne = ap one_if_so e

  -- what is out once it is given back
  pub gave : (homes' : List (Option Home)) (y z : Option Home) → slice_get homes k ≡ Some y
      → slice_get homes' k ≡ Some z → GivesAt y r z → ((j : ℕ) → j ≢ k → slice_get homes' j ≡ slice_get homes j)
      → AreOut n homes' left
  gave homes' y z was is gives others = record {
    grounds = o.grounds;
    out = out_then;
    arena = λ j lt. dite (ℕ_discrete j k)
        (λ e. subst (λ (x : ℕ × List RegionId). IsArenaWith o.grounds x.0 x.1 (slice_get homes' x.0))
        (λ i. (sym e i, (sym (then_here k refl) ∙ ap out_then (sym e)) i))
        (subst (λ (x : Option (Option Home)). IsArenaWith o.grounds k (without_taking r (o.out k)) x) (sym is)
        (given_home y z (subst (λ (x : Option (Option Home)). IsArenaWith o.grounds k (o.out k) x) was
        (o.arena k here.0)) gives)))
        (λ ne. subst (λ (x : List RegionId × Option (Option Home)). IsArenaWith o.grounds j x.0 x.1)
        (λ i. (sym (then_other j ne) i, sym (others j ne) i)) (o.arena j lt));
    once =
        λ q lt. let a =
        sums q lt in let b =
        sum_by-cons (λ (x : Left). is_taking q x.0) (r, p) left in let c =
        o.left_is q lt in let d = o.once q lt in omega (arith, a, b, c, d);
    left_is = sums;
    placed = All-tail (λ (x : Left). (x.0.place.arena < n) × IsInPlace o.grounds x.0.place x.1) (r, p) left o.placed;
  }

-- ---- A list with another value at a place.

pub set_here : {X : Type 0} (xs : List X) (i : ℕ) (y x : X) → slice_get xs i ≡ Some y
    → slice_get (slice_set xs i x) i ≡ Some x
set_here [] i y x is = absurd (cc is)
set_here (z ∷ xs) zero y x is = refl
set_here (z ∷ xs) (suc i) y x is = set_here xs i y x is

pub there_at : {X : Type 0} (xs : List X) (i : ℕ) (y d : X) → slice_get xs i ≡ Some y
    → (i < length xs) × (get_or xs i d ≡ y)
there_at [] i y d is = absurd (cc is)
there_at (z ∷ xs) zero y d is = (omega arith, cc is)
there_at (z ∷ xs) (suc i) y d is =
    let r = there_at xs i y d is in
    (let n : ℕ = length xs in let r' : i < n = r.0 in let g : suc i < suc n = omega (arith, r') in g, r.1)

pub written : {X : Type 0} (n : ℕ) (xs ys : List X) → n ≡ length xs → take n (xs ++ drop (length xs) ys) ≡ xs
written n xs ys e = ap (λ (m : ℕ). take m (xs ++ drop (length xs) ys)) e ∙ front-is xs (drop (length xs) ys)

-- ---- Nothing is left.

pub at_rest : (n : ℕ) (homes : List (Option Home)) → AreOut n homes [] → (k : ℕ) → k < n → (y : Option Home)
    → slice_get homes k ≡ Some y → IsResting y
at_rest n homes o k lt y is =
    go y (subst (λ (x : Option (Option Home)). IsArenaWith o.grounds k (o.out k) x) is (o.arena k lt))
  where
    go : (y : Option Home) → IsArenaWith o.grounds k (o.out k) (Some y) → IsResting y
    go (Some (Arena a)) at =
        resting o.grounds k (o.out k) a.value at
        (λ q e. let z = o.left_is q (subst (λ (j : ℕ). j < n) (sym e) lt) in
        ap (λ (j : ℕ). sum_by (is_taking q) (o.out j)) (sym e) ∙ sym z)
    go None at = absurd at
    go (Some (Cache q)) at = absurd at
    go (Some (Bin b)) at = absurd at
    go (Some (Root s)) at = absurd at

pub all_rest : (n : ℕ) (homes : List (Option Home)) → length homes ≡ n → AreOut n homes [] → All IsResting homes
all_rest n homes many o =
    from_at IsResting homes (λ k y is. at_rest n homes o k
    (subst (λ (m : ℕ). k < m) many (slice_get_within homes k y is)) y is)

-- ---- Home values without the last, and with another arena.

-- arenas have nothing left
none_left_at : (grounds : Grounds) (k : ℕ) (out : List RegionId) (y : Option Home) → IsArenaWith grounds k out (Some y)
    → left_at y ≡ []
none_left_at grounds k out (Some (Arena a)) at = refl
none_left_at grounds k out None at = absurd at
none_left_at grounds k out (Some (Cache q)) at = absurd at
none_left_at grounds k out (Some (Bin b)) at = absurd at
none_left_at grounds k out (Some (Root s)) at = absurd at

none_in : (homes : List (Option Home)) → ((k : ℕ) (y : Option Home) → slice_get homes k ≡ Some y → left_at y ≡ [])
    → left_of homes ≡ []
none_in [] each = refl
none_in (x ∷ homes) each = (λ i. each 0 x refl i ++ left_of homes) ∙ none_in homes (λ k. each (suc k))

pub none_left_of : (n : ℕ) (homes : List (Option Home)) (left : List Left) → length homes ≡ n → AreOut n homes left
    → left_of homes ≡ []
none_left_of n homes left many o = none_in homes (λ k y is.
    none_left_at o.grounds k (o.out k) y
    (subst (IsArenaWith o.grounds k (o.out k)) is
    (o.arena k (subst (λ (m : ℕ). k < m) many (slice_get_within homes k y is)))))

left_behind : (rest : List (Option Home)) (x : Option Home)
    → left_of (rest ++ x ∷ []) ≡ left_of rest ++ (left_at x ++ [])
left_behind [] x = refl
left_behind (y ∷ rest) x =
    ap (λ (xs : List Left). left_at y ++ xs) (left_behind rest x)
    ∙ sym (append_assoc (left_at y) (left_of rest) (left_at x ++ []))

-- the last of them comes into the hand
pub popped : (n : ℕ) (homes rest : List (Option Home)) (x : Option Home) → homes ≡ rest ++ x ∷ [] → n ≤ length rest
    → AreOut n homes (left_of homes) → AreOut n rest (left_at x ++ left_of rest)
popped n homes rest x is le o = record {
  grounds = o.grounds;
  out = o.out;
  arena = λ k lt. let t = place_there rest k (omega (arith, lt, le)) in
      subst (IsArenaWith o.grounds k (o.out k))
      (ap (λ (xs : List (Option Home)). slice_get xs k) is ∙ get-front rest (x ∷ []) k t.0 t.1 ∙ sym t.1)
      (o.arena k lt);
  once = o.once;
  left_is = λ q lt.
      let a = sum_by-append (λ (y : Left). is_taking q y.0) (left_at x) (left_of rest) in let b =
      sum_by-append (λ (y : Left). is_taking q y.0) (left_of rest) (left_at x ++ []) in
      let d = sum_by-append (λ (y : Left). is_taking q y.0) (left_at x) [] in let e = o.left_is q lt in
      let f = ap (λ (xs : List (Option Home)). sum_by (λ (y : Left). is_taking q y.0) (left_of xs)) is in let g =
      ap (λ (xs : List Left). sum_by (λ (y : Left). is_taking q y.0) xs) (left_behind rest x) in
      omega (arith, a, b, d, e, f, g);
  placed = let P : Left → Type 0 = λ (y : Left). (y.0.place.arena < n) × IsInPlace o.grounds y.0.place y.1 in
      let all = subst (λ (xs : List Left). All P xs)
      (ap left_of is ∙ left_behind rest x ∙ (λ i. left_of rest ++ append-nil (left_at x) i)) o.placed in
      All-append P (left_at x) (left_of rest) (each_back P (left_of rest) (left_at x) all)
      (each_front P (left_of rest) (left_at x) all);
}

-- an arena in the place of another changes nothing of what is left
left_set : (homes : List (Option Home)) (k : ℕ) (y z : Option Home) → slice_get homes k ≡ Some y → left_at z ≡ left_at y
    → left_of (slice_set homes k z) ≡ left_of homes
left_set [] k y z is same = refl
left_set (x ∷ homes) zero y z is same =
    let here : x ≡ y = cc is in ap (λ (xs : List Left). xs ++ left_of homes) (same ∙ ap left_at (sym here))
left_set (x ∷ homes) (suc k) y z is same = ap (λ (xs : List Left). left_at x ++ xs) (left_set homes k y z is same)

both_arenas : (y z : Option Home) (r : RegionId) → GivesAt y r z → left_at z ≡ left_at y
both_arenas (Some (Arena a)) (Some (Arena b)) r gives = refl
both_arenas (Some (Arena a)) None r gives = absurd gives
both_arenas (Some (Arena a)) (Some (Cache q)) r gives = absurd gives
both_arenas (Some (Arena a)) (Some (Bin b)) r gives = absurd gives
both_arenas (Some (Arena a)) (Some (Root s)) r gives = absurd gives
both_arenas None z r gives = absurd gives
both_arenas (Some (Cache q)) z r gives = absurd gives
both_arenas (Some (Bin b)) z r gives = absurd gives
both_arenas (Some (Root s)) z r gives = absurd gives

-- a region in the hand is given to its arena
pub handed : (n : ℕ) (homes : List (Option Home)) (r : RegionId) (p : Segment) (left : List Left) (y z : Option Home)
    → AreOut n homes ((r, p) ∷ (left ++ left_of homes)) →
    slice_get homes r.place.arena ≡ Some y → GivesAt y r z
    → AreOut n (slice_set homes r.place.arena z) (left ++ left_of (slice_set homes r.place.arena z))
handed n homes r p left y z o is gives =
    let k : ℕ = r.place.arena in
    subst (λ (xs : List Left). AreOut n (slice_set homes k z) (left ++ xs))
    (sym (left_set homes k y z is (both_arenas y z r gives)))
    (gave n homes r p (left ++ left_of homes) o (slice_set homes k z) y z is (set_here homes k y z is) gives
    (λ j ne. slice_get-set_other homes k j z ne))
