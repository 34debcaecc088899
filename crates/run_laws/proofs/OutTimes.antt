-- How often a taking is out of an arena, over its history.
use Rattle.std.proofs.Common.{inl, inr, ◌≡◌, ℕ, zero, suc, ◌+◌, ◌≤◌, List, [], ◌∷◌, ◌++◌, refl, sym, ap, subst, arith, Bool, true, false, Some, None, ◌∙◌}
use Rattle.std.specs.Prelude.{nat_lt, not, filter, Option, option_and_then, slice_get}
use Rattle.std.specs.List.{list_any}
use Rattle.size_classes.specs.Sizes.{Geometry, class_count}
use Rattle.pool_law.specs.declared.id.RegionId.{RegionId}
use Rattle.pool_law.specs.declared.note.Did.{Did}
use Rattle.pool_law.specs.declared.note.Did.TheVariants.{Take, Full, Give}
use Rattle.pool_law.specs.Same.{same_taking, same_region}
use Rattle.pool_law.specs.Arenas.{Arena, arena_step, take, give, is_out_of, if_none}
use Rattle.pool_law.specs.Histories.{after}
use Rattle.pool_law.specs.Lives.{with_uses}
use Rattle.arena_laws.specs.Slots.{EachOf, ArenaHolds}
use Rattle.arena_laws.specs.Takings.{TakenInOrder}
use Rattle.arena_laws.specs.Returns.{gives}
use Rattle.run_laws.specs.CacheCounts.{one_of, total_by}
use Rattle.pool_law.proofs.SameLemmas.{same_region-is}
use Rattle.pool_law.proofs.PatternLemmas.{same_taking-refl}
use Rattle.arena_laws.proofs.ArenaLaw.{step-holds}
use Rattle.arena_laws.proofs.GiveSteps.{IsOne}
use Rattle.arena_laws.proofs.ReturnLaw.{take_note-out}
use Rattle.run_laws.proofs.LifeLaw.{same_taking-uses}
use Rattle.run_laws.proofs.ApartLaw.{same_taking-back}
use Rattle.std.proofs.lemmas.Bool.{cond_both}

-- how often a taking is out
abbrev pub out_times : RegionId → List RegionId → ℕ
out_times r [] = 0
out_times r (x ∷ xs) = one_of (same_taking x r) + out_times r xs

abbrev pub takes_taking : RegionId → Did → ℕ
takes_taking r (Take c x) = one_of (same_taking x r)
takes_taking r _ = 0

abbrev pub gives_taking : RegionId → Did → ℕ
gives_taking r d = one_of (gives r d)

pub out-append : (r : RegionId) (xs ys : List RegionId) → out_times r (xs ++ ys) ≡ out_times r xs + out_times r ys
out-append r [] ys = omega arith
out-append r (x ∷ xs) ys = omega (arith, out-append r xs ys)

pub takings-alike : (g x r : RegionId) → same_taking g x ≡ true → same_taking g r ≡ true → same_taking x r ≡ true
takings-alike g x r e d =
    let x_is : with_uses g x.uses ≡ x = sym (same_taking-uses g x e) in
    let r_is : with_uses g r.uses ≡ r = sym (same_taking-uses g r d) in
    let base : same_taking (with_uses g x.uses) (with_uses g r.uses) ≡ true = same_taking-refl g in
    subst (λ y. same_taking x y ≡ true) r_is (subst (λ y. same_taking y (with_uses g r.uses) ≡ true) x_is base)

pub filter-less : (g r : RegionId) (xs : List RegionId)
    → out_times r (filter (λ o. not (same_taking g o)) xs) ≤ out_times r xs
filter-less g r [] = omega arith
filter-less g r (x ∷ xs) =
    cond_both (not (same_taking g x)) (x ∷ filter (λ o. not (same_taking g o)) xs)
    (filter (λ o. not (same_taking g o)) xs) (λ z. out_times r z ≤ out_times r (x ∷ xs))
    (λ _. omega (arith, filter-less g r xs)) (λ _. omega (arith, filter-less g r xs))

-- what is given back was out, and is out no more
pub filter-gives : (g r : RegionId) (xs : List RegionId) → list_any (λ o. same_taking g o) xs ≡ true
    → same_taking g r ≡ true → 1 + out_times r (filter (λ o. not (same_taking g o)) xs) ≤ out_times r xs
filter-gives g r [] e same = absurd (cc e)
filter-gives g r (x ∷ xs) e same = go (same_taking g x) refl (λ more. filter-gives g r xs more same)
  where
    go : (b : Bool) → same_taking g x ≡ b
        → (list_any (λ o. same_taking g o) xs ≡ true
        → 1 + out_times r (filter (λ o. not (same_taking g o)) xs) ≤ out_times r xs)
        → 1 + out_times r (filter (λ o. not (same_taking g o)) (x ∷ xs)) ≤ out_times r (x ∷ xs)
    go true here again =
        let one : one_of (same_taking x r) ≡ 1 = ap one_of (takings-alike g x r here same) in
        let gone : filter (λ o. not (same_taking g o)) (x ∷ xs)
        ≡ filter (λ o. not (same_taking g o)) xs = (rw here refl) in
        omega (arith, one, ap (out_times r) gone, filter-less g r xs)
    go false here again =
        let rest : list_any (λ o. same_taking g o) xs ≡ true = sym (tail here) ∙ e in
        let stays : filter (λ o. not (same_taking g o)) (x ∷ xs)
        ≡ x ∷ filter (λ o. not (same_taking g o)) xs = (rw here refl) in
        omega (arith, ap (out_times r) stays, again rest)
      where
        tail : same_taking g x ≡ false → list_any (λ o. same_taking g o) (x ∷ xs) ≡ list_any (λ o. same_taking g o) xs
        tail no_here = rw no_here refl

module _ (g : Geometry) (number : ℕ) (r : RegionId) where
  abbrev pub Balanced : Arena → Did → Arena → Type 0
  Balanced a d b = gives_taking r d + out_times r b.out ≤ takes_taking r d + out_times r a.out

  pub step-out : (a b : Arena) (d : Did) → ArenaHolds g number a → arena_step g number a d ≡ Some b → Balanced a d b
  step-out a b (Take class region) holds e =
      let t : (x : RegionId) × (same_region region x ≡ true)
      × (b.out ≡ a.out ++ x ∷ []) = take_note-out g number a b class region holds e in
      omega (
        arith,
        ap (out_times r) t.2,
        out-append r a.out (t.0 ∷ []),
        ap (λ x. one_of (same_taking x r))
            (same_region-is region t.0 t.1),
      )
  step-out a b (Full class) holds e =
      cond_both (nat_lt class (class_count g)) (if_none (take g number a class 0) a) None
      (λ z. z ≡ Some b → Balanced a (Full class) b)
      (λ _ is. go (take g number a class 0) is) (λ _ is. absurd (cc is)) e
    where
      go : (x : Option (RegionId × Arena)) → if_none x a ≡ Some b → Balanced a (Full class) b
      go None is = let same : a ≡ b = cc is in omega (arith, ap (λ x. out_times r x.out) same)
      go (Some t) is = absurd (cc is)
  step-out a b (Give region) holds e =
      cond_both (is_out_of a region) (Some (give g a region)) None (λ z. z ≡ Some b → Balanced a (Give region) b)
      (λ out is. let same : give g a region ≡ b = cc is in
      subst (λ x. Balanced a (Give region) x) same (given (same_taking region r) refl out))
      (λ _ is. absurd (cc is))
      e
    where
      given : (t : Bool) → same_taking region r ≡ t → is_out_of a region ≡ true
          → Balanced a (Give region) (give g a region)
      given true here out = omega (arith, ap one_of here, filter-gives region r a.out out here)
      given false here out = omega (arith, ap one_of here, filter-less region r a.out)
  step-out a b _ holds e = absurd (cc e)

  pub after-out : (ds : List Did) (a b : Arena) → ArenaHolds g number a → after (arena_step g number) a ds ≡ Some b
      → total_by (gives_taking r) ds + out_times r b.out ≤ total_by (takes_taking r) ds + out_times r a.out
  after-out [] a b holds e = let same : a ≡ b = cc e in omega (arith, ap (λ x. out_times r x.out) same)
  after-out (d ∷ ds) a b holds e =
      first (arena_step g number a d) (λ m is. (step-holds g number a m d holds is, step-out a m d holds is)) e
      (λ m. after-out ds m b)
    where
      first : (o : Option Arena) → ((m : Arena) → o ≡ Some m → ArenaHolds g number m × Balanced a d m)
          → option_and_then (λ m. after (arena_step g number) m ds) o ≡ Some b →
          ((m : Arena) → ArenaHolds g number m → after (arena_step g number) m ds ≡ Some b
          → total_by (gives_taking r) ds + out_times r b.out ≤ total_by (takes_taking r) ds + out_times r m.out) →
          total_by (gives_taking r) (d ∷ ds) + out_times r b.out ≤ total_by (takes_taking r) (d ∷ ds) + out_times r
          a.out
      first None step is rest = absurd (cc is)
      first (Some m) step is rest =
          let s : Balanced a d m = (step m refl).1 in omega (arith, s, rest m (step m refl).0 is)

-- a taking is taken at most once
pub taking-once : (number n m : ℕ) (r : RegionId) (ds : List Did) → TakenInOrder number n ds m
    → (total_by (takes_taking r) ds ≤ 1) × (r.taking ≤ n → total_by (takes_taking r) ds ≡ 0)
taking-once number n m r [] t = (omega arith, λ _. refl)
taking-once number n m r (Take class x ∷ ds) t =
    go (same_taking x r) (λ same. sym (ap (λ y. y.taking) (same_taking-back x r same)) ∙ t.0.taking)
    (taking-once number (n + 1) m r ds t.1)
  where
    go : (b : Bool) → (b ≡ true → r.taking ≡ n + 1)
        → (total_by (takes_taking r) ds ≤ 1) × (r.taking ≤ n + 1 → total_by (takes_taking r) ds ≡ 0) →
        (one_of b + total_by (takes_taking r) ds ≤ 1) × (r.taking ≤ n → one_of b + total_by (takes_taking r) ds ≡ 0)
    go true f ih =
        let e : r.taking ≡ n + 1 = f refl in let none : total_by (takes_taking r) ds ≡ 0 = ih.1 (omega (arith, e)) in
        (omega (arith, none), λ low. absurd (omega (arith, e, low)))
    go false f ih = (omega (arith, ih.0), λ low. omega (arith, ih.1 (omega (arith, low))))
taking-once number n m r (_ ∷ ds) t =
    let ih : (total_by (takes_taking r) ds ≤ 1) × (r.taking ≤ n → total_by (takes_taking r) ds ≡ 0) =
    taking-once number n m r ds t in
    (omega (arith, ih.0), λ low. omega (arith, ih.1 low))

pub total-at : (f : Did → ℕ) (ds : List Did) (j : ℕ) (d : Did) → slice_get ds j ≡ Some d → f d ≤ total_by f ds
total-at f [] j d e = absurd (cc e)
total-at f (x ∷ ds) zero d e = let same : x ≡ d = cc e in omega (arith, ap f same)
total-at f (x ∷ ds) (suc j) d e = omega (arith, total-at f ds j d e)

pub total-less : (f g : Did → ℕ) (ds : List Did) → ((d : Did) → f d ≤ g d) → total_by f ds ≤ total_by g ds
total-less f g [] h = omega arith
total-less f g (d ∷ ds) h = omega (arith, h d, total-less f g ds h)

pub total-append : (f : Did → ℕ) (xs ys : List Did) → total_by f (xs ++ ys) ≡ total_by f xs + total_by f ys
total-append f [] ys = omega arith
total-append f (x ∷ xs) ys = omega (arith, total-append f xs ys)

pub out-one : (r : RegionId) (xs : List RegionId) → IsOne r xs → 1 ≤ out_times r xs
out-one r [] o = absurd o
out-one r (x ∷ xs) (inl e) = omega (arith, ap (λ y. one_of (same_taking y r)) (sym e), ap one_of (same_taking-refl r))
out-one r (x ∷ xs) (inr o) = omega (arith, out-one r xs o)

pub decide : {P : Type 0} (b : Bool) → (b ≡ false → P) → (b ≡ true → P) → P
decide true f g = g refl
decide false f g = f refl

pub each-of : {X : Type 0} (P : X → Type 0) (xs : List X) → ((x : X) → IsOne x xs → P x) → EachOf P xs
each-of P [] f = tt
each-of P (x ∷ xs) f = (f x (inl refl), each-of P xs (λ y o. f y (inr o)))

pub one-any : (test : RegionId → Bool) (x : RegionId) (xs : List RegionId) → IsOne x xs → test x ≡ true
    → list_any test xs ≡ true
one-any test x [] o e = absurd o
one-any test x (y ∷ ys) (inl same) e = let here : test y ≡ true = ap test (sym same) ∙ e in rw here refl
one-any test x (y ∷ ys) (inr o) e = go (test y) refl (one-any test x ys o e)
  where
    go : (b : Bool) → test y ≡ b → list_any test ys ≡ true → list_any test (y ∷ ys) ≡ true
    go true here rest = rw here refl
    go false here rest = rw here rest
