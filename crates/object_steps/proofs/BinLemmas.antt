-- The places of a lane, one after another, in a queue and in a set.
use Rattle.std.proofs.Common.{◌≡◌, ℕ, zero, suc, ◌+◌, ◌≤◌, List, [], ◌∷◌, ◌++◌, Bool, true, false, refl, sym, ap, arith, eqb-true, eq-eqb, ◌∙◌}
use Rattle.std.specs.Prelude.{map, ◌==◌, ◌||◌, cond}
use Rattle.std.specs.BTreeMap.{is_at}
use Rattle.std.specs.BTreeSet.{BTreeSet, contains}
use Rattle.std.proofs.lemmas.Bool.{or_parts}
use Rattle.std.proofs.lemmas.List.{map-append}
use Rattle.std.proofs.lemmas.List.Folds.{list_any-append}
use Rattle.size_classes.specs.Sizes.{below}
use Rattle.pool_law.specs.Caches.{has_place}
use Rattle.pool_law.proofs.NumberLemmas.{is_eq-nat}
use Rattle.object_steps.specs.Homing.{AreOnce, AreAtHome}
use Rattle.std.specs.Ordering.{nat_cmp}

-- the places from the first on, so many
abbrev pub places_from : ℕ → ℕ → List ℕ
places_from first n = map (λ k. first + k) (below n)

pub places_from-more : (first n : ℕ) → places_from first (n + 1) ≡ places_from first n ++ (first + n) ∷ []
places_from-more first n =
    let next : n + 1 ≡ suc n = omega arith in
    ap (places_from first) next ∙ map-append (λ k. first + k) (below n) (n ∷ [])

pub one_more : (first n : ℕ) (places : List ℕ) → places ≡ places_from first n →
    places ++ (first + n) ∷ [] ≡ places_from first (n + 1)
one_more first n places e = rw (e, places_from-more first n) refl

-- a number is not another one
other-number : (a b : ℕ) → (a ≡ b → ⊥) → (a == b) ≡ false
other-number a b other = go (a == b) refl
  where
    go : (same : Bool) → (a == b) ≡ same → (a == b) ≡ false
    go false e = e
    go true e = absurd (other (eqb-true a b e))

-- one more place is among these just where it was, or is the new one
has-more : (p new : ℕ) (places : List ℕ) → has_place p (places ++ new ∷ [])
    ≡ (has_place p places || ((new == p) || false))
has-more p new places = list_any-append (λ q. q == p) places (new ∷ [])

-- a place behind these is not among them
place-behind : (first n m : ℕ) → n ≤ m → has_place (first + m) (places_from first n) ≡ false
place-behind first zero m behind = refl
place-behind first (suc n) m behind =
    ap (has_place (first + m)) (map-append (λ k. first + k) (below n) (n ∷ []))
    ∙ has-more (first + m) (first + n) (places_from first n)
    ∙ rw (
      place-behind first n m (omega (arith, behind)),
      other-number (first + n) (first + m)
          (λ same. omega (arith, same, behind)),
    ) refl

pub next-other : (first n : ℕ) (places : List ℕ) → places ≡ places_from first n → has_place (first + n) places ≡ false
next-other first n places e = ap (has_place (first + n)) e ∙ place-behind first n n (omega arith)

once-more : (places : List ℕ) (new : ℕ) → AreOnce places → has_place new places ≡ false → AreOnce (places ++ new ∷ [])
once-more [] new once other = (refl, tt)
once-more (p ∷ places) new once other =
    let (apart, later) = or_parts (p == new) (has_place new places) other in
    let back : (new == p) ≡ false =
    other-number new p (λ same. absurd (cc (eq-eqb p new (sym same), apart))) in (
      has-more p new places ∙ rw (once.0, back) refl,
      once-more places new once.1 later,
    )

-- the set with one more place
pub home-more : (home next : BTreeSet ℕ) (places : List ℕ) (new : ℕ) → AreAtHome home places
    → has_place new places ≡ false →
    ((q : ℕ) → contains nat_cmp next q ≡ cond (is_at (nat_cmp new) q) true (contains nat_cmp home q)) →
    AreAtHome next (places ++ new ∷ [])
home-more home next places new at other updates = (once-more places new at.0 other, same)
  where
    same : (q : ℕ) → contains nat_cmp next q ≡ has_place q (places ++ new ∷ [])
    same q = go (new == q) (has_place q places) refl refl
      where
        go : (b c : Bool) → (new == q) ≡ b → has_place q places ≡ c →
            contains nat_cmp next q ≡ has_place q (places ++ new ∷ [])
        go true true is there = rw (updates q, is_eq-nat new q, has-more q new places, is, there) refl
        go true false is there = rw (updates q, is_eq-nat new q, has-more q new places, is, there) refl
        go false true is there = rw (updates q, is_eq-nat new q, has-more q new places, is, at.1 q, there) refl
        go false false is there = rw (updates q, is_eq-nat new q, has-more q new places, is, at.1 q, there) refl
