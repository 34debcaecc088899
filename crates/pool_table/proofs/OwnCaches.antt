-- What the cache of a seat's own lane tells: what is in it and what the seat gave is what the seat took, each once.
use Rattle.std.proofs.Common.{◌≡◌, ◌⊎◌, ℕ, suc, ◌+◌, ◌<◌, ◌≤◌, List, [], ◌∷◌, ◌++◌, length, Bool, true, false, cond, eqb, refl, ap, inl, inr, arith, length-append}
use Rattle.std.specs.Prelude.{sum_by, ◌&&◌, IsTrue}
use Rattle.std.proofs.lemmas.List.Sums.{sum_by-cons, sum_by-append}
use Rattle.pool_law.specs.declared.id.RegionId.{RegionId}
use Rattle.pool_law.specs.declared.note.Did.{Did}
use Rattle.pool_law.specs.declared.note.Did.TheVariants.{Take, Give}
use Rattle.pool_law.specs.Same.{same_taking}
use Rattle.pool_law.proofs.PatternLemmas.{same_taking-refl}
use Rattle.history_laws.specs.NoteCounts.{is_taking, uses_in}
use Rattle.history_laws.proofs.Names.{same_taking-both}
use Rattle.history_laws.proofs.ArenaTakings.{of_taking}
use Rattle.history_laws.proofs.Regions.{OfCache}
use Rattle.pool_table.specs.declared.views.Entry.{Entry}
use Rattle.pool_table.specs.declared.views.Entry.TheVariants.{At, Ref, Busy}

pub true_of : (b : Bool) → IsTrue b → b ≡ true
true_of true t = refl
true_of false t = absurd (cc t)

abbrev pub load : RegionId → List RegionId → ℕ
load q rs = sum_by (is_taking q) rs

-- ---- Lists of takings.

-- a list with one of a taking is that one and the others
one_out : (r : RegionId) (ts : List RegionId) → 0 < load r ts
    → (us : List RegionId) × (length ts ≡ length us + 1) × ((q : RegionId) → load q ts ≡ is_taking q r + load q us)
one_out r [] lt = absurd (omega (arith, lt))
one_out r (x ∷ xs) lt = by (λ lt. one_out r xs lt) (of_taking r x)
  where
    by : (0 < load r xs → (us : List RegionId) × (length xs ≡ length us + 1)
        × ((q : RegionId) → load q xs ≡ is_taking q r + load q us)) →
        ((is_taking r x ≡ 1) × (uses_in r x ≡ x.uses) × (same_taking r x ≡ true))
        ⊎ ((is_taking r x ≡ 0) × (uses_in r x ≡ 0)) →
        (us : List RegionId) × (length (x ∷ xs) ≡ length us + 1)
        × ((q : RegionId) → load q (x ∷ xs) ≡ is_taking q r + load q us)
    by more (inl w) = (
      xs,
      (let g : suc (length xs) ≡ length xs + 1 = omega arith in g),
      λ q. let c =
          sum_by-cons (is_taking q) x xs in let e : is_taking q x
          ≡ is_taking q r =
          ap (λ (b : Bool). cond {A = ℕ} b 1 0) (same_taking-both q r x w.2) in omega (arith, c, e),
    )
    by more (inr w) =
        let c = sum_by-cons (is_taking r) x xs in let z = w.0 in let m = more (omega (arith, c, z, lt)) in let n =
        m.1 in (
          x ∷ m.0,
          (let g : suc (length xs) ≡ suc (length m.0) + 1 = omega (arith, n) in g),
          λ q. let a =
              sum_by-cons (is_taking q) x xs in let b =
              sum_by-cons (is_taking q) x m.0 in let d = m.2 q in omega (arith, a, b, d),
        )

-- all of these are of the lane and the class
abbrev Of : ℕ → ℕ → RegionId → Type 0
Of lane class q = (q.owner ≡ lane) × (q.class ≡ class)

-- a list that has no taking more often than another is no longer
pub no_longer : (lane class : ℕ) (ls ts : List RegionId) → OfCache lane class ls
    → ((q : RegionId) → Of lane class q → load q ls ≤ load q ts) → length ls ≤ length ts
no_longer lane class [] ts of le = omega arith
no_longer lane class (r ∷ rs) ts of le =
    let c = sum_by-cons (is_taking r) r rs in let one : is_taking r r
    ≡ 1 = ap (λ (b : Bool). cond {A = ℕ} b 1 0) (same_taking-refl r) in
    let here = le r of.0 in let out = one_out r ts (omega (arith, c, one, here)) in let n = out.1 in
    let more = no_longer lane class rs out.0 of.1
    (λ q is. let a = le q is in let b = sum_by-cons (is_taking q) r rs in let d = out.2 q in
    omega (arith, a, b, d)) in
    let g : suc (length rs) ≤ length ts = omega (arith, n, more) in g

pub of_both : (lane class : ℕ) (xs ys : List RegionId) → OfCache lane class xs → OfCache lane class ys
    → OfCache lane class (xs ++ ys)
of_both lane class [] ys a b = b
of_both lane class (x ∷ xs) ys a b = (a.0, of_both lane class xs ys a.1 b)

-- ---- The regions that entries name.

abbrev pub named : (Did → List RegionId) → Entry → List RegionId
named f (At o k n) = f n.did
named f (Ref r d) = []
named f (Busy b) = []

unfoldable pub listed : (Did → List RegionId) → List Entry → List RegionId
listed f [] = []
listed f (e ∷ es) = named f e ++ listed f es

pub many_listed : (f : Did → List RegionId) (es : List Entry)
    → length (listed f es) ≡ sum_by (λ (e : Entry). length (named f e)) es
unfolding listed
many_listed f [] = refl
many_listed f (e ∷ es) =
    let a = many_listed f es in let b = sum_by-cons (λ (e : Entry). length (named f e)) e es in let c =
    length-append (named f e) (listed f es) in
    omega (arith, a, b, c)

pub load_listed : (f : Did → List RegionId) (q : RegionId) (es : List Entry)
    → load q (listed f es) ≡ sum_by (λ (e : Entry). load q (named f e)) es
unfolding listed
load_listed f q [] = refl
load_listed f q (e ∷ es) =
    let a = load_listed f q es in let b = sum_by-cons (λ (e : Entry). load q (named f e)) e es in let c =
    sum_by-append (is_taking q) (named f e) (listed f es) in
    omega (arith, a, b, c)

pub one_of : (q r : RegionId) → load q (r ∷ []) ≡ is_taking q r
one_of q r = let c = sum_by-cons (is_taking q) r [] in let z : load q [] ≡ 0 = refl in omega (arith, c, z)

abbrev pub given : ℕ → ℕ → Did → List RegionId
given lane class (Give r) = cond (eqb r.owner lane && eqb r.class class) (r ∷ []) []
given lane class d = []

abbrev pub taken : ℕ → Did → List RegionId
taken class (Take c r) = cond (eqb c class) (r ∷ []) []
taken class d = []
