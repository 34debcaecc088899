-- Sums over a list in which each element pays at most what it gets.
use Rattle.std.proofs.Common.{◌≡◌, ℕ, zero, suc, ◌+◌, ◌<◌, ◌≤◌, List, [], ◌∷◌, sym, refl, subst, arith}
use Rattle.std.specs.Prelude.{All, sum_by}
use Rattle.std.proofs.lemmas.List.Elements.{All-head, All-tail}
use Rattle.std.proofs.lemmas.List.Sums.{sum_by-cons}
use mathlib.Core.Option.{some, some-injective, some-ne-none}
use lib.ListN.{get_elem?}

pub sum_add : {A : Type 0} (f g : A → ℕ) (l : List A) → sum_by (λ (x : A). f x + g x) l ≡ sum_by f l + sum_by g l
sum_add f g [] = refl
sum_add {A} f g (x ∷ xs) =
    let a = sum_by-cons (λ (x : A). f x + g x) x xs in let b = sum_by-cons f x xs in let c = sum_by-cons g x xs in
    let d = sum_add f g xs in
    omega (arith, a, b, c, d)

module _ {A : Type 0} (a b c d : A → ℕ) where
  -- a is at most b, and where they are equal c and d are
  pub record Pays (x : A) : Type 0 where
    pub least : a x ≤ b x
    pub settled : a x ≡ b x → c x ≡ d x

  pub all_pay : (l : List A) → All Pays l → sum_by a l ≤ sum_by b l
  all_pay [] all = omega arith
  all_pay (x ∷ xs) all =
      let k = (All-head Pays x xs all).least in let m = all_pay xs (All-tail Pays x xs all) in
      let p = sum_by-cons a x xs in let q = sum_by-cons b x xs in omega (arith, k, m, p, q)

  -- where all together pay what they get, each does
  pub all_even : (l : List A) → All Pays l → sum_by b l ≤ sum_by a l → sum_by c l ≡ sum_by d l
  all_even [] all le = refl
  all_even (x ∷ xs) all le =
      let h = All-head Pays x xs all in let k = h.least in let t = All-tail Pays x xs all in let m = all_pay xs t in
      let p = sum_by-cons a x xs in let q = sum_by-cons b x xs in let r = sum_by-cons c x xs in let s =
      sum_by-cons d x xs in
      let e = h.settled (omega (arith, k, m, p, q, le)) in let more = all_even xs t (omega (arith, k, m, p, q, le)) in
      omega (arith, r, s, e, more)

  pub each_even : (l : List A) (i : ℕ) (v : A) → All Pays l → get_elem? l i ≡ some v → sum_by b l ≤ sum_by a l
      → a v ≡ b v
  each_even [] i v all at le = absurd (some-ne-none v (sym at))
  each_even (x ∷ xs) zero v all at le =
      let h = All-head Pays x xs all in let k = h.least in let m = all_pay xs (All-tail Pays x xs all) in
      let p = sum_by-cons a x xs in let q = sum_by-cons b x xs in
      subst (λ (y : A). a y ≡ b y) (some-injective x v at) (omega (arith, k, m, p, q, le))
  each_even (x ∷ xs) (suc i) v all at le =
      let h = All-head Pays x xs all in let k = h.least in let t = All-tail Pays x xs all in let m = all_pay xs t in
      let p = sum_by-cons a x xs in let q = sum_by-cons b x xs in each_even xs i v t at (omega (arith, k, m, p, q, le))

  -- one that pays less
  pub one_less : (l : List A) (i : ℕ) (v : A) → All Pays l → get_elem? l i ≡ some v → a v < b v
      → sum_by a l < sum_by b l
  one_less [] i v all at lt = absurd (some-ne-none v (sym at))
  one_less (x ∷ xs) zero v all at lt =
      let lt' : a x < b x = subst (λ (y : A). a y < b y) (sym (some-injective x v at)) lt in let m =
      all_pay xs (All-tail Pays x xs all) in
      let p = sum_by-cons a x xs in let q = sum_by-cons b x xs in omega (arith, m, p, q, lt')
  one_less (x ∷ xs) (suc i) v all at lt =
      let k = (All-head Pays x xs all).least in let m = one_less xs i v (All-tail Pays x xs all) at lt in
      let p = sum_by-cons a x xs in let q = sum_by-cons b x xs in omega (arith, k, m, p, q)

  -- one that pays less, by no more than one: all others pay what they get
  pub one_odd : (l : List A) (i : ℕ) (v : A) → All Pays l → get_elem? l i ≡ some v → a v < b v
      → sum_by b l ≤ sum_by a l + 1 → sum_by c l + d v ≡ sum_by d l + c v
  one_odd [] i v all at lt le = absurd (some-ne-none v (sym at))
  one_odd (x ∷ xs) zero v all at lt le =
      let t = All-tail Pays x xs all in let m = all_pay xs t in let is = some-injective x v at in
      let lt' : a x < b x = subst (λ (y : A). a y < b y) (sym is) lt in
      let p = sum_by-cons a x xs in let q = sum_by-cons b x xs in let r = sum_by-cons c x xs in let s =
      sum_by-cons d x xs in
      let more = all_even xs t (omega (arith, m, p, q, le, lt')) in
      subst (λ (y : A). sum_by c (x ∷ xs) + d y ≡ sum_by d (x ∷ xs) + c y) is (omega (arith, r, s, more))
  one_odd (x ∷ xs) (suc i) v all at lt le =
      let h = All-head Pays x xs all in let k = h.least in let t = All-tail Pays x xs all in
      let p = sum_by-cons a x xs in let q = sum_by-cons b x xs in let r = sum_by-cons c x xs in let s =
      sum_by-cons d x xs in
      let less = one_less xs i v t at lt in
      let e = h.settled (omega (arith, k, less, p, q, le)) in
      let more = one_odd xs i v t at lt (omega (arith, k, p, q, le)) in omega (arith, r, s, e, more)

  -- where all together get at most one more than they pay, so does each
  pub each_near : (l : List A) (i : ℕ) (v : A) → All Pays l → get_elem? l i ≡ some v → sum_by b l ≤ sum_by a l + 1
      → b v ≤ a v + 1
  each_near [] i v all at le = absurd (some-ne-none v (sym at))
  each_near (x ∷ xs) zero v all at le =
      let m = all_pay xs (All-tail Pays x xs all) in let p = sum_by-cons a x xs in let q = sum_by-cons b x xs in
      subst (λ (y : A). b y ≤ a y + 1) (some-injective x v at) (omega (arith, m, p, q, le))
  each_near (x ∷ xs) (suc i) v all at le =
      let k = (All-head Pays x xs all).least in let p = sum_by-cons a x xs in let q = sum_by-cons b x xs in
      each_near xs i v (All-tail Pays x xs all) at (omega (arith, k, p, q, le))

-- where only those that have some of g have some of f, and one has all of it
pub only_here : {A : Type 0} (f g : A → ℕ) (l : List A) (i : ℕ) (v : A) → All (λ (x : A). g x ≡ 0 → f x ≡ 0) l
    → get_elem? l i ≡ some v → 0 < g v → sum_by g l ≤ 1 → sum_by f l ≡ f v
only_here f g [] i v all at lt le = absurd (some-ne-none v (sym at))
only_here {A} f g (x ∷ xs) zero v all at lt le =
    let is = some-injective x v at in let lt' : 0 < g x = subst (λ (y : A). 0 < g y) (sym is) lt in
    let p = sum_by-cons f x xs in let q = sum_by-cons g x xs in
    let z = none xs (All-tail (λ (x : A). g x ≡ 0 → f x ≡ 0) x xs all) (omega (arith, q, le, lt')) in
    subst (λ (y : A). sum_by f (x ∷ xs) ≡ f y) is (omega (arith, p, z))
  where
    none : (l : List A) → All (λ (x : A). g x ≡ 0 → f x ≡ 0) l → sum_by g l ≡ 0 → sum_by f l ≡ 0
    none [] all z = refl
    none (x ∷ xs) all z =
        let p = sum_by-cons f x xs in let q = sum_by-cons g x xs in
        let h = All-head (λ (x : A). g x ≡ 0 → f x ≡ 0) x xs all (omega (arith, q, z)) in let m =
        none xs (All-tail (λ (x : A). g x ≡ 0 → f x ≡ 0) x xs all) (omega (arith, q, z)) in
        omega (arith, p, h, m)
only_here {A} f g (x ∷ xs) (suc i) v all at lt le =
    let p = sum_by-cons f x xs in let q = sum_by-cons g x xs in
    let some_there = here xs i v at in
    let z = All-head (λ (x : A). g x ≡ 0 → f x ≡ 0) x xs all (omega (arith, q, le, lt, some_there)) in
    let more = only_here f g xs i v (All-tail (λ (x : A). g x ≡ 0 → f x ≡ 0) x xs all) at lt (omega (arith, q, le)) in
    omega (arith, p, z, more)
  where
    here : (l : List A) (i : ℕ) (v : A) → get_elem? l i ≡ some v → g v ≤ sum_by g l
    here [] i v at = absurd (some-ne-none v (sym at))
    here (x ∷ xs) zero v at =
        let q = sum_by-cons g x xs in
        subst (λ (y : A). g y ≤ sum_by g (x ∷ xs)) (some-injective x v at) (omega (arith, q))
    here (x ∷ xs) (suc i) v at = let q = sum_by-cons g x xs in let m = here xs i v at in omega (arith, q, m)
