-- What the accepted history of an arena says of takings: each is taken once, and out at most once.
use Rattle.std.proofs.Common.{◌≡◌, ◌≢◌, ◌⊎◌, ℕ, suc, ◌+◌, ◌*◌, ◌<◌, ◌≤◌, List, [], ◌∷◌, Bool, true, false, cond, eqb, sym, refl, ap, ◌∙◌, subst, inl, inr, ⊎_elim, arith, eq-eqb, ne_eqb, suc-mul, mul-zero, zero-mul, mul-one}
use Rattle.std.specs.Prelude.{◌&&◌, not, sum_by, count_by, filter}
use Rattle.std.proofs.lemmas.List.Sums.{sum_by-cons, sum_by_push, sum_by-le-sum_by}
use mathlib.Core.Logic.{dite}
use native.Mathlib.Decide.{ℕ_discrete}
use Rattle.pool_law.specs.declared.run.Shape.{Shape}
use Rattle.pool_law.specs.declared.id.RegionId.{RegionId}
use Rattle.pool_law.specs.declared.note.Did.{Did}
use Rattle.pool_law.specs.declared.note.Did.TheVariants.{Take, Full, Give}
use Rattle.pool_law.specs.declared.note.Object.TheVariants.{Arena}
use Rattle.pool_law.specs.declared.note.Noted.{Noted}
use Rattle.pool_law.specs.Limits.{geometry_of}
use Rattle.pool_law.specs.Same.{same_taking}
use Rattle.pool_law.specs.Arenas.{Arena as ArenaState, new_arena}
use Rattle.history_laws.specs.NoteCounts.{is_taking, uses_in, has_number, arena_out, arena_in}
use Rattle.history_laws.specs.Histories.{IsLawful, IsArenaAfter}
use Rattle.history_laws.proofs.Names.{same_taking-is, same_taking-both}
use Rattle.history_laws.proofs.Runs.{Runs, balance}
use Rattle.history_laws.proofs.ArenaSteps.{IsArenaStep}
use Rattle.history_laws.proofs.Told.{arena_note, arena_runs}

pub at_most : (b : Bool) → cond {A = ℕ} b 1 0 ≤ 1
at_most true = omega arith
at_most false = omega arith

off : (b : Bool) → cond {A = ℕ} (b && false) 1 0 ≡ 0
off true = refl
off false = refl

other_number : (a t : ℕ) (r : RegionId) → r.taking ≢ t → has_number a t r ≡ 0
other_number a t r ne =
    ap (λ (c : Bool). cond {A = ℕ} (eqb r.place.arena a && c) 1 0) (ne_eqb r.taking t ne) ∙ off (eqb r.place.arena a)

-- one region is of the taking of another, or weighs nothing for it
pub of_taking : (q r : RegionId) → ((is_taking q r ≡ 1) × (uses_in q r ≡ r.uses) × (same_taking q r ≡ true))
    ⊎ ((is_taking q r ≡ 0) × (uses_in q r ≡ 0))
of_taking q r = one (same_taking q r) refl
  where
    one : (b : Bool) → same_taking q r ≡ b
        → ((cond {A = ℕ} b 1 0 ≡ 1) × (cond {A = ℕ} b r.uses 0 ≡ r.uses) × (b ≡ true))
        ⊎ ((cond {A = ℕ} b 1 0 ≡ 0) × (cond {A = ℕ} b r.uses 0 ≡ 0))
    one true e = inl (refl, refl, refl)
    one false e = inr (refl, refl)

pub uses_light : (q r : RegionId) → is_taking q r ≡ 0 → uses_in q r ≡ 0
uses_light q r z =
    ⊎_elim (λ (w : (is_taking q r ≡ 1) × (uses_in q r ≡ r.uses) × (same_taking q r ≡ true)). let w0 = w.0 in
    absurd (omega (arith, w0, z))) (λ (w : (is_taking q r ≡ 0) × (uses_in q r ≡ 0)). w.1) (of_taking q r)

-- a region of the taking has its number
pub numbered_so : (q r : RegionId) → is_taking q r ≤ has_number q.place.arena q.taking r
numbered_so q r = ⊎_elim
    (λ (w : (is_taking q r ≡ 1) × (uses_in q r ≡ r.uses) × (same_taking q r ≡ true)).
    let s = same_taking-is q r w.2 in
    let here : has_number q.place.arena q.taking r
    ≡ 1 =
    ap (λ (c : Bool). cond {A = ℕ} (c && eqb r.taking q.taking) 1 0)
    (eq-eqb r.place.arena q.place.arena (ap (λ v. v.arena) (sym s.place)))
    ∙ ap (λ (c : Bool). cond {A = ℕ} (true && c) 1 0) (eq-eqb r.taking q.taking (sym s.taking)) in
    let w0 = w.0 in omega (arith, w0, here))
    (λ (w : (is_taking q r ≡ 0) × (uses_in q r ≡ 0)). let w0 = w.0 in omega (arith, w0))
    (of_taking q r)

pub other_arena : (q r : RegionId) → r.place.arena ≢ q.place.arena → is_taking q r ≡ 0
other_arena q r ne = ⊎_elim
    (λ (w : (is_taking q r ≡ 1) × (uses_in q r ≡ r.uses) × (same_taking q r ≡ true)). absurd
    (ne (ap (λ v. v.arena) (sym (same_taking-is q r w.2).place))))
    (λ (w : (is_taking q r ≡ 0) × (uses_in q r ≡ 0)). w.0)
    (of_taking q r)

-- what weighs nothing in one way weighs nothing in another
pub sum_zero : {X : Type 0} (f g : X → ℕ) → ((x : X) → f x ≡ 0 → g x ≡ 0) → (xs : List X) → sum_by f xs ≡ 0
    → sum_by g xs ≡ 0
sum_zero f g one [] z = refl
sum_zero f g one (x ∷ xs) z =
    let a = sum_by-cons f x xs in let b = sum_by-cons g x xs in
    let c = one x (omega (arith, a, z)) in let d = sum_zero f g one xs (omega (arith, a, z)) in omega (arith, b, c, d)

-- ---- Arenas.

-- how much the list weighs
abbrev pub load : (RegionId → ℕ) → List RegionId → ℕ
load w q = sum_by w q

-- a weight of takings: regions of one taking weigh the same, and none more than one with that number
record IsOfTakings (a t : ℕ) (w : RegionId → ℕ) : Type 0 where
  pub same : (r z : RegionId) → same_taking r z ≡ true → w z ≡ w r
  pub less : (r : RegionId) → w r ≤ has_number a t r

number_weighs : (a t : ℕ) → IsOfTakings a t (has_number a t)
number_weighs a t = record {
  same =
      λ r z e. (let s = same_taking-is r z e in λ k. cond {A = ℕ}
      ((eqb (sym s.place k).arena a) && (eqb (sym s.taking k) t)) 1 0);
  less = λ r. omega arith;
}

taking_weighs : (q : RegionId) → IsOfTakings q.place.arena q.taking (is_taking q)
taking_weighs q =
    record { same = λ r z e. ap (λ (b : Bool). cond {A = ℕ} b 1 0) (same_taking-both q r z e); less = numbered_so q }

module _ (a t : ℕ) (w : RegionId → ℕ) (of : IsOfTakings a t w) where
  -- the list without all of one taking
  without : (r : RegionId) (q : List RegionId) → load w q
      ≡ count_by (same_taking r) q * w r + load w (filter (λ o. not (same_taking r o)) q)
  without r [] = let k : ℕ = w r in let z : 0 * k ≡ 0 = zero-mul k in let g : 0 ≡ 0 * k + 0 = omega (arith, z) in g
  without r (x ∷ q) =
      one (same_taking r x) refl (sum_by-cons w x q)
      (sum_by-cons (λ (o : RegionId). cond {A = ℕ} (same_taking r o) 1 0) x q) (without r q)
    where
      one : (b : Bool) → same_taking r x ≡ b → load w (x ∷ q) ≡ w x + load w q
          → count_by (same_taking r) (x ∷ q) ≡ cond {A = ℕ} (same_taking r x) 1 0 + count_by (same_taking r) q →
          load w q ≡ count_by (same_taking r) q * w r + load w (filter (λ o. not (same_taking r o)) q) →
          load w (x ∷ q) ≡ count_by (same_taking r) (x ∷ q) * w r + load w
          (cond (not b) (x ∷ filter (λ o. not (same_taking r o)) q) (filter (λ o. not (same_taking r o)) q))
      one true e l c ih =
          let v : w x ≡ w r = of.same r x e in
          let n : ℕ = count_by (same_taking r) q in let m : ℕ = count_by (same_taking r) (x ∷ q) in let k : ℕ = w r in
          let h : cond {A = ℕ} (same_taking r x) 1 0 ≡ 1 = ap (λ (b : Bool). cond {A = ℕ} b 1 0) e in
          let mn : m ≡ suc n = omega (arith, c, h) in
          let more : m * k ≡ n * k + k = ap (λ (z : ℕ). z * k) mn ∙ suc-mul n k in
          omega (arith, l, ih, v, more)
      one false e l c ih =
          let n : ℕ = count_by (same_taking r) q in let m : ℕ = count_by (same_taking r) (x ∷ q) in let k : ℕ = w r in
          let h : cond {A = ℕ} (same_taking r x) 1 0 ≡ 0 = ap (λ (b : Bool). cond {A = ℕ} b 1 0) e in
          let mn : m ≡ n = omega (arith, c, h) in
          let more : m * k ≡ n * k = ap (λ (z : ℕ). z * k) mn in
          let f = sum_by-cons w x (filter (λ o. not (same_taking r o)) q) in
          omega (arith, l, ih, more, f)

  small : (r : RegionId) → w r ≤ 1
  small r = let x = of.less r in let y = at_most ((eqb r.place.arena a) && (eqb r.taking t)) in omega (arith, x, y)

  -- no more than has the number
  fewer : (q : List RegionId) → load w q ≤ load (has_number a t) q
  fewer q = sum_by-le-sum_by w (has_number a t) q of.less

  -- a taking that is in the list at most once leaves it
  less_one : (r : RegionId) (q m : List RegionId) → load (has_number a t) q ≤ 1 → 0 < count_by (same_taking r) q
      → m ≡ filter (λ o. not (same_taking r o)) q → load w q ≡ w r + load w m
  less_one r q m most some is =
      let u = without r q in let v = ap (load w) is in let few = fewer q in
      let n : ℕ = count_by (same_taking r) q in let k : ℕ = w r in let g : ℕ = load w q in let z : ℕ =
      load w (filter (λ o. not (same_taking r o)) q) in
      let u' : g ≡ n * k + z = u in let v' : load w m ≡ z = v in let le : k ≤ 1 = small r in
      dite (ℕ_discrete k 0)
      (λ none. let p : n * k ≡ 0 = ap (λ (x : ℕ). n * x) none ∙ mul-zero n in omega (arith, u', v', p, none))
      (λ ne. let one : k ≡ 1 = omega (arith, le, ne) in let p : n * k ≡ n = ap (λ (x : ℕ). n * x) one
      ∙ mul-one n in omega (arith, u', v', p, one, most, few, some))

-- of the takings so far each is out at most once, and no other is
record IsOut (a : ℕ) (x : ArenaState) : Type 0 where
  pub once : (t : ℕ) → load (has_number a t) x.out ≤ 1
  pub beyond : (t : ℕ) → x.takings < t → load (has_number a t) x.out ≡ 0

arena_step : (a t : ℕ) (w : RegionId → ℕ) → IsOfTakings a t w → (x : ArenaState) (d : Did) (y : ArenaState)
    → IsArenaStep a x d y → IsOut a x → load w x.out + arena_out w d ≡ arena_in w d + load w y.out
arena_step a t w of x (Take c r) y s i = let u = ap (load w) s.2 in let v = sum_by_push w x.out r in omega (arith, u, v)
arena_step a t w of x (Full c) y s i = let u = ap (load w) s.1 in omega (arith, u)
arena_step a t w of x (Give r) y s i = let u = less_one a t w of r x.out y.out (i.once t) s.2 s.3 in omega (arith, u)
arena_step a t w of x d y s i = absurd s

out_step : (a : ℕ) (x : ArenaState) (d : Did) (y : ArenaState) → IsArenaStep a x d y → IsOut a x → IsOut a y
out_step a x (Take c r) y s i =
    let n : ℕ = x.takings in let k : ℕ = y.takings in let nt : r.taking ≡ n + 1 = s.0.taking in let kn : k
    ≡ n + 1 = s.1 in
    record {
      once =
          λ t. let u =
          ap (load (has_number a t)) s.2 in let v =
          sum_by_push (has_number a t) x.out r in let le =
          at_most ((eqb r.place.arena a) && (eqb r.taking t)) in let old =
          i.once t in dite (ℕ_discrete t (n + 1))
          (λ e. let z = i.beyond t (omega (arith, e)) in omega (arith, u, v, le, z))
          (λ ne. let z = other_number a t r (λ e. ne (sym e ∙ nt)) in omega (arith, u, v, z, old));
      beyond =
          λ t lt. let u =
          ap (load (has_number a t)) s.2 in let v =
          sum_by_push (has_number a t) x.out r in let z =
          other_number a t r (λ e. omega (arith, e, nt, kn, lt)) in let w =
          i.beyond t (omega (arith, lt, kn)) in omega (arith, u, v, z, w);
    }
out_step a x (Full c) y s i =
    let n : ℕ = x.takings in let k : ℕ = y.takings in let kn : k ≡ n = s.0 in record {
      once = λ t. let u = ap (load (has_number a t)) s.1 in let v = i.once t in omega (arith, u, v);
      beyond =
          λ t lt. let u =
          ap (load (has_number a t)) s.1 in let v = i.beyond t (omega (arith, lt, kn)) in omega (arith, u, v);
    }
out_step a x (Give r) y s i =
    let n : ℕ = x.takings in let k : ℕ = y.takings in let kn : k ≡ n = s.1 in record {
      once =
          λ t. let u =
          less_one a t (has_number a t) (number_weighs a t) r x.out y.out (i.once t) s.2 s.3 in let v =
          i.once t in omega (arith, u, v);
      beyond =
          λ t lt. let u =
          less_one a t (has_number a t) (number_weighs a t) r x.out y.out (i.once t) s.2 s.3 in let v =
          i.beyond t (omega (arith, lt, kn)) in omega (arith, u, v);
    }
out_step a x d y s i = absurd s

-- the balance of an arena, with the fact that each taking is out at most once
out_runs : (a t : ℕ) (w : RegionId → ℕ) → IsOfTakings a t w → (h : List Noted) (x y : ArenaState)
    → Runs (arena_note a) x h y → IsOut a x →
    (load w x.out + sum_by (λ (n : Noted). arena_out w n.did) h
    ≡ sum_by (λ (n : Noted). arena_in w n.did) h + load w y.out) × IsOut a y
out_runs a t w of [] x y r i =
    (let u = ap (λ (v : ArenaState). load w v.out) r in omega (arith, u), subst (IsOut a) r i)
out_runs a t w of (e ∷ h) x y r i =
    let u = arena_step a t w of x e.did r.0 r.1 i in let v =
    out_runs a t w of h r.0 y r.2 (out_step a x e.did r.0 r.1 i) in let v' = v.0 in
    let c = sum_by-cons (λ (n : Noted). arena_out w n.did) e h in let d =
    sum_by-cons (λ (n : Noted). arena_in w n.did) e h in
    (omega (arith, u, v', c, d), v.1)

-- no number is taken twice, and none of those before
taken_runs : (a t : ℕ) (h : List Noted) (x y : ArenaState) → Runs (arena_note a) x h y →
    (sum_by (λ (n : Noted). arena_out (has_number a t) n.did) h ≤ 1)
    × (t ≤ x.takings → sum_by (λ (n : Noted). arena_out (has_number a t) n.did) h ≡ 0)
taken_runs a t [] x y r = (omega arith, λ le. refl)
taken_runs a t (e ∷ h) x y r =
    let more = taken_runs a t h r.0 y r.2 in
    let c : sum_by (λ (n : Noted). arena_out (has_number a t) n.did) (e ∷ h)
    ≡ arena_out (has_number a t) e.did + sum_by (λ (n : Noted). arena_out (has_number a t) n.did) h =
    sum_by-cons (λ (n : Noted). arena_out (has_number a t) n.did) e h in
    one e.did r.1 c more
  where
    z : ArenaState
    z = r.0

    one : (d : Did) → IsArenaStep a x d z → sum_by (λ (n : Noted). arena_out (has_number a t) n.did) (e ∷ h)
        ≡ arena_out (has_number a t) d + sum_by (λ (n : Noted). arena_out (has_number a t) n.did) h →
        (sum_by (λ (n : Noted). arena_out (has_number a t) n.did) h ≤ 1)
        × (t ≤ z.takings → sum_by (λ (n : Noted). arena_out (has_number a t) n.did) h ≡ 0) →
        (sum_by (λ (n : Noted). arena_out (has_number a t) n.did) (e ∷ h) ≤ 1)
        × (t ≤ x.takings → sum_by (λ (n : Noted). arena_out (has_number a t) n.did) (e ∷ h) ≡ 0)
    one (Take k q) s c more =
        let n : ℕ = x.takings in let m : ℕ = z.takings in let nt : q.taking ≡ n + 1 = s.0.taking in let mn : m
        ≡ n + 1 = s.1 in
        let le = at_most ((eqb q.place.arena a) && (eqb q.taking t)) in let m0 = more.0 in
        dite (ℕ_discrete t (n + 1))
        (λ here. let none_more = more.1 (omega (arith, here, mn)) in
        (omega (arith, c, le, none_more), λ low. absurd (omega (arith, low, here))))
        (λ ne. let off = other_number a t q (λ is. ne (sym is ∙ nt)) in (
          omega (arith, c, off, m0),
          λ low. let none_more = more.1 (omega (arith, low, mn)) in
              omega (arith, c, off, none_more),
        ))
    one (Full k) s c more =
        let n : ℕ = x.takings in let m : ℕ = z.takings in let mn : m ≡ n = s.0 in let m0 = more.0 in
        (omega (arith, c, m0), λ low. let none_more = more.1 (omega (arith, low, mn)) in omega (arith, c, none_more))
    one (Give q) s c more =
        let n : ℕ = x.takings in let m : ℕ = z.takings in let mn : m ≡ n = s.1 in let m0 = more.0 in
        (omega (arith, c, m0), λ low. let none_more = more.1 (omega (arith, low, mn)) in omega (arith, c, none_more))
    one d s c more = absurd s

-- a taking has no uses
unused_step : (a : ℕ) (q : RegionId) (x : ArenaState) (d : Did) (y : ArenaState) → IsArenaStep a x d y
    → 0 + 0 ≡ arena_out (uses_in q) d + 0
unused_step a q x (Take c r) y s = one (same_taking q r)
  where
    one : (b : Bool) → 0 + 0 ≡ cond {A = ℕ} b r.uses 0 + 0
    one true = let u = s.0.unused in omega (arith, u)
    one false = refl
unused_step a q x (Full c) y s = refl
unused_step a q x (Give r) y s = refl
unused_step a q x d y s = absurd s

pub none_noted : (h : List Noted) → sum_by (λ (n : Noted). 0) h ≡ 0
none_noted [] = refl
none_noted (n ∷ h) = let a = none_noted h in let c = sum_by-cons (λ (n : Noted). 0) n h in omega (arith, a, c)

-- what the history of an arena says of its takings
pub record ArenaLaw (a : ℕ) (h : List Noted) (x : ArenaState) : Type 0 where
  -- what is out was taken and not given back
  pub balance : (q : RegionId) → q.place.arena ≡ a
      → sum_by (is_taking q) x.out + sum_by (λ (n : Noted). arena_in (is_taking q) n.did) h
      ≡ sum_by (λ (n : Noted). arena_out (is_taking q) n.did) h
  -- each number is taken once, and out at most once
  pub once : (t : ℕ) → sum_by (has_number a t) x.out ≤ 1
  pub taken_once : (t : ℕ) → sum_by (λ (n : Noted). arena_out (has_number a t) n.did) h ≤ 1
  pub beyond : (t : ℕ) → x.takings < t → sum_by (has_number a t) x.out ≡ 0
  -- a taking has no uses
  pub unused : (q : RegionId) → sum_by (λ (n : Noted). arena_out (uses_in q) n.did) h ≡ 0

pub arena_laws : (s : Shape) (a : ℕ) (h : List Noted) (x : ArenaState) → IsLawful s (Arena a) h → IsArenaAfter s a h x
    → ArenaLaw a h x
arena_laws s a h x k e =
    let r = arena_runs s a h x k e in
    let new : ArenaState = new_arena (geometry_of s) s.chunks in
    let new_out : IsOut a new = record
    { once = λ t. (let y : load (has_number a t) [] ≡ 0 = refl in omega (arith, y)); beyond = λ t lt. refl } in
    let out : IsOut a x = (out_runs a 0 (has_number a 0) (number_weighs a 0) h new x r new_out).1 in record {
      balance =
          λ q is. subst (λ (a : ℕ). Runs (arena_note a) new h x → IsOut a new
          → sum_by (is_taking q) x.out + sum_by (λ (n : Noted). arena_in (is_taking q) n.did) h
          ≡ sum_by (λ (n : Noted). arena_out (is_taking q) n.did) h) is
          (λ r new_out. let g = (out_runs q.place.arena q.taking (is_taking q) (taking_weighs q) h new x r new_out).0 in
          let z : load (is_taking q) [] ≡ 0 = refl in omega (arith, g, z)) r new_out;
      once = out.once;
      taken_once = λ t. (taken_runs a t h new x r).0;
      beyond = out.beyond;
      unused =
          λ q. (let g = balance (arena_note a) (λ y. 0) (λ n. 0) (λ n. arena_out (uses_in q) n.did)
          (λ x y n step. unused_step a q x n.did y step) h new x r in let z = none_noted h in omega (arith, g, z));
    }

-- no list has a taking more often than its number
pub fewer_taken : (q : RegionId) (rs : List RegionId)
    → sum_by (is_taking q) rs ≤ sum_by (has_number q.place.arena q.taking) rs
fewer_taken q rs = sum_by-le-sum_by (is_taking q) (has_number q.place.arena q.taking) rs (numbered_so q)

pub fewer_noted : (q : RegionId) (h : List Noted) → sum_by (λ (n : Noted). arena_out (is_taking q) n.did) h ≤ sum_by
    (λ (n : Noted). arena_out (has_number q.place.arena q.taking) n.did) h
fewer_noted q h =
    sum_by-le-sum_by (λ (n : Noted). arena_out (is_taking q) n.did)
    (λ (n : Noted). arena_out (has_number q.place.arena q.taking) n.did) h (λ n. by n.did)
  where
    by : (d : Did) → arena_out (is_taking q) d ≤ arena_out (has_number q.place.arena q.taking) d
    by (Take c r) = numbered_so q r
    by d = omega arith
