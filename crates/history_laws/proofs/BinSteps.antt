-- What one accepted note does to a bin.
use Rattle.std.proofs.Common.{◌≡◌, ℕ, zero, suc, ◌+◌, ◌*◌, ◌/◌, ◌<◌, ◌≤◌, List, [], ◌∷◌, ◌++◌, map, Bool, true, false, sym, refl, ap, ap₂, ◌∙◌, subst, arith, eqb-true, Some, None}
use Rattle.std.specs.Prelude.{⊤, ◌==◌, ◌&&◌, not, if◌then◌else◌}
use native.Mathlib.Nat.{mul-add-div_right, div-eq_of_lt}
use Rattle.size_classes.specs.Sizes.{below}
use Rattle.pool_law.specs.declared.run.Shape.{Shape}
use Rattle.pool_law.specs.declared.note.Did.{Did}
use Rattle.pool_law.specs.declared.note.Did.TheVariants.{Handle, NoHandle, Home}
use Rattle.pool_law.specs.Caches.{front_taken, if_so, is_empty, has_place, bin_step}
use Rattle.pool_law.proofs.SameLemmas.{and-first}
use Rattle.history_laws.specs.NoteCounts.{place_lane}

-- what a test lets through
pub so : {X : Type 0} (b : Bool) (x m : X) → if_so b x ≡ Some m → (b ≡ true) × (x ≡ m)
so true x m e = (refl, cc e)
so false x m e = absurd (cc e)

-- ---- Bins.

-- the bin q of the lane l becomes m
abbrev pub IsBinStep : Shape → ℕ → List ℕ → Did → List ℕ → Type 0
IsBinStep s l q (Handle p) m = (place_lane s p ≡ l) × (q ≡ p ∷ m)
IsBinStep s l q NoHandle m = (q ≡ []) × (m ≡ [])
IsBinStep s l q (Home p) m = (place_lane s p ≡ l) × (m ≡ q ++ p ∷ [])
IsBinStep s l q d m = ⊥

-- all places are of the lane
abbrev pub OfLane : Shape → ℕ → List ℕ → Type 0
OfLane s l [] = ⊤
OfLane s l (x ∷ xs) = (place_lane s x ≡ l) × OfLane s l xs

pub of_push : (s : Shape) (l : ℕ) (q : List ℕ) (p : ℕ) → OfLane s l q → place_lane s p ≡ l → OfLane s l (q ++ p ∷ [])
of_push s l [] p of is = (is, tt)
of_push s l (x ∷ q) p of is = (of.0, of_push s l q p of.1 is)

handle_told : (s : Shape) (l p : ℕ) (q m : List ℕ) → OfLane s l q → front_taken (λ x. x == p) q ≡ Some m
    → IsBinStep s l q (Handle p) m × OfLane s l m
handle_told s l p [] m of e = absurd (cc e)
handle_told s l p (x ∷ xs) m of e = one (x == p) refl e
  where
    one : (b : Bool) → (x == p) ≡ b → (if b then Some xs else None) ≡ Some m
        → IsBinStep s l (x ∷ xs) (Handle p) m × OfLane s l m
    one true same e =
        let eq : x ≡ p = eqb-true x p same in
        let rest : xs ≡ m = cc e in
        ((ap (place_lane s) (sym eq) ∙ of.0, ap₂ (λ (a : ℕ) (b : List ℕ). a ∷ b) eq rest), subst (OfLane s l) rest of.1)
    one false same e = absurd (cc e)

none_told : (s : Shape) (l : ℕ) (q m : List ℕ) → OfLane s l q → if_so (is_empty q) q ≡ Some m
    → IsBinStep s l q NoHandle m × OfLane s l m
none_told s l [] m of e = let same : [] ≡ m = cc e in ((refl, sym same), subst (OfLane s l) same tt)
none_told s l (x ∷ xs) m of e = absurd (cc e)

home_told : (s : Shape) (l p : ℕ) (q m : List ℕ) → OfLane s l q
    → if_so ((p / s.handles == l) && not (has_place p q)) (q ++ p ∷ []) ≡ Some m →
    IsBinStep s l q (Home p) m × OfLane s l m
home_told s l p q m of e =
    let f = so ((p / s.handles == l) && not (has_place p q)) (q ++ p ∷ []) m e in
    let lane : p / s.handles ≡ l = eqb-true (p / s.handles) l
    (and-first (p / s.handles == l) (not (has_place p q)) f.0) in
    ((lane, sym f.1), subst (OfLane s l) f.1 (of_push s l q p of lane))

pub bin_told : (s : Shape) (l : ℕ) (q m : List ℕ) (d : Did) → OfLane s l q → bin_step l s.handles q d ≡ Some m
    → IsBinStep s l q d m × OfLane s l m
bin_told s l q m (Handle p) of e = handle_told s l p q m of e
bin_told s l q m NoHandle of e = none_told s l q m of e
bin_told s l q m (Home p) of e = home_told s l p q m of e
bin_told s l q m d of e = absurd (cc e)

pub mapped-push : (f : ℕ → ℕ) (xs : List ℕ) (x : ℕ) → map f (xs ++ x ∷ []) ≡ map f xs ++ f x ∷ []
mapped-push f [] x = refl
mapped-push f (y ∷ ys) x = ap (λ (l : List ℕ). f y ∷ l) (mapped-push f ys x)

-- the first places from a base on
abbrev pub bin_of : ℕ → ℕ → List ℕ
bin_of base n = map (λ k. base + k) (below n)

pub of_new : (s : Shape) (l n : ℕ) → n ≤ s.handles → OfLane s l (bin_of (l * s.handles) n)
of_new s l zero h = tt
of_new s l (suc n) h =
    let some : 0 < s.handles = omega (arith, h) in
    let less : n < s.handles = omega (arith, h) in
    let lane : (l * s.handles + n) / s.handles ≡ l = mul-add-div_right some l n
    ∙ (let z : n / s.handles ≡ 0 = div-eq_of_lt less in omega (arith, z)) in
    subst (OfLane s l) (sym (mapped-push (λ k. l * s.handles + k) (below n) n))
    (of_push s l (bin_of (l * s.handles) n) (l * s.handles + n) (of_new s l n (omega (arith, h))) lane)
