-- What accepted histories say of places in bins.
use Rattle.std.proofs.Common.{◌≡◌, ◌≢◌, ◌⊎◌, ℕ, zero, suc, ◌+◌, ◌*◌, ◌/◌, ◌<◌, ◌≤◌, List, [], ◌∷◌, ◌++◌, Bool, cond, eqb, sym, refl, ap, ◌∙◌, subst, inl, inr, ⊎_elim, arith, eq-eqb, ne_eqb, suc-mul, lt_of_not-le}
use Rattle.std.proofs.Math.Nat.{div-lt_iff_lt-mul, le-div_iff_mul-le}
use Rattle.std.specs.Prelude.{sum_by, count_by}
use Rattle.std.proofs.lemmas.List.Sums.{sum_by-cons, sum_by_push}
use mathlib.Core.Logic.{dite}
use native.Mathlib.Decide.{ℕ_discrete, dec_le}
use Rattle.size_classes.specs.Sizes.{below}
use Rattle.pool_law.specs.declared.run.Shape.{Shape}
use Rattle.pool_law.specs.declared.note.Did.{Did}
use Rattle.pool_law.specs.declared.note.Did.TheVariants.{Take, Full, Give, Hit, Miss, Kept, Back, Trim, Close, Shed, Handle, NoHandle, Home, Birth, Set, Get, Touch, Room, Extend, Grow, End}
use Rattle.pool_law.specs.declared.note.Object.{Object}
use Rattle.pool_law.specs.declared.note.Object.TheVariants.{Arena, Cache, Bin, Mail, Root}
use Rattle.pool_law.specs.declared.note.Noted.{Noted}
use Rattle.pool_law.specs.Caches.{new_bin}
use Rattle.pool_law.specs.Homes.{IsObjectOf}
use Rattle.pool_law.specs.Arenas.{Arena as ArenaState}
use Rattle.pool_law.specs.Caches.{Cache as CacheState}
use Rattle.pool_law.specs.Roots.{RootPlace}
use Rattle.history_laws.specs.NoteCounts.{place_lane, did_handle, did_home}
use Rattle.history_laws.specs.Histories.{IsLawful, IsBinAfter}
use Rattle.history_laws.specs.Standing.{IsPlaced, IsMailed}
use Rattle.history_laws.proofs.Runs.{balance, keeps}
use Rattle.history_laws.proofs.BinSteps.{IsBinStep, bin_of, mapped-push}
use Rattle.history_laws.proofs.ArenaSteps.{IsArenaStep}
use Rattle.history_laws.proofs.CacheSteps.{IsCacheStep}
use Rattle.history_laws.proofs.PlaceSteps.{IsPlaceStep}
use Rattle.history_laws.proofs.Told.{no_mail, bin_there, bin_note, bin_runs, last_bin, last_arena, last_cache, last_place}

-- the empty history is accepted of each object that has one
pub no_history : (s : Shape) (o : Object) → IsObjectOf s o → IsLawful s o []
no_history s (Arena a) f = record { accepted = refl; right = tt }
no_history s (Cache l c) f = record { accepted = refl; right = tt }
no_history s (Bin l) f = record { accepted = refl; right = tt }
no_history s (Mail x t) f = absurd f
no_history s (Root p) f = record { accepted = refl; right = tt }

-- ---- Places in bins.

-- how often the place stands in the list
abbrev times : ℕ → List ℕ → ℕ
times p q = count_by (λ (x : ℕ). eqb x p) q

times_cons : (p x : ℕ) (q : List ℕ) → times p (x ∷ q) ≡ cond {A = ℕ} (eqb x p) 1 0 + times p q
times_cons p x q = sum_by-cons (λ (y : ℕ). cond {A = ℕ} (eqb y p) 1 0) x q

times_push : (p x : ℕ) (q : List ℕ) → times p (q ++ x ∷ []) ≡ times p q + cond {A = ℕ} (eqb x p) 1 0
times_push p x q = sum_by_push (λ (y : ℕ). cond {A = ℕ} (eqb y p) 1 0) q x

one_here : (x p : ℕ) → x ≡ p → cond {A = ℕ} (eqb x p) 1 0 ≡ 1
one_here x p e = ap (λ (b : Bool). cond {A = ℕ} b 1 0) (eq-eqb x p e)

none_here : (x p : ℕ) → x ≢ p → cond {A = ℕ} (eqb x p) 1 0 ≡ 0
none_here x p ne = ap (λ (b : Bool). cond {A = ℕ} b 1 0) (ne_eqb x p ne)

-- one step moves a place out of the bin or into it
step_keeps : (s : Shape) (l p : ℕ) (q m : List ℕ) (d : Did) → IsBinStep s l q d m
    → times p q + did_home p d ≡ did_handle p d + times p m
step_keeps s l p q m (Handle x) t = let a = ap (times p) t.1 in let b = times_cons p x m in omega (arith, a, b)
step_keeps s l p q m NoHandle t =
    let a = ap (times p) t.0 in let b = ap (times p) t.1 in let z : times p [] ≡ 0 = refl in omega (arith, a, b, z)
step_keeps s l p q m (Home x) t = let a = ap (times p) t.1 in let b = times_push p x q in omega (arith, a, b)
step_keeps s l p q m d t = absurd t

runs_keep : (s : Shape) (l p : ℕ) (h : List Noted) (m : List ℕ) → IsLawful s (Bin l) h → IsBinAfter s l h m →
    times p (new_bin l s.handles) + sum_by (λ (n : Noted). did_home p n.did) h
    ≡ sum_by (λ (n : Noted). did_handle p n.did) h + times p m
runs_keep s l p h m t e =
    balance (bin_note s l) (times p) (λ n. did_home p n.did) (λ n. did_handle p n.did)
    (λ x y n step. step_keeps s l p x y n.did step)
    h (new_bin l s.handles) m (bin_runs s l h m t e)

-- a new bin with one place more
bin_push : (p base n : ℕ) → times p (bin_of base (suc n))
    ≡ times p (bin_of base n) + cond {A = ℕ} (eqb (base + n) p) 1 0
bin_push p base n = ap (times p) (mapped-push (λ k. base + k) (below n) n) ∙ times_push p (base + n) (bin_of base n)

none_past : (p base n : ℕ) → base + n ≤ p → times p (bin_of base n) ≡ 0
none_past p base zero h = refl
none_past p base (suc n) h =
    let a = bin_push p base n in let b = none_past p base n (omega (arith, h)) in
    let c = none_here (base + n) p (λ e. omega (arith, e, h)) in omega (arith, a, b, c)

none_before : (p base n : ℕ) → p < base → times p (bin_of base n) ≡ 0
none_before p base zero h = refl
none_before p base (suc n) h =
    let a = bin_push p base n in let b = none_before p base n h in
    let c = none_here (base + n) p (λ e. omega (arith, e, h)) in omega (arith, a, b, c)

once_in : (p base n : ℕ) → base ≤ p → p < base + n → times p (bin_of base n) ≡ 1
once_in p base zero le lt = absurd (omega (arith, le, lt))
once_in p base (suc n) le lt =
    let a = bin_push p base n in
    dite (ℕ_discrete (base + n) p)
    (λ e. let b = none_past p base n (omega (arith, e)) in let c = one_here (base + n) p e in omega (arith, a, b, c))
    (λ ne. let b = once_in p base n le (omega (arith, lt, ne)) in let c = none_here (base + n) p ne in
    omega (arith, a, b, c))

once : (p base n : ℕ) → times p (bin_of base n) ≤ 1
once p base zero = omega arith
once p base (suc n) =
    let a = bin_push p base n in
    dite (ℕ_discrete (base + n) p)
    (λ e. let b = none_past p base n (omega (arith, e)) in let c = one_here (base + n) p e in omega (arith, a, b, c))
    (λ ne. let b = once p base n in let c = none_here (base + n) p ne in omega (arith, a, b, c))

-- a place is taken out of its bin at most once more than it came home
pub stock : (s : Shape) (l p : ℕ) (h : List Noted) → IsLawful s (Bin l) h
    → sum_by (λ (n : Noted). did_handle p n.did) h ≤ 1 + sum_by (λ (n : Noted). did_home p n.did) h
stock s l p h t =
    let m = bin_there s l h t in let a = runs_keep s l p h m.0 t m.1 in let b = once p (l * s.handles) s.handles in
    omega (arith, a, b)

-- a place of the lane is in its bin, or was taken out once more than it came home
pub in_bin : (s : Shape) (l p : ℕ) (h : List Noted) (m : List ℕ) → IsLawful s (Bin l) h → IsBinAfter s l h m
    → 0 < s.handles → place_lane s p ≡ l →
    count_by (λ (x : ℕ). eqb x p) m + sum_by (λ (n : Noted). did_handle p n.did) h
    ≡ 1 + sum_by (λ (n : Noted). did_home p n.did) h
in_bin s l p h m t e pos lane =
    let k : ℕ = s.handles in let q : ℕ = p / k in let b : ℕ = l * k in
    let low : q * k ≤ p = (le-div_iff_mul-le {k = k} {x = q} {y = p} pos).0 (let g : q ≤ p / k = omega arith in g) in
    let low' : b ≤ p = subst (λ (x : ℕ). x * k ≤ p) lane low in
    let high : p < suc l * k = (div-lt_iff_lt-mul {k = k} {x = p} {y = suc l} pos).0
    (let e' : q ≡ l = lane in let g : p / k < suc l = omega (arith, e') in g) in
    let more = suc-mul l k in let c : ℕ = suc l * k in let more' : c ≡ b + k = more in let high' : p < c = high in
    let one = once_in p b k low' (omega (arith, high', more')) in let a = runs_keep s l p h m t e in
    omega (arith, a, one)

foreign_step : (s : Shape) (l p : ℕ) (q m : List ℕ) (d : Did) → IsBinStep s l q d m → place_lane s p ≢ l → times p q ≡ 0
    → times p m ≡ 0
foreign_step s l p q m (Handle x) t ne z =
    let a = ap (times p) t.1 in let b = times_cons p x m in omega (arith, a, b, z)
foreign_step s l p q m NoHandle t ne z = ap (times p) t.1
foreign_step s l p q m (Home x) t ne z =
    let a = ap (times p) t.1 in let b = times_push p x q in let c =
    none_here x p (λ e. ne (sym (ap (place_lane s) e) ∙ t.0)) in
    omega (arith, a, b, c, z)
foreign_step s l p q m d t ne z = absurd t

-- a place of another lane is never in this bin
pub foreign : (s : Shape) (l p : ℕ) (h : List Noted) (m : List ℕ) → IsLawful s (Bin l) h → IsBinAfter s l h m
    → 0 < s.handles → place_lane s p ≢ l → count_by (λ (x : ℕ). eqb x p) m ≡ 0
foreign s l p h m t e pos ne =
    let k : ℕ = s.handles in let b : ℕ = l * k in
    let new : times p (bin_of b k) ≡ 0 = dite (dec_le b p)
    (λ le. dite (dec_le (b + k) p) (λ above. none_past p b k above)
    (λ under.
    let lt : p < b + k = lt_of_not-le under in let more = suc-mul l k in let c : ℕ = suc l * k in let more' : c
    ≡ b + k = more in
    let q : ℕ = p / k in
    let hi : q < suc l = (div-lt_iff_lt-mul {k = k} {x = p} {y = suc l} pos).1
    (let g : p < c = omega (arith, lt, more') in g) in
    let lo : l ≤ q = (le-div_iff_mul-le {k = k} {x = l} {y = p} pos).1 le in
    absurd (ne (let g : q ≡ l = omega (arith, hi, lo) in g))))
    (λ gt. none_before p b k (lt_of_not-le gt)) in
    keeps (bin_note s l) (λ (q : List ℕ). times p q ≡ 0) (λ x y n step z. foreign_step s l p x y n.did step ne z) h
    (new_bin l s.handles) m (bin_runs s l h m t e) new

-- ---- Where handles stand.

one_place : (s : Shape) (l p x : ℕ) → place_lane s x ≡ l
    → (cond {A = ℕ} (eqb x p) 1 0 ≡ 0) ⊎ (Bin l ≡ Bin (place_lane s p))
one_place s l p x e =
    dite (ℕ_discrete x p) (λ same. inr (ap Bin (sym e ∙ ap (place_lane s) same))) (λ ne. inl (none_here x p ne))

bin_placed : (s : Shape) (l : ℕ) (q m : List ℕ) (d : Did) → IsBinStep s l q d m → IsPlaced s (Bin l) d
bin_placed s l q m (Handle x) t p = ⊎_elim (λ z. inl (omega (arith, z))) (λ e. inr e) (one_place s l p x t.0)
bin_placed s l q m NoHandle t p = inl refl
bin_placed s l q m (Home x) t p = ⊎_elim (λ z. inl (omega (arith, z))) (λ e. inr e) (one_place s l p x t.0)
bin_placed s l q m d t p = absurd t

arena_placed : (s : Shape) (o : Object) (a : ℕ) (x y : ArenaState) (d : Did) → IsArenaStep a x d y
    → IsPlaced s o d × IsMailed o d
arena_placed s o a x y (Take c r) t = (λ p. inl refl, λ p g. inl refl)
arena_placed s o a x y (Full c) t = (λ p. inl refl, λ p g. inl refl)
arena_placed s o a x y (Give r) t = (λ p. inl refl, λ p g. inl refl)
arena_placed s o a x y d t = absurd t

cache_placed : (s : Shape) (o : Object) (l c : ℕ) (x y : CacheState) (d : Did) → IsCacheStep l c x d y
    → IsPlaced s o d × IsMailed o d
cache_placed s o l c x y (Hit r) t = (λ p. inl refl, λ p g. inl refl)
cache_placed s o l c x y (Shed r) t = (λ p. inl refl, λ p g. inl refl)
cache_placed s o l c x y (Kept r) t = (λ p. inl refl, λ p g. inl refl)
cache_placed s o l c x y Miss t = (λ p. inl refl, λ p g. inl refl)
cache_placed s o l c x y (Back r why) t = (λ p. inl refl, λ p g. inl refl)
cache_placed s o l c x y (Trim k) t = (λ p. inl refl, λ p g. inl refl)
cache_placed s o l c x y (Close k) t = (λ p. inl refl, λ p g. inl refl)
cache_placed s o l c x y d t = absurd t

place_placed : (s : Shape) (o : Object) (p : ℕ) (n : Noted) (x y : RootPlace) (d : Did) → IsPlaceStep p x d n.region y
    → IsPlaced s o d × IsMailed o d
place_placed s o p n x y (Birth r z) t = (λ p. inl refl, λ p g. inl refl)
place_placed s o p n x y (End r) t = (λ p. inl refl, λ p g. inl refl)
place_placed s o p n x y (Set i bs) t = (λ p. inl refl, λ p g. inl refl)
place_placed s o p n x y (Get i bs) t = (λ p. inl refl, λ p g. inl refl)
place_placed s o p n x y Touch t = (λ p. inl refl, λ p g. inl refl)
place_placed s o p n x y (Room asked c) t = (λ p. inl refl, λ p g. inl refl)
place_placed s o p n x y (Extend c) t = (λ p. inl refl, λ p g. inl refl)
place_placed s o p n x y (Grow c z) t = (λ p. inl refl, λ p g. inl refl)
place_placed s o p n x y d t = absurd t

-- a place is taken and comes home only at the bin of its lane
pub placed : (s : Shape) (o : Object) (h : List Noted) (n : Noted) → IsLawful s o (h ++ n ∷ []) → IsPlaced s o n.did
placed s (Arena a) h n t = let k = last_arena s a h n t in (arena_placed s (Arena a) a k.0 k.1 n.did k.3).0
placed s (Cache l c) h n t = let k = last_cache s l c h n t in (cache_placed s (Cache l c) l c k.0 k.1 n.did k.2).0
placed s (Bin l) h n t = let k = last_bin s l h n t in bin_placed s l k.0 k.1 n.did k.2
placed s (Mail f u) h n t = absurd (no_mail s f u h n t)
placed s (Root p) h n t = let k = last_place s p h n t in (place_placed s (Root p) p n k.0 k.1 n.did k.3).0

bin_mailed : (s : Shape) (l : ℕ) (o : Object) (q m : List ℕ) (d : Did) → IsBinStep s l q d m → IsMailed o d
bin_mailed s l o q m (Handle x) t p g = inl refl
bin_mailed s l o q m NoHandle t p g = inl refl
bin_mailed s l o q m (Home x) t p g = inl refl
bin_mailed s l o q m d t p g = absurd t

-- a view is posted and fetched only at a mail
pub mailed : (s : Shape) (o : Object) (h : List Noted) (n : Noted) → IsLawful s o (h ++ n ∷ []) → IsMailed o n.did
mailed s (Arena a) h n t = let k = last_arena s a h n t in (arena_placed s (Arena a) a k.0 k.1 n.did k.3).1
mailed s (Cache l c) h n t = let k = last_cache s l c h n t in (cache_placed s (Cache l c) l c k.0 k.1 n.did k.2).1
mailed s (Bin l) h n t = let k = last_bin s l h n t in bin_mailed s l (Bin l) k.0 k.1 n.did k.2
mailed s (Mail f u) h n t = absurd (no_mail s f u h n t)
mailed s (Root p) h n t = let k = last_place s p h n t in (place_placed s (Root p) p n k.0 k.1 n.did k.3).1
