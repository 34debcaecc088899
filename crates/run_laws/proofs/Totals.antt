-- What all lanes together get, use, end, shed, keep and give of a region.
use Rattle.std.proofs.Common.{◌≡◌, ℕ, zero, suc, ◌+◌, ◌≤◌, List, [], ◌∷◌, refl, sym, ap, arith, Bool, true, false, Some, ◌∙◌, eqb-true, eq-eqb, ne_eqb}
use Rattle.std.specs.Prelude.{◌≢◌, ◌<◌, ◌==◌, if◌then◌else◌, slice_get}
use Rattle.pool_law.specs.declared.id.RegionId.{RegionId}
use Rattle.pool_law.specs.declared.note.Object.{Object}
use Rattle.pool_law.specs.declared.note.Did.{Did}
use Rattle.pool_law.specs.declared.note.Did.TheVariants.{Take, Give, Hit, Shed, Birth, Grow}
use Rattle.pool_law.specs.declared.note.Note.{Note}
use Rattle.pool_law.specs.Same.{same_object, same_region}
use Rattle.pool_law.specs.Logs.{Logs, History, dids, history_of, entry_of}
use Rattle.pool_law.specs.Lives.{cache_of, arena_of}
use Rattle.arena_laws.specs.Takings.{TakenInOrder}
use Rattle.run_laws.specs.CacheCounts.{one_of, puts, total_by}
use Rattle.run_laws.specs.Hands.{did_of}
use Rattle.run_laws.specs.HandCounts.{Tally, tally_if, ended_by}
use Rattle.pool_law.proofs.SameLemmas.{same_region-is}
use Rattle.pool_law.proofs.PatternLemmas.{same_object-refl}
use Rattle.pool_law.proofs.HistoryLemmas.{over_lanes, lesser-or_same}
use Rattle.run_laws.proofs.Sums.{sum_by, sum_over}
use Rattle.std.proofs.lemmas.Bool.{cond_both}

pub dids-there : (h : History) (j : ℕ) (d : Did) → slice_get (dids h) j ≡ Some d
    → (lane : ℕ) × (slice_get h j ≡ Some (lane, d))
dids-there [] j d e = absurd (cc e)
dids-there (x ∷ h) zero d e = let same : x.1 ≡ d = cc e in (x.0, ap (λ y. Some (x.0, y)) same)
dids-there (x ∷ h) (suc j) d e = dids-there h j d e

abbrev pub note_tally : Logs → Tally → Note → ℕ
note_tally logs f n = tally_if f (entry_of logs n).region (did_of n)

abbrev pub total : Logs → Tally → ℕ
total logs f = sum_over (note_tally logs f) logs

-- births with this region, and growths into it
abbrev pub born_by : RegionId → Tally
born_by r taken (Birth root x) = one_of (same_region r x)
born_by r taken (Grow c x) = one_of (same_region r x)
born_by r taken _ = 0

abbrev pub takes : RegionId → Did → ℕ
takes r (Take class x) = one_of (same_region r x)
takes r _ = 0

abbrev pub hits : RegionId → Did → ℕ
hits r (Hit x) = one_of (same_region r x)
hits r _ = 0

abbrev pub sheds_of : RegionId → Did → ℕ
sheds_of r (Shed x) = one_of (same_region r x)
sheds_of r _ = 0

abbrev pub gives_of : RegionId → Did → ℕ
gives_of r (Give x) = one_of (same_region r x)
gives_of r _ = 0

-- how often all lanes take, hit, shed, keep and give a region, and how often a root with it is born and ends
abbrev pub takes_in : Logs → RegionId → ℕ
takes_in logs r = total_by (takes r) (dids (history_of (arena_of r) logs))

abbrev pub hits_in : Logs → RegionId → ℕ
hits_in logs r = total_by (hits r) (dids (history_of (cache_of r) logs))

abbrev pub sheds_in : Logs → RegionId → ℕ
sheds_in logs r = total_by (sheds_of r) (dids (history_of (cache_of r) logs))

abbrev pub keeps_in : Logs → RegionId → ℕ
keeps_in logs r = total_by (puts r) (dids (history_of (cache_of r) logs))

abbrev pub gives_in : Logs → RegionId → ℕ
gives_in logs r = total_by (gives_of r) (dids (history_of (arena_of r) logs))

abbrev pub births_in : Logs → RegionId → ℕ
births_in logs r = total logs (born_by r)

abbrev pub ends_in : Logs → RegionId → ℕ
ends_in logs r = total logs (ended_by r)

pub placed-weight : (r x : RegionId) (o other : Object) → (same_region r x ≡ true → other ≡ o)
    → one_of (same_region r x) ≡ (if same_object o other then one_of (same_region r x) else 0)
placed-weight r x o other f = go (same_region r x) f
  where
    go : (b : Bool) → (b ≡ true → other ≡ o) → one_of b ≡ (if same_object o other then one_of b else 0)
    go true f = let e : same_object o other ≡ true = ap (same_object o) (f refl) ∙ same_object-refl o in rw e refl
    go false f = cond_both (same_object o other) 0 0 (λ z. 0 ≡ z) (λ _. refl) (λ _. refl)

-- the takings of an arena's history have each region once
pub takes-once : (number n m : ℕ) (r : RegionId) (ds : List Did) → TakenInOrder number n ds m
    → (total_by (takes r) ds ≤ 1) × (r.taking ≤ n → total_by (takes r) ds ≡ 0)
takes-once number n m r [] t = (omega arith, λ _. refl)
takes-once number n m r (Take class x ∷ ds) t =
    go (same_region r x) (λ same. ap (λ y. y.taking) (same_region-is r x same) ∙ t.0.taking)
    (takes-once number (n + 1) m r ds t.1)
  where
    go : (b : Bool) → (b ≡ true → r.taking ≡ n + 1)
        → (total_by (takes r) ds ≤ 1) × (r.taking ≤ n + 1 → total_by (takes r) ds ≡ 0) →
        (one_of b + total_by (takes r) ds ≤ 1) × (r.taking ≤ n → one_of b + total_by (takes r) ds ≡ 0)
    go true f ih =
        let e : r.taking ≡ n + 1 = f refl in let none : total_by (takes r) ds ≡ 0 = ih.1 (omega (arith, e)) in
        (omega (arith, none), λ low. absurd (omega (arith, e, low)))
    go false f ih = (omega (arith, ih.0), λ low. omega (arith, ih.1 (omega (arith, low))))
takes-once number n m r (_ ∷ ds) t =
    let ih : (total_by (takes r) ds ≤ 1) × (r.taking ≤ n → total_by (takes r) ds ≡ 0) = takes-once number n m r ds t in
    (omega (arith, ih.0), λ low. omega (arith, ih.1 low))

-- of sums by places, one is picked
pub pick : (F : ℕ → ℕ) (k n q : ℕ) → k ≤ q → q < k + n → over_lanes k n (λ p. if p == q then F p else 0) ≡ F q
pick F k zero q low high = absurd (omega arith)
pick F k (suc n) q low high =
    cond_both (k == q) (F k) 0 (λ z. z + over_lanes (k + 1) n (λ p. if p == q then F p else 0) ≡ F q)
    (λ same. let e : k ≡ q = eqb-true k q same in omega (arith, ap F e, pick-none F (k + 1) n q (omega (arith, e))))
    (λ other. let ne : q ≢ k = (λ e. let both : true ≡ false = sym (eq-eqb k q (sym e)) ∙ other in cc both) in
    let rest : over_lanes (k + 1) n (λ p. if p == q then F p else 0)
    ≡ F q = pick F (k + 1) n q (omega (arith, lesser-or_same k q low ne)) (omega arith) in
    omega (arith, rest))
  where
    pick-none : (F : ℕ → ℕ) (k n q : ℕ) → q < k → over_lanes k n (λ p. if p == q then F p else 0) ≡ 0
    pick-none F k zero q h = refl
    pick-none F k (suc n) q h =
        let other : (k == q) ≡ false = ne_eqb k q (λ e. omega (arith, e)) in
        rw other (omega (arith, pick-none F (k + 1) n q (omega arith)))

pub pick-none : (F : ℕ → ℕ) (k n q : ℕ) → q < k → over_lanes k n (λ p. if p == q then F p else 0) ≡ 0
pick-none F k zero q h = refl
pick-none F k (suc n) q h =
    let other : (k == q) ≡ false = ne_eqb k q (λ e. omega (arith, e)) in
    rw other (omega (arith, pick-none F (k + 1) n q (omega arith)))

pub pick-most : (F : ℕ → ℕ) (k n q : ℕ) → over_lanes k n (λ p. if p == q then F p else 0) ≤ F q
pick-most F k zero q = omega arith
pick-most F k (suc n) q =
    cond_both (k == q) (F k) 0 (λ z. z + over_lanes (k + 1) n (λ p. if p == q then F p else 0) ≤ F q)
    (λ same. let e : k ≡ q = eqb-true k q same in omega (arith, ap F e, pick-none F (k + 1) n q (omega (arith, e))))
    (λ other. omega (arith, pick-most F (k + 1) n q))

pub over_lanes-none : (k n : ℕ) → over_lanes k n (λ p. 0) ≡ 0
over_lanes-none k zero = refl
over_lanes-none k (suc n) = omega (arith, over_lanes-none (k + 1) n)

pub over_lanes-less : (k n : ℕ) (f g : ℕ → ℕ) → ((p : ℕ) → f p ≤ g p) → over_lanes k n f ≤ over_lanes k n g
over_lanes-less k zero f g h = omega arith
over_lanes-less k (suc n) f g h = omega (arith, h k, over_lanes-less (k + 1) n f g h)

pub over-less : {X : Type 0} (f g : X → ℕ) (logs : List (List X)) → ((x : X) → f x ≤ g x)
    → sum_over f logs ≤ sum_over g logs
over-less f g [] h = omega arith
over-less {X = X} f g (xs ∷ logs) h = omega (arith, one xs, over-less f g logs h)
  where
    one : (xs : List X) → sum_by f xs ≤ sum_by g xs
    one [] = omega arith
    one (x ∷ xs) = omega (arith, h x, one xs)
