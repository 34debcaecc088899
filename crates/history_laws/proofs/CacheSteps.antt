-- What one accepted note does to a cache, as far as its regions go.
use Rattle.std.proofs.Common.{◌≡◌, ℕ, ◌+◌, List, [], ◌∷◌, ◌++◌, length, Bool, true, false, sym, refl, ap, ap₂, ◌∙◌, eqb-true, Some, None}
use Rattle.std.specs.Prelude.{◌==◌, ◌&&◌, not, nat_lt, min, if◌then◌else◌, Option}
use Rattle.pool_law.specs.declared.id.RegionId.{RegionId}
use Rattle.pool_law.specs.declared.note.Did.{Did}
use Rattle.pool_law.specs.declared.note.Did.TheVariants.{Hit, Miss, Kept, Back, Trim, Close, Shed}
use Rattle.pool_law.specs.Same.{same_region}
use Rattle.pool_law.specs.Caches.{Cache as CacheState, front_taken, if_so, is_empty, cache_step, lane_cache_step, is_own, after_hit, after_shed, refusal_is, trim_quota}
use Rattle.pool_law.specs.Limits.{cache_capacity}
use Rattle.pool_law.proofs.SameLemmas.{and-first, and-second, same_region-is}
use Rattle.history_laws.proofs.BinSteps.{so}

-- the cache x of the lane l and the class c becomes y
abbrev pub IsCacheStep : ℕ → ℕ → CacheState → Did → CacheState → Type 0
IsCacheStep l c x (Hit r) y = x.regions ≡ r ∷ y.regions
IsCacheStep l c x (Shed r) y = x.regions ≡ r ∷ y.regions
IsCacheStep l c x (Kept r) y = (y.regions ≡ x.regions ++ r ∷ []) × (r.owner ≡ l) × (r.class ≡ c)
IsCacheStep l c x Miss y = y.regions ≡ x.regions
IsCacheStep l c x (Back r why) y = y.regions ≡ x.regions
IsCacheStep l c x (Trim k) y = y.regions ≡ x.regions
IsCacheStep l c x (Close k) y = y.regions ≡ x.regions
IsCacheStep l c x d y = ⊥

front_region : (r : RegionId) (q m : List RegionId) → front_taken (λ o. same_region r o) q ≡ Some m → q ≡ r ∷ m
front_region r [] m e = absurd (cc e)
front_region r (x ∷ xs) m e = one (same_region r x) refl e
  where
    one : (b : Bool) → same_region r x ≡ b → (if b then Some xs else None) ≡ Some m → x ∷ xs ≡ r ∷ m
    one true same e =
        let rest : xs ≡ m = cc e in
        ap₂ (λ (a : RegionId) (b : List RegionId). a ∷ b) (sym (same_region-is r x same)) rest
    one false same e = absurd (cc e)

hit_told : (n : ℕ) (x y : CacheState) (r : RegionId) (b : Bool)
    → (if b then after_hit n x (front_taken (λ o. same_region r o) x.regions) else None) ≡ Some y
    → x.regions ≡ r ∷ y.regions
hit_told n x y r false e = absurd (cc e)
hit_told n x y r true e = go (front_taken (λ o. same_region r o) x.regions) refl e
  where
    go : (o : Option (List RegionId)) → front_taken (λ o. same_region r o) x.regions ≡ o → after_hit n x o ≡ Some y
        → x.regions ≡ r ∷ y.regions
    go None is e = absurd (cc e)
    go (Some m) is e =
        let same : record x { regions = m; served = min (x.served + 1) n } ≡ y = cc e in
        front_region r x.regions m is ∙ ap (λ (v : CacheState). r ∷ v.regions) same

shed_told : (x y : CacheState) (r : RegionId) (b : Bool)
    → (if b then None else after_shed x (front_taken (λ o. same_region r o) x.regions)) ≡ Some y
    → x.regions ≡ r ∷ y.regions
shed_told x y r true e = absurd (cc e)
shed_told x y r false e = go (front_taken (λ o. same_region r o) x.regions) refl e
  where
    go : (o : Option (List RegionId)) → front_taken (λ o. same_region r o) x.regions ≡ o → after_shed x o ≡ Some y
        → x.regions ≡ r ∷ y.regions
    go None is e = absurd (cc e)
    go (Some m) is e = front_region r x.regions m is ∙ ap (λ (v : List RegionId). r ∷ v) (one e)
      where
        one : after_shed x (Some m) ≡ Some y → m ≡ y.regions
        one e = ap (λ (o : Option CacheState). regions_or o) e
          where
            regions_or : Option CacheState → List RegionId
            regions_or (Some v) = v.regions
            regions_or None = []

same_told : (x z y : CacheState) (b : Bool) → z.regions ≡ x.regions → if_so b z ≡ Some y → y.regions ≡ x.regions
same_told x z y b s e = let f = so b z y e in ap (λ (v : CacheState). v.regions) (sym f.1) ∙ s

own_told : (l c n : ℕ) (x y : CacheState) (d : Did) → is_own l c d ≡ true → cache_step n x d ≡ Some y
    → IsCacheStep l c x d y
own_told l c n x y (Hit r) own e = hit_told n x y r (x.quota == 0) e
own_told l c n x y (Shed r) own e = shed_told x y r (x.quota == 0) e
own_told l c n x y (Kept r) own e = (
  ap (λ (v : CacheState). v.regions)
      (sym (so (not x.closed && nat_lt (length x.regions) n) (record x { regions = x.regions ++ r ∷ [] }) y e).1),
  eqb-true r.owner l (and-first (r.owner == l) (r.class == c) own),
  eqb-true r.class c (and-second (r.owner == l) (r.class == c) own),
)
own_told l c n x y Miss own e = same_told x x y ((x.quota == 0) && is_empty x.regions) refl e
own_told l c n x y (Back r why) own e = same_told x x y (refusal_is x n why) refl e
own_told l c n x y (Trim k) own e =
    same_told x (record x { quota = k; served = 0 }) y ((x.quota == 0) && (k == trim_quota x n)) refl e
own_told l c n x y (Close k) own e =
    same_told x (record x { quota = k; closed = true }) y ((x.quota == 0) && (not x.closed && (k == length x.regions)))
    refl e
own_told l c n x y d own e = absurd (cc e)

pub cache_told : (l c : ℕ) (x y : CacheState) (d : Did) → lane_cache_step l c x d ≡ Some y → IsCacheStep l c x d y
cache_told l c x y d e = one (is_own l c d) refl e
  where
    one : (b : Bool) → is_own l c d ≡ b → (if b then cache_step (cache_capacity c) x d else None) ≡ Some y
        → IsCacheStep l c x d y
    one true own e = own_told l c (cache_capacity c) x y d own e
    one false own e = absurd (cc e)
