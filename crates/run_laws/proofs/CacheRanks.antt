-- The regions of a cache by rank: what goes in as the first of a region comes out as the first of it, and so on.
use Rattle.std.proofs.Common.{⊎_elim, ◌≡◌, ℕ, zero, suc, ◌+◌, ◌≤◌, List, [], ◌∷◌, take, refl, sym, ap, arith, Bool, true, false, Some, ◌∙◌}
use Rattle.std.specs.Prelude.{◌<◌, slice_get}
use Rattle.pool_law.specs.declared.id.RegionId.{RegionId}
use Rattle.pool_law.specs.declared.note.Did.{Did}
use Rattle.pool_law.specs.declared.note.Did.TheVariants.{Hit, Kept, Shed}
use Rattle.pool_law.specs.Limits.{cache_capacity}
use Rattle.pool_law.specs.Same.{same_region}
use Rattle.pool_law.specs.Caches.{Cache, new_cache, cache_step, is_own, lane_cache_step}
use Rattle.pool_law.specs.Histories.{after, cache_after}
use Rattle.run_laws.specs.CacheCounts.{one_of, times, puts, removes, total_by}
use Rattle.run_laws.proofs.CacheLaw.{if-some, cache_step-balances, goes-through}
use Rattle.run_laws.proofs.Placed.{step-at, take-get, puts-kept}
use Rattle.arena_laws.proofs.SlotLemmas.{three}

pub one-most : (b : Bool) → one_of b ≤ 1
one-most true = omega arith
one-most false = omega arith

pub puts-most : (r : RegionId) (d : Did) → puts r d ≤ 1
puts-most r (Kept x) = one-most (same_region r x)
puts-most r _ = omega arith

pub removes-most : (r : RegionId) (d : Did) → removes r d ≤ 1
removes-most r (Hit x) = one-most (same_region r x)
removes-most r (Shed x) = one-most (same_region r x)
removes-most r _ = omega arith

-- what counts with so many before it
pub record Nth (f : Did → ℕ) (ds : List Did) (i : ℕ) : Type 0 where
  pub at : ℕ
  pub did : Did
  pub there : slice_get ds at ≡ Some did
  pub counts : 1 ≤ f did
  pub rank : total_by f (take at ds) ≡ i

pub nth : (f : Did → ℕ) (ds : List Did) (i : ℕ) → ((d : Did) → f d ≤ 1) → i < total_by f ds → Nth f ds i
nth f [] i most h = absurd (omega (arith, h))
nth f (d ∷ ds) i most h = go (f d) refl i h (λ j less. nth f ds j most less)
  where
    go : (n : ℕ) → f d ≡ n → (i : ℕ) → i < f d + total_by f ds → ((j : ℕ) → j < total_by f ds → Nth f ds j)
        → Nth f (d ∷ ds) i
    go zero e i h rest =
        let r : Nth f ds i = rest i (omega (arith, h, e)) in
        record { at = suc r.at; did = r.did; there = r.there; counts = r.counts; rank = omega (arith, e, r.rank) }
    go (suc n) e zero h rest =
        record { at = 0; did = d; there = refl; counts = omega (arith, e); rank = refl }
    go (suc n) e (suc i) h rest =
        let r : Nth f ds i = rest i (omega (arith, h, e, most d)) in
        record {
          at = suc r.at;
          did = r.did;
          there = r.there;
          counts = r.counts;
          rank = omega (arith, e, most d, r.rank);
        }

pub total-before : (f : Did → ℕ) (ds : List Did) (j k : ℕ) (d : Did) → slice_get ds j ≡ Some d → j < k
    → total_by f (take j ds) + f d ≤ total_by f (take k ds)
total-before f [] j k d is less = absurd (cc is)
total-before f (x ∷ xs) j zero d is less = absurd (omega (arith, less))
total-before f (x ∷ xs) zero (suc k) d is less = let same : x ≡ d = cc is in omega (arith, ap f same)
total-before f (x ∷ xs) (suc j) (suc k) d is less =
    omega (arith, total-before f xs j k d is (omega (arith, less)))

pub total-inside : (f : Did → ℕ) (ds : List Did) (j : ℕ) (d : Did) → slice_get ds j ≡ Some d
    → total_by f (take j ds) + f d ≤ total_by f ds
total-inside f [] j d is = absurd (cc is)
total-inside f (x ∷ xs) zero d is = let same : x ≡ d = cc is in omega (arith, ap f same)
total-inside f (x ∷ xs) (suc j) d is = omega (arith, total-inside f xs j d is)

pub rank-one : (f : Did → ℕ) (ds : List Did) (j k : ℕ) (d e : Did) → slice_get ds j ≡ Some d → slice_get ds k ≡ Some e
    → 1 ≤ f d → 1 ≤ f e → total_by f (take j ds) ≡ total_by f (take k ds) → j ≡ k
rank-one f ds j k d e is it a b same =
    ⊎_elim (λ less. absurd (omega (arith, total-before f ds j k d is less, a, same)))
    (λ o. ⊎_elim (λ equal. equal)
    (λ more. absurd (omega (arith, total-before f ds k j e it more, b, same))) o) (three j k)

pub take-take : {X : Type 0} (xs : List X) (j k : ℕ) → j < k → take j (take k xs) ≡ take j xs
take-take [] zero zero less = refl
take-take [] zero (suc k) less = refl
take-take [] (suc j) zero less = absurd (omega (arith, less))
take-take [] (suc j) (suc k) less = refl
take-take (x ∷ xs) j zero less = absurd (omega (arith, less))
take-take (x ∷ xs) zero (suc k) less = refl
take-take (x ∷ xs) (suc j) (suc k) less = ap (λ ys. x ∷ ys) (take-take xs j k (omega (arith, less)))

module _ (lane class : ℕ) (ds : List Did) (b : Cache) (r : RegionId) (run : cache_after lane class ds ≡ Some b) where
  -- before a region comes out more of it went in than came out
  pub held-more : (l : ℕ) (d : Did) → slice_get ds l ≡ Some d → 1 ≤ removes r d
      → total_by (removes r) (take l ds) < total_by (puts r) (take l ds)
  held-more l d is out =
      let s : (m : Cache) × (n : Cache) × (after (lane_cache_step lane class) new_cache (take l ds) ≡ Some m)
      × (lane_cache_step lane class m d ≡ Some n) = step-at (lane_cache_step lane class) ds new_cache b l d run is in
      let balance : times r s.0.regions + puts r d ≡ removes r d + times r s.1.regions =
      cache_step-balances (cache_capacity class) s.0 s.1 d r
      (if-some (is_own lane class d) (cache_step (cache_capacity class) s.0 d) s.1 s.3) in
      omega (arith, balance, out, no_put d out, goes-through lane class (take l ds) s.0 r s.2)
    where
      no_put : (d : Did) → 1 ≤ removes r d → puts r d ≡ 0
      no_put (Kept x) h = absurd (omega arith)
      no_put _ h = refl

  -- what comes out went in with that rank
  pub record PutOf (l : ℕ) : Type 0 where
    pub at : ℕ
    pub there : slice_get ds at ≡ Some (Kept r)
    pub before : at < l
    pub rank : total_by (puts r) (take at ds) ≡ total_by (removes r) (take l ds)

  pub put-of : (l : ℕ) (d : Did) → slice_get ds l ≡ Some d → 1 ≤ removes r d → PutOf l
  put-of l d is out =
      let n : Nth (puts r) (take l ds) (total_by (removes r) (take l ds)) =
      nth (puts r) (take l ds) (total_by (removes r) (take l ds)) (puts-most r) (held-more l d is out) in
      let g = take-get l ds n.at n.did n.there in
      record {
        at = n.at;
        there = g.0 ∙ ap (λ x. Some x) (puts-kept r n.did n.counts);
        before = g.1;
        rank = ap (total_by (puts r)) (sym (take-take ds n.at l g.1)) ∙ n.rank;
      }

  -- and what went in comes out with that rank, where as much came out in the end
  pub record RemovalOf (k : ℕ) : Type 0 where
    pub at : ℕ
    pub did : Did
    pub there : slice_get ds at ≡ Some did
    pub removes_it : 1 ≤ removes r did
    pub behind : k < at
    pub rank : total_by (puts r) (take k ds) ≡ total_by (removes r) (take at ds)

  pub removal-of : total_by (puts r) ds ≡ total_by (removes r) ds → (k : ℕ) → slice_get ds k ≡ Some (Kept r)
      → 1 ≤ puts r (Kept r) → RemovalOf k
  removal-of even k is counts =
      let n : Nth (removes r) ds (total_by (puts r) (take k ds)) =
      nth (removes r) ds (total_by (puts r) (take k ds)) (removes-most r)
      (omega (arith, total-inside (puts r) ds k (Kept r) is, counts, even)) in
      let p : PutOf n.at = put-of n.at n.did n.there n.counts in
      let same : p.at ≡ k =
      rank-one (puts r) ds p.at k (Kept r) (Kept r) p.there is counts counts (p.rank ∙ n.rank) in
      record {
        at = n.at;
        did = n.did;
        there = n.there;
        removes_it = n.counts;
        behind = omega (arith, same, p.before);
        rank = sym n.rank;
      }
