-- What goes through a cache.
use Rattle.std.proofs.Common.{◌≡◌, ℕ, ◌+◌, List, [], ◌∷◌, ◌++◌, length, min, refl, sym, ap, subst, arith, Bool, true, false, Some, None}
use Rattle.std.specs.Prelude.{◌-◌, ◌==◌, ◌&&◌, not, nat_lt, if◌then◌else◌, Option, option_and_then}
use Rattle.pool_law.specs.declared.id.RegionId.{RegionId}
use Rattle.pool_law.specs.declared.note.Did.{Did}
use Rattle.pool_law.specs.declared.note.Did.TheVariants.{Hit, Miss, Kept, Back, Trim, Close, Shed}
use Rattle.pool_law.specs.Limits.{cache_capacity}
use Rattle.pool_law.specs.Same.{same_region}
use Rattle.pool_law.specs.Caches.{Cache, new_cache, front_taken, if_so, is_empty, after_hit, after_shed, refusal_is, trim_quota, cache_step, is_own, lane_cache_step}
use Rattle.pool_law.specs.Histories.{after}
use Rattle.run_laws.specs.CacheCounts.{one_of, times, puts, removes, total_by, GoesThrough}
use Rattle.pool_law.proofs.SameLemmas.{same_region-is}
use Rattle.std.proofs.lemmas.Bool.{cond_both}

pub times-append : (r : RegionId) (xs ys : List RegionId) → times r (xs ++ ys) ≡ times r xs + times r ys
times-append r [] ys = omega arith
times-append r (x ∷ xs) ys = omega (arith, times-append r xs ys)

-- a list whose front was taken began with it
pub times-front : (r region : RegionId) (xs rest : List RegionId)
    → front_taken (λ front. same_region region front) xs ≡ Some rest
    → times r xs ≡ one_of (same_region r region) + times r rest
times-front r region [] rest e = absurd (cc e)
times-front r region (x ∷ xs) rest e =
    cond_both (same_region region x) (Some xs) None
    (λ z. z ≡ Some rest → times r (x ∷ xs) ≡ one_of (same_region r region) + times r rest)
    (λ same is. let tail : xs ≡ rest = cc is in
    let region_is : region ≡ x = same_region-is region x same in
    subst (λ y. times r (x ∷ xs) ≡ one_of (same_region r y) + times r rest) (sym region_is)
    (subst (λ t. times r (x ∷ xs) ≡ one_of (same_region r x) + times r t) tail refl))
    (λ _ is. absurd (cc is))
    e

-- a note with a test leaves what it says
pub if_so-is : {X : Type 0} (test : Bool) (x y : X) → if_so test x ≡ Some y → x ≡ y
if_so-is true x y e = cc e
if_so-is false x y e = absurd (cc e)

pub if-some : {X : Type 0} (test : Bool) (x : Option X) (y : X) → (if test then x else None) ≡ Some y → x ≡ Some y
if-some true x y e = e
if-some false x y e = absurd (cc e)

pub unless-some : {X : Type 0} (test : Bool) (x : Option X) (y : X) → (if test then None else x) ≡ Some y → x ≡ Some y
unless-some true x y e = absurd (cc e)
unless-some false x y e = e

abbrev pub Balances : RegionId → Did → Cache → Cache → Type 0
Balances r d c b = times r c.regions + puts r d ≡ removes r d + times r b.regions

pub same-regions : (r : RegionId) (c b : Cache) → c.regions ≡ b.regions → times r c.regions + 0 ≡ 0 + times r b.regions
same-regions r c b e = omega (arith, ap (times r) e)

pub cache_step-balances : (capacity : ℕ) (c b : Cache) (d : Did) (r : RegionId) → cache_step capacity c d ≡ Some b
    → Balances r d c b
cache_step-balances capacity c b (Hit region) r e =
    go (front_taken (λ front. same_region region front) c.regions) (λ rest. times-front r region c.regions rest)
    (if-some (c.quota == 0) (after_hit capacity c (front_taken (λ front. same_region region front) c.regions)) b e)
  where
    go : (o : Option (List RegionId))
        → ((rest : List RegionId) → o ≡ Some rest → times r c.regions ≡ one_of (same_region r region) + times r rest)
        → after_hit capacity c o ≡ Some b → Balances r (Hit region) c b
    go None front is = absurd (cc is)
    go (Some rest) front is =
        let after_is : record c { regions = rest; served = min (c.served + 1) capacity } ≡ b = cc is in
        subst (λ x. Balances r (Hit region) c x) after_is (omega (arith, front rest refl))
cache_step-balances capacity c b Miss r e =
    let same : c ≡ b = if_so-is ((c.quota == 0) && is_empty c.regions) c b e in
    same-regions r c b (ap (λ x. x.regions) same)
cache_step-balances capacity c b (Kept region) r e =
    let same : record c { regions = c.regions ++ region ∷ [] }
    ≡ b =
    if_so-is (not c.closed && nat_lt (length c.regions) capacity)
    (record c { regions = c.regions ++ region ∷ [] }) b e in
    subst (λ x. Balances r (Kept region) c x) same (omega (arith, times-append r c.regions (region ∷ [])))
cache_step-balances capacity c b (Back region why) r e =
    let same : c ≡ b = if_so-is (refusal_is c capacity why) c b e in same-regions r c b (ap (λ x. x.regions) same)
cache_step-balances capacity c b (Trim quota) r e =
    let same : record c { quota = quota; served = 0 }
    ≡ b =
    if_so-is ((c.quota == 0) && (quota == trim_quota c capacity)) (record c { quota = quota; served = 0 }) b
    e in
    same-regions r c b (ap (λ x. x.regions) same)
cache_step-balances capacity c b (Close quota) r e =
    let same : record c { quota = quota; closed = true }
    ≡ b =
    if_so-is ((c.quota == 0) && (not c.closed && (quota == length c.regions)))
    (record c { quota = quota; closed = true }) b e in
    same-regions r c b (ap (λ x. x.regions) same)
cache_step-balances capacity c b (Shed region) r e =
    go (front_taken (λ front. same_region region front) c.regions) (λ rest. times-front r region c.regions rest)
    (unless-some (c.quota == 0) (after_shed c (front_taken (λ front. same_region region front) c.regions)) b e)
  where
    go : (o : Option (List RegionId))
        → ((rest : List RegionId) → o ≡ Some rest → times r c.regions ≡ one_of (same_region r region) + times r rest)
        → after_shed c o ≡ Some b → Balances r (Shed region) c b
    go None front is = absurd (cc is)
    go (Some rest) front is =
        let after_is : record c { regions = rest; quota = c.quota - 1 } ≡ b = cc is in
        subst (λ x. Balances r (Shed region) c x) after_is (omega (arith, front rest refl))
cache_step-balances capacity c b _ r e = absurd (cc e)

pub after-balances : (lane class : ℕ) (ds : List Did) (c b : Cache) (r : RegionId)
    → after (lane_cache_step lane class) c ds ≡ Some b →
    times r c.regions + total_by (puts r) ds ≡ total_by (removes r) ds + times r b.regions
after-balances lane class [] c b r e = let same : c ≡ b = cc e in same-regions r c b (ap (λ x. x.regions) same)
after-balances lane class (d ∷ ds) c b r e =
    go (lane_cache_step lane class c d)
    (λ m is. cache_step-balances (cache_capacity class) c m d r
    (if-some (is_own lane class d) (cache_step (cache_capacity class) c d) m is)) e
    (λ m. after-balances lane class ds m b r)
  where
    go : (o : Option Cache) → ((m : Cache) → o ≡ Some m → Balances r d c m)
        → option_and_then (λ m. after (lane_cache_step lane class) m ds) o ≡ Some b →
        ((m : Cache) → after (lane_cache_step lane class) m ds ≡ Some b
        → times r m.regions + total_by (puts r) ds ≡ total_by (removes r) ds + times r b.regions) →
        times r c.regions + total_by (puts r) (d ∷ ds) ≡ total_by (removes r) (d ∷ ds) + times r b.regions
    go None first is rest = absurd (cc is)
    go (Some m) first is rest = omega (arith, first m refl, rest m is)

pub goes-through : (lane class : ℕ) → GoesThrough lane class
goes-through lane class ds c r e = omega (arith, after-balances lane class ds new_cache c r e)
