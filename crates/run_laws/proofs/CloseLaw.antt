-- Each cache of a lane ends empty: it is closed, and what it then has is shed.
use Rattle.std.proofs.Common.{◌≡◌, ℕ, zero, suc, ◌+◌, ◌-◌, ◌≤◌, List, [], ◌∷◌, ◌++◌, length, min, refl, sym, ap, subst, arith, Bool, true, false, Some, None, ◌∙◌, eqb-true}
use Rattle.std.specs.Prelude.{◌==◌, ◌&&◌, not, nat_lt, if◌then◌else◌, Option, option_and_then}
use Rattle.pool_law.specs.declared.id.RegionId.{RegionId}
use Rattle.pool_law.specs.declared.note.Did.{Did}
use Rattle.pool_law.specs.declared.note.Did.TheVariants.{Hit, Miss, Kept, Back, Trim, Close, Shed}
use Rattle.pool_law.specs.Same.{same_region}
use Rattle.pool_law.specs.Limits.{cache_capacity}
use Rattle.pool_law.specs.Caches.{Cache, new_cache, front_taken, after_hit, after_shed, is_empty, refusal_is, trim_quota, cache_step, is_own, lane_cache_step}
use Rattle.pool_law.specs.Histories.{after, cache_after}
use Rattle.run_laws.specs.CacheCounts.{total_by}
use Rattle.pool_law.specs.LaneLaw.{closes}
use Rattle.run_laws.proofs.CacheLaw.{if_so-is, if-some, unless-some}
use Rattle.run_laws.proofs.PlaceLaw.{if_so-test}
use Rattle.pool_law.proofs.SameLemmas.{and-first, and-second}
use Rattle.std.proofs.lemmas.Bool.{cond_both}
use Rattle.run_laws.proofs.Draining.{grant, shed_one, close_one}

-- what a note does to a cache
pub record ClosesTo (c b : Cache) (d : Did) : Type 0 where
  pub bounded : (c.closed ≡ true → length c.regions ≤ c.quota) → b.closed ≡ true → length b.regions ≤ b.quota
  pub granted : c.quota + grant d ≡ shed_one d + b.quota
  pub stays : c.closed ≡ true → b.closed ≡ true
  pub closes : 1 ≤ close_one d → b.closed ≡ true

pub front-length : (region : RegionId) (xs rest : List RegionId)
    → front_taken (λ front. same_region region front) xs ≡ Some rest → length xs ≡ 1 + length rest
front-length region [] rest e = absurd (cc e)
front-length region (x ∷ xs) rest e =
    cond_both (same_region region x) (Some xs) None (λ z. z ≡ Some rest → length (x ∷ xs) ≡ 1 + length rest)
    (λ _ is. let same : xs ≡ rest = cc is in omega (arith, ap length same)) (λ _ is. absurd (cc is)) e

pub unless-test : {X : Type 0} (test : Bool) (x : Option X) (y : X) → (if test then None else x) ≡ Some y → test ≡ false
unless-test true x y e = absurd (cc e)
unless-test false x y e = refl

pub not-true : (b : Bool) → not b ≡ true → b ≡ false
not-true true e = absurd (cc e)
not-true false e = refl

pub no-both : {P : Type 0} (b : Bool) → b ≡ false → b ≡ true → P
no-both b no_b yes_b = absurd (let both : true ≡ false = sym yes_b ∙ no_b in cc both)

pub nonzero : (n : ℕ) → (n == 0) ≡ false → 1 ≤ n
nonzero zero e = absurd (cc e)
nonzero (suc n) e = omega arith

pub step-closes : (capacity : ℕ) (c b : Cache) (d : Did) → cache_step capacity c d ≡ Some b → ClosesTo c b d
step-closes capacity c b (Hit region) e =
    go (front_taken (λ front. same_region region front) c.regions) (λ rest. front-length region c.regions rest)
    (if-some (c.quota == 0) (after_hit capacity c (front_taken (λ front. same_region region front) c.regions)) b e)
  where
    go : (o : Option (List RegionId)) → ((rest : List RegionId) → o ≡ Some rest → length c.regions ≡ 1 + length rest)
        → after_hit capacity c o ≡ Some b → ClosesTo c b (Hit region)
    go None len is = absurd (cc is)
    go (Some rest) len is =
        let same : record c { regions = rest; served = min (c.served + 1) capacity } ≡ b = cc is in
        subst (λ x. ClosesTo c x (Hit region)) same
        (record {
          bounded = λ h closed.
              (let old : length c.regions ≤ c.quota = h closed in omega (arith, old, len rest refl));
          granted =
              omega arith;
          stays = λ s. s;
          closes = λ h. absurd (omega (arith, h));
        })
step-closes capacity c b Miss e =
    let same : c ≡ b = if_so-is ((c.quota == 0) && is_empty c.regions) c b e in
    subst (λ x. ClosesTo c x Miss) same
    (record { bounded = λ h. h; granted = omega arith; stays = λ s. s; closes = λ h. absurd (omega (arith, h)) })
step-closes capacity c b (Back region why) e =
    let same : c ≡ b = if_so-is (refusal_is c capacity why) c b e in
    subst (λ x. ClosesTo c x (Back region why)) same
    (record { bounded = λ h. h; granted = omega arith; stays = λ s. s; closes = λ h. absurd (omega (arith, h)) })
step-closes capacity c b (Kept region) e =
    let same : record c { regions = c.regions ++ region ∷ [] }
    ≡ b =
    if_so-is (not c.closed && nat_lt (length c.regions) capacity)
    (record c { regions = c.regions ++ region ∷ [] }) b e in
    let open_ : c.closed ≡ false = not-true c.closed
    (and-first (not c.closed) (nat_lt (length c.regions) capacity)
    (if_so-test (not c.closed && nat_lt (length c.regions) capacity)
    (record c { regions = c.regions ++ region ∷ [] }) b e)) in
    subst (λ x. ClosesTo c x (Kept region)) same
    (record {
      bounded = λ h closed. no-both c.closed open_ closed;
      granted = omega arith;
      stays = λ s. s;
      closes =
          λ h. absurd (omega (arith, h));
    })
step-closes capacity c b (Trim quota) e =
    let same : record c { quota = quota; served = 0 }
    ≡ b =
    if_so-is ((c.quota == 0) && (quota == trim_quota c capacity)) (record c { quota = quota; served = 0 }) b
    e in
    let none : c.quota ≡ 0 = eqb-true c.quota 0
    (and-first (c.quota == 0) (quota == trim_quota c capacity)
    (if_so-test ((c.quota == 0) && (quota == trim_quota c capacity)) (record c { quota = quota; served = 0 }) b
    e)) in
    subst (λ x. ClosesTo c x (Trim quota)) same
    (record {
      bounded = λ h closed. (let old : length c.regions ≤ c.quota = h closed in omega (arith, old, none));
      granted = omega (arith, none);
      stays = λ s. s;
      closes = λ h. absurd (omega (arith, h));
    })
step-closes capacity c b (Close quota) e =
    let same : record c { quota = quota; closed = true }
    ≡ b =
    if_so-is ((c.quota == 0) && (not c.closed && (quota == length c.regions)))
    (record c { quota = quota; closed = true }) b e in
    let test : ((c.quota == 0) && (not c.closed && (quota == length c.regions)))
    ≡ true =
    if_so-test ((c.quota == 0) && (not c.closed && (quota == length c.regions)))
    (record c { quota = quota; closed = true }) b e in
    let none : c.quota ≡ 0 = eqb-true c.quota 0
    (and-first (c.quota == 0) (not c.closed && (quota == length c.regions)) test) in
    let all : quota ≡ length c.regions = eqb-true quota (length c.regions)
    (and-second (not c.closed) (quota == length c.regions)
    (and-second (c.quota == 0) (not c.closed && (quota == length c.regions)) test)) in
    subst (λ x. ClosesTo c x (Close quota)) same
    (record {
      bounded = λ h closed. omega (arith, all);
      granted = omega (arith, none);
      stays = λ s. refl;
      closes =
          λ h. refl;
    })
step-closes capacity c b (Shed region) e =
    go (front_taken (λ front. same_region region front) c.regions) (λ rest. front-length region c.regions rest)
    (unless-some (c.quota == 0) (after_shed c (front_taken (λ front. same_region region front) c.regions)) b e)
  where
    some : 1 ≤ c.quota
    some =
        nonzero c.quota (unless-test (c.quota == 0)
        (after_shed c (front_taken (λ front. same_region region front) c.regions)) b e)

    go : (o : Option (List RegionId)) → ((rest : List RegionId) → o ≡ Some rest → length c.regions ≡ 1 + length rest)
        → after_shed c o ≡ Some b → ClosesTo c b (Shed region)
    go None len is = absurd (cc is)
    go (Some rest) len is =
        let same : record c { regions = rest; quota = c.quota - 1 } ≡ b = cc is in
        subst (λ x. ClosesTo c x (Shed region)) same
        (record {
          bounded = λ h closed.
              (let old : length c.regions ≤ c.quota = h closed in omega (arith, old, len rest refl));
          granted =
              omega (arith, some);
          stays = λ s. s;
          closes = λ h. absurd (omega (arith, h));
        })
step-closes capacity c b _ e = absurd (cc e)

pub record ClosesBy (c b : Cache) (ds : List Did) : Type 0 where
  pub bounded : (c.closed ≡ true → length c.regions ≤ c.quota) → b.closed ≡ true → length b.regions ≤ b.quota
  pub granted : c.quota + total_by grant ds ≡ total_by shed_one ds + b.quota
  pub stays : c.closed ≡ true → b.closed ≡ true
  pub closes : 1 ≤ total_by close_one ds → b.closed ≡ true

pub after-closes : (lane class : ℕ) (ds : List Did) (c b : Cache) → after (lane_cache_step lane class) c ds ≡ Some b
    → ClosesBy c b ds
after-closes lane class [] c b e =
    let same : c ≡ b = cc e in
    subst (λ x. ClosesBy c x []) same
    (record { bounded = λ h. h; granted = omega arith; stays = λ s. s; closes = λ h. absurd (omega (arith, h)) })
after-closes lane class (d ∷ ds) c b e =
    go (lane_cache_step lane class c d)
    (λ m is. step-closes (cache_capacity class) c m d
    (if-some (is_own lane class d) (cache_step (cache_capacity class) c d) m is)) e
    (λ m. after-closes lane class ds m b)
  where
    go : (o : Option Cache) → ((m : Cache) → o ≡ Some m → ClosesTo c m d)
        → option_and_then (λ m. after (lane_cache_step lane class) m ds) o ≡ Some b
        → ((m : Cache) → after (lane_cache_step lane class) m ds ≡ Some b → ClosesBy m b ds) → ClosesBy c b (d ∷ ds)
    go None first is rest = absurd (cc is)
    go (Some m) first is rest =
        let f : ClosesTo c m d = first m refl in
        let r : ClosesBy m b ds = rest m is in
        record {
          bounded = λ h. r.bounded (f.bounded h);
          granted = omega (arith, f.granted, r.granted);
          stays =
              λ s. r.stays (f.stays s);
          closes = λ h. either f r (close_one d) refl h;
        }
      where
        either : ClosesTo c m d → ClosesBy m b ds → (n : ℕ) → close_one d ≡ n → 1 ≤ close_one d + total_by close_one ds
            → b.closed ≡ true
        either f r zero z h = r.closes (omega (arith, z, h))
        either f r (suc n) z h = r.stays (f.closes (omega (arith, z)))

-- a cache that was closed and shed as often as it may is empty
pub ends-empty : (lane class : ℕ) (ds : List Did) (b : Cache) → cache_after lane class ds ≡ Some b
    → total_by grant ds ≡ total_by shed_one ds → 1 ≤ total_by close_one ds → b.regions ≡ []
ends-empty lane class ds b e even closes =
    let c : ClosesBy new_cache b ds = after-closes lane class ds new_cache b e in
    none b.regions (let most : length b.regions ≤ b.quota = c.bounded (λ no_. absurd (cc no_)) (c.closes closes) in
    omega (arith, most, c.granted, even))
  where
    none : (xs : List RegionId) → length xs ≤ 0 → xs ≡ []
    none [] h = refl
    none (x ∷ xs) h = absurd (omega (arith, h))
