-- Each note that moves a region stands at the object that the region names, and births and ends at the place
-- of their root.
use Rattle.std.proofs.Common.{inl, inr, ◌≡◌, ℕ, zero, suc, ◌+◌, ◌≤◌, List, [], ◌∷◌, take, refl, sym, ap, subst, arith, Bool, true, false, Some, None, ◌∙◌, eqb-true}
use Rattle.std.specs.Prelude.{◌==◌, ◌&&◌, ◌<◌, is_some, Option, option_and_then, slice_get}
use Rattle.pool_law.specs.declared.id.RootId.{RootId}
use Rattle.pool_law.specs.declared.id.RegionId.{RegionId}
use Rattle.pool_law.specs.declared.note.Object.{Object}
use Rattle.pool_law.specs.declared.note.Did.{Did}
use Rattle.pool_law.specs.declared.note.Did.TheVariants.{Take, Full, Give, Hit, Miss, Kept, Back, Trim, Close, Shed, Handle, NoHandle, Home, Birth, End}
use Rattle.pool_law.specs.declared.note.Note.{Note}
use Rattle.pool_law.specs.declared.run.Shape.{Shape}
use Rattle.size_classes.specs.Sizes.{IsPage}
use Rattle.pool_law.specs.Limits.{geometry_of, cache_capacity}
use Rattle.pool_law.specs.Same.{same_region, same_taking}
use Rattle.pool_law.specs.Arenas.{Arena, new_arena, arena_step, give, is_out_of}
use Rattle.pool_law.specs.Caches.{Cache, new_cache, lane_cache_step, cache_step, is_own, new_bin, bin_step}
use Rattle.pool_law.specs.Roots.{RootPlace, Present, new_place, place_step_by, place_step}
use Rattle.pool_law.specs.Logs.{has_history, may_stand}
use Rattle.pool_law.specs.Histories.{after, IsAccepted, arena_after, cache_after, place_after}
use Rattle.run_laws.specs.CacheCounts.{one_of, times, puts, removes, total_by}
use Rattle.arena_laws.specs.Slots.{ArenaHolds, IsLocated}
use Rattle.arena_laws.specs.Takings.{IsTaking}
use Rattle.pool_law.specs.Lives.{cache_of, arena_of}
use Rattle.run_laws.specs.PlaceLives.{WasBorn}
use Rattle.pool_law.proofs.SameLemmas.{and-first, and-second, same_region-is, same_place-is}
use Rattle.pool_law.proofs.PatternLemmas.{same_region-refl}
use Rattle.run_laws.proofs.CacheLaw.{if-some, cache_step-balances, goes-through}
use Rattle.arena_laws.proofs.ArenaLaw.{after-holds, new-holds}
use Rattle.arena_laws.proofs.TakingLaw.{step-numbers}
use Rattle.arena_laws.proofs.GiveSteps.{IsOne}
use Rattle.arena_laws.proofs.ElementGives.{EachOf-one, any-one}
use Rattle.run_laws.proofs.PlaceLaw.{place_step-does, was-born, end-present}
use Rattle.std.proofs.lemmas.Bool.{cond_both}
use Rattle.std.specs.List.{list_all}

-- the states before and after a note of an accepted history
pub step-at : {S : Type 0} (step : S → Did → Option S) (ds : List Did) (s t : S) (j : ℕ) (d : Did)
    → after step s ds ≡ Some t → slice_get ds j ≡ Some d →
    (m : S) × (n : S) × (after step s (take j ds) ≡ Some m) × (step m d ≡ Some n)
step-at step [] s t j d e is = absurd (cc is)
step-at {S = S} step (x ∷ ds) s t zero d e is = go (step s x) refl e
  where
    go : (o : Option S) → step s x ≡ o → option_and_then (λ m. after step m ds) o ≡ Some t
        → (m : S) × (n : S) × (Some s ≡ Some m) × (step m d ≡ Some n)
    go None here more = absurd (cc more)
    go (Some m) here more = let same : x ≡ d = cc is in (s, m, refl, subst (λ y. step s y ≡ Some m) same here)
step-at {S = S} step (x ∷ ds) s t (suc j) d e is = go (step s x) e (λ m more. step-at step ds m t j d more is)
  where
    go : (o : Option S) → option_and_then (λ m. after step m ds) o ≡ Some t →
        ((m : S) → after step m ds ≡ Some t → (p : S) × (q : S) × (after step m (take j ds) ≡ Some p)
        × (step p d ≡ Some q)) →
        (p : S) × (q : S) × (option_and_then (λ m. after step m (take j ds)) o ≡ Some p) × (step p d ≡ Some q)
    go None more rest = absurd (cc more)
    go (Some m) more rest = rest m more

pub is-some : {S : Type 0} (o : Option S) → is_some o ≡ true → (s : S) × (o ≡ Some s)
is-some None e = absurd (cc e)
is-some (Some s) e = (s, refl)

-- a note passes a test that all pass
pub all-at : (test : Note → Bool) (ns : List Note) (i : ℕ) (n : Note) → list_all test ns ≡ true
    → slice_get ns i ≡ Some n → test n ≡ true
all-at test [] i n all e = absurd (cc e)
all-at test (x ∷ ns) zero n all e =
    let same : x ≡ n = cc e in ap test (sym same) ∙ and-first (test x) (list_all test ns) all
all-at test (x ∷ ns) (suc i) n all e = all-at test ns i n (and-second (test x) (list_all test ns) all) e

-- what a sum over notes counts is found in them
pub total-found : (f : Did → ℕ) (ds : List Did) → 1 ≤ total_by f ds
    → (i : ℕ) × (d : Did) × (slice_get ds i ≡ Some d) × (1 ≤ f d)
total-found f [] h = absurd (omega arith)
total-found f (d ∷ ds) h = go (f d) refl (λ more. total-found f ds more)
  where
    go : (n : ℕ) → f d ≡ n → (1 ≤ total_by f ds → (i : ℕ) × (x : Did) × (slice_get ds i ≡ Some x) × (1 ≤ f x))
        → (i : ℕ) × (x : Did) × (slice_get (d ∷ ds) i ≡ Some x) × (1 ≤ f x)
    go zero e rest =
        let r : (i : ℕ) × (x : Did) × (slice_get ds i ≡ Some x) × (1 ≤ f x) = rest (omega (arith, h, e)) in
        (suc r.0, r.1, r.2, r.3)
    go (suc n) e rest = (zero, d, refl, omega (arith, e))

-- what stands in a beginning stands in the whole, and before its end
pub take-get : {X : Type 0} (j : ℕ) (xs : List X) (i : ℕ) (x : X) → slice_get (take j xs) i ≡ Some x
    → (slice_get xs i ≡ Some x) × (i < j)
take-get zero xs i x e = absurd (cc e)
take-get (suc j) [] i x e = absurd (cc e)
take-get (suc j) (y ∷ ys) zero x e = (e, omega arith)
take-get (suc j) (y ∷ ys) (suc i) x e =
    let r : (slice_get ys i ≡ Some x) × (i < j) = take-get j ys i x e in (r.0, omega (arith, r.1))

pub one-of-true : (b : Bool) → 1 ≤ one_of b → b ≡ true
one-of-true true h = refl
one-of-true false h = absurd (omega arith)

pub puts-kept : (r : RegionId) (d : Did) → 1 ≤ puts r d → d ≡ Kept r
puts-kept r (Kept x) h =
    let same : r ≡ x = same_region-is r x (one-of-true (same_region r x) h) in ap (λ y. Kept y) (sym same)
puts-kept r _ h = absurd (omega arith)

module _ (lane class : ℕ) where
  -- before a region comes out of a cache it was kept there
  pub kept-before : (ds : List Did) (b : Cache) (j : ℕ) (d : Did) (r : RegionId) → cache_after lane class ds ≡ Some b
      → slice_get ds j ≡ Some d → 1 ≤ removes r d →
      (i : ℕ) × (slice_get ds i ≡ Some (Kept r)) × (i < j)
  kept-before ds b j d r e is out =
      let s : (m : Cache) × (n : Cache) × (after (lane_cache_step lane class) new_cache (take j ds) ≡ Some m)
      × (lane_cache_step lane class m d ≡ Some n) = step-at (lane_cache_step lane class) ds new_cache b j d e is in
      let balance : times r s.0.regions + puts r d
      ≡ removes r d + times r s.1.regions =
      cache_step-balances (cache_capacity class) s.0 s.1 d r
      (if-some (is_own lane class d) (cache_step (cache_capacity class) s.0 d) s.1 s.3) in
      let here : 1 ≤ times r s.0.regions = omega (arith, balance, out, no_put d out) in
      let f : (i : ℕ) × (x : Did) × (slice_get (take j ds) i ≡ Some x)
      × (1 ≤ puts r x) = total-found (puts r) (take j ds)
      (omega (arith, here, goes-through lane class (take j ds) s.0 r s.2)) in
      let g : (slice_get ds f.0 ≡ Some f.1) × (f.0 < j) = take-get j ds f.0 f.1 f.2 in
      (f.0, g.0 ∙ ap (λ x. Some x) (puts-kept r f.1 f.3), g.1)
    where
      no_put : (d : Did) → 1 ≤ removes r d → puts r d ≡ 0
      no_put (Kept x) h = absurd (omega arith)
      no_put _ h = refl

  pub kept-own : (ds : List Did) (b : Cache) (i : ℕ) (r : RegionId) → cache_after lane class ds ≡ Some b
      → slice_get ds i ≡ Some (Kept r) → (r.owner ≡ lane) × (r.class ≡ class)
  kept-own ds b i r e is =
      let s : (m : Cache) × (n : Cache) × (after (lane_cache_step lane class) new_cache (take i ds) ≡ Some m)
      × (lane_cache_step lane class m (Kept r) ≡ Some n) =
      step-at (lane_cache_step lane class) ds new_cache b i (Kept r) e is in
      cond_both ((r.owner == lane) && (r.class == class)) (cache_step (cache_capacity class) s.0 (Kept r)) None
      (λ z. z ≡ Some s.1 → (r.owner ≡ lane) × (r.class ≡ class))
      (λ both _. (
        eqb-true r.owner lane (and-first (r.owner == lane) (r.class == class) both),
        eqb-true r.class class
            (and-second (r.owner == lane) (r.class == class) both),
      ))
      (λ _ x. absurd (cc x))
      s.3

-- what a note says of its object
abbrev pub IsPlaced : Object → Did → Type 0
IsPlaced o (Take class r) = (o ≡ arena_of r) × ((r.uses ≡ 0) × (r.class ≡ class))
IsPlaced o (Give r) = o ≡ arena_of r
IsPlaced o (Hit r) = o ≡ cache_of r
IsPlaced o (Kept r) = o ≡ cache_of r
IsPlaced o (Shed r) = o ≡ cache_of r
IsPlaced o (Birth root r) = o ≡ Object.Root root.place
IsPlaced o (End root) = o ≡ Object.Root root.place
IsPlaced o _ = Unit {0}

pub arena-placed : (shape : Shape) (number : ℕ) → IsPage shape.page → (ds : List Did) (a : Arena) (j : ℕ) (d : Did)
    → arena_after shape number ds ≡ Some a → slice_get ds j ≡ Some d → IsPlaced (Object.Arena number) d
arena-placed shape number page ds a j d e is =
    let s : (m : Arena) × (n : Arena)
    × (after (arena_step (geometry_of shape) number) (new_arena (geometry_of shape) shape.chunks) (take j ds)
    ≡ Some m) × (arena_step (geometry_of shape) number m d ≡ Some n) =
    step-at (arena_step (geometry_of shape) number) ds (new_arena (geometry_of shape) shape.chunks) a j d e
    is in
    let holds : ArenaHolds (geometry_of shape) number s.0 =
    after-holds (geometry_of shape) number (take j ds) (new_arena (geometry_of shape) shape.chunks) s.0
    (new-holds (geometry_of shape) number page shape.chunks) s.2 in
    go d s.0 s.1 holds s.3
  where
    go : (d : Did) (m n : Arena) → ArenaHolds (geometry_of shape) number m
        → arena_step (geometry_of shape) number m d ≡ Some n → IsPlaced (Object.Arena number) d
    go (Take class r) m n holds step =
        let t : IsTaking number class m.takings r × (n.takings ≡ m.takings + 1) =
        step-numbers (geometry_of shape) number m n (Take class r) step in
        (ap Object.Arena (sym t.0.arena), (t.0.uses, t.0.class_is))
    go (Full class) m n holds step = tt
    go (Give r) m n holds step =
        cond_both (is_out_of m r) (Some (give (geometry_of shape) m r)) None
        (λ z. z ≡ Some n → Object.Arena number ≡ arena_of r)
        (λ out _.
        let found : (x : RegionId) × IsOne x m.out
        × (same_taking r x ≡ true) = any-one (λ other. same_taking r other) m.out out in
        let located : IsLocated (geometry_of shape) number m found.0 =
        EachOf-one (IsLocated (geometry_of shape) number m) m.out found.0 holds.located found.1 in
        let place : r.place ≡ found.0.place = same_place-is r.place found.0.place (and-first _ _ found.2) in
        ap Object.Arena (sym (ap (λ p. p.arena) place ∙ located.0)))
        (λ _ x. absurd (cc x))
        step
    go _ m n holds step = absurd (cc step)

pub cache-placed : (lane class : ℕ) (ds : List Did) (c : Cache) (j : ℕ) (d : Did) → cache_after lane class ds ≡ Some c
    → slice_get ds j ≡ Some d → IsPlaced (Object.Cache lane class) d
cache-placed lane class ds c j d e is =
    let s : (m : Cache) × (n : Cache) × (after (lane_cache_step lane class) new_cache (take j ds) ≡ Some m)
    × (lane_cache_step lane class m d ≡ Some n) = step-at (lane_cache_step lane class) ds new_cache c j d e is in
    go d is s.0 s.1 s.3
  where
    of_kept : (i : ℕ) (r : RegionId) → slice_get ds i ≡ Some (Kept r) → Object.Cache lane class ≡ cache_of r
    of_kept i r there =
        let own : (r.owner ≡ lane) × (r.class ≡ class) = kept-own lane class ds c i r e there in
        λ i. Object.Cache (sym own.0 i) (sym own.1 i)

    go : (d : Did) → slice_get ds j ≡ Some d → (m n : Cache) → lane_cache_step lane class m d ≡ Some n
        → IsPlaced (Object.Cache lane class) d
    go (Hit r) here m n step =
        let k : (i : ℕ) × (slice_get ds i ≡ Some (Kept r))
        × (i < j) = kept-before lane class ds c j (Hit r) r e here
        (omega (arith, ap one_of (same_region-refl r))) in
        of_kept k.0 r k.1
    go (Shed r) here m n step =
        let k : (i : ℕ) × (slice_get ds i ≡ Some (Kept r))
        × (i < j) = kept-before lane class ds c j (Shed r) r e here
        (omega (arith, ap one_of (same_region-refl r))) in
        of_kept k.0 r k.1
    go (Kept r) here m n step = of_kept j r here
    go Miss here m n step = tt
    go (Back r why) here m n step = tt
    go (Trim q) here m n step = tt
    go (Close q) here m n step = tt
    go _ here m n step = absurd (cc step)

pub bin-placed : (lane handles : ℕ) (m n : List ℕ) (d : Did) → bin_step lane handles m d ≡ Some n
    → IsPlaced (Object.Bin lane) d
bin-placed lane handles m n (Handle p) step = tt
bin-placed lane handles m n NoHandle step = tt
bin-placed lane handles m n (Home p) step = tt
bin-placed lane handles m n _ step = absurd (cc step)

-- at a mail nothing moves a region
pub mail-placed : (shape : Shape) (lane : ℕ) (o : Object) (d : Did) → has_history o ≡ false
    → may_stand shape lane o d ≡ true → IsPlaced o d
mail-placed shape lane (Object.Mail from to) (Take class r) none e = absurd (cc e)
mail-placed shape lane (Object.Mail from to) (Give r) none e = absurd (cc e)
mail-placed shape lane (Object.Mail from to) (Hit r) none e = absurd (cc e)
mail-placed shape lane (Object.Mail from to) (Kept r) none e = absurd (cc e)
mail-placed shape lane (Object.Mail from to) (Shed r) none e = absurd (cc e)
mail-placed shape lane (Object.Mail from to) (Birth root r) none e = absurd (cc e)
mail-placed shape lane (Object.Mail from to) (End root) none e = absurd (cc e)
mail-placed shape lane (Object.Mail from to) _ none e = tt
mail-placed shape lane _ d none e = absurd (cc none)

-- a birth in a history, as found in it
pub born-at : (root : RootId) (r : RegionId) (ds : List Did) → WasBorn root r ds
    → (i : ℕ) × (x : RegionId) × (slice_get ds i ≡ Some (Birth root x))
born-at root r [] b = absurd b
born-at root r (d ∷ ds) (inl b) = (0, b.0, ap (λ x. Some x) b.1)
born-at root r (d ∷ ds) (inr b) = let k = born-at root r ds b in (suc k.0, k.1, k.2)

-- what no root place knows
abbrev pub MovesElse : Did → Type 0
MovesElse (Take class r) = Unit {0}
MovesElse (Give r) = Unit {0}
MovesElse (Hit r) = Unit {0}
MovesElse (Kept r) = Unit {0}
MovesElse (Shed r) = Unit {0}
MovesElse _ = ⊥

pub never-moves : (place : ℕ) (d : Did) → MovesElse d → (m n : RootPlace) (o : Option Present)
    → place_step_by place m o d ≡ Some n → ⊥
never-moves place (Take class r) u m n None e = cc e
never-moves place (Take class r) u m n (Some p) e = cc e
never-moves place (Give r) u m n None e = cc e
never-moves place (Give r) u m n (Some p) e = cc e
never-moves place (Hit r) u m n None e = cc e
never-moves place (Hit r) u m n (Some p) e = cc e
never-moves place (Kept r) u m n None e = cc e
never-moves place (Kept r) u m n (Some p) e = cc e
never-moves place (Shed r) u m n None e = cc e
never-moves place (Shed r) u m n (Some p) e = cc e
never-moves place _ u m n o e = absurd u

module _ (place : ℕ) where
  pub birth-place : (ds : List Did) (t : RootPlace) (j : ℕ) (root : RootId) (r : RegionId)
      → place_after place ds ≡ Some t → slice_get ds j ≡ Some (Birth root r) → root.place ≡ place
  birth-place ds t j root r e is =
      let s : (m : RootPlace) × (n : RootPlace) × (after (place_step place) new_place (take j ds) ≡ Some m)
      × (place_step place m (Birth root r) ≡ Some n) =
      step-at (place_step place) ds new_place t j (Birth root r) e is in
      (place_step-does place s.0 s.1 (Birth root r) s.3).here

  -- a root that ends was born at its place
  pub end-here : (ds : List Did) (t : RootPlace) (j : ℕ) (root : RootId) → place_after place ds ≡ Some t
      → slice_get ds j ≡ Some (End root) → root.place ≡ place
  end-here ds t j root e is =
      let s = step-at (place_step place) ds new_place t j (End root) e is in
      let p = end-present place s.0 s.1 root s.3 in
      let b = born-at p.0.root p.0.region (take j ds) (was-born place (take j ds) s.0 p.0 s.2 p.1) in
      let g = take-get j ds b.0 (Birth p.0.root b.1) b.2 in
      ap (λ x. x.place) (sym p.2) ∙ birth-place ds t b.0 p.0.root b.1 e g.0

  -- a root that ends was born before
  pub end-birth : (ds : List Did) (t : RootPlace) (j : ℕ) (root : RootId) → place_after place ds ≡ Some t
      → slice_get ds j ≡ Some (End root) → (i : ℕ) × (x : RegionId) × (slice_get ds i ≡ Some (Birth root x)) × (i < j)
  end-birth ds t j root e is =
      let s = step-at (place_step place) ds new_place t j (End root) e is in
      let p = end-present place s.0 s.1 root s.3 in
      let b = born-at p.0.root p.0.region (take j ds) (was-born place (take j ds) s.0 p.0 s.2 p.1) in
      let g = take-get j ds b.0 (Birth p.0.root b.1) b.2 in
      (b.0, b.1, g.0 ∙ ap (λ q. Some (Birth q b.1)) p.2, g.1)

  pub place-placed : (ds : List Did) (t : RootPlace) (j : ℕ) (d : Did) → place_after place ds ≡ Some t
      → slice_get ds j ≡ Some d → IsPlaced (Object.Root place) d
  place-placed ds t j d e is =
      let s : (m : RootPlace) × (n : RootPlace) × (after (place_step place) new_place (take j ds) ≡ Some m)
      × (place_step place m d ≡ Some n) = step-at (place_step place) ds new_place t j d e is in
      go d is s.0 s.0.present s.1 s.3
    where
      go : (d : Did) → slice_get ds j ≡ Some d → (m : RootPlace) (o : Option Present) (n : RootPlace)
          → place_step place m d ≡ Some n → IsPlaced (Object.Root place) d
      go (Birth root r) here m o n step = ap Object.Root (sym (birth-place ds t j root r e here))
      go (End root) here m o n step = ap Object.Root (sym (end-here ds t j root e here))
      go (Take class r) here m o n step = absurd (never-moves place (Take class r) tt m n m.present step)
      go (Give r) here m o n step = absurd (never-moves place (Give r) tt m n m.present step)
      go (Hit r) here m o n step = absurd (never-moves place (Hit r) tt m n m.present step)
      go (Kept r) here m o n step = absurd (never-moves place (Kept r) tt m n m.present step)
      go (Shed r) here m o n step = absurd (never-moves place (Shed r) tt m n m.present step)
      go _ here m o n step = tt

pub placed : (shape : Shape) → IsPage shape.page → (o : Object) (ds : List Did) (j : ℕ) (d : Did)
    → IsAccepted shape o ds → slice_get ds j ≡ Some d → IsPlaced o d
placed shape page (Object.Arena number) ds j d ok is =
    let s : (a : Arena) × (arena_after shape number ds ≡ Some a) = is-some (arena_after shape number ds) ok in
    arena-placed shape number page ds s.0 j d s.1 is
placed shape page (Object.Cache lane class) ds j d ok is =
    let s : (c : Cache) × (cache_after lane class ds ≡ Some c) = is-some (cache_after lane class ds) ok in
    cache-placed lane class ds s.0 j d s.1 is
placed shape page (Object.Bin lane) ds j d ok is =
    let s : (c : List ℕ) × (after (bin_step lane shape.handles) (new_bin lane shape.handles) ds ≡ Some c) =
    is-some (after (bin_step lane shape.handles) (new_bin lane shape.handles) ds) ok in
    let t : (m : List ℕ) × (n : List ℕ)
    × (after (bin_step lane shape.handles) (new_bin lane shape.handles) (take j ds) ≡ Some m)
    × (bin_step lane shape.handles m d ≡ Some n) =
    step-at (bin_step lane shape.handles) ds (new_bin lane shape.handles) s.0 j d s.1 is in
    bin-placed lane shape.handles t.0 t.1 d t.3
placed shape page (Object.Mail from to) ds j d ok is = absurd (cc ok)
placed shape page (Object.Root place) ds j d ok is =
    let s : (p : RootPlace) × (place_after place ds ≡ Some p) = is-some (place_after place ds) ok in
    place-placed place ds s.0 j d s.1 is
