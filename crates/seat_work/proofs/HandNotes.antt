-- What each kind of entry does to what a seat has in hand.
use Rattle.std.proofs.Common.{◌≡◌, ℕ, ◌+◌, ◌-◌, List, [], ◌∷◌, Bool, true, false, cond, refl, sym, ap, ◌∙◌, arith}
use Rattle.std.specs.Prelude.{Option, Some, None, ◌==◌, ◌&&◌, if◌then◌else◌, nat_lt}
use Rattle.std.proofs.lemmas.Bool.Decides.{nat_tests}
use Rattle.pool_law.specs.declared.id.RootId.{RootId}
use Rattle.pool_law.specs.declared.id.RegionId.{RegionId}
use Rattle.pool_law.specs.declared.note.CacheNo.{CacheNo}
use Rattle.pool_law.specs.declared.note.Did.{Did}
use Rattle.pool_law.specs.declared.note.Held.{Held}
use Rattle.pool_law.specs.declared.note.Object.{Object}
use Rattle.pool_law.specs.declared.note.Object.TheVariants.{Arena, Cache, Bin, Mail, Root}
use Rattle.pool_law.specs.declared.id.Parcel.{Parcel}
use Rattle.pool_law.specs.declared.note.RefDid.{RefDid}
use Rattle.pool_law.specs.declared.note.RefDid.TheVariants.{Born, Ended, Vacated}
use Rattle.pool_law.specs.declared.report.Watch.{Watch}
use Rattle.pool_law.specs.Naming.{noted_by}
use Rattle.pool_law.specs.Same.{same_object, same_root, same_taking}
use Rattle.pool_law.proofs.PatternLemmas.{same_number}
use Rattle.pool_table.specs.declared.views.Entry.{Entry}
use Rattle.pool_table.specs.declared.views.Entry.TheVariants.{At, Ref, Busy}
use Rattle.pool_table.specs.declared.views.SeatView.{SeatView}
use Rattle.pool_table.specs.Counts.{ref_born, ref_ended, ref_vacated}
use Rattle.shared_pool.specs.Notes.{plain}
use Rattle.shared_pool.specs.Regrowing.{growth}
use Rattle.shared_pool.specs.RootNotes.{access, birth, end_of}
use Rattle.seat_work.specs.Hands.{Hand, IsHeld, empty_hand}
use Rattle.seat_work.proofs.HandLaws.{Carries, quota_of}

pub same_quota : (b : Bool) (n : ℕ) → (if b then n else n) ≡ n
same_quota true n = refl
same_quota false n = refl

not_closed : (b c : Bool) → (if (if b && false then true else false) then true else c) ≡ c
not_closed true c = refl
not_closed false c = refl

nothing : (b : Bool) → cond {A = ℕ} b 0 0 ≡ 0
nothing true = refl
nothing false = refl

with_use : (b : Bool) (n : ℕ) → cond {A = ℕ} b (n + 1) 0 ≡ cond {A = ℕ} b n 0 + cond {A = ℕ} b 1 0
with_use true n = omega arith
with_use false n = omega arith

same_place : (p q r : ℕ) → q ≡ r → cond {A = ℕ} (q == p) 1 0 ≡ cond {A = ℕ} (r == p) 1 0
same_place p q r is = ap (λ (x : ℕ). cond {A = ℕ} (x == p) 1 0) is

module _ (lane k : ℕ) (number : Option ℕ) (h : Hand) where
  abbrev note : Object → Did → List Entry
  note o did = At o k (noted_by number (plain did)) ∷ []

  -- a handle comes, and goes home
  pub handle_comes : (b p : ℕ) → Carries lane (record h { place = None }) (record h { place = Some p })
      (note (Bin b) (Did.Handle p))
  handle_comes b p = record {
    places = λ q. omega arith;
    births = λ q. refl;
    regions = λ q. omega arith;
    uses = λ q. omega arith;
    tokens = λ q. omega arith;
    ended = λ q. refl;
    quotas = λ class. refl;
    closes = λ class. refl;
  }

  pub handle_goes : (b p : ℕ) → Carries lane (record h { place = Some p }) (record h { place = None })
      (note (Bin b) (Did.Home p))
  handle_goes b p = record {
    places = λ q. omega arith;
    births = λ q. refl;
    regions = λ q. omega arith;
    uses = λ q. omega arith;
    tokens = λ q. omega arith;
    ended = λ q. refl;
    quotas = λ class. refl;
    closes = λ class. refl;
  }

  pub no_handle : (b : ℕ) → Carries lane h h (note (Bin b) Did.NoHandle)
  no_handle b = record {
    places = λ q. omega arith;
    births = λ q. refl;
    regions = λ q. omega arith;
    uses = λ q. omega arith;
    tokens = λ q. omega arith;
    ended = λ q. refl;
    quotas = λ class. refl;
    closes = λ class. refl;
  }

  -- a region comes from an arena, or doesn't, and goes there
  pub region_taken : (a class : ℕ) (r : RegionId) → Carries lane (record h { region = None })
      (record h { region = Some r }) (note (Arena a) (Did.Take class r))
  region_taken a class r = record {
    places = λ q. omega arith;
    births = λ q. refl;
    regions = λ q. omega arith;
    uses = λ q. omega arith;
    tokens = λ q. omega arith;
    ended = λ q. refl;
    quotas = λ class. refl;
    closes = λ class. refl;
  }

  pub arena_full : (a class : ℕ) → Carries lane h h (note (Arena a) (Did.Full class))
  arena_full a class = record {
    places = λ q. omega arith;
    births = λ q. refl;
    regions = λ q. omega arith;
    uses = λ q. omega arith;
    tokens = λ q. omega arith;
    ended = λ q. refl;
    quotas = λ class. refl;
    closes = λ class. refl;
  }

  pub region_given : (a : ℕ) (r : RegionId) → Carries lane (record h { region = Some r }) (record h { region = None })
      (note (Arena a) (Did.Give r))
  region_given a r = record {
    places = λ q. omega arith;
    births = λ q. refl;
    regions = λ q. omega arith;
    uses = λ q. omega arith;
    tokens = λ q. omega arith;
    ended = λ q. refl;
    quotas = λ class. refl;
    closes = λ class. refl;
  }

  -- a region comes from a cache, or doesn't, and goes there, or doesn't
  pub region_hit : (m c : ℕ) (r : RegionId) → Carries lane (record h { region = None }) (record h { region = Some r })
      (note (Cache m c) (Did.Hit r))
  region_hit m c r = record {
    places = λ q. omega arith;
    births = λ q. refl;
    regions = λ q. omega arith;
    uses = λ q. omega arith;
    tokens = λ q. omega arith;
    ended = λ q. refl;
    quotas = λ class. same_quota (same_object (Cache m c) (Cache lane class)) (quota_of h class);
    closes = λ class. not_closed (same_object (Cache m c) (Cache lane class)) (nat_lt class h.closed);
  }

  pub cache_missed : (m c : ℕ) → Carries lane h h (note (Cache m c) Did.Miss)
  cache_missed m c = record {
    places = λ q. omega arith;
    births = λ q. refl;
    regions = λ q. omega arith;
    uses = λ q. omega arith;
    tokens = λ q. omega arith;
    ended = λ q. refl;
    quotas = λ class. same_quota (same_object (Cache m c) (Cache lane class)) (quota_of h class);
    closes = λ class. not_closed (same_object (Cache m c) (Cache lane class)) (nat_lt class h.closed);
  }

  pub region_kept : (m c : ℕ) (r : RegionId) → Carries lane (record h { region = Some r }) (record h { region = None })
      (note (Cache m c) (Did.Kept r))
  region_kept m c r = record {
    places = λ q. omega arith;
    births = λ q. refl;
    regions = λ q. omega arith;
    uses = λ q. omega arith;
    tokens = λ q. omega arith;
    ended = λ q. refl;
    quotas = λ class. same_quota (same_object (Cache m c) (Cache lane class)) (quota_of h class);
    closes = λ class. not_closed (same_object (Cache m c) (Cache lane class)) (nat_lt class h.closed);
  }

  pub region_back : (m c : ℕ) (r : RegionId) (why : CacheNo) → Carries lane h h (note (Cache m c) (Did.Back r why))
  region_back m c r why = record {
    places = λ q. omega arith;
    births = λ q. refl;
    regions = λ q. omega arith;
    uses = λ q. omega arith;
    tokens = λ q. omega arith;
    ended = λ q. refl;
    quotas = λ class. same_quota (same_object (Cache m c) (Cache lane class)) (quota_of h class);
    closes = λ class. not_closed (same_object (Cache m c) (Cache lane class)) (nat_lt class h.closed);
  }

  -- a mark changes nothing
  pub marked_busy : (held : Held) → Carries lane h h (Busy held ∷ [])
  marked_busy held = record {
    places = λ q. omega arith;
    births = λ q. refl;
    regions = λ q. omega arith;
    uses = λ q. omega arith;
    tokens = λ q. omega arith;
    ended = λ q. refl;
    quotas = λ class. refl;
    closes = λ class. refl;
  }

  -- a root is born of the handle and the region
  pub both_born : (root : RootId) (r : RegionId) (watch : Option Watch) (p : ℕ) → root.place ≡ p →
      Carries lane (record h { place = Some p; region = Some r }) (record h { place = None; region = None })
      (At (Root root.place) k (noted_by number (birth root r watch)) ∷ Ref root Born ∷ [])
  both_born root r watch p is = record {
    places = λ q. (let a = same_place q root.place p is in let b = nothing (root.place == q) in omega (arith, a, b));
    births = λ q. omega arith;
    regions = λ q. omega arith;
    uses = λ q. (let a = with_use (same_taking q r) r.uses in omega (arith, a));
    tokens = λ q. omega arith;
    ended = λ q. (let a = nothing (same_root root q) in omega (arith, a));
    quotas = λ class. refl;
    closes = λ class. refl;
  }

  -- a root is asked for capacity, or has more in its region
  abbrev root_note : RootId → Did → List Entry
  root_note root did = At (Root root.place) k (noted_by number (access root did)) ∷ []

  pub root_asked : (root : RootId) (asked capacity : ℕ) → Carries lane h h (root_note root (Did.Room asked capacity))
  root_asked root asked capacity = record {
    places = λ q. omega arith;
    births = λ q. refl;
    regions = λ q. omega arith;
    uses = λ q. omega arith;
    tokens = λ q. omega arith;
    ended = λ q. refl;
    quotas = λ class. refl;
    closes = λ class. refl;
  }

  pub root_extended : (root : RootId) (size : ℕ) → Carries lane h h (root_note root (Did.Extend size))
  root_extended root size = record {
    places = λ q. omega arith;
    births = λ q. refl;
    regions = λ q. omega arith;
    uses = λ q. omega arith;
    tokens = λ q. omega arith;
    ended = λ q. refl;
    quotas = λ class. refl;
    closes = λ class. refl;
  }

  -- a root goes on in the region, and the one that it leaves comes
  pub root_moved : (root : RootId) (size : ℕ) (into left : RegionId) →
      Carries lane (record h { region = Some into }) (record h { region = Some left })
      (At (Root root.place) k (noted_by number (growth root size into left)) ∷ [])
  root_moved root size into left = record {
    places = λ q. omega arith;
    births = λ q. refl;
    regions = λ q. omega arith;
    uses = λ q. (let a = with_use (same_taking q into) into.uses in omega (arith, a));
    tokens = λ q. omega arith;
    ended = λ q. refl;
    quotas = λ class. refl;
    closes = λ class. refl;
  }

  -- a root ends, and its region and the handle of its place come
  pub both_come : (root : RootId) (r : RegionId) (p : ℕ) → p ≡ root.place →
      Carries lane (record h { place = None; region = None; token = Some root })
      (record h { place = Some p; region = Some r; token = None })
      (At (Root root.place) k (noted_by number (end_of root r)) ∷ Ref root Vacated ∷ [])
  both_come root r p is = record {
    places = λ q. (let a = same_place q p root.place is in let b = nothing (root.place == q) in omega (arith, a, b));
    births = λ q. (let a = nothing (root.place == q) in omega (arith, a));
    regions = λ q. omega arith;
    uses = λ q. omega arith;
    tokens = λ q. (let a = nothing (same_root root q) in omega (arith, a));
    ended = λ q. omega arith;
    quotas = λ class. refl;
    closes = λ class. refl;
  }

  -- the next cache of the lane is asked, and so many regions of it are to be shed
  asked_quota : (class quota c : ℕ)
      → (if (lane == lane) && (class == c) then quota else (if c + 1 == class then 0 else 0))
      ≡ (if c + 1 == class + 1 then quota else 0)
  asked_quota class quota c =
      ap (λ (b : Bool). if b && (class == c) then quota else (if c + 1 == class then 0 else 0)) (same_number lane)
      ∙ grind (arith, nat_tests)

  pub cache_closed : (class quota : ℕ) → Carries lane (record h { closed = class; drained = class; quota = 0 })
      (record h { closed = class + 1; drained = class + 1; quota = quota }) (note (Cache lane class) (Did.Close quota))
  cache_closed class quota = record {
    places = λ q. omega arith;
    births = λ q. refl;
    regions = λ q. omega arith;
    uses = λ q. omega arith;
    tokens = λ q. omega arith;
    ended = λ q. refl;
    quotas = asked_quota class quota;
    closes = closes;
  }
    where
      closes : (c : ℕ) → (if (if ((lane == lane) && (class == c)) && true then true else false) then true else nat_lt c
          class) ≡ nat_lt c (class + 1)
      closes c =
          ap (λ (b : Bool). if (if (b && (class == c)) && true then true else false) then true else nat_lt c class)
          (same_number lane) ∙ grind (arith, nat_tests)

  pub cache_trimmed : (class quota : ℕ) → Carries lane (record h { drained = class; quota = 0 })
      (record h { drained = class + 1; quota = quota }) (note (Cache lane class) (Did.Trim quota))
  cache_trimmed class quota = record {
    places = λ q. omega arith;
    births = λ q. refl;
    regions = λ q. omega arith;
    uses = λ q. omega arith;
    tokens = λ q. omega arith;
    ended = λ q. refl;
    quotas = asked_quota class quota;
    closes = λ c. not_closed (same_object (Cache lane class) (Cache lane c)) (nat_lt c h.closed);
  }

  -- a region of its quota comes
  pub region_shed : (class left : ℕ) (r : RegionId) →
      Carries lane (record h { region = None; drained = class + 1; quota = left })
      (record h { region = Some r; drained = class + 1; quota = left - 1 }) (note (Cache lane class) (Did.Shed r))
  region_shed class left r = record {
    places = λ q. omega arith;
    births = λ q. refl;
    regions = λ q. omega arith;
    uses = λ q. omega arith;
    tokens = λ q. omega arith;
    ended = λ q. refl;
    quotas = quotas;
    closes = λ c. not_closed (same_object (Cache lane class) (Cache lane c)) (nat_lt c h.closed);
  }
    where
      quotas : (c : ℕ) → (if (lane == lane) && (class == c) then (if c + 1 == class + 1 then left else 0) - 1 else
          (if c + 1 == class + 1 then left else 0)) ≡ (if c + 1 == class + 1 then left - 1 else 0)
      quotas c =
          ap (λ (b : Bool). if b && (class == c) then (if c + 1 == class + 1 then left else 0) - 1 else
          (if c + 1 == class + 1 then left else 0)) (same_number lane) ∙ grind (arith, nat_tests)

-- once nothing more is to be shed, it is of no account how many caches were asked
pub drained_held : (hand : Hand) (v : SeatView) → hand.quota ≡ 0 → IsHeld hand v
    → IsHeld (record hand { drained = 0; quota = 0 }) v
drained_held hand v none held = record {
  places = held.places;
  births = held.births;
  regions = held.regions;
  uses = held.uses;
  tokens = held.tokens;
  ended = held.ended;
  quotas =
      λ class. held.quotas class ∙ ap (λ (n : ℕ). if class + 1 == hand.drained then n else 0) none
      ∙ same_quota (class + 1 == hand.drained) 0 ∙ sym (same_quota (class + 1 == 0) 0);
  closes = held.closes;
}

-- ---- Steps on counts, and parcels.

pub weightless : (b : Bool) (n : ℕ) → n ≡ 0 → cond {A = ℕ} b n 0 ≡ 0
weightless true n e = e
weightless false n e = refl

pub ref_carries : (lane : ℕ) (h : Hand) (r : RootId) (did : RefDid) → ref_born did ≡ 0 → ref_ended did ≡ 0
    → ref_vacated did ≡ 0 → Carries lane h h (Ref r did ∷ [])
ref_carries lane h r did born ended vacated = record {
  places =
      λ q. (let a = weightless (r.place == q) (ref_born did) born in let b =
      weightless (r.place == q) (ref_vacated did) vacated in omega (arith, a, b));
  births = λ q. (let a = weightless (r.place == q) (ref_born did) born in omega (arith, a));
  regions = λ q. omega arith;
  uses = λ q. omega arith;
  tokens =
      λ q. (let a = weightless (same_root r q) (ref_ended did) ended in let b =
      weightless (same_root r q) (ref_vacated did) vacated in omega (arith, a, b));
  ended = λ q. (let b = weightless (same_root r q) (ref_vacated did) vacated in omega (arith, b));
  quotas = λ class. refl;
  closes = λ class. refl;
}

-- the release that found the last count leaves the token
pub ended_carries : (lane : ℕ) (r : RootId) → Carries lane empty_hand (record empty_hand { token = Some r })
    (Ref r Ended ∷ [])
ended_carries lane r = record {
  places = λ q. (let a = weightless (r.place == q) 0 refl in omega (arith, a));
  births = λ q. (let a = weightless (r.place == q) 0 refl in omega (arith, a));
  regions = λ q. omega arith;
  uses = λ q. omega arith;
  tokens = λ q. (let a = weightless (same_root r q) 0 refl in omega (arith, a));
  ended = λ q. (let a = weightless (same_root r q) 0 refl in omega (arith, a));
  quotas = λ class. refl;
  closes = λ class. refl;
}

-- a parcel goes, or comes
module _ (from to number : ℕ) (lane : Option ℕ) where
  abbrev pub post_entry : Parcel → Entry
  post_entry parcel = At (Mail from to) number (noted_by lane (plain (Did.Post parcel)))

  abbrev pub fetch_entry : Parcel → Entry
  fetch_entry parcel = At (Mail from to) number (noted_by lane (plain (Did.Fetch parcel)))

  pub post_carries : (parcel : Parcel) (m : ℕ) → Carries m empty_hand empty_hand (post_entry parcel ∷ [])
  post_carries parcel m = record {
    places = λ q. omega arith;
    births = λ q. refl;
    regions = λ q. omega arith;
    uses = λ q. omega arith;
    tokens = λ q. omega arith;
    ended = λ q. refl;
    quotas = λ class. refl;
    closes = λ class. refl;
  }

  pub fetch_carries : (parcel : Parcel) (m : ℕ) → Carries m empty_hand empty_hand (fetch_entry parcel ∷ [])
  fetch_carries parcel m = record {
    places = λ q. omega arith;
    births = λ q. refl;
    regions = λ q. omega arith;
    uses = λ q. omega arith;
    tokens = λ q. omega arith;
    ended = λ q. refl;
    quotas = λ class. refl;
    closes = λ class. refl;
  }
