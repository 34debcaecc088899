-- Regions that are the same, and a region with one more use.
use Rattle.std.proofs.Common.{◌≡◌, Bool, true, false, refl}
use Rattle.std.specs.Prelude.{◌&&◌, ◌==◌}
use Rattle.std.proofs.lemmas.Cmp.{nat_eq_equiv}
use Rattle.pool_law.specs.declared.id.RegionId.{RegionId}
use Rattle.pool_law.specs.Same.{same_place, same_region}
use Rattle.pool_law.specs.Patterns.{one_more}
use Rattle.pool_law.proofs.SameLemmas.{same_region-is}

pub one_more_is : (with region : RegionId) → same_region with (one_more region) ≡ true → with ≡ one_more region
one_more_is with region e = same_region-is with (one_more region) e

-- the fields of two regions are compared in any order
in_order : (place class owner taking uses : Bool) →
    (place && (class && (owner && (taking && uses)))) ≡ ((place && (class && (taking && owner))) && uses)
in_order false class owner taking uses = refl
in_order true false owner taking uses = refl
in_order true true false false uses = refl
in_order true true false true uses = refl
in_order true true true false uses = refl
in_order true true true true uses = refl

pub region_tests : (a b : RegionId) →
    (same_place a.place b.place
    && ((a.class == b.class) && ((a.owner == b.owner) && ((a.taking == b.taking) && (a.uses == b.uses)))))
    ≡ same_region a b
region_tests a b =
    in_order (same_place a.place b.place) (a.class == b.class) (a.owner == b.owner)
    (a.taking == b.taking) (a.uses == b.uses)

-- two regions are the same, whichever is named first
pub same_region_swapped : (a b : RegionId) → same_region a b ≡ same_region b a
same_region_swapped a b i =
    ((nat_eq_equiv.symm a.place.arena b.place.arena i
    && (nat_eq_equiv.symm a.place.chunk b.place.chunk i
    && (nat_eq_equiv.symm a.place.offset b.place.offset i && nat_eq_equiv.symm a.place.len b.place.len i)))
    && (nat_eq_equiv.symm a.class b.class i
    && (nat_eq_equiv.symm a.taking b.taking i && nat_eq_equiv.symm a.owner b.owner i)))
    && nat_eq_equiv.symm a.uses b.uses i
