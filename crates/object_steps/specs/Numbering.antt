-- The takings of an arena in order, each while it is out.
use Rattle.std.specs.Prelude.{◌≡◌, ℕ, suc, ◌<◌, not, filter, true, false, List, [], ◌∷◌, length, slice_get, slice_set, Option, Some, None, unwrap_or}
use Rattle.std.specs.List.{list_any, filter_map}
use Rattle.pool_law.specs.declared.id.RegionId.{RegionId}
use Rattle.pool_law.specs.Same.{same_taking}

-- those that are out
abbrev pub out_in : List (Option RegionId) → List RegionId
out_in slots = filter_map (λ slot. slot) slots

-- what is out at a place
abbrev pub slot_at : List (Option RegionId) → ℕ → Option RegionId
slot_at slots place = unwrap_or (slice_get slots place) None

-- each that is out has the number of its place, which are numbered from this on
abbrev pub AreNumbered : ℕ → List (Option RegionId) → Type 0
AreNumbered number [] = Unit {0}
AreNumbered number (None ∷ rest) = AreNumbered (suc number) rest
AreNumbered number (Some region ∷ rest) = (region.taking ≡ number) × AreNumbered (suc number) rest

-- the place at which a taking is out, if it is
abbrev pub IsPlaceOf : RegionId → List (Option RegionId) → Option ℕ → Type 0
IsPlaceOf region slots None = list_any (λ other. same_taking region other) (out_in slots) ≡ false
IsPlaceOf region slots (Some place) =
    (list_any (λ other. same_taking region other) (out_in slots) ≡ true)
    × (place < length slots)
    × (out_in (slice_set slots place None)
    ≡ filter (λ other. not (same_taking region other)) (out_in slots))
