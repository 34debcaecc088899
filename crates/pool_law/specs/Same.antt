-- Whether two names are the same, as tests that compute.
use Rattle.std.specs.Prelude.{ℕ, Bool, true, false, ◌==◌, ◌&&◌, List, [], ◌∷◌, Option, Some, None}
use Rattle.pool_law.specs.declared.id.Place.{Place}
use Rattle.pool_law.specs.declared.id.RootId.{RootId}
use Rattle.pool_law.specs.declared.id.RegionId.{RegionId}
use Rattle.pool_law.specs.declared.id.ViewData.{ViewData}
use Rattle.pool_law.specs.declared.id.Parcel.{Parcel}
use Rattle.pool_law.specs.declared.note.Object.{Object}
use Rattle.pool_law.specs.declared.note.Object.TheVariants.{Arena, Cache, Bin, Mail, Root}

-- two places
abbrev pub same_place : Place → Place → Bool
same_place a b =
    (a.arena == b.arena) && ((a.chunk == b.chunk) && ((a.offset == b.offset) && (a.len == b.len)))

-- two roots
abbrev pub same_root : RootId → RootId → Bool
same_root a b =
    (a.place == b.place) && ((a.generation == b.generation) && (a.capacity == b.capacity))

-- the same taking, whatever has used it since
abbrev pub same_taking : RegionId → RegionId → Bool
same_taking a b =
    same_place a.place b.place
    && ((a.class == b.class) && ((a.taking == b.taking) && (a.owner == b.owner)))

-- the same taking with the same number of uses
abbrev pub same_region : RegionId → RegionId → Bool
same_region a b = same_taking a b && (a.uses == b.uses)

-- two views
abbrev pub same_view : ViewData → ViewData → Bool
same_view a b =
    same_root a.root b.root
    && ((a.offset == b.offset)
    && ((a.len == b.len) && ((a.reader == b.reader) && (a.writer == b.writer))))

-- two views, where there are any
abbrev pub same_views : Option ViewData → Option ViewData → Bool
same_views None None = true
same_views None (Some b) = false
same_views (Some a) None = false
same_views (Some a) (Some b) = same_view a b

-- two parcels
abbrev pub same_parcel : Parcel → Parcel → Bool
same_parcel a b = same_views a.view b.view

-- two lists of bytes
abbrev pub same_bytes : List ℕ → List ℕ → Bool
same_bytes [] [] = true
same_bytes [] (y ∷ ys) = false
same_bytes (x ∷ xs) [] = false
same_bytes (x ∷ xs) (y ∷ ys) = (x == y) && same_bytes xs ys

-- two objects
abbrev pub same_object : Object → Object → Bool
same_object (Arena a) (Arena b) = a == b
same_object (Cache lane class) (Cache lane' class') = (lane == lane') && (class == class')
same_object (Bin a) (Bin b) = a == b
same_object (Mail from to) (Mail from' to') = (from == from') && (to == to')
same_object (Root a) (Root b) = a == b
same_object _ _ = false
