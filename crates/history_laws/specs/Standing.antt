-- On which object a note may stand, by what it moves.
use Rattle.std.specs.Prelude.{◌≡◌, ℕ, ◌+◌, ◌⊎◌, ⊤}
use Rattle.pool_law.specs.declared.run.Shape.{Shape}
use Rattle.pool_law.specs.declared.id.RegionId.{RegionId}
use Rattle.pool_law.specs.declared.note.Did.{Did}
use Rattle.pool_law.specs.declared.note.Did.TheVariants.{Take}
use Rattle.pool_law.specs.declared.note.Noted.{Noted}
use Rattle.pool_law.specs.declared.note.Object.{Object}
use Rattle.pool_law.specs.declared.note.Object.TheVariants.{Arena, Cache, Bin, Mail, Root}
use Rattle.history_laws.specs.NoteCounts.{place_lane, did_handle, did_home, did_fetch, did_post, did_birth, did_end, is_taking, arena_out, arena_in, cache_out, cache_in, place_out, place_in}

-- a place is taken and comes home only at the bin of its lane
abbrev pub IsPlaced : Shape → Object → Did → Type 0
IsPlaced s o d = (p : ℕ) → (did_handle p d + did_home p d ≡ 0) ⊎ (o ≡ Bin (place_lane s p))

-- a view is posted and fetched only at a mail
abbrev pub IsMailed : Object → Did → Type 0
IsMailed o d =
    (p g : ℕ) → (did_fetch p g d + did_post p g d ≡ 0) ⊎ ((f : ℕ) × (t : ℕ) × (o ≡ Mail f t))

-- a root is born and ends only at its place
abbrev pub IsRooted : Object → Did → Type 0
IsRooted o d = (p : ℕ) → ((did_birth p d ≡ 0) × ((g : ℕ) → did_end p g d ≡ 0)) ⊎ (o ≡ Root p)

-- the taking of q leaves and enters its own arena, caches and root places only by the notes of
-- these
pub record IsRegioned (o : Object) (n : Noted) (q : RegionId) : Type 0 where
  pub arena :
      (arena_out (is_taking q) n.did + arena_in (is_taking q) n.did ≡ 0) ⊎ (o ≡ Arena q.place.arena)
  pub cache :
      (cache_out (is_taking q) n.did + cache_in (is_taking q) n.did ≡ 0)
      ⊎ ((l : ℕ) × (c : ℕ) × (o ≡ Cache l c))
  pub place :
      (place_out (is_taking q) n + place_in (is_taking q) n.did ≡ 0) ⊎ ((p : ℕ) × (o ≡ Root p))

-- a taking is of the class that the note asks for
abbrev pub IsOfClass : Did → Type 0
IsOfClass (Take c r) = r.class ≡ c
IsOfClass d = ⊤

-- a note stands on an object on which it may
pub record IsInPlace (s : Shape) (o : Object) (n : Noted) : Type 0 where
  pub placed : IsPlaced s o n.did
  pub mailed : IsMailed o n.did
  pub rooted : IsRooted o n.did
  pub regioned : (q : RegionId) → IsRegioned o n q
  pub of_class : IsOfClass n.did
