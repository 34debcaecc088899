-- A taking that is out has its slot in its chunk.
use Rattle.std.proofs.Common.{◌≡◌, inl, inr, ℕ, [], ◌∷◌, sym, subst, true}
use Rattle.std.specs.Prelude.{◌&&◌, ◌==◌}
use Rattle.size_classes.specs.Sizes.{Geometry}
use Rattle.pool_law.specs.declared.id.RegionId.{RegionId}
use Rattle.pool_law.specs.Same.{same_taking, same_place}
use Rattle.pool_law.specs.Chunks.{Chunk}
use Rattle.pool_law.specs.Arenas.{Arena, chunk_at, is_out_of}
use Rattle.arena_laws.specs.Slots.{IsSlot, IsLocated, ArenaHolds}
use Rattle.pool_law.proofs.SameLemmas.{same_place-is, and-first}
use Rattle.arena_laws.proofs.GiveSteps.{IsOne}
use Rattle.arena_laws.proofs.ElementGives.{any-one, EachOf-one}
use Rattle.arena_laws.proofs.ArenaLaw.{same_taking-place}

-- a slot is one of each region of this place and class
pub slot-as : (g : Geometry) (chunk : Chunk) (r s : RegionId) → r.place ≡ s.place → r.class ≡ s.class → IsSlot g chunk r
    → IsSlot g chunk s
slot-as g chunk r s place class x = subst (IsSlot g chunk) path (go x)
  where
    go : IsSlot g chunk r → IsSlot g chunk (record s { place = r.place; class = r.class })
    go (inl y) =
        inl (record {
          page = y.page;
          pages = y.pages;
          starts = y.starts;
          ends = y.ends;
          kind = y.kind;
          begins =
              y.begins;
        })
    go (inr y) =
        inr (record {
          page = y.page;
          pages = y.pages;
          elements = y.elements;
          at = y.at;
          starts = y.starts;
          ends =
              y.ends;
          begins = y.begins;
          out = y.out;
          kind = y.kind;
        })

    path : record s { place = r.place; class = r.class } ≡ s
    path = λ i. record { place = place i; class = class i; taking = s.taking; uses = s.uses; owner = s.owner }

-- a taking has one place
pub same_taking-at : (a b : RegionId) → same_taking a b ≡ true → a.place ≡ b.place
same_taking-at a b e =
    same_place-is a.place b.place (and-first (same_place a.place b.place)
    ((a.class == b.class) && ((a.taking == b.taking) && (a.owner == b.owner))) e)

-- a taking that is out is at a slot
pub out-slot : (g : Geometry) (number : ℕ) (a : Arena) (region : RegionId) → ArenaHolds g number a
    → is_out_of a region ≡ true → IsSlot g (chunk_at a region.place.chunk) region
out-slot g number a region holds out =
    let found : (r : RegionId) × IsOne r a.out × (same_taking region r ≡ true) =
    any-one (λ other. same_taking region other) a.out out in
    let r : RegionId = found.0 in
    let same : (region.place.chunk ≡ r.place.chunk) × (region.place.offset ≡ r.place.offset)
    × (region.class ≡ r.class) = same_taking-place region r found.2 in
    let at : IsSlot g (chunk_at a r.place.chunk) r =
    (EachOf-one (IsLocated g number a) a.out r holds.located found.1).1 in
    slot-as g (chunk_at a region.place.chunk) r region (sym (same_taking-at region r found.2)) (sym same.2)
    (subst (λ c. IsSlot g (chunk_at a c) r) (sym same.0) at)
