-- Which notes move a taking, and of which class they are.
use Rattle.std.proofs.Common.{◌≡◌, ◌⊎◌, ℕ, ◌+◌, List, [], ◌∷◌, ◌++◌, sym, refl, ap, ◌∙◌, inl, inr, ⊎_elim, arith}
use Rattle.std.specs.Prelude.{Option}
use mathlib.Core.Logic.{dite}
use native.Mathlib.Decide.{ℕ_discrete}
use Rattle.pool_law.specs.declared.run.Shape.{Shape}
use Rattle.pool_law.specs.declared.id.RegionId.{RegionId}
use Rattle.pool_law.specs.declared.note.Did.{Did}
use Rattle.pool_law.specs.declared.note.Did.TheVariants.{Take, Full, Give, Hit, Miss, Kept, Back, Trim, Close, Shed, Handle, NoHandle, Home, Birth, Set, Get, Touch, Room, Extend, Grow, End}
use Rattle.pool_law.specs.declared.note.Object.{Object}
use Rattle.pool_law.specs.declared.note.Object.TheVariants.{Arena, Cache, Bin, Mail, Root}
use Rattle.pool_law.specs.declared.note.Noted.{Noted}
use Rattle.pool_law.specs.Arenas.{Arena as ArenaState}
use Rattle.pool_law.specs.Caches.{Cache as CacheState}
use Rattle.pool_law.specs.Roots.{RootPlace}
use Rattle.history_laws.specs.NoteCounts.{is_taking, arena_out, arena_in, cache_out, cache_in, place_out, place_in}
use Rattle.history_laws.specs.Histories.{IsLawful}
use Rattle.history_laws.specs.Standing.{IsRegioned, IsOfClass}
use Rattle.history_laws.proofs.BinSteps.{IsBinStep}
use Rattle.history_laws.proofs.ArenaSteps.{IsArenaStep}
use Rattle.history_laws.proofs.CacheSteps.{IsCacheStep}
use Rattle.history_laws.proofs.PlaceSteps.{IsPlaceStep}
use Rattle.history_laws.proofs.Told.{no_mail, last_bin, last_arena, last_cache, last_place}
use Rattle.history_laws.proofs.ArenaTakings.{other_arena}

-- the note with what was done written out
abbrev with_did : Noted → Did → Noted
with_did n d = record { did = d; lane = n.lane; watch = n.watch; root = n.root; region = n.region }

-- nothing moves
nothing : (o : Object) (n : Noted) (q : RegionId) → arena_out (is_taking q) n.did + arena_in (is_taking q) n.did ≡ 0
    → cache_out (is_taking q) n.did + cache_in (is_taking q) n.did ≡ 0
    → place_out (is_taking q) n + place_in (is_taking q) n.did ≡ 0 → IsRegioned o n q
nothing o n q x y z = record { arena = inl x; cache = inl y; place = inl z }

own_arena : (a : ℕ) (g r : RegionId) → r.place.arena ≡ a → (is_taking g r ≡ 0) ⊎ (Arena a ≡ Arena g.place.arena)
own_arena a g r e =
    dite (ℕ_discrete r.place.arena g.place.arena) (λ f. inr (ap Arena (sym e ∙ f))) (λ ne. inl (other_arena g r ne))

arena_regioned : (a : ℕ) (x : ArenaState) (e : Noted) (d : Did) (y : ArenaState) → IsArenaStep a x d y → (g : RegionId)
    → IsRegioned (Arena a) (with_did e d) g
arena_regioned a x e (Take c r) y s g =
    record {
      arena = ⊎_elim (λ z. inl (omega (arith, z))) (λ f. inr f) (own_arena a g r s.0.arena);
      cache =
          inl refl;
      place = inl refl;
    }
arena_regioned a x e (Full c) y s g = nothing (Arena a) (with_did e (Full c)) g refl refl refl
arena_regioned a x e (Give r) y s g =
    record {
      arena = ⊎_elim (λ z. inl (omega (arith, z))) (λ f. inr f) (own_arena a g r s.0);
      cache = inl refl;
      place =
          inl refl;
    }
arena_regioned a x e d y s g = absurd s

cache_regioned : (l c : ℕ) (x : CacheState) (e : Noted) (d : Did) (y : CacheState) → IsCacheStep l c x d y
    → (g : RegionId) → IsRegioned (Cache l c) (with_did e d) g
cache_regioned l c x e (Hit r) y s g = record { arena = inl refl; cache = inr (l, c, refl); place = inl refl }
cache_regioned l c x e (Shed r) y s g = record { arena = inl refl; cache = inr (l, c, refl); place = inl refl }
cache_regioned l c x e (Kept r) y s g = record { arena = inl refl; cache = inr (l, c, refl); place = inl refl }
cache_regioned l c x e Miss y s g = nothing (Cache l c) (with_did e Miss) g refl refl refl
cache_regioned l c x e (Back r why) y s g = nothing (Cache l c) (with_did e (Back r why)) g refl refl refl
cache_regioned l c x e (Trim k) y s g = nothing (Cache l c) (with_did e (Trim k)) g refl refl refl
cache_regioned l c x e (Close k) y s g = nothing (Cache l c) (with_did e (Close k)) g refl refl refl
cache_regioned l c x e d y s g = absurd s

bin_regioned : (s : Shape) (l : ℕ) (q : List ℕ) (e : Noted) (d : Did) (m : List ℕ) → IsBinStep s l q d m
    → (g : RegionId) → IsRegioned (Bin l) (with_did e d) g
bin_regioned s l q e (Handle x) m r g = nothing (Bin l) (with_did e (Handle x)) g refl refl refl
bin_regioned s l q e NoHandle m r g = nothing (Bin l) (with_did e NoHandle) g refl refl refl
bin_regioned s l q e (Home x) m r g = nothing (Bin l) (with_did e (Home x)) g refl refl refl
bin_regioned s l q e d m r g = absurd r

root_regioned : (p : ℕ) (x : RootPlace) (e : Noted) (d : Did) (region : Option RegionId) (y : RootPlace)
    → IsPlaceStep p x d region y → (g : RegionId) → IsRegioned (Root p) (with_did e d) g
root_regioned p x e (Birth r z) region y s g = record { arena = inl refl; cache = inl refl; place = inr (p, refl) }
root_regioned p x e (End r) region y s g = record { arena = inl refl; cache = inl refl; place = inr (p, refl) }
root_regioned p x e (Grow c z) region y s g = record { arena = inl refl; cache = inl refl; place = inr (p, refl) }
root_regioned p x e (Set i bs) region y s g = nothing (Root p) (with_did e (Set i bs)) g refl refl refl
root_regioned p x e (Get i bs) region y s g = nothing (Root p) (with_did e (Get i bs)) g refl refl refl
root_regioned p x e Touch region y s g = nothing (Root p) (with_did e Touch) g refl refl refl
root_regioned p x e (Room asked c) region y s g = nothing (Root p) (with_did e (Room asked c)) g refl refl refl
root_regioned p x e (Extend c) region y s g = nothing (Root p) (with_did e (Extend c)) g refl refl refl
root_regioned p x e d region y s g = absurd s

-- a taking leaves and enters its arena, caches and root places only by the notes of these
pub regioned : (s : Shape) (o : Object) (h : List Noted) (n : Noted) → IsLawful s o (h ++ n ∷ []) → (q : RegionId)
    → IsRegioned o n q
regioned s (Arena a) h n t = let k = last_arena s a h n t in arena_regioned a k.0 n n.did k.1 k.3
regioned s (Cache l c) h n t = let k = last_cache s l c h n t in cache_regioned l c k.0 n n.did k.1 k.2
regioned s (Bin l) h n t = let k = last_bin s l h n t in bin_regioned s l k.0 n n.did k.1 k.2
regioned s (Mail f u) h n t = absurd (no_mail s f u h n t)
regioned s (Root p) h n t = let k = last_place s p h n t in root_regioned p k.0 n n.did n.region k.1 k.3

-- a taking is of the class that its note asks for
arena_class : (a : ℕ) (x : ArenaState) (d : Did) (y : ArenaState) → IsArenaStep a x d y → IsOfClass d
arena_class a x (Take c r) y s = s.0.class_is
arena_class a x (Full c) y s = tt
arena_class a x (Give r) y s = tt
arena_class a x d y s = absurd s

cache_class : (l c : ℕ) (x : CacheState) (d : Did) (y : CacheState) → IsCacheStep l c x d y → IsOfClass d
cache_class l c x (Take k r) y s = absurd s
cache_class l c x d y s = tt

bin_class : (s : Shape) (l : ℕ) (q : List ℕ) (d : Did) (m : List ℕ) → IsBinStep s l q d m → IsOfClass d
bin_class s l q (Take k r) m t = absurd t
bin_class s l q d m t = tt

place_class : (p : ℕ) (x : RootPlace) (d : Did) (region : Option RegionId) (y : RootPlace) → IsPlaceStep p x d region y
    → IsOfClass d
place_class p x (Take k r) region y s = absurd s
place_class p x d region y s = tt

pub of_class : (s : Shape) (o : Object) (h : List Noted) (n : Noted) → IsLawful s o (h ++ n ∷ []) → IsOfClass n.did
of_class s (Arena a) h n t = let k = last_arena s a h n t in arena_class a k.0 n.did k.1 k.3
of_class s (Cache l c) h n t = let k = last_cache s l c h n t in cache_class l c k.0 n.did k.1 k.2
of_class s (Bin l) h n t = let k = last_bin s l h n t in bin_class s l k.0 n.did k.1 k.2
of_class s (Mail f u) h n t = absurd (no_mail s f u h n t)
of_class s (Root p) h n t = let k = last_place s p h n t in place_class p k.0 n.did n.region k.1 k.3
