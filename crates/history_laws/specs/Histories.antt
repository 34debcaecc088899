-- Histories of an object as a table keeps them, and what an object is after one.
use Rattle.std.specs.Prelude.{◌≡◌, ℕ, List, [], ◌∷◌, ◌++◌, Option, Some, option_map}
use Rattle.pool_law.specs.declared.run.Shape.{Shape}
use Rattle.pool_law.specs.declared.id.RootId.{RootId}
use Rattle.pool_law.specs.declared.note.Noted.{Noted}
use Rattle.pool_law.specs.declared.note.Object.{Object}
use Rattle.pool_law.specs.Arenas.{Arena}
use Rattle.pool_law.specs.Caches.{Cache}
use Rattle.pool_law.specs.Roots.{RootPlace}
use Rattle.pool_law.specs.Histories.{IsAccepted, arena_after, cache_after, bin_after, place_after}
use Rattle.pool_law.specs.NotedHistories.{noted_dids, IsRightAt}
use Rattle.pool_law.specs.Logs.{present_in}

-- each of these notes knows the root and the region that the notes before it give
abbrev pub AreRight : Object → List Noted → List Noted → Type 0
AreRight o before [] = Unit {0}
AreRight o before (n ∷ ns) = IsRightAt o before n × AreRight o (before ++ n ∷ []) ns

-- the notes are a history of the object, oldest first
pub record IsLawful (s : Shape) (o : Object) (h : List Noted) : Type 0 where
  pub accepted : IsAccepted s o (noted_dids h)
  pub right : AreRight o [] h

-- what an object is after a history
abbrev pub IsArenaAfter : Shape → ℕ → List Noted → Arena → Type 0
IsArenaAfter s a h x = arena_after s a (noted_dids h) ≡ Some x

abbrev pub IsCacheAfter : ℕ → ℕ → List Noted → Cache → Type 0
IsCacheAfter lane class h x = cache_after lane class (noted_dids h) ≡ Some x

abbrev pub IsBinAfter : Shape → ℕ → List Noted → List ℕ → Type 0
IsBinAfter s lane h places = bin_after s lane (noted_dids h) ≡ Some places

abbrev pub IsPlaceAfter : ℕ → List Noted → RootPlace → Type 0
IsPlaceAfter p h x = place_after p (noted_dids h) ≡ Some x

-- the root that is present after a history of a place
abbrev pub root_after : ℕ → List Noted → Option RootId
root_after p h = option_map (λ x. x.root) (present_in (place_after p (noted_dids h)))
