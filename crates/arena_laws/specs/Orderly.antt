-- How an arena keeps its chunks in lists, and its subpages that have a free element.
use Rattle.std.specs.Prelude.{◌≡◌, ◌≤◌, ◌⊎◌, ◌↔◌, ℕ, Bool, true, false, ◌==◌, ◌&&◌, List, [], ◌∷◌, length, Option, Some, None, slice_get, unwrap_or}
use Rattle.std.specs.List.{list_any}
use Rattle.size_classes.specs.Sizes.{Geometry, chunk_pages, class_count, is_small}
use Rattle.size_classes.specs.Pages.{Run, Free, Used, total_pages}
use Rattle.size_classes.specs.Elements.{Elements, is_full, is_idle}
use Rattle.pool_law.specs.Chunks.{Chunk, Use, Whole, Sub}
use Rattle.pool_law.specs.ChunkLists.{list_of}
use Rattle.pool_law.specs.Arenas.{Arena, chunk_at, front_of, elements_at}
use Rattle.arena_laws.specs.Slots.{IsSound}

-- a subpage stands in a list, by its chunk and first page
abbrev pub has_subpage : ℕ → ℕ → List (ℕ × ℕ) → Bool
has_subpage c page subpages = list_any (λ s. (s.0 == c) && (s.1 == page)) subpages

-- no subpage stands in a list twice
abbrev pub SubpagesDiffer : List (ℕ × ℕ) → Type 0
SubpagesDiffer [] = Unit {0}
SubpagesDiffer (s ∷ subpages) = (has_subpage s.0 s.1 subpages ≡ false) × SubpagesDiffer subpages

-- a subpage of the class begins there, and has a free element
pub record HasRoom (a : Arena) (class c page : ℕ) : Type 0 where
  pub elements : Elements
  pub here : elements_at a class c page ≡ Some elements
  pub room : is_full elements ≡ false

-- the chunk of a place, if it has one
abbrev pub chunk_of : Arena → ℕ → Option Chunk
chunk_of a c = unwrap_or (slice_get a.chunks c) None

-- a chunk place has a chunk exactly where it is in a list of chunks; each subpage that has a free
-- element stands in the list of its class, once, and no other does (of a chunk of eight pages or
-- more, each small class is a class)
pub record IsOrderly (g : Geometry) (a : Arena) : Type 0 where
  pub order : 3 ≤ g.order
  pub sound : (c : ℕ) → IsSound g (chunk_at a c)
  pub whole : (c : ℕ) → (chunk_at a c ≡ []) ⊎ (total_pages (chunk_at a c) ≡ chunk_pages g)
  pub listed : (c : ℕ) → (list_of a.lists c ≡ None) ↔ (chunk_of a c ≡ None)
  pub fronts : length a.fronts ≡ class_count g
  pub in_list : (class c page : ℕ) → is_small g class ≡ true →
      (has_subpage c page (front_of a class) ≡ true) ↔ HasRoom a class c page
  pub once : (class : ℕ) → SubpagesDiffer (front_of a class)

-- a run that is free, or a subpage of which nothing is out
abbrev pub IsAtRest : Run Use → Type 0
IsAtRest (Free n) = Unit {0}
IsAtRest (Used n Whole) = ⊥
IsAtRest (Used n (Sub class e)) = is_idle e ≡ true

-- nothing of a chunk is out
abbrev pub ChunkAtRest : Chunk → Type 0
ChunkAtRest [] = Unit {0}
ChunkAtRest (r ∷ rs) = IsAtRest r × ChunkAtRest rs
