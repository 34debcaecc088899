-- When a cache stands for a list of notes, and which note may come next.
use Rattle.std.specs.Prelude.{◌≡◌, ℕ, List, [], ◌∷◌, ◌++◌, Option, Some, IsSome, is_some, option_and_then}
use Rattle.std.specs.List.{All}
use Rattle.std.proofs.Common.{sym, ap, ◌∙◌}
use Rattle.ground.specs.Grounds.{Grounds}
use Rattle.pool_law.specs.declared.id.Region.{Region}
use Rattle.pool_law.specs.declared.note.Did.{Did}
use Rattle.pool_law.specs.declared.note.Noted.{Noted}
use Rattle.pool_law.specs.Caches.{Cache, new_cache, cache_step}
use Rattle.pool_law.specs.Histories.{after}
use Rattle.pool_law.specs.NotedHistories.{noted_dids}
use Rattle.pool_law.specs.Places.{IsInPlace}
use Rattle.pool_law.proofs.HistoryLemmas.{after-noted}
use Rattle.region_cache.specs.Queues.{Queue, cache_of}

-- the region has the memory of its place
abbrev pub IsRegionOf : Grounds → Region → Type 0
IsRegionOf grounds r = IsInPlace grounds r.id.place r.piece

-- what the notes make of a new cache of this capacity
abbrev pub cache_told : ℕ → List Noted → Option Cache
cache_told capacity notes = after (cache_step capacity) new_cache (noted_dids notes)

-- the notes make this cache of a new one, and each region has the memory of its place
pub record StandsFor (grounds : Grounds) (notes : List Noted) (q : Queue) : Type 0 where
  pub told : cache_told q.capacity notes ≡ Some (cache_of q)
  pub in_place : All (IsRegionOf grounds) q.regions

-- the note may come after these at a cache of this capacity
abbrev pub MayFollow : Queue → List Noted → Noted → Type 0
MayFollow q notes n = IsSome (cache_told q.capacity (notes ++ n ∷ []))

-- of two lists for which a cache stands, the same notes may follow
pub MayFollow-decided : (grounds : Grounds) (q : Queue) (xs ys : List Noted) →
    StandsFor grounds xs q → StandsFor grounds ys q →
    (n : Noted) → MayFollow q xs n → MayFollow q ys n
MayFollow-decided grounds q xs ys left right n may =
    let step : Cache → Did → Option Cache = cache_step q.capacity in
    let told : List Noted → Option Cache = cache_told q.capacity in
    let alike : told (xs ++ n ∷ []) ≡ told (ys ++ n ∷ []) =
    after-noted step new_cache xs n
    ∙ ap (option_and_then (λ c. step c n.did)) (left.told ∙ sym right.told)
    ∙ sym (after-noted step new_cache ys n) in
    sym (ap is_some alike) ∙ may
