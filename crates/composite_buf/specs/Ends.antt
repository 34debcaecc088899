-- Where parts end, and in which of them an index is. No public clause cites these.
use Rattle.std.specs.Prelude.{ℕ, ◌+◌, ◌<◌, ◌≤◌, List, [], ◌∷◌, length, take}
use Rattle.pool_law.specs.declared.id.Part.{Part}
use Rattle.pool_law.specs.Composites.{size_of}

-- where each part ends, where so many bytes come before the first
abbrev pub ends_from : ℕ → List Part → List ℕ
ends_from n [] = []
ends_from n (p ∷ ps) = (n + p.len) ∷ ends_from (n + p.len) ps

-- an index is in the part of a number
pub record IsIn (ps : List Part) (i k : ℕ) : Type 0 where
  pub there : k < length ps
  pub starts : size_of (take k ps) ≤ i
  pub ends : i < size_of (take (k + 1) ps)
