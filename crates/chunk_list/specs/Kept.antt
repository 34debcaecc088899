-- How the lists are kept.
use Rattle.std.specs.Prelude.{◌≡◌, ℕ, false, ◌<◌, List, [], ◌∷◌, ⊤}
use Rattle.std.specs.VecDeque.{deque_capacity}
use Rattle.pool_law.specs.ChunkLists.{has}
use Rattle.chunk_list.specs.Members.{Members}
use Rattle.chunk_list.specs.declared.list.ChunkList.TheInside.{Inside}

abbrev pub members_in : Inside → Members
members_in i = record { places = deque_capacity i.chunks; numbers = i.chunks.items }

-- no number is there twice
abbrev pub AreDifferent : List ℕ → Type 0
AreDifferent [] = ⊤
AreDifferent (x ∷ xs) = (has x xs ≡ false) × AreDifferent xs

-- each number is below the limit
abbrev pub AreBelow : ℕ → List ℕ → Type 0
AreBelow limit [] = ⊤
AreBelow limit (x ∷ xs) = (x < limit) × AreBelow limit xs

pub record IsChunkList (i : Inside) : Type 0 where
  pub different : AreDifferent i.chunks.items
  pub below : AreBelow (deque_capacity i.chunks) i.chunks.items
