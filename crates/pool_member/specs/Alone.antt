-- The roots that a thread alone has, and what their bytes are.
use Rattle.std.specs.Prelude.{◌≡◌, ◌≢◌, ℕ, ◌++◌, List, length, replicate, Option, Some}
use Rattle.pool_law.specs.declared.id.RootId.{RootId}
use Rattle.pool_law.specs.Roots.{bytes_at, laid_over}
use Rattle.pool_table.specs.Lone.{own_bytes, IsLone}
use Rattle.shared_pool.specs.SeatViews.{view_of}
use Rattle.pool_member.specs.declared.member.Member.{Member}

-- the thread alone has the root: it allocated it, and made no parcel of it
abbrev pub IsAlone : Member → RootId → Type 0
IsAlone m root = IsLone root (view_of m.seat)

-- what the thread's own notes laid in the root, one after the other
abbrev pub laid_in : Member → RootId → List ℕ
laid_in m root = own_bytes root (view_of m.seat)

-- each root that it alone had it has alone still, with the same bytes, but for this root
abbrev pub KeepsAlone : Option RootId → Member → Member → Type 0
KeepsAlone but old new =
    (root : RootId) → but ≢ Some root → IsAlone old root →
    IsAlone new root × (laid_in new root ≡ laid_in old root)

-- if it alone had this root, it has it alone still, with these bytes laid over it
abbrev pub LaysOver : RootId → ℕ → List ℕ → Member → Member → Type 0
LaysOver root offset bytes old new =
    IsAlone old root →
    IsAlone new root × (laid_in new root ≡ laid_over (laid_in old root) offset bytes)

-- or with zeros behind it
abbrev pub GrowsAlone : RootId → Member → Member → Type 0
GrowsAlone root old new =
    IsAlone old root →
    IsAlone new root × (more : ℕ) × (laid_in new root ≡ laid_in old root ++ replicate more 0)

-- if it alone has this root, these bytes are those that are there
abbrev pub AreLaid : Member → RootId → ℕ → List ℕ → Type 0
AreLaid m root offset bytes =
    IsAlone m root → bytes ≡ bytes_at (laid_in m root) offset (length bytes)
