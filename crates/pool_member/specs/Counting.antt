-- How often a thread counts each root, and what it knows of its capacity.
use Rattle.std.specs.Prelude.{◌≡◌, ℕ, ◌&&◌, Bool, false, max, if◌then◌else◌, List, Option, Some, None, IfSome, slice_get}
use Rattle.pool_law.specs.declared.id.RootId.{RootId}
use Rattle.pool_law.specs.Same.{same_root}
use Rattle.pool_member.specs.declared.counts.Counted.{Counted}

-- what is kept at each place is of a root of that place
abbrev pub StandInPlace : List Counted → Type 0
StandInPlace cs = (place : ℕ) → IfSome (slice_get cs place) (λ c. c.root.place ≡ place)

-- the count of a root, of what is counted at its place
abbrev pub if_counted : Option Counted → RootId → ℕ
if_counted None root = 0
if_counted (Some c) root = if same_root c.root root then c.count else 0

-- the count of a root, of a list by place
abbrev pub counted : List Counted → RootId → ℕ
counted cs root = if_counted (slice_get cs root.place) root

-- the most capacity of a root that was told since its birth, of what is counted at its place
abbrev pub if_told : Option Counted → RootId → ℕ
if_told None root = 0
if_told (Some c) root = if same_root c.root root then c.told else 0

-- the same of a list by place
abbrev pub told : List Counted → RootId → ℕ
told cs root = if_told (slice_get cs root.place) root

-- the capacity that is known of a root: that of its birth, or the most that was told
abbrev pub known : List Counted → RootId → ℕ
known cs root = max root.capacity (told cs root)

-- whether it is kept that the thread alone has a root, of what is counted at its place
abbrev pub if_alone : Option Counted → RootId → Bool
if_alone None root = false
if_alone (Some c) root = same_root c.root root && c.alone

-- the same of a list by place
abbrev pub is_alone : List Counted → RootId → Bool
is_alone cs root = if_alone (slice_get cs root.place) root
