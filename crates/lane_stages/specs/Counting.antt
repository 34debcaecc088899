-- How often a lane counts each root.
use Rattle.std.specs.Prelude.{◌≡◌, ℕ, ◌+◌, if◌then◌else◌, List, Option, Some, None, slice_get}
use Rattle.pool_law.specs.declared.id.RootId.{RootId}
use Rattle.pool_law.specs.Counts.{count_of, count_from, CountsHold}
use Rattle.pool_law.specs.Readers.{ToldNotes}
use Rattle.pool_law.specs.Same.{same_root}
use Rattle.lane_stages.specs.declared.counts.Counted.{Counted}

-- the count of a root, of what is counted at its place
abbrev pub if_counted : Option Counted → RootId → ℕ
if_counted None root = 0
if_counted (Some c) root = if same_root c.root root then c.count else 0

-- the count of a root, of a list by place
abbrev pub counted : List Counted → RootId → ℕ
counted cs root = if_counted (slice_get cs root.place) root

-- these entries add so many to the count of each root, whatever it was, and use none
pub record AddCounts (more : RootId → ℕ) (es : ToldNotes) : Type 0 where
  pub adds : (root : RootId) (k : ℕ) → count_from root k es ≡ k + more root
  pub holds : (root : RootId) (k : ℕ) → CountsHold root k es

-- the list has the counts of a log, in which no root is used that isn't counted
pub record CountsAre (cs : List Counted) (es : ToldNotes) : Type 0 where
  pub counts : (root : RootId) → count_of root es ≡ counted cs root
  pub holds : (root : RootId) → CountsHold root 0 es
