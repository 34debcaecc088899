-- What a tree of views stands for. No public clause cites this module.
use Rattle.std.specs.Prelude.{◌≡◌, ℕ, ◌+◌, ◌<◌, ◌≤◌, List, map, length, Some, slice_get, vec_capacity}
use Rattle.pool_law.specs.declared.id.RootId.{RootId}
use Rattle.pool_law.specs.declared.id.ViewData.{ViewData}
use Rattle.pool_law.specs.Views.{LiesIn}
use Rattle.counted_view.specs.Nests.{NestState}
use Rattle.counted_view.specs.Rows.{shown, AreCounted}
use Rattle.counted_view.specs.declared.rows.Row.{Row}
use Rattle.counted_view.specs.declared.view_tree.ViewTree.TheInside.{Inside}

-- the nest that the rows show
abbrev pub state_of : Inside → NestState
state_of t = record { root = t.root; bound = t.bound; views = map shown t.rows.items }

-- a view is one of the root, and lies in the bytes with which that was born
pub record IsOf (root : RootId) (v : ViewData) : Type 0 where
  pub root_is : v.root ≡ root
  pub inside : LiesIn root.capacity v

-- each view is so
abbrev pub AreOf : RootId → List Row → Type 0
AreOf root rows = (number : ℕ) (r : Row) → slice_get rows number ≡ Some r → IsOf root r.view.at

-- the rows agree, and there is room for all that may be made
pub record IsTree (t : Inside) : Type 0 where
  pub counted : AreCounted t.rows.items
  pub roots : AreOf t.root t.rows.items
  pub some : 0 < length t.rows.items
  pub bound : t.bound ≤ 4096
  pub few : length t.rows.items ≤ t.bound + 1
  pub room : t.bound + 1 ≤ vec_capacity t.rows
