-- The nodes of each stage, as the program keeps them.
use Rattle.std.specs.Prelude.{◌≡◌, ℕ, ◌==◌, ◌&&◌, Bool, List, [], Option, Some, None, slice_get, Vec}
use Rattle.std.specs.declared.alloc.Global.{Global}
use Rattle.std.specs.declared.cmp.Ordering.{Ordering}
use Rattle.std.specs.Ordering.{nat_cmp, ordering_then}
use Rattle.std.specs.BTreeMap.{get}
use Rattle.pool_law.specs.declared.note.Note.{Note}
use Rattle.pool_law.specs.Logs.{Logs}
use Rattle.pool_law.specs.Lives.{StandsAt}
use Rattle.log_order.specs.Staging.{Stage, stage_of}
use Rattle.log_order.specs.Tallying.{key_cmp, same_key}
use Rattle.log_order.specs.declared.index.Index.{Index}
use Rattle.log_order.specs.declared.spots.Spot.{Spot}

-- the order of the stages
abbrev pub stage_cmp : Stage → Stage → Ordering
stage_cmp x y = ordering_then (key_cmp x.0 y.0) (nat_cmp x.1 y.1)

-- two stages are the same
abbrev pub same_stage : Stage → Stage → Bool
same_stage x y = same_key x.0 y.0 && (x.1 == y.1)

-- the nodes that are kept, if some are
abbrev pub nodes_in : Option (Vec ℕ Global) → List ℕ
nodes_in None = []
nodes_in (Some nodes) = nodes.items

-- the nodes of a stage
abbrev pub listed : Index → Stage → List ℕ
listed index stage = nodes_in (get stage_cmp index.map stage)

-- each node is listed at the stage of its note
abbrev pub AreListed : Logs → List Spot → Index → Type 0
AreListed logs spots index =
    (node : ℕ) (s : Spot) (n : Note) → slice_get spots node ≡ Some s → StandsAt logs s.lane s.at n →
    (k : ℕ) × (slice_get (listed index (stage_of n)) k ≡ Some node)
