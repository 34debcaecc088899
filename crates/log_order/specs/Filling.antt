-- That the graph has every note, and every pair of which one must stand before the other.
use Rattle.std.specs.Prelude.{◌≡◌, ◌⊎◌, ℕ, zero, suc, ◌+◌, ◌<◌, List, [], ◌∷◌, length, Some, slice_get, Vec}
use Rattle.std.specs.declared.alloc.Global.{Global}
use Rattle.pool_law.specs.declared.note.Note.{Note}
use Rattle.pool_law.specs.Logs.{Logs}
use Rattle.pool_law.specs.Lives.{StandsAt}
use Rattle.topo_order.specs.Sorting.{MustPrecede}
use Rattle.log_order.specs.Graphs.{IsGraph}
use Rattle.log_order.specs.Precedence.{MustStandBefore}
use Rattle.log_order.specs.Indexing.{AreListed}
use Rattle.log_order.specs.declared.graph.Graph.{Graph}
use Rattle.log_order.specs.declared.index.Index.{Index}
use Rattle.log_order.specs.declared.spots.Spot.{Spot}

-- how many notes the lanes before this one have
abbrev pub before : Logs → ℕ → ℕ
before [] lane = 0
before (log ∷ logs) zero = 0
before (log ∷ logs) (suc lane) = length log + before logs lane

-- the nodes are the notes of the lanes before this one, and so many of its own, in order
pub record ArePlaced (logs : Logs) (spots : List Spot) (lane at : ℕ) : Type 0 where
  pub size : length spots ≡ before logs lane + at
  pub own : (node : ℕ) (s : Spot) → slice_get spots node ≡ Some s → node ≡ before logs s.lane + s.at
  pub each : (s : Spot) (n : Note) → StandsAt logs s.lane s.at n →
      (s.lane < lane) ⊎ ((s.lane ≡ lane) × (s.at < at)) →
      slice_get spots (before logs s.lane + s.at) ≡ Some s

-- so it is of the graph, and each node is listed
pub record IsFilled (logs : Logs) (g : Graph) (index : Index) (lane at : ℕ) : Type 0 where
  pub graph : IsGraph logs g
  pub placed : ArePlaced logs g.spots.items lane at
  pub listed : AreListed logs g.spots.items index

-- where one note must stand before another, so must its node
abbrev pub IsLinked : Logs → List Spot → List (Vec ℕ Global) → ℕ → ℕ → Type 0
IsLinked logs spots needs first node =
    (a b : Spot) → slice_get spots first ≡ Some a → slice_get spots node ≡ Some b →
    MustStandBefore logs a b → MustPrecede needs first node

-- so it is of the graph that the program keeps
abbrev pub Links : Logs → Graph → ℕ → ℕ → Type 0
Links logs graph first node = IsLinked logs graph.spots.items graph.needs.items first node

-- more nodes were linked, and this holds
pub record Grows (logs : Logs) (old new : Graph) (Holds : Type 0) : Type 0 where
  pub graph : IsGraph logs new
  pub spots : new.spots.items ≡ old.spots.items
  pub keeps : (first node : ℕ) → MustPrecede old.needs.items first node →
      MustPrecede new.needs.items first node
  pub holds : Holds

-- each note is one node, and all pairs are linked
pub record IsWhole (logs : Logs) (g : Graph) : Type 0 where
  pub graph : IsGraph logs g
  pub placed : (s : Spot) (n : Note) → StandsAt logs s.lane s.at n →
      (node : ℕ) × (slice_get g.spots.items node ≡ Some s)
  pub once : (node other : ℕ) (s : Spot) → slice_get g.spots.items node ≡ Some s →
      slice_get g.spots.items other ≡ Some s → node ≡ other
  pub linked : (first node : ℕ) → Links logs g first node
