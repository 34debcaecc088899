use Rattle.std.proofs.Common.{◌≡◌, ℕ, drop}
use Rattle.std.specs.List.{flat_map}
use Rattle.pool_law.specs.ChunkLists.{walk, list_named}
use Rattle.pool_law.specs.Arenas.{first_holding}
use Rattle.object_steps.specs.Runs.{IsCapped}
use Rattle.object_steps.proofs.arena.Arena.first_holding.Given as goal

abbrev pub invariant-loop-name : goal.invariant-loop-name
invariant-loop-name l =
    (wanted : ℕ) → IsCapped wanted l.pages →
    first_holding l.sizes l.self wanted (flat_map (list_named l.self.lists) (drop l.name-index l.name-items))
    ≡ first_holding l.sizes l.self wanted (walk l.self.lists)
