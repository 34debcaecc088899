use Rattle.std.proofs.Common.{◌≡◌, ℕ, drop}
use Rattle.pool_law.specs.Arenas.{first_holding}
use Rattle.object_steps.specs.Runs.{IsCapped}
use Rattle.object_steps.proofs.arena.Arena.first_of.Given as goal

abbrev pub invariant-loop-place : goal.invariant-loop-place
invariant-loop-place l =
    (wanted : ℕ) → IsCapped wanted l.pages →
    first_holding l.sizes l.self wanted (drop l.place-index l.places)
    ≡ first_holding l.sizes l.self wanted l.places
