use Rattle.std.proofs.Common.{◌≡◌, ◌++◌, drop}
use Rattle.pool_law.specs.Arenas.{chunk_ends, chunk_ends_from}
use Rattle.object_steps.proofs.arena.Arena.push_ends.Given as goal

abbrev pub invariant-loop-place : goal.invariant-loop-place
invariant-loop-place l =
    l.ends.items ++ chunk_ends_from l.sizes l.number l.self l.place (drop l.place l.self.chunks)
    ≡ l.initial.ends.items ++ chunk_ends l.sizes l.number l.self
