use Rattle.std.proofs.Common.{◌≡◌, drop}
use Rattle.pool_law.specs.Arenas.{first_unused}
use Rattle.object_steps.proofs.ArenaLemmas.{moved_by}
use Rattle.object_steps.proofs.arena.runs.first_none.Given as goal

abbrev pub invariant-loop-place : goal.invariant-loop-place
invariant-loop-place l = moved_by l.place (first_unused (drop l.place l.chunks)) ≡ first_unused l.chunks
