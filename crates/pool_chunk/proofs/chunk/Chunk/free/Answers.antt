use Rattle.std.proofs.Common.{◌≡◌, ◌∙◌, subst}
use Rattle.pool_law.specs.Chunks.{free_bytes}
use Rattle.pool_chunk.specs.ChunkStates.{ChunkState}
use Rattle.pool_chunk.specs.Held.{entries_in, runs_in}
use Rattle.pool_chunk.proofs.Steps.{free-bytes}
use Rattle.pool_chunk.proofs.chunk.Chunk.free.Goals as goal

pub returns-clause-bytes : goal.returns-clause-bytes
returns-clause-bytes c =
    let s = c.self.inside in
    let P : ChunkState → Type 0 = λ v. c.free_bytes.result ≡ free_bytes v.geometry v.runs in
    subst P c.self.view_is (c.free_bytes.ensures ∙ free-bytes s.classes s.map.runs (entries_in s) (runs_in s) s.map.page
    c.self.invariant.runs c.self.invariant.page)
