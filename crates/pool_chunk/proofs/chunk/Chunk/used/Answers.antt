use Rattle.std.proofs.Common.{◌≡◌, ◌+◌, ◌-◌, ◌∙◌, subst, arith}
use Rattle.size_classes.specs.Sizes.{chunk_bytes}
use Rattle.pool_law.specs.Chunks.{used_bytes, free_bytes}
use Rattle.pool_chunk.specs.ChunkStates.{ChunkState}
use Rattle.pool_chunk.specs.Held.{entries_in, runs_in}
use Rattle.pool_chunk.proofs.Steps.{free-bytes, all-bytes}
use Rattle.pool_chunk.proofs.chunk.Chunk.used.Goals as goal

pub overflow_sub-result : goal.overflow_sub-result
overflow_sub-result c =
    let s = c.self.inside in
    let is = c.self.invariant in
    let free = c.free_bytes.ensures ∙ free-bytes s.classes s.map.runs (entries_in s) (runs_in s) s.map.page is.runs
    is.page in
    omega (arith, free, is.bytes, all-bytes s.classes (runs_in s) is.runs.chunk)

pub returns-clause-bytes : goal.returns-clause-bytes
returns-clause-bytes c =
    let s = c.self.inside in
    let is = c.self.invariant in
    let free = c.free_bytes.ensures ∙ free-bytes s.classes s.map.runs (entries_in s) (runs_in s) s.map.page is.runs
    is.page in
    let P : ChunkState → Type 0 = λ v. s.bytes - c.free_bytes.result ≡ used_bytes v.geometry v.runs in
    subst P c.self.view_is (omega (arith, free, is.bytes, all-bytes s.classes (runs_in s) is.runs.chunk))

pub returns-clause-whole : goal.returns-clause-whole
returns-clause-whole c =
    let s = c.self.inside in
    let is = c.self.invariant in
    let free = c.free_bytes.ensures ∙ free-bytes s.classes s.map.runs (entries_in s) (runs_in s) s.map.page is.runs
    is.page in
    let P : ChunkState → Type 0 = λ v. s.bytes - c.free_bytes.result + free_bytes v.geometry v.runs
    ≡ chunk_bytes v.geometry in
    subst P c.self.view_is (omega (arith, free, is.bytes, all-bytes s.classes (runs_in s) is.runs.chunk))
