use Rattle.std.proofs.Common.{◌≡◌, List, ℕ, take, arith}
use Rattle.pool_law.specs.declared.id.Part.{Part}
use Rattle.pool_law.specs.Composites.{size_of}
use Rattle.composite_buf.proofs.MapLaws.{same_size}
use Rattle.composite_buf.proofs.EndLaws.{next_within}
use Rattle.composite_buf.proofs.composite.Composite.new.Goals as goal

pub add-requires-clause-size : goal.add-requires-clause-size
add-requires-clause-size c =
    let ps : List Part = c.items-part-items.result.now in
    let k : ℕ = c.loop-part.part-index in
    let none : Part = record { root = record { place = 0; generation = 0; capacity = 0 }; offset = 0; len = 0 } in
    let same : size_of c.loop-part.composite ≡ size_of (take k ps) =
    same_size c.loop-part.composite (take k ps) c.loop-part.invariant.same in
    let all : size_of ps ≡ size_of c.args.parts.now = same_size ps c.args.parts.now c.loop-part.invariant.items in
    omega (arith, next_within ps k none (omega arith), same, all, c.requires.size)
