use Rattle.std.proofs.Common.{ℕ, ◌≡◌, ◌+◌, ◌-◌, take, arith}
use Rattle.pool_law.specs.Composites.{size_of}
use Rattle.composite_buf.proofs.EndLaws.{IsIn-inside, IsIn-byte}
use Rattle.composite_buf.proofs.composite.Composite.locate.Goals as goal

pub overflow_sub-result : goal.overflow_sub-result
overflow_sub-result c = omega (arith, c.start_of.ensures, c.part_at-k.ensures.starts)

pub returns : goal.returns
returns c =
    let at : ℕ = c.args.i - c.start_of.result in
    let before : size_of (take c.part_at-k.result c.args.self.now) + (c.args.i - c.start_of.result) ≡ c.args.i =
    omega (arith, c.start_of.ensures, c.part_at-k.ensures.starts) in
    record {
      before = before;
      inside = IsIn-inside c.args.self.now c.args.i c.part_at-k.result at c.part_at-k.ensures before;
      byte = IsIn-byte c.args.self.now c.args.i c.part_at-k.result at c.part_at-k.ensures before;
    }
