use Rattle.std.proofs.Common.{◌≡◌, ◌-◌, ◌∙◌, List, ℕ, arith, length, subst, sym, take}
use Rattle.std.specs.Io.KnownBytes.{Consumes}
use Rattle.std.proofs.KnownBytes.{Consumes-trans}
use Rattle.frame_cutter.proofs.FillBytes.{long-is, more-is}
use Rattle.frame_cutter.proofs.loading.read_block.Goals as goal

pub loop-count-preserved : goal.loop-count-preserved
loop-count-preserved g c =
    let left = g.S.Source.left in
    let block = c.loop-count.block in
    let count = c.loop-count.count in
    let more = c.in_ok-more.more in
    let buf = c.read.new.buf in
    let kept = c.loop-count.invariant in
    let long : length buf ≡ length block - count = omega arith in
    let behind = long-is block buf count kept.within long in
    let bound = c.in_ok-more.ensures.bound in
    record {
      bytes =
          subst (λ (xs : List ℕ). Consumes (left c.args.source.now) (left c.read.new.self) xs)
          (sym (more-is block buf count kept.within more))
          (Consumes-trans (left c.args.source.now) (left c.loop-count.source) (left c.read.new.self)
          (take count block) (take more buf) kept.bytes c.in_ok-more.ensures.bytes.0);
      faults = c.in_ok-more.ensures.cause.ok ∙ kept.faults;
      within = omega (arith, behind, long, bound);
      long = behind ∙ kept.long;
    }
