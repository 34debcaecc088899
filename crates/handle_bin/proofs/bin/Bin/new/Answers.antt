use Rattle.std.proofs.Common.{◌≡◌, sym, subst, ap}
use Rattle.circular_buffer.specs.Buffer.{buffer}
use Rattle.handle_bin.specs.Bins.{handles_below}
use Rattle.handle_bin.specs.Kept.{AreHandlesOf}
use Rattle.handle_bin.proofs.BinLaws.{full_is_ready}
use Rattle.handle_bin.proofs.bin.Bin.new.Goals as goal

pub invariant_of-result : goal.invariant_of-result
invariant_of-result c =
    let lane = c.args.lane in
    let handles = c.args.handles in
    let filled : c.fill.new.ready ≡ buffer (handles_below lane handles handles) handles = c.in-Ok.ensures.ok in
    record {
      some_there = c.requires.handles.0;
      capacity = ap (λ b. b.capacity) filled;
      ready = subst (λ b. AreHandlesOf lane handles b.items) (sym filled) (full_is_ready lane handles);
    }
