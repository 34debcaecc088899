use Rattle.std.proofs.Common.{length, ◌-◌, ◌≡◌, ◌≤◌, take}
use Rattle.std.specs.Io.KnownBytes.{Consumes}
use Rattle.frame_cutter.proofs.loading.read_block.Given as goal

abbrev pub invariant-loop-count : goal.invariant-loop-count
invariant-loop-count g l = record {
  bytes : Consumes (g.S.Source.left l.initial.source) (g.S.Source.left l.source) (take l.count l.block);
  faults : g.S.Source.faults l.source ≡ g.S.Source.faults l.initial.source;
  within : l.count ≤ length l.block;
  long : length l.block ≡ length l.initial.block;
}

abbrev pub decreases-loop-count : goal.decreases-loop-count
decreases-loop-count g l = length l.initial.block - l.count
