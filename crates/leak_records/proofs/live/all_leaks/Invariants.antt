use Rattle.std.proofs.Common.{◌≡◌, map, take}
use Rattle.leak_records.specs.Reports.{leak_of}
use Rattle.leak_records.proofs.live.all_leaks.Given as goal

abbrev pub invariant-loop-root : goal.invariant-loop-root
invariant-loop-root l = l.leaks.items ≡ map leak_of (take l.root-index l.live)
