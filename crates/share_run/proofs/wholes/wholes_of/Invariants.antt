use Rattle.std.proofs.Common.{◌≡◌, ◌≤◌, length, map, take, vec_len, vec_capacity}
use Rattle.std.specs.List.{concat}
use Rattle.share_run.proofs.wholes.wholes_of.Given as goal

abbrev pub invariant-loop-parts : goal.invariant-loop-parts
invariant-loop-parts l = record {
  wholes : l.wholes.items ≡ map concat (take l.parts-index l.composites);
  many : vec_len l.wholes ≡ l.parts-index;
  room : length l.composites ≤ vec_capacity l.wholes;
}
