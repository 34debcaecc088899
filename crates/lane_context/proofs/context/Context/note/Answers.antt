use Rattle.std.proofs.Common.{refl, arith}
use Rattle.lane_context.proofs.context.Context.note.Goals as goal

pub returns : goal.returns
returns c = let a = c.write_note.ensures.room in record {
  log = c.write_note.ensures.items;
  room = omega (arith, a);
  rest = refl;
}
