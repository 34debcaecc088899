use Rattle.std.proofs.Common.{arith}
use Rattle.lane_stages.proofs.notes.write_note.Goals as goal

pub push_reserved-requires : goal.push_reserved-requires
push_reserved-requires c = let a = c.args.log.now.ok.0 in let b = c.requires in omega (arith, a, b)

pub returns : goal.returns
returns c = record { items = c.push_reserved.ensures.items; room = c.push_reserved.ensures.capacity }
