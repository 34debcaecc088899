use Rattle.std.proofs.Common.{◌*◌}
use Rattle.object_steps.proofs.BinLemmas.{next-other}
use Rattle.object_steps.proofs.bin.Bin.new.Goals as goal

pub put_place-requires-clause-other : goal.put_place-requires-clause-other
put_place-requires-clause-other c =
    rw (c.from.ensures, c.from-2.ensures, c.from-in-loop-index.ensures)
    (next-other (c.args.lane * c.args.handles) c.loop-index.index c.loop-index.places.items
    c.loop-index.invariant.places)
