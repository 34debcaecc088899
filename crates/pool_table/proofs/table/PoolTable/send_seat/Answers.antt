use Rattle.pool_table.proofs.Calls.{sends_as}
use Rattle.pool_table.proofs.Words.{some_word}
use Rattle.pool_table.proofs.table.PoolTable.send_seat.Goals as goal

pub split_seat-requires : goal.split_seat-requires
split_seat-requires g c = (
  c.requires.own,
  some_word c.args.self.now.layout.shape _ c.args.self.now.shape.some_lane c.args.self.now.words,
  sends_as g.H.Told.stands c.args.self.now.layout _ c.args.self.now.key c.args.to _ c.args.parcel _ _ _
      c.requires.named.0 c.requires.named.1 c.requires.outside c.requires.may,
)
