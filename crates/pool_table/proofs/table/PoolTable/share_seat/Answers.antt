use Rattle.pool_table.proofs.Calls.{shares_as}
use Rattle.pool_table.proofs.Words.{some_word}
use Rattle.pool_table.proofs.table.PoolTable.share_seat.Goals as goal

pub split_seat-requires : goal.split_seat-requires
split_seat-requires g c = (
  c.requires.own,
  some_word c.args.self.now.layout.shape _ c.args.self.now.shape.some_lane c.args.self.now.words,
  shares_as g.H.Told.stands c.args.self.now.layout _ c.args.moves _ _ _ c.args.self.now.key c.requires.named
      c.requires.outside c.requires.moves,
)
