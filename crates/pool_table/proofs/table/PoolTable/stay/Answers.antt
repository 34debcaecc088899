use Rattle.std.proofs.Common.{sym, ap, subst}
use Rattle.pool_table.specs.declared.views.Layout.{Layout}
use Rattle.pool_table.specs.declared.views.SeatView.{SeatView}
use Rattle.pool_table.specs.Learned.{KnowsCounts}
use Rattle.pool_table.proofs.Calls.{stays_as}
use Rattle.pool_table.proofs.Words.{some_word}
use Rattle.pool_table.proofs.table.PoolTable.stay.Goals as goal

pub load-requires : goal.load-requires
load-requires g c = (
  c.requires.own,
  some_word c.args.self.now.layout.shape _ c.args.self.now.shape.some_lane c.args.self.now.words,
  stays_as g.H.Told.stands c.args.self.now.layout _ c.args.self.now.key _ _ _ _ _ c.requires.named
      c.args.self.now.slots,
)

pub returns-clause-knows : goal.returns-clause-knows
returns-clause-knows g c =
    subst (λ (y : Layout × SeatView). KnowsCounts y.0 y.1)
    (λ i. (c.requires.named i, sym (ap (λ m. m.0) c.load.ensures.2.0.0) i)) c.load.ensures.2.0.1
