use Rattle.shared_pool.specs.Settling.{settled_by}
use Rattle.shared_pool.proofs.OpeningHomes.{all_stand, grounds_many, homes_many}
use Rattle.shared_pool.proofs.opening.new_table.Goals as goal

pub new-requires-clause-homes : goal.new-requires-clause-homes
new-requires-clause-homes c = homes_many c.args.layout.shape c.fill.new.homes.items c.in-Ok.ensures

pub new-requires-clause-stand : goal.new-requires-clause-stand
new-requires-clause-stand c = all_stand c.args.layout.shape c.fill.new.homes.items c.in-Ok.ensures

pub returns-in-Ok-new-clause-seats : goal.returns-in-Ok-new-clause-seats
returns-in-Ok-new-clause-seats c =
    record {
      setting = settled_by c.fill.new.homes.items;
      grounds = grounds_many c.args.layout.shape c.fill.new.homes.items c.in-Ok.ensures;
      seats_are = c.in-Ok-new.ensures.seats;
    }
