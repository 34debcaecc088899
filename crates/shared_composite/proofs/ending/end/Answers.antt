use Rattle.std.proofs.Common.{sym, subst}
use Rattle.lane_stages.specs.declared.retirement.Ending.{Ending}
use Rattle.shared_composite.specs.Endings.{HasEnded}
use Rattle.shared_composite.proofs.ending.end.Goals as goal

pub returns-in-Cache : goal.returns-in-Cache
returns-in-Cache c =
    subst (λ (e : Ending). HasEnded c.args.pool.now c.args.seat.now c.put_away.new.seat e c.put_away.result)
    (sym c.in-Cache.is) c.put_away.ensures

pub returns-in-Arena : goal.returns-in-Arena
returns-in-Arena c =
    subst (λ (e : Ending). HasEnded c.args.pool.now c.args.seat.now c.give_back.new.seat e c.give_back.result)
    (sym c.in-Arena.is) c.give_back.ensures

pub returns-in-Home : goal.returns-in-Home
returns-in-Home c =
    subst (λ (e : Ending). HasEnded c.args.pool.now c.args.seat.now c.go_home.new.seat e c.go_home.result)
    (sym c.in-Home.is) c.go_home.ensures
