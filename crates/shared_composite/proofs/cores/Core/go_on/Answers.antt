use Rattle.std.proofs.Common.{ap, subst}
use Rattle.std.specs.Prelude.{Option, Some, None}
use Rattle.lane_stages.specs.declared.retirement.Ending.{Ending}
use Rattle.shared_composite.specs.Endings.{HasEnded}
use Rattle.shared_composite.proofs.ReleaseSteps.{core_at, may_end, ended_so, held_so}
use Rattle.shared_composite.proofs.cores.Core.go_on.Goals as goal

pub end-requires : goal.end-requires
end-requires c = may_end c.args.pool.now c.args.self.now c.args.stage c.requires.core

pub returns-in-More : goal.returns-in-More
returns-in-More c =
    let old = c.args.self.now in let new = c.end.new.seat in
    let did = subst (HasEnded c.args.pool.now old.seat new c.args.stage) c.in-More.is c.end.ensures in
    let on = ended_so c.args.pool.now old new c.args.stage c.requires.core c.put.new.self (Some c.in-More.next) did.0
    did.1 c.put.ensures in
    record { core = on.core; stepped = on.stepped; unfinished = on.unfinished }

pub returns-in-Held : goal.returns-in-Held
returns-in-Held c =
    let old = c.args.self.now in let new = c.end.new.seat in
    let did = subst (HasEnded c.args.pool.now old.seat new c.args.stage) c.in-Held.is c.end.ensures in
    let on = held_so c.args.pool.now old new c.args.stage c.requires.core c.put-in-Held.new.self c.in-Held.again
    c.in-Held.held did c.put-in-Held.ensures in
    record { core = on.core; stepped = on.stepped; unfinished = on.unfinished }

pub returns-in-Done : goal.returns-in-Done
returns-in-Done c =
    let old = c.args.self.now in let new = c.end.new.seat in
    let did = subst (HasEnded c.args.pool.now old.seat new c.args.stage) c.in-Done.is c.end.ensures in
    let is = ap (λ (e : Option Ending). core_at old new old.next e) c.requires.out in
    let on = ended_so c.args.pool.now old new c.args.stage c.requires.core (core_at old new old.next old.ending) None
    did.0 did.1 is in
    record { core = on.core; stepped = on.stepped; unfinished = on.unfinished }
