use Rattle.std.proofs.Common.{◌≡◌, ◌+◌, Option, Some, None, ap, subst, ◌∙◌}
use Rattle.std.specs.Prelude.{IfSome}
use Rattle.pool_law.specs.LaneLaw.{sweep_period}
use Rattle.lane_reader.specs.declared.bound.Change.{Change}
use Rattle.lane_reader.specs.declared.log.At.{At}
use Rattle.lane_reader.specs.Bounding.{ChangeIsBounded}
use Rattle.lane_reader.specs.Replying.{changes}
use Rattle.lane_reader.proofs.TurnLemmas.{turn-found, behind-found}
use Rattle.lane_reader.proofs.log.Log.turned_on.Goals as goal

pub returns-in_default-clause-row : goal.returns-in_default-clause-row
returns-in_default-clause-row c s is =
    let setting = c.args.setting.now in
    let log = c.args.self.now in
    turn-found sweep_period setting.shape.now setting.lane s c.args.command.now c.args.reply.now log
    c.args.lane.now.asked None is.asked
    (c.in_ok-change.ensures.row s is ∙ ap (λ (o : Option (Change × At)). changes s log o) c.in_default.is)

pub returns-in_default-sweep_if_due-clause-row : goal.returns-in_default-sweep_if_due-clause-row
returns-in_default-sweep_if_due-clause-row c s is =
    let setting = c.args.setting.now in
    let log = c.args.self.now in
    let got : c.in_ok-change.field-0 ≡ Some (c.in-Some.change, c.in-Some.at) = c.in-Some.is in
    turn-found sweep_period setting.shape.now setting.lane s c.args.command.now c.args.reply.now log
    c.args.lane.now.asked (Some (c.in-Some.change, c.in-Some.at)) is.asked
    (c.in_ok-change.ensures.row s is ∙ ap (λ (o : Option (Change × At)). changes s log o) got)
    ∙ behind-found sweep_period setting.lane s log c.in-Some.change c.in-Some.at None
    (c.in_default-sweep_if_due.ensures.reads s.seen)

pub returns-clause-row : goal.returns-clause-row
returns-clause-row c s is =
    let setting = c.args.setting.now in
    let log = c.args.self.now in
    let got : c.in_ok-change.field-0 ≡ Some (c.in-Some.change, c.in-Some.at) = c.in-Some.is in
    turn-found sweep_period setting.shape.now setting.lane s c.args.command.now c.args.reply.now log
    c.args.lane.now.asked (Some (c.in-Some.change, c.in-Some.at)) is.asked
    (c.in_ok-change.ensures.row s is ∙ ap (λ (o : Option (Change × At)). changes s log o) got)
    ∙ behind-found sweep_period setting.lane s log c.in-Some.change c.in-Some.at (Some c.in-Some-sweep_if_due.behind)
    (c.in-Some-sweep_if_due.ensures.reads s.seen)

pub returns-clause-bounded : goal.returns-clause-bounded
returns-clause-bounded c most some bounded =
    subst (λ (o : Option (Change × At)). IfSome o (λ p. ChangeIsBounded (most + 1) p.0)) c.in-Some.is
    (c.in_ok-change.ensures.bounded most some bounded)
