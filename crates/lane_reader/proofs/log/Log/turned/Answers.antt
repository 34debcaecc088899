use Rattle.std.proofs.Common.{◌≡◌, ◌+◌, Option, Some, ap, arith, subst, ◌∙◌}
use Rattle.std.specs.Prelude.{IfSome}
use Rattle.pool_law.specs.LaneLaw.{sweep_period}
use Rattle.lane_reader.specs.declared.bound.Change.{Change}
use Rattle.lane_reader.specs.declared.log.At.{At}
use Rattle.lane_reader.specs.Bounding.{ChangeIsBounded}
use Rattle.lane_reader.specs.Replying.{changes}
use Rattle.lane_reader.proofs.TurnLemmas.{unsaid, unfinished, all-read}
use Rattle.lane_reader.proofs.log.Log.turned.Goals as goal

pub returns-in_default-clause-row : goal.returns-in_default-clause-row
returns-in_default-clause-row c s is =
    let setting = c.args.setting.now in
    let log = c.args.self.now in
    unsaid sweep_period setting.shape.now setting.lane s c.args.command.now c.args.reply.now log
    (c.in_ok-change.ensures.row s is ∙ ap (λ (o : Option (Change × At)). changes s log o) c.in_default.is)

pub returns-then-behind-self-clause-row : goal.returns-then-behind-self-clause-row
returns-then-behind-self-clause-row c s is =
    let setting = c.args.setting.now in
    let log = c.args.self.now in
    let got : c.in_ok-change.field-0 ≡ Some (c.in-Some.change, c.in-Some.behind) = c.in-Some.is in
    unfinished sweep_period setting.shape.now setting.lane s c.args.command.now c.args.reply.now log c.in-Some.change
    c.in-Some.behind (c.in_ok-change.ensures.row s is ∙ ap (λ (o : Option (Change × At)). changes s log o) got)
    (omega (arith, c.if-behind-self.true))

pub returns-clause-row : goal.returns-clause-row
returns-clause-row c s is =
    let setting = c.args.setting.now in
    let log = c.args.self.now in
    let got : c.in_ok-change.field-0 ≡ Some (c.in-Some.change, c.in-Some.behind) = c.in-Some.is in
    all-read sweep_period setting.shape.now setting.lane s c.args.command.now c.args.reply.now log c.in-Some.change
    c.in-Some.behind (c.in_ok-change.ensures.row s is ∙ ap (λ (o : Option (Change × At)). changes s log o) got)
    (omega (arith, c.if-behind-self.false))

pub returns-clause-bounded : goal.returns-clause-bounded
returns-clause-bounded c most some bounded =
    subst (λ (o : Option (Change × At)). IfSome o (λ p. ChangeIsBounded (most + 1) p.0)) c.in-Some.is
    (c.in_ok-change.ensures.bounded most some bounded)
