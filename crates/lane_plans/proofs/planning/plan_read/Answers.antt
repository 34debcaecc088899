use Rattle.std.proofs.Common.{◌-◌, ◌+◌, Some, sym, ◌∙◌, subst, arith}
use Rattle.std.specs.Prelude.{nat_le}
use Rattle.pool_law.specs.declared.command.Command.{Command}
use Rattle.pool_law.specs.declared.run.Reply.{Reply}
use Rattle.lane_context.specs.declared.work.Work.{Work}
use Rattle.lane_plans.specs.Plans.{IsPlanOf, work_on}
use Rattle.lane_plans.proofs.PlanCommands.{read_planned, read_refused}
use Rattle.lane_plans.proofs.planning.plan_read.Goals as goal

pub overflow_sub-writer : goal.overflow_sub-writer
overflow_sub-writer c =
    let marks = c.marks-reader in
    let ordered = (c.requires.composites.formed c.args.name c.in-Some.whole.now
    (c.in-Some.ensures {u = tt}).some).marked.reader in
    omega (arith, ordered, marks.ensures.reader, marks.ensures.writer)

pub returns-in-Some-refusal_of : goal.returns-in-Some-refusal_of
returns-in-Some-refusal_of c =
    let marks = c.marks-reader in
    let len = c.args.len in
    read_refused c.args.context.now c.requires.composites c.requires.inside c.args.name c.in-Some.whole.now
    (c.in-Some.ensures {u = tt}).some
    len marks.result.reader marks.result.writer marks.ensures.reader marks.ensures.writer
    (nat_le len (marks.result.writer - marks.result.reader))
    (λ i. nat_le len (marks.ensures.writer i - marks.ensures.reader i)) c.in-Some-refusal_of.refusal
    (c.in-Some-refusal_of.ensures {u = tt}).refused

pub returns : goal.returns
returns c =
    let none = (c.in_default-refusal_of.ensures {u = tt}).none in
    let marks = c.marks-reader in
    let len = c.args.len in
    subst (λ (work : Work). IsPlanOf c.args.context.now (Command.Read c.args.name len) (Some work))
    (sym (c.crossing.ensures ∙ (λ i. work_on c.args.name
    (Some (record { reader = marks.result.reader + len; writer = marks.result.writer })) c.in_ok-stage.stage
    (Reply.OkBytes ((c.of.ensures ∙ c.new.ensures.items) i)))))
    (read_planned c.args.context.now c.requires.composites c.requires.inside c.args.name c.in-Some.whole.now
    (c.in-Some.ensures {u = tt}).some
    len marks.result.reader marks.result.writer marks.ensures.reader marks.ensures.writer none.0
    (sym none.1 ∙ (λ i. nat_le len (marks.ensures.writer i - marks.ensures.reader i))) c.in_ok-stage.stage
    (c.in_ok-stage.ensures {u = tt}))
