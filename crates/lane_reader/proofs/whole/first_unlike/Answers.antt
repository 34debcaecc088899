use Rattle.std.proofs.Common.{◌≡◌, take, length, sym, arith, ◌∙◌}
use Rattle.std.specs.Prelude.{min}
use Rattle.std.proofs.lemmas.List.Elements.{All-take}
use Rattle.lane_reader.specs.declared.runs.Reach.{Reach}
use Rattle.lane_reader.specs.Candidates.{HasFewNames}
use Rattle.lane_reader.specs.Reading.{entries}
use Rattle.lane_reader.specs.Running.{Reaches}
use Rattle.lane_reader.specs.Unlike.{AreAnswered}
use Rattle.lane_reader.proofs.RunLemmas.{few-names}
use Rattle.lane_reader.proofs.UnlikeLemmas.{log-lengths, unlike-until, unlike-behind, whole-log, log-whole}
use Rattle.lane_reader.proofs.whole.first_unlike.Goals as goal
use Rattle.lane_reader.proofs.whole.first_unlike.Goals.{then-commands-replies-via-then-commands-replies, then-commands-replies-via-else-commands-replies+then-not-closes}

pub reach-requires-clause-names : goal.reach-requires-clause-names
reach-requires-clause-names c =
    All-take HasFewNames c.min-count.result c.args.commands.now
    (few-names c.args.shape.now c.args.commands.now c.requires.commands.fit)

pub returns-in-Until : goal.returns-in-Until
returns-in-Until c =
    let shape = c.args.shape.now in
    let lane = c.args.lane in
    let cs = c.args.commands.now in
    let rs = c.args.replies.now in
    let count = c.min-count.result in
    let told :
    Reaches (AreAnswered shape lane) (take count cs) (take count rs) c.args.log.now (Reach.Until c.in-Until.command) =
    rw c.in-Until.is at c.in_ok-command.ensures in
    unlike-until shape lane cs rs (entries c.args.log.now) count c.in-Until.command told.0 told.1 told.2

pub returns-then-commands-replies : goal.returns-then-commands-replies
returns-then-commands-replies c =
    let shape = c.args.shape.now in
    let lane = c.args.lane in
    let cs = c.args.commands.now in
    let rs = c.args.replies.now in
    let es = entries c.args.log.now in
    let count = c.min-count.result in
    let least : count ≡ min (length cs) (length rs) = omega (arith, c.min-count.ensures) in
    let told :
    Reaches (AreAnswered shape lane) (take count cs) (take count rs) c.args.log.now (Reach.Whole c.in-Whole.behind) =
    rw c.in-Whole.is at c.in_ok-command.ensures in
    elim c.then-commands-replies.branch [
      | then-commands-replies-via-then-commands-replies w ↦
          unlike-behind shape lane cs rs es count least told.0
          (λ log. w.if-commands-replies.true (log-lengths shape lane cs rs es log))
      | then-commands-replies-via-else-commands-replies+then-not-closes w ↦
          unlike-behind shape lane cs rs es count least told.0
          (λ log.
          let closed =
          log-whole shape lane cs rs es count least told.0 w.if-commands-replies.false
          (entries c.in-Whole.behind) told.1 log in
          cc (sym w.if-not-closes.true ∙ w.closes.ensures ∙ closed))
    ]

pub returns-else-not-closes : goal.returns-else-not-closes
returns-else-not-closes c =
    let shape = c.args.shape.now in
    let lane = c.args.lane in
    let cs = c.args.commands.now in
    let rs = c.args.replies.now in
    let count = c.min-count.result in
    let least : count ≡ min (length cs) (length rs) = omega (arith, c.min-count.ensures) in
    let told :
    Reaches (AreAnswered shape lane) (take count cs) (take count rs) c.args.log.now (Reach.Whole c.in-Whole.behind) =
    rw c.in-Whole.is at c.in_ok-command.ensures in
    whole-log shape lane cs rs (entries c.args.log.now) count least told.0 c.if-commands-replies.false
    (entries c.in-Whole.behind) told.1 (sym c.closes.ensures ∙ c.if-not-closes.false)
