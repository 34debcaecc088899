use Rattle.std.proofs.Common.{◌≡◌, Option, Some, None, ap, ◌∙◌}
use Rattle.std.proofs.lemmas.Result.{IfOk-weaker}
use Rattle.pool_law.specs.declared.run.Reply.{Reply}
use Rattle.pool_law.specs.Lanes.{answer_by}
use Rattle.pool_law.specs.Refusals.{first_refusal, refusals}
use Rattle.lane_reader.specs.Reading.{log_from}
use Rattle.lane_reader.specs.Replying.{reply_of, where_said}
use Rattle.lane_reader.specs.Turning.{Answers, CarriesWith}
use Rattle.lane_reader.proofs.log.Log.answered.Goals as goal

pub returns-in-Some-clause-row : goal.returns-in-Some-clause-row
returns-in-Some-clause-row c s is =
    let shape = c.args.setting.now.shape.now in
    let lane = c.args.setting.now.lane in
    let command = c.args.command.now in
    let log = log_from s.seen c.args.self.now c.args.at in
    let here : first_refusal (refusals shape s command) ≡ Some (reply_of c.in-Some.refused) =
    c.in-Some.ensures s is (c.in_ok-candidate.ensures.is s is) in
    ap (λ (o : Option Reply). where_said c.args.reply.now (answer_by shape lane s command o log)) here
    ∙ c.refused_by.ensures.row s

pub returns-clause-row : goal.returns-clause-row
returns-clause-row c =
    let setting = c.args.setting.now in
    let lane = c.args.lane.now in
    let command = c.args.command.now in
    let reply = c.args.reply.now in
    let log = c.args.self.now in
    let at = c.args.at in
    IfOk-weaker c.carried_out.result (CarriesWith setting lane command c.in_ok-candidate.candidate reply log at)
    (Answers setting lane command reply log at)
    (λ got carries s is.
    let found = c.in_ok-candidate.ensures.is s is in
    let here : first_refusal (refusals setting.shape.now s command) ≡ None = c.in_default.ensures s is found in
    ap
    (λ (o : Option Reply).
    where_said reply (answer_by setting.shape.now setting.lane s command o (log_from s.seen log at)))
    here
    ∙ carries s is found here)
    c.carried_out.ensures.row
