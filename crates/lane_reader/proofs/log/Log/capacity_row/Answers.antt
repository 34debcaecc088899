use Rattle.std.proofs.Common.{◌≡◌, ℕ, Some, None, ap, refl, ◌∙◌}
use Rattle.pool_law.specs.declared.id.ViewData.{ViewData}
use Rattle.pool_law.specs.declared.run.Reply.{Reply}
use Rattle.pool_law.specs.Names.{Names, Plain, bind}
use Rattle.pool_law.specs.Views.{reaching}
use Rattle.lane_reader.specs.declared.bound.Bound.{Bound}
use Rattle.lane_reader.specs.declared.bound.Change.{Change}
use Rattle.lane_reader.specs.Growing.{reads_regrown}
use Rattle.lane_reader.specs.Reading.{log_from}
use Rattle.lane_reader.specs.Replying.{same_reply, where_said}
use Rattle.lane_reader.specs.Standing.{changed}
use Rattle.lane_reader.specs.Viewing.{data_of}
use Rattle.lane_reader.proofs.GrowLemmas.{capacity-answered, said-changes}
use Rattle.lane_reader.proofs.log.Log.capacity_row.Goals as goal

pub returns-in_err-behind-clause-row : goal.returns-in_err-behind-clause-row
returns-in_err-behind-clause-row c s is accepted =
    let setting = c.args.setting.now in
    let log = log_from s.seen c.args.self.now c.args.at in
    let row =
    capacity-answered setting.shape.now setting.lane s c.args.name c.args.size (data_of c.in_ok-view.view) log
    None (c.in_ok-view.ensures s is) (c.in_err-behind.ensures s.seen) in
    rw c.from_residual-in_err-behind.ensures (ap (where_said c.args.reply.now) row)

pub returns-in-Full-default-clause-row : goal.returns-in-Full-default-clause-row
returns-in-Full-default-clause-row c s is accepted =
    let setting = c.args.setting.now in
    let log = log_from s.seen c.args.self.now c.args.at in
    let got = reads_regrown s.seen c.args.self.now (Some c.in_ok-behind.field-0) in
    let row =
    capacity-answered setting.shape.now setting.lane s c.args.name c.args.size (data_of c.in_ok-view.view) log
    got (c.in_ok-view.ensures s is) (c.in_ok-behind.ensures s.seen) in
    ap (where_said c.args.reply.now) row
    ∙ rw (c.in-Full-default.is-0, c.then_some.ensures, c.says.ensures)
    (said-changes s c.args.self.now (same_reply Reply.Full c.args.reply.now) Change.Same s.names
    c.in_ok-behind.field-0.1 refl)

pub returns-in-Has-default-clause-row : goal.returns-in-Has-default-clause-row
returns-in-Has-default-clause-row c s is accepted =
    let setting = c.args.setting.now in
    let log = log_from s.seen c.args.self.now c.args.at in
    let got = reads_regrown s.seen c.args.self.now (Some c.in_ok-behind.field-0) in
    let row =
    capacity-answered setting.shape.now setting.lane s c.args.name c.args.size (data_of c.in_ok-view.view) log
    got (c.in_ok-view.ensures s is) (c.in_ok-behind.ensures s.seen) in
    let capacity = c.in-Has-default.capacity in
    let v : ViewData = reaching capacity (data_of c.in_ok-view.view) in
    let names : Names = bind c.args.name (Plain v) s.names in
    let change : Change = Change.Bind c.args.name (Bound.Plain c.reaching.result) in
    let same : changed change s.names ≡ names =
    ap (λ (w : ViewData). bind c.args.name (Plain w) s.names) c.reaching.ensures in
    let told : c.says-in-Has-default.result ≡ same_reply (Reply.OkNumber capacity) c.args.reply.now =
    c.says-in-Has-default.ensures
    ∙ ap (λ (n : ℕ). same_reply (Reply.OkNumber n) c.args.reply.now) c.from.ensures in
    ap (where_said c.args.reply.now) row
    ∙ rw (c.in-Has-default.is-0, c.then_some-in-Has-default.ensures, told)
    (said-changes s c.args.self.now (same_reply (Reply.OkNumber capacity) c.args.reply.now) change names
    c.in_ok-behind.field-0.1 same)
