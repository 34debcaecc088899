use Rattle.std.proofs.Common.{◌≡◌, length, get_or, sym, ap, arith, ◌∙◌}
use Rattle.lane_reader.specs.Reading.{entries_in}
use Rattle.run_check.specs.ByObject.{notes_in}
use Rattle.run_check.specs.Entering.{IsToldOf}
use Rattle.run_check.proofs.EnteringLemmas.{told-length, told-get, entries-get}
use Rattle.run_check.proofs.lanes.log_at.Goals as goal

pub bounds-told-lane : goal.bounds-told-lane
bounds-told-lane c =
    let logs = c.args.logs.now in
    omega (arith, told-length (notes_in logs) c.args.told.now logs c.requires.told, c.requires.there)

pub returns-clause-entries : goal.returns-clause-entries
returns-clause-entries c =
    let logs = c.args.logs.now in
    let log = get_or logs c.args.lane c.index-logs-lane.result in
    let at : log ≡ get_or logs c.args.lane log = ap (get_or logs c.args.lane) c.index-logs-lane.is in
    let told = c.index-told-lane.result in
    let is : IsToldOf (notes_in logs) told log =
    told-get (notes_in logs) c.args.told.now logs c.args.lane told log c.requires.told c.requires.there
    c.index-told-lane.is at in
    (λ i. entries_in (c.items.ensures i) (c.deref.ensures.value i))
    ∙ is.entries
    ∙ sym (entries-get (notes_in logs) logs c.args.lane log c.requires.there at)

pub returns-clause-as_many : goal.returns-clause-as_many
returns-clause-as_many c =
    let logs = c.args.logs.now in
    let log = get_or logs c.args.lane c.index-logs-lane.result in
    let at : log ≡ get_or logs c.args.lane log = ap (get_or logs c.args.lane) c.index-logs-lane.is in
    let told = c.index-told-lane.result in
    let is : IsToldOf (notes_in logs) told log =
    told-get (notes_in logs) c.args.told.now logs c.args.lane told log c.requires.told c.requires.there
    c.index-told-lane.is at in
    ap length c.deref.ensures.value ∙ is.as_many ∙ sym (ap length c.items.ensures)
