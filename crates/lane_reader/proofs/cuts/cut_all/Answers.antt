use Rattle.std.proofs.Common.{rules, ◌≡◌, ◌-◌, ℕ, List, length, take, drop, sym, subst, subst₂, arith, length-drop}
use Rattle.std.proofs.lemmas.List.Elements.{All-take}
use Rattle.std.proofs.lemmas.List.{length-take, take_all}
use Rattle.pool_law.specs.declared.command.Command.{Command}
use Rattle.pool_law.specs.declared.run.Reply.{Reply}
use Rattle.lane_reader.specs.Candidates.{HasFewNames}
use Rattle.lane_reader.specs.Cutting.{AreCut, AreNoteCounts}
use Rattle.lane_reader.specs.Reading.{entries}
use Rattle.lane_reader.specs.Running.{HasStopped}
use Rattle.lane_reader.proofs.JoinLemmas.{cut-early, cut-late}
use Rattle.lane_reader.proofs.cuts.cut_all.Goals as goal

pub cut_running-requires-clause-names : goal.cut_running-requires-clause-names
cut_running-requires-clause-names c =
    All-take HasFewNames c.before_stopped-stop.result c.args.commands.now c.requires.names

pub returns-then-len-stop : goal.returns-then-len-stop
returns-then-len-stop c =
    let setting = c.args.setting.now in
    let size : c.len.result ≡ length c.in_ok-counts.counts.items = search rules in
    cut-early setting.shape.now setting.lane c.args.commands.now c.args.replies.now (entries c.args.log.now)
    c.requires.as_many c.before_stopped-stop.result c.before_stopped-stop.ensures.stop
    c.before_stopped-stop.ensures.within c.in_ok-counts.counts.items c.in_ok-counts.ensures.0
    (omega (arith, size, c.if-len-stop.true))

pub returns : goal.returns
returns c =
    let setting = c.args.setting.now in
    let cs = c.args.commands.now in
    let rs = c.args.replies.now in
    let es = entries c.args.log.now in
    let stop = c.before_stopped-stop.result in
    let counts = c.in_ok-counts.counts.items in
    let more = c.in_ok-behind.behind.items in
    let first = c.in_ok-counts.ensures.0 in
    let size : c.len.result ≡ length c.in_ok-counts.counts.items = search rules in
    let whole : length counts ≡ stop =
    omega (arith, size, c.if-len-stop.false, first.within, length-take stop cs) in
    let left = entries c.in_ok-counts.rest in
    let commands : take (length cs - stop) (drop stop cs) ≡ drop stop cs =
    take_all (length cs - stop) (drop stop cs) (omega (arith, length-drop stop cs)) in
    let replies : take (length rs - stop) (drop stop rs) ≡ drop stop rs =
    take_all (length rs - stop) (drop stop rs) (omega (arith, length-drop stop rs)) in
    let behind : AreCut (HasStopped setting.lane) (drop stop cs) (drop stop rs) left more =
    subst₂ (λ (bs : List Command) (qs : List Reply). AreCut (HasStopped setting.lane) bs qs left more) commands replies
    c.in_ok-behind.ensures in
    subst (λ (ns : List ℕ). AreNoteCounts setting.shape.now setting.lane cs rs es ns)
    (sym c.in_ok-append.ensures.items)
    (cut-late setting.shape.now setting.lane cs rs es c.requires.as_many stop c.before_stopped-stop.ensures.stop
    c.before_stopped-stop.ensures.within counts first whole left c.in_ok-counts.ensures.1 more behind)
