use Rattle.std.proofs.Common.{rules, ◌≡◌, ◌<◌, length, sym, ◌∙◌}
use Rattle.std.proofs.lemmas.Bool.{false≢true}
use Rattle.run_check.proofs.LeakLemmas.{record-more, record-at}
use Rattle.run_check.proofs.records.are_records.Goals as goal

pub returns-then-not-is_record : goal.returns-then-not-is_record
returns-then-not-is_record c =
    let records = c.args.records.now in
    let dones = c.args.dones.now in
    let within : c.loop-at.at < length records = search rules in
    let as_many : length records ≡ length dones = c.if-records-dones.false in (
      λ e. absurd (cc e),
      λ all.
          absurd (false≢true (sym c.if-not-is_record.true ∙ c.is_record.ensures.1
          (record-at records dones c.loop-at.at _ c.index-dones-at.result as_many within c.index-dones-at.is all))),
    )

pub loop-at-preserved : goal.loop-at-preserved
loop-at-preserved c =
    let records = c.args.records.now in
    let dones = c.args.dones.now in
    let within : c.loop-at.at < length records = search rules in
    let as_many : length records ≡ length dones = c.if-records-dones.false in
    record-more records dones c.loop-at.at _ c.index-dones-at.result as_many within c.index-dones-at.is
    c.loop-at.invariant (c.is_record.ensures.0 c.if-not-is_record.false)
