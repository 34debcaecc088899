use Rattle.std.proofs.Common.{◌≡◌, length, rules}
use Rattle.run_text.proofs.MakeLemmas.{not_empty}
use Rattle.run_text.proofs.making.have_notes.Goals as goal

pub returns-then-is_empty : goal.returns-then-is_empty
returns-then-is_empty c all =
    let none : length c.log-item.result.items ≡ 0 = search (rules) in
    absurd (not_empty c.args.logs.now c.loop-log.log-index _ c.log-item.result all c.loop-log-test.true
    c.log-item.is none)
