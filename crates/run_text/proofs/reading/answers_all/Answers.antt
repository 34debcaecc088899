use Rattle.std.proofs.Common.{◌≡◌, ◌<◌, length, sym, ap, ◌∙◌, arith}
use Rattle.pool_law.specs.declared.run.LaneLog.{LaneLog}
use Rattle.run_text.proofs.DerivedLemmas.{reply-count}
use Rattle.run_text.proofs.reading.answers_all.Goals as goal

pub returns-then-items : goal.returns-then-items
returns-then-items c = (
  λ yes. absurd (cc yes),
  λ all.
      let i = c.loop-at.at in
      let low : i < length c.args.lanes.now = omega arith in
      let below : i < length c.args.logs.now = omega arith in
      let same = reply-count c.args.logs.now c.args.lanes.now i c.index-logs-at.result c.index-lanes-at.result all low
      below c.index-lanes-at.is c.index-logs-at.is in
      let off : length c.items.result.now ≡ length c.items-in-loop-at.result.now =
      ap length c.items.ensures ∙ same
      ∙ ap (λ (l : LaneLog). length l.replies) c.index-logs-at.is ∙ sym (ap length c.items-in-loop-at.ensures) in
      absurd (omega arith),
)
