use Rattle.std.proofs.Common.{ℕ, ◌-◌, refl, length, sym, ap, ◌∙◌, rules}
use Rattle.lane_reader.specs.Reading.{log_from}
use Rattle.lane_reader.proofs.PartLemmas.{set-on}
use Rattle.lane_reader.proofs.log.Log.set_parts.Goals as goal

pub loop-part-preserved : goal.loop-part-preserved
loop-part-preserved c before =
    let log = log_from before c.args.self.now c.loop-part.here in
    let rest = c.loop-part.rest.now in
    let further = c.saturating_sub-skip.ensures ∙ ap (λ (n : ℕ). c.loop-part.skip - n) c.from.ensures in
    sym
    (set-on c.args.parts.now c.loop-part.part-index c.part-item.result (search rules) c.part-item.is
    c.loop-part.skip (length rest) c.cut-cut.result c.cut-cut.ensures
    rest _ _ log _ refl further c.split_at.ensures.back (c.in_ok-here.ensures before))
    ∙ c.loop-part.invariant before
