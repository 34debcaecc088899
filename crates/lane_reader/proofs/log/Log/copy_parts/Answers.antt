use Rattle.std.proofs.Common.{sym, arith, ◌∙◌, rules}
use Rattle.lane_reader.specs.Reading.{log_from}
use Rattle.lane_reader.proofs.PartLemmas.{copied-on}
use Rattle.lane_reader.proofs.log.Log.copy_parts.Goals as goal

pub returns-in_err-here : goal.returns-in_err-here
returns-in_err-here c before =
    let log = log_from before c.args.self.now c.loop-part.here in
    rw c.from_residual.ensures
    (sym (c.loop-part.invariant.reads before)
    ∙ copied-on c.args.parts.now c.loop-part.part-index c.part-item.result (search rules) c.part-item.is
    c.args.root.now c.loop-part.index log _ (c.in_err-here.ensures before))

pub loop-part-preserved : goal.loop-part-preserved
loop-part-preserved c = record {
  within = omega (arith, c.from-index.ensures, c.part-item.result.within, c.loop-part.invariant.within);
  reads = λ before.
      let log = log_from before c.args.self.now c.loop-part.here in
      rw c.from-index.ensures
      (sym
      (copied-on c.args.parts.now c.loop-part.part-index c.part-item.result (search rules) c.part-item.is
      c.args.root.now c.loop-part.index log _ (c.in_ok-here.ensures before))
      ∙ c.loop-part.invariant.reads before);
}
