use Rattle.lane_stages.specs.declared.stepped.Stepped.TheVariants.{Went, Pending}
use Rattle.share_run.proofs.CloseLaws.{ending_first, ending_on}
use Rattle.share_run.proofs.closing.finish.Goals as goal

pub loop-init : goal.loop-init
loop-init g c = ending_first c.args.pool.now c.args.lane c.args.parts.now c.args.core c.requires

pub loop-preserved-in-Went : goal.loop-preserved-in-Went
loop-preserved-in-Went g c =
    ending_on c.args.pool.now c.args.lane c.args.parts.now c.loop.core c.step.new.self Went c.loop.invariant
    c.step.ensures.core c.in-Went.ensures.stepped

pub loop-preserved-in-Pending : goal.loop-preserved-in-Pending
loop-preserved-in-Pending g c =
    ending_on c.args.pool.now c.args.lane c.args.parts.now c.loop.core c.step.new.self (Pending c.in-Pending._held)
    c.loop.invariant c.step.ensures.core c.in-Pending.ensures.stepped
