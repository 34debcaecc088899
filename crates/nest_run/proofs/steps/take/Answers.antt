use Rattle.std.proofs.Common.{◌%◌}
use Rattle.std.specs.Prelude.{unwrap_or}
use Rattle.std.proofs.lemmas.Option.{IfSome_then}
use Rattle.pool_arena.specs.Standing.{taken_or_full}
use Rattle.pool_law.specs.declared.note.Object.TheVariants.{Arena}
use Rattle.shared_pool.specs.Notes.{plain}
use Rattle.seat_work.proofs.Accesses.{noted_same}
use Rattle.nest_run.proofs.steps.take.Goals as goal

pub returns-in-Did-clause-did : goal.returns-in-Did-clause-did
returns-in-Did-clause-did g c =
    let did = c.in-Did in let pool = c.args.pool.now in (
      did._number,
      noted_same pool c.args.seat.now c.loop.seat c.take.new.seat did._number
          (λ v. Arena (unwrap_or v.own.number 0 % pool.table.layout.shape.arenas))
          (plain (taken_or_full c.args.class did.region)) c.loop.invariant.1 did.ensures.did,
    )

pub returns-in-Did-clause-region : goal.returns-in-Did-clause-region
returns-in-Did-clause-region g c =
    IfSome_then c.in-Did.region c.in-Did.ensures.region (λ r holds. (holds.0, holds.2))
