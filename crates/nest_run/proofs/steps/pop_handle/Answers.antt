use Rattle.std.specs.Prelude.{unwrap_or}
use Rattle.std.proofs.lemmas.Option.{IfSome_then}
use Rattle.pool_law.specs.declared.note.Object.TheVariants.{Bin}
use Rattle.shared_pool.specs.Notes.{plain, popped}
use Rattle.seat_work.proofs.Accesses.{noted_same}
use Rattle.nest_run.proofs.steps.pop_handle.Goals as goal

pub returns-in-Did-clause-did : goal.returns-in-Did-clause-did
returns-in-Did-clause-did g c =
    let did = c.in-Did in (
      did._number,
      noted_same c.args.pool.now c.args.seat.now c.loop.seat c.pop_handle.new.seat did._number
          (λ v. Bin (unwrap_or v.own.number 0)) (plain (popped did.handle)) c.loop.invariant.1 did.ensures.did,
    )

pub returns-in-Did-clause-handle : goal.returns-in-Did-clause-handle
returns-in-Did-clause-handle g c = IfSome_then c.in-Did.handle c.in-Did.ensures.handle (λ h holds. holds.0)
