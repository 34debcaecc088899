use Rattle.std.proofs.Common.{refl, sym, subst}
use Rattle.nest_run.specs.declared.calls.Call.TheVariants.{Retain}
use Rattle.nest_run.specs.declared.replies.Reply.{Reply}
use Rattle.nest_run.specs.declared.views.Playing.{Playing}
use Rattle.nest_run.specs.Standing.{IsPlayed}
use Rattle.nest_run.proofs.PlayLaws.{retain_played}
use Rattle.nest_run.proofs.RefusalLaws.{retain_may, retain_refused}
use Rattle.nest_run.proofs.views.Playing.retain.Goals as goal

pub refused-requires : goal.refused-requires
refused-requires c =
    retain_may c.args.pool.now c.args.self.now c.requires c.args.of c.in-Err.no c.in-Err.ensures.answers

pub returns-in-Ok : goal.returns-in-Ok
returns-in-Ok c =
    let old : Playing = c.args.self.now in let e = c.in-Ok.ensures in
    let new : Playing = record { seat = c.retain.new.seat; nest = c.retain.new.self; root = old.root } in
    retain_played c.args.pool.now old new c.requires e.seat e.counts refl c.args.of e.answers e.held e.retained

pub returns-in-Err : goal.returns-in-Err
returns-in-Err c =
    let old : Playing = c.args.self.now in let e = c.in-Err.ensures in let pool = c.args.pool.now in
    let new : Playing = record { seat = c.retain.new.seat; nest = c.retain.new.self; root = old.root } in
    subst (λ (r : Reply). IsPlayed pool (Retain c.args.of) old r new) (sym c.refused.ensures)
    (retain_refused pool old c.requires new c.args.of c.in-Err.no
    (λ i. record { seat = e.unchanged.1 i; nest = e.unchanged.0 i; root = old.root }) e.answers)
