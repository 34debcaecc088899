use Rattle.std.proofs.Common.{refl, sym, subst}
use Rattle.nest_run.specs.declared.calls.Call.TheVariants.{Slice}
use Rattle.nest_run.specs.declared.replies.Reply.{Reply}
use Rattle.nest_run.specs.declared.views.Playing.{Playing}
use Rattle.nest_run.specs.Standing.{IsPlayed}
use Rattle.nest_run.proofs.PlayLaws.{slice_played}
use Rattle.nest_run.proofs.RefusalLaws.{slice_may, slice_refused}
use Rattle.nest_run.proofs.views.Playing.slice.Goals as goal

pub refused-requires : goal.refused-requires
refused-requires c =
    slice_may c.args.pool.now c.args.self.now c.requires c.args.of c.args.at c.args.len c.in-Err.no
    c.in-Err.ensures.answers

pub returns-in-Ok : goal.returns-in-Ok
returns-in-Ok c =
    let old : Playing = c.args.self.now in let e = c.in-Ok.ensures in
    let new : Playing = record { seat = c.slice.new.seat; nest = c.slice.new.self; root = old.root } in
    slice_played c.args.pool.now old new c.requires e.seat e.counts refl c.args.of c.args.at c.args.len c.in-Ok.number
    e.answers e.number e.sliced e.retained

pub returns-in-Err : goal.returns-in-Err
returns-in-Err c =
    let old : Playing = c.args.self.now in let e = c.in-Err.ensures in let pool = c.args.pool.now in
    let new : Playing = record { seat = c.slice.new.seat; nest = c.slice.new.self; root = old.root } in
    subst (λ (r : Reply). IsPlayed pool (Slice c.args.of c.args.at c.args.len) old r new) (sym c.refused.ensures)
    (slice_refused pool old c.requires new c.args.of c.args.at c.args.len c.in-Err.no
    (λ i. record { seat = e.unchanged.1 i; nest = e.unchanged.0 i; root = old.root }) e.answers)
