use Rattle.std.proofs.Common.{refl, sym, subst, length, arith}
use Rattle.counted_view.specs.Nests.{held_view}
use Rattle.nest_run.specs.declared.calls.Call.TheVariants.{Set}
use Rattle.nest_run.specs.declared.replies.Reply.{Reply}
use Rattle.nest_run.specs.declared.views.Playing.{Playing}
use Rattle.nest_run.specs.Standing.{IsPlayed}
use Rattle.shared_pool.specs.SeatViews.{view_of}
use Rattle.seat_work.proofs.Knowing.{knows_born}
use Rattle.nest_run.proofs.AccessLaws.{found_inside, may_access, may_work, set_played}
use Rattle.nest_run.proofs.RefusalLaws.{longer_refused, set_refused}
use Rattle.nest_run.proofs.StepLaws.{range_not_full}
use Rattle.nest_run.proofs.views.Playing.set.Goals as goal

pub refused-requires : goal.refused-requires
refused-requires g c =
    range_not_full (held_view c.args.self.now.nest c.args.of) c.args.at c.count.result c.in-Err.no
    c.in-Err.ensures.answers

pub set-requires-clause-works : goal.set-requires-clause-works
set-requires-clause-works g c = may_work c.args.pool.now c.args.self.now c.requires

pub set-requires-clause-counts : goal.set-requires-clause-counts
set-requires-clause-counts g c = may_access c.args.pool.now c.args.self.now c.requires c.in-Ok.ensures.counts

pub set-requires-clause-range : goal.set-requires-clause-range
set-requires-clause-range g c =
    let e = c.in-Ok.ensures in
    let whole = found_inside c.args.pool.now c.args.self.now c.requires c.args.of c.args.at c.count.result
    c.in-Ok.offset c.in-Ok._len (length c.args.bytes.now) e.answers e.range e.inside c.count.ensures in
    let inside = whole.1 in
    let born = knows_born (view_of c.args.self.now.seat) c.args.self.now.root in omega (arith, inside, born)

pub returns-in-Ok : goal.returns-in-Ok
returns-in-Ok g c =
    let old : Playing = c.args.self.now in let e = c.in-Ok.ensures in let pool = c.args.pool.now in
    let new : Playing = record { seat = c.set.new.seat; nest = old.nest; root = old.root } in
    let whole = found_inside pool old c.requires c.args.of c.args.at c.count.result c.in-Ok.offset c.in-Ok._len
    (length c.args.bytes.now) e.answers e.range e.inside c.count.ensures in
    set_played pool old new c.requires refl refl c.set.ensures.proceeds c.args.of c.args.at c.count.result
    c.in-Ok.offset c.in-Ok._len c.args.bytes.now c.set.ensures.noted e.answers e.range whole.0

pub returns-in-Err : goal.returns-in-Err
returns-in-Err g c =
    let old : Playing = c.args.self.now in let pool = c.args.pool.now in let no = c.in-Err.no in
    let short = c.count.ensures in
    subst (λ (r : Reply). IsPlayed pool (Set c.args.of c.args.at c.args.bytes.now) old r old) (sym c.refused.ensures)
    (set_refused pool old old c.args.of c.args.at c.args.bytes.now no refl
    (longer_refused (held_view old.nest c.args.of) c.args.at c.count.result (length c.args.bytes.now) no
    (omega (arith, short)) c.in-Err.ensures.answers))
