use Rattle.std.proofs.Common.{List, length, sym, subst}
use Rattle.nest_run.specs.declared.calls.Call.{Call}
use Rattle.nest_run.specs.declared.views.Playing.{Playing}
use Rattle.nest_run.specs.Standing.{Stands}
use Rattle.nest_run.proofs.OpenLaws.{stands_first}
use Rattle.nest_run.proofs.play.play_in.Goals as goal

pub play_all-replies-requires : goal.play_all-replies-requires
play_all-replies-requires g c =
    let p : Playing = record { seat = c.bear.new.seat; nest = c.in-Ok.nest; root = c.in-Some.root } in
    let pool = c.args.pool.now in let input = c.args.input.now in
    subst (λ (cs : List Call). Stands pool (length cs) p) (sym c.items.ensures)
    (stands_first pool input.capacity (length input.calls) p c.in-Some.ensures.born c.in-Ok.ensures
    c.requires.input.capacity c.requires.input.calls)
