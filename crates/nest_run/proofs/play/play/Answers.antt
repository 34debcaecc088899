use Rattle.std.proofs.Common.{◌≡◌, [], ◌∷◌, ◌++◌, List, Some, sym, ap, ◌∙◌, subst}
use Rattle.std.specs.Prelude.{Option, IfSome}
use Rattle.shared_pool.specs.Closing.{AreWhole}
use Rattle.shared_pool.specs.Seated.{AreDone, parts_in}
use Rattle.nest_run.specs.declared.play.Played.{Played}
use Rattle.nest_run.specs.Standing.{HasPlayed}
use Rattle.nest_run.proofs.CloseLaws.{one_done, closed_right}
use Rattle.nest_run.proofs.play.play.Goals as goal

pub close-requires : goal.close-requires
close-requires g c =
    let pool = c.in_ok-pool.pool in let call = c.play_in-seat in let seat = call.result.0 in
    let items = c.push_reserved.ensures.items ∙ ap (λ xs. xs ++ seat ∷ []) c.in_ok-pool.ensures.spare.0 in
    let has = subst (λ (o : Option Played). IfSome o (λ played. HasPlayed pool c.args.input.now played seat))
    c.in-Some.is call.ensures.played in
    record {
      seats = subst (λ xs. AreDone pool xs) (sym items)
          (one_done pool c.in_ok-pool.ensures.layout seat has.works);
    }

pub returns-in-Ok : goal.returns-in-Ok
returns-in-Ok g c =
    let pool = c.in_ok-pool.pool in let call = c.play_in-seat in let seat = call.result.0 in
    let items = c.push_reserved.ensures.items ∙ ap (λ xs. xs ++ seat ∷ []) c.in_ok-pool.ensures.spare.0 in
    let has = subst (λ (o : Option Played). IfSome o (λ played. HasPlayed pool c.args.input.now played seat))
    c.in-Some.is call.ensures.played in
    closed_right pool pool.table.layout.shape c.args.input.now c.in-Some.played seat has
    (subst (λ xs. AreWhole pool.table.layout.shape (parts_in xs)) items c.in-Ok.ensures.whole)
