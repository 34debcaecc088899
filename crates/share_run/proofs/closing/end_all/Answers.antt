use Rattle.std.proofs.Common.{◌≡◌, ℕ, ◌+◌, ◌++◌, List, [], ◌∷◌, length, map, take, get_or, sym, ap, ◌∙◌, subst, arith}
use Rattle.std.proofs.lemmas.List.{map-append, take_more}
use Rattle.shared_pool.specs.declared.seat.PoolSeat.{PoolSeat}
use Rattle.shared_composite.specs.Boards.{view_of}
use Rattle.share_run.specs.Standing.{IsCoreOf}
use Rattle.share_run.proofs.CloseLaws.{SpentTo, none_are_left, spent_more, spent_seat}
use Rattle.share_run.proofs.PartLaws.{get_same}
use Rattle.share_run.proofs.closing.end_all.Goals as goal

pub finish-core-requires : goal.finish-core-requires
finish-core-requires g c =
    let k = c.loop-k.k in let composites = c.args.composites.now in
    let inputs = c.items.ensures ∙ c.index-composites-k.is
    ∙ get_same composites k c.index-composites-k.result [] c.loop-k-test.true in
    subst (λ (xs : List (List ℕ)). IsCoreOf c.args.pool.now k xs c.end-core.result) (sym inputs)
    (c.requires.board.cores k c.end-core.result c.end-core.ensures.core)

pub loop-k-preserved : goal.loop-k-preserved
loop-k-preserved g c =
    let l = c.loop-k in let inv = l.invariant in let k = l.k in let composites = c.args.composites.now in
    let pool = c.args.pool.now in let f = c.finish-core.ensures in let core = c.finish-core.result in
    let e = c.push_reserved.ensures in let s = c.push_reserved-in-loop-k.ensures in
    let inputs = c.items.ensures ∙ c.index-composites-k.is
    ∙ get_same composites k c.index-composites-k.result [] c.loop-k-test.true in
    let count : c.released.result ≡ length (get_or composites k []) =
    c.released.ensures ∙ f.released ∙ ap (λ (xs : List (List ℕ)). length xs) inputs in
    record {
      chief = c.end-core.ensures.chief;
      spent = c.end-core.ensures.spent ∙ inv.spent;
      seats =
          subst (λ (ss : List PoolSeat). SpentTo pool (k + 1) ss) (sym s.items)
          (spent_more pool k l.seats.items c.into_seat.result inv.seats
          (spent_seat pool k c.items.result.now core c.into_seat.result f.core c.into_seat.ensures.seat
          (c.into_seat.ensures.emptied pool f.core.underway)));
      room = (let a = inv.room in let b = s.capacity in omega (arith, a, b));
      released =
          e.items
          ∙ (λ i. inv.released i ++ count i ∷ [])
          ∙ sym (map-append (λ (x : List (List ℕ)). length x) (take k composites) (get_or composites k [] ∷ []))
          ∙ ap (map (λ (x : List (List ℕ)). length x)) (sym (take_more composites k [] c.loop-k-test.true));
      more = (let a = inv.more in let b = e.capacity in omega (arith, a, b));
    }

pub destroy_empty-requires : goal.destroy_empty-requires
destroy_empty-requires g c =
    let l = c.loop-k in
    let all : length c.args.composites.now ≡ l.k =
    (let a = c.loop-k-test.false in let b = l.auto.k-end in omega (arith, a, b)) in
    let none = none_are_left c.args.board (view_of l.chief) (length c.args.composites.now) l.k c.close.result.items all
    c.requires.board.many l.invariant.chief.took c.close.ensures in
    let a = ap (λ v. length v) none in let b = c.close.result.ok.0 in omega (arith, a, b)
