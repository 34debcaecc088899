use Rattle.std.proofs.Common.{[], ◌∷◌, arith}
use Rattle.shared_pool.specs.SeatViews.{view_of}
use Rattle.seat_work.specs.Hands.{empty_hand}
use Rattle.seat_work.proofs.Proceeding.{works_after}
use Rattle.board_cases.proofs.Texts.{counts_more, fits, made_text}
use Rattle.board_cases.proofs.cores.core_before.Goals as goal

pub new-requires-clause-fit : goal.new-requires-clause-fit
new-requires-clause-fit g c =
    let pool = c.args.pool.now in let large = c.filled-large.result in let small = c.args.small in
    let mid = c.filled-large.new.seat in let last = c.retain.new.seat in
    let works = works_after pool empty_hand empty_hand 9007 1 7 0 9000 1 c.args.seat mid c.requires.works
    c.filled-large.ensures.proceeds.goes (omega arith) (omega arith) in
    let then = works_after pool empty_hand empty_hand 9000 1 0 1 9000 0 mid last works c.retain.ensures.proceeds.goes
    (omega arith) (omega arith) in
    let one = counts_more large (small ∷ []) (view_of c.args.seat) (view_of mid) c.filled-large.ensures.proceeds.changes
    c.requires.counted in
    let two = counts_more large (large ∷ small ∷ []) (view_of mid) (view_of last) c.retain.ensures.proceeds.changes one
    in (
      pool,
      fits pool last large small 9000 0 c.in-Ok.composite then two c.filled-large.ensures.capacity c.requires.capacity
          c.in-Ok.ensures,
    )

pub returns : goal.returns
returns g c =
    let pool = c.args.pool.now in let large = c.filled-large.result in let small = c.args.small in
    let mid = c.filled-large.new.seat in let last = c.retain.new.seat in
    let works = works_after pool empty_hand empty_hand 9007 1 7 0 9000 1 c.args.seat mid c.requires.works
    c.filled-large.ensures.proceeds.goes (omega arith) (omega arith) in
    let then = works_after pool empty_hand empty_hand 9000 1 0 1 9000 0 mid last works c.retain.ensures.proceeds.goes
    (omega arith) (omega arith) in
    let one = counts_more large (small ∷ []) (view_of c.args.seat) (view_of mid) c.filled-large.ensures.proceeds.changes
    c.requires.counted in
    let two = counts_more large (large ∷ small ∷ []) (view_of mid) (view_of last) c.retain.ensures.proceeds.changes one
    in
    let fit = fits pool last large small 9000 0 c.in-Ok.composite then two c.filled-large.ensures.capacity
    c.requires.capacity c.in-Ok.ensures in
    made_text pool last c.in-Ok.composite c.new.result large small c.in-Ok.ensures c.new.ensures.seat
    c.new.ensures.parts (c.new.ensures.core pool fit) then.turns_left
