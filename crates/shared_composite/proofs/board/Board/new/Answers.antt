use Rattle.std.proofs.Common.{◌++◌, length, arith, ap, ◌∙◌}
use Rattle.shared_composite.specs.Homes.{cores_in}
use Rattle.shared_composite.proofs.Boxes.{boxed_cores, boxed_length}
use Rattle.shared_composite.proofs.BoardCalls.{homes_stand, made_of}
use Rattle.shared_composite.proofs.board.Board.new.Goals as goal

pub new-requires : goal.new-requires
new-requires g c =
    let cores = c.args.cores.items in let slots = c.in-Ok-boxed.slots.items in let boxed = c.in-Ok-boxed.ensures.ok.0 in
    let long = boxed_length cores slots boxed in let some = c.requires.0 in let asks = c.requires.1 in
    record {
      some = omega (arith, long, some);
      many = let many = asks.0 in omega (arith, long, many);
      moves = asks.1.0;
      turns = asks.1.1.0;
      homes = homes_stand g.pool c.args.turns cores slots boxed asks.1.1.1;
    }

pub unboxed-requires-in-Err-new : goal.unboxed-requires-in-Err-new
unboxed-requires-in-Err-new g c =
    let cores = c.args.cores.items in let slots = c.in-Ok-boxed.slots.items in let ok = c.in-Ok-boxed.ensures.ok in
    let none = ap (λ l. length l) ok.1 in
    let few = ap (λ l. length l) (ap cores_in c.in-Err-new.ensures.err ∙ boxed_cores cores slots ok.0) in
    let room = c.in-Ok-boxed.ensures.room in omega (arith, none, few, room)

pub returns-in-Ok-new-clause-made : goal.returns-in-Ok-new-clause-made
returns-in-Ok-new-clause-made g c =
    made_of _ g.pool c.args.turns c.args.cores.items c.in-Ok-boxed.slots.items c.in-Ok-boxed.ensures.ok.0
    c.in-Ok-new.ensures.origin c.in-Ok-new.ensures.turns c.in-Ok-new.ensures.composites

pub returns-in-Err-new-clause-err : goal.returns-in-Err-new-clause-err
returns-in-Err-new-clause-err g c =
    let ok = c.in-Ok-boxed.ensures.ok in
    c.unboxed-in-Err-new.ensures
    ∙ (ap (λ l. l ++ cores_in c.in-Err-new.slots.items) ok.1
    ∙ (ap cores_in c.in-Err-new.ensures.err ∙ boxed_cores c.args.cores.items c.in-Ok-boxed.slots.items ok.0))
