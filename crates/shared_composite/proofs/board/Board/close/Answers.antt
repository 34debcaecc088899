use Rattle.std.proofs.Common.{◌++◌, length, arith, ap, ◌∙◌, subst}
use Rattle.board_table.specs.declared.table.BoardSeat.{BoardSeat as TableSeat}
use Rattle.board_table.specs.Seats as table
use Rattle.shared_composite.specs.declared.home.Home.{Home}
use Rattle.shared_composite.specs.Homes.{cores_in}
use Rattle.shared_composite.specs.Boards.{AreLeft}
use Rattle.shared_composite.proofs.BoardCalls.{few_cores, closes_left}
use Rattle.shared_composite.proofs.board.Board.close.Goals as goal

pub unboxed-requires : goal.unboxed-requires
unboxed-requires c =
    let slots = c.close-slots.result.items in let few = few_cores slots in let many = c.close-slots.ensures.many in
    let key = c.args.self.table.key in let none = ap (λ l. length l) c.args.self.room_for_cores.0 in
    let room = c.args.self.room_for_cores.1 in omega (arith, few, many, key, none, room)

pub returns : goal.returns
returns c =
    let slots = c.close-slots.result.items in let cores = c.unboxed.new.cores.items in
    subst (λ (s : TableSeat Home). AreLeft c.args.self (table.view_of s) cores) c.into_seat.ensures
    (closes_left c.args.self (table.view_of c.into_seat.result) slots cores c.close-slots.ensures
    (c.unboxed.ensures ∙ ap (λ l. l ++ cores_in slots) c.args.self.room_for_cores.0))
