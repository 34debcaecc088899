use Rattle.std.proofs.Common.{◌<◌, ℕ, sym, subst, ◌∙◌}
use Rattle.std.specs.Mem.Slots.{slots_items}
use Rattle.board_table.proofs.Closings.{closes}
use Rattle.board_table.proofs.table.BoardTable.close.Goals as goal

pub returns : goal.returns
returns g c =
    let t = c.args.self in let s = c.args.seat.seat in let closed = c.close_with-closed.result in
    closes g.H.Homed.stands g.H.Homed.left t.table.shared.key s.id s.me.0 (slots_items closed.words)
    (slots_items closed.slots) c.take_homes-slots.result.items c.requires.all c.requires.outside.0
    c.close_with-closed.ensures.values.2 (c.take_homes-slots.ensures.many ∙ sym t.key)
    (λ k lt. c.take_homes-slots.ensures.laid k (subst (λ (n : ℕ). k < n) t.key lt))
