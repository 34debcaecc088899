use Rattle.std.proofs.Common.{◌≡◌, ◌+◌, length, arith}
use Rattle.frame_cut.proofs.ListSteps.{none_left, taken_off}
use Rattle.frame_cut.proofs.OpenLaws.{is_open}
use Rattle.frame_cut.proofs.openings.open.Goals as goal

pub returns-in-Ok : goal.returns-in-Ok
returns-in-Ok c =
    let w = c.args.options.workers in let room = c.room_for-room.result in
    let seats = c.in-Ok.seats in let lines = c.in_ok-lines.lines in
    let new = c.in-Ok.ensures in let h = c.new_workers-workers.ensures in let r = c.remove-seat.ensures in
    let least = c.requires.workers.least in
    let many : length seats.items ≡ w + 1 = new.opened.many in
    let own_at = taken_off seats.items c.new_workers-workers.new.seats.items w c.remove-seat.result h.left
    (let a = many in omega (arith, a)) r.value in
    is_open w room _ seats.items c.remove-seat.result lines.senders.items lines.receivers.items
    c.in_ok-rooms.rooms.items c.in_ok-rooms.ensures c.args.options.block
    c.in_ok-class.class (omega (arith, least)) new c.in_ok-lines.ensures h.ready own_at
    c.new_cutter-cutter.ensures
    (let a = c.requires.block.least in omega (arith, a)) c.requires.block.greatest c.in_ok-class.ensures (
      none_left seats.items w c.new_workers-workers.new.seats.items c.remove-seat.new.self.items many h.left
          r.by_index.2,
      (let a = r.capacity in let b = h.room in let d = seats.ok.0 in let e = seats.ok.1 in
          omega (arith, a, b, d, e, many)),
    ) (c.in_ok-told.ensures.items, c.in_ok-told.ensures.capacity)
