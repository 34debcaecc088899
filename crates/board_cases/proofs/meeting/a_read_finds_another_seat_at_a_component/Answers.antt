use Rattle.std.proofs.Common.{[], ◌∷◌, refl}
use Rattle.shared_pool.specs.SeatViews.{view_of}
use Rattle.seat_work.proofs.Trials.{room_kept}
use Rattle.board_cases.proofs.Texts.{counts_less, counts_more}
use Rattle.board_cases.proofs.meeting.a_read_finds_another_seat_at_a_component.Goals as goal

pub post-requires-clause-room : goal.post-requires-clause-room
post-requires-clause-room g c =
    let opened = c.in_ok-pool in let pool = opened.field-0.pool in let mid = view_of c.filled-small.new.seat in
    room_kept pool 1 mid (view_of c.retain.new.seat)
    (room_kept pool 1 (view_of opened.field-0.first) mid opened.ensures.room c.filled-small.ensures.proceeds.sends)
    c.retain.ensures.proceeds.sends

pub core_before-requires-clause-counted : goal.core_before-requires-clause-counted
core_before-requires-clause-counted g c =
    let small = c.filled-small.result in let mid = view_of c.filled-small.new.seat in
    let last = view_of c.retain.new.seat in
    let one = counts_more small [] (view_of c.in_ok-pool.field-0.first) mid c.filled-small.ensures.proceeds.changes
    c.in_ok-pool.ensures.emptied.0.counted in
    let two = counts_more small (small ∷ []) mid last c.retain.ensures.proceeds.changes one in
    counts_less _ small (small ∷ []) last (view_of c.post.new.seat) refl refl c.post.ensures.changes two
