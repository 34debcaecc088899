use Rattle.std.proofs.Common.{◌≡◌, ◌+◌, ◌<◌, ◌≤◌, [], ◌∷◌, ◌++◌, length, sym, ap, subst, arith, length-append, ◌∙◌}
use Rattle.std.specs.Prelude.{All, map, remove, vec_capacity}
use Rattle.std.proofs.lemmas.List.Edits.{length-remove}
use Rattle.lane_core.specs.declared.lane.Lane.{Lane}
use Rattle.lane_core.specs.Lanes.{IsFinished}
use Rattle.lane_core.specs.Played.{HasRoom, HasSpare, log_written}
use Rattle.lane_core.proofs.PlayedLists.{moved-first, All-first, All-rest}
use Rattle.lane_core.proofs.PlayedRoom.{log-is}
use Rattle.lane_core.proofs.played.part.Goals as goal

pub loop-init : goal.loop-init
loop-init c =
    let lanes = c.args.lanes.items in let x = c.remove.result in let rest = c.remove.new.self.items in
    let value = c.remove.ensures.value in let is = c.remove.ensures.items in
    let some : 0 < length lanes = c.requires.some_lane in
    let more : length (remove lanes 0) + 1 ≡ length lanes = length-remove lanes 0 some in
    let same : length rest ≡ length (remove lanes 0) = ap length is in
    let enough : length lanes ≡ length rest + 1 = omega (arith, more, same) in
    let spare : length lanes ≤ vec_capacity x.spare.seats =
    All-first (HasSpare (length lanes)) lanes x some value c.requires.spare in
    let kept : vec_capacity c.into_seats-seats.result ≡ vec_capacity x.spare.seats =
    ap vec_capacity (c.into_seats-seats.ensures.is ∙ ap (λ s. s.seats) c.into_parts-commands.ensures.spare) in
    let none : length c.into_seats-seats.result.items ≡ 0 = ap length c.into_seats-seats.ensures.empty in
    let grown : length c.keep.new.seats.items ≡ length c.into_seats-seats.result.items + 1 =
    ap length c.keep.ensures.seats ∙ length-append c.into_seats-seats.result.items
    (c.into_parts-commands.result.2 ∷ []) in
    record {
      many = omega (arith, c.len-count.ensures, c.remove.new.self.ok.0);
      finished = subst (All IsFinished) (sym is) (All-rest IsFinished lanes c.requires.finished);
      room = c.keep.ensures.room (length rest) (subst (λ n. HasRoom n c.args.parted) enough c.requires.room);
      seat_room = omega (arith, enough, spare, kept, none, grown, c.keep.ensures.seat_room);
      commands =
          ap (λ r. c.keep.new.parted.commands.items ++ map (λ (k : Lane). k.commands) r) is
          ∙ moved-first (λ (k : Lane). k.commands) lanes x c.into_parts-commands.result.0 c.args.parted.commands.items
          c.keep.new.parted.commands.items
          some value c.into_parts-commands.ensures.commands c.keep.ensures.commands;
      logs =
          ap (λ r. c.keep.new.parted.logs.items ++ map log_written r) is
          ∙ moved-first log_written lanes x c.into_parts-commands.result.1 c.args.parted.logs.items
          c.keep.new.parted.logs.items
          some value (log-is c.into_parts-commands.result.1 x.context.replies.items x.context.notes.items
          c.into_parts-commands.ensures.replies c.into_parts-commands.ensures.notes) c.keep.ensures.logs;
      seats =
          ap (λ r. c.keep.new.seats.items ++ map (λ (k : Lane). k.context.seat) r) is
          ∙ moved-first (λ (k : Lane). k.context.seat) lanes x c.into_parts-commands.result.2
          c.into_seats-seats.result.items c.keep.new.seats.items
          some value c.into_parts-commands.ensures.seat c.keep.ensures.seats
          ∙ ap (λ d. d ++ map (λ (k : Lane). k.context.seat) lanes) c.into_seats-seats.ensures.empty;
    }

pub loop-preserved : goal.loop-preserved
loop-preserved c =
    let lanes = c.loop.lanes.items in let x = c.remove-in-loop.result in let rest = c.remove-in-loop.new.self.items in
    let value = c.remove-in-loop.ensures.value in let is = c.remove-in-loop.ensures.items in let inv =
    c.loop.invariant in
    let parts = c.into_parts-commands-in-loop in let keep = c.keep-in-loop in
    let some : 0 < length lanes = omega (arith, inv.many, c.loop-test.true) in
    let more : length (remove lanes 0) + 1 ≡ length lanes = length-remove lanes 0 some in
    let same : length rest ≡ length (remove lanes 0) = ap length is in
    let enough : length lanes ≡ length rest + 1 = omega (arith, more, same) in
    let grown : length keep.new.seats.items ≡ length c.loop.seats.items + 1 =
    ap length keep.ensures.seats ∙ length-append c.loop.seats.items (parts.result.2 ∷ []) in
    record {
      many = omega (arith, enough, inv.many);
      finished = subst (All IsFinished) (sym is) (All-rest IsFinished lanes inv.finished);
      room = keep.ensures.room (length rest) (subst (λ n. HasRoom n c.loop.parted) enough inv.room);
      seat_room = omega (arith, enough, grown, inv.seat_room, keep.ensures.seat_room);
      commands =
          ap (λ r. keep.new.parted.commands.items ++ map (λ (k : Lane). k.commands) r) is
          ∙ moved-first (λ (k : Lane). k.commands) lanes x parts.result.0 c.loop.parted.commands.items
          keep.new.parted.commands.items
          some value parts.ensures.commands keep.ensures.commands
          ∙ inv.commands;
      logs =
          ap (λ r. keep.new.parted.logs.items ++ map log_written r) is
          ∙ moved-first log_written lanes x parts.result.1 c.loop.parted.logs.items keep.new.parted.logs.items
          some value (log-is parts.result.1 x.context.replies.items x.context.notes.items parts.ensures.replies
          parts.ensures.notes) keep.ensures.logs
          ∙ inv.logs;
      seats =
          ap (λ r. keep.new.seats.items ++ map (λ (k : Lane). k.context.seat) r) is
          ∙ moved-first (λ (k : Lane). k.context.seat) lanes x parts.result.2 c.loop.seats.items keep.new.seats.items
          some value parts.ensures.seat keep.ensures.seats
          ∙ inv.seats;
    }
