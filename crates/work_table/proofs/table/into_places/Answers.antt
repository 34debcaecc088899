use Rattle.std.proofs.Common.{◌<◌, ◌++◌, ◌∷◌, [], length, Some, ap, ◌∙◌, arith}
use Rattle.std.proofs.lemmas.Grind.{common_steps}
use Rattle.work_table.proofs.Places.{left_next, removed}
use Rattle.work_table.proofs.Tables.{seat_more}
use Rattle.work_table.proofs.table.into_places.Goals as goal

pub loop-i-preserved : goal.loop-i-preserved
loop-i-preserved g c =
    let inv = c.loop-i.invariant in
    let n = c.loop-i._i in
    let all = c.args.machines.items in
    let in_range : n < length all =
    grind (arith, common_steps, c.loop-i-test.true, c.len-count.ensures, c.args.machines.ok.0) in
    let its =
    removed all n c.loop-i.machines.items c.remove-machine.result inv.left in_range c.remove-machine.ensures.value in
    record {
      left = c.remove-machine.ensures.by_index.2 ∙ left_next all n c.loop-i.machines.items inv.left;
      count = omega (arith, inv.count, c.remove-machine.ensures.len);
      room = c.remove-machine.ensures.capacity ∙ inv.room;
      places = c.push_reserved.ensures.items ∙ ap (λ ps. ps ++ Some c.remove-machine.result ∷ []) inv.places
          ∙ seat_more all n _ its;
      places_len = omega (arith, c.push_reserved.ensures.len, inv.places_len);
      places_room = rw c.push_reserved.ensures.capacity inv.places_room;
    }
