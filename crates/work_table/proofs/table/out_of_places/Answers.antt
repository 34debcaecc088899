use Rattle.std.proofs.Common.{◌<◌, length, map, Some, ap, ◌∙◌, arith}
use Rattle.std.proofs.lemmas.Grind.{common_steps}
use Rattle.work_table.specs.Places.{empties}
use Rattle.work_table.proofs.Places.{left_next, removed}
use Rattle.work_table.proofs.Tables.{empties_rest, unseat_more}
use Rattle.work_table.proofs.table.out_of_places.Goals as goal

pub loop-i-preserved : goal.loop-i-preserved
loop-i-preserved g c =
    let inv = c.loop-i.invariant in
    let n = c.loop-i._i in
    let all = c.args.places.items in
    let in_range : n < length all =
    grind (arith, common_steps, c.loop-i-test.true, c.len-count.ensures, c.args.places.ok.0) in
    let its = removed all n c.loop-i.places.items c.remove.result inv.left in_range c.remove.ensures.value in
    record {
      left = c.remove.ensures.by_index.2 ∙ left_next all n c.loop-i.places.items inv.left;
      count = omega (arith, inv.count, c.remove.ensures.len);
      whole = ap empties c.remove.ensures.by_index.2 ∙ empties_rest c.loop-i.places.items inv.whole;
      machines = ap (map Some) c.push_reserved.ensures.items
          ∙ unseat_more _ all n _ inv.machines (its ∙ ap Some c.in-Some.is);
      machines_len = omega (arith, c.push_reserved.ensures.len, inv.machines_len);
      room = rw c.push_reserved.ensures.capacity inv.room;
    }
