use Rattle.std.proofs.Common.{map, string_bytes, rules, sym}
use Rattle.run_view.proofs.RootLaws.{named_next}
use Rattle.run_view.proofs.roots.roots_of.Goals as goal

pub loop-left-preserved : goal.loop-left-preserved
loop-left-preserved c =
    let first = rw c.in_ok-root.ensures.ok_part at c.first_given.ensures.value in
    named_next c.loop-left.roots.items c.push.new.self.items (map string_bytes c.loop-left.left.now) c.in_ok-root.root
    (map string_bytes c.in_ok-root.rest.now) _ (sym first) (search rules) c.loop-left.invariant
