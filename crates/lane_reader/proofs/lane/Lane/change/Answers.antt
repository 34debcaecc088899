use Rattle.std.specs.Ordering.{nat_cmp}
use Rattle.std.specs.BTreeMap.{get}
use Rattle.lane_reader.proofs.NameLemmas.{after_bind, after_unbind}
use Rattle.lane_reader.proofs.lane.Lane.change.Goals as goal

pub returns-in_ok-insert-in-Bind-clause-names : goal.returns-in_ok-insert-in-Bind-clause-names
returns-in_ok-insert-in-Bind-clause-names c s is =
    rw c.in-Bind.is
    (after_bind s.names (get nat_cmp c.args.self.now.names) (get nat_cmp c.insert.new.self) is.names c.in-Bind.name
    c.in-Bind.bound c.in_ok-insert-in-Bind.ensures.updates.0)

pub returns-in-Unbind-clause-names : goal.returns-in-Unbind-clause-names
returns-in-Unbind-clause-names c s is =
    rw c.in-Unbind.is
    (after_unbind s.names (get nat_cmp c.args.self.now.names) (get nat_cmp c.remove-bound.new.self) is.names
    c.in-Unbind.name c.remove-bound.ensures.updates.0)
