use Rattle.std.proofs.Common.{◌≡◌, ℕ, Option, Some, ap, sym, ◌∙◌, rules}
use Rattle.std.specs.Prelude.{cond, option_map}
use Rattle.std.specs.Ordering.{nat_cmp}
use Rattle.std.specs.BTreeMap.{get, is_at}
use Rattle.pool_law.specs.Names.{lookup}
use Rattle.lane_reader.specs.declared.bound.Bound.{Bound}
use Rattle.lane_reader.specs.Viewing.{bound_of}
use Rattle.lane_reader.proofs.NameLemmas.{after_bind, put_again}
use Rattle.lane_reader.proofs.lane.Lane.update.Goals as goal

pub returns-in_ok-insert-clause-names : goal.returns-in_ok-insert-clause-names
returns-in_ok-insert-clause-names c s is =
    let name = c.args.name in
    let f : ℕ → Option Bound = get nat_cmp c.args.self.now.names in
    let found : f name ≡ Some c.in-Some.bound = search rules in
    let there : lookup name s.names ≡ Some (bound_of c.in-Some.bound) =
    is.names name ∙ ap (λ (o : Option Bound). option_map bound_of o) found in
    rw (there, sym c.updated.ensures)
    (after_bind s.names f (get nat_cmp c.insert.new.self) is.names name c.updated.result
    (λ q.
    c.in_ok-insert.ensures.updates.0 q
    ∙ ap (λ (o : Option Bound). cond (is_at (nat_cmp name) q) (Some c.updated.result) o) (c.remove.ensures.updates.0 q)
    ∙ put_again (is_at (nat_cmp name) q) c.updated.result (f q)))
