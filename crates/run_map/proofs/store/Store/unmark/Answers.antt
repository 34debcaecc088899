use Rattle.std.proofs.Common.{ℕ, Option, subst}
use Rattle.std.specs.Prelude.{MatchOption}
use Rattle.std.specs.Vec.{with_items}
use Rattle.run_map.specs.Stored.{IsUnmarked, IsLowestMarked}
use Rattle.run_map.specs.declared.store.Store.{Store}
use Rattle.run_map.proofs.StoreLaws.{notes-none}
use Rattle.run_map.proofs.store.Store.unmark.Goals as goal

pub returns-in-None-clause-noted : goal.returns-in-None-clause-noted
returns-in-None-clause-noted c =
    let class : ℕ = c.args.class in
    let s : Store = record c.args.self.now { firsts = with_items c.args.self.now.firsts c.clear.new.words } in
    notes-none s c.args.self.now.noted class c.requires.place.0
    (subst (λ (o : Option ℕ). MatchOption o (IsUnmarked s class) (IsLowestMarked s class)) c.in-None.is
    c.first_under.ensures)
