use Rattle.std.proofs.Common.{◌≡◌, ◌+◌, ◌<◌, true, false, length, refl, sym, ap, ◌∙◌, subst, arith, rules, Some}
use Rattle.std.specs.Prelude.{slice_get}
use Rattle.std.proofs.lemmas.Option.{slice_get_read}
use Rattle.std.proofs.lemmas.Grind.{common_steps}
use Rattle.pool_law.specs.declared.id.RootId.{RootId}
use Rattle.pool_law.specs.Same.{same_root}
use Rattle.seat_work.specs.Changes.{one_for}
use Rattle.lane_stages.specs.Counting.{counted}
use Rattle.lane_stages.specs.declared.counts.Counted.{Counted}
use Rattle.lane_stages.specs.contracts.counts.OwnCounts.{the_view}
use Rattle.lane_stages.proofs.CountLaws.{added_again, added_first}
use Rattle.lane_stages.proofs.counts.OwnCounts.add.Goals as goal
use Rattle.lane_stages.proofs.counts.OwnCounts.add.Goals.{then-eq, else-eq}

pub returns-clause-counts : goal.returns-clause-counts
returns-clause-counts c =
    let cs = c.self.inside.by_place.items in let root = c.args.root in let old : Counted =
    c.index_mut-at_place.result.now in
    let lt : root.place < length cs = subst (λ xs. root.place < length xs) (sym c.self.view_is) c.requires.place in
    let at : slice_get cs root.place ≡ Some old = slice_get_read cs (length cs) root.place old refl lt
    c.index_mut-at_place.ensures.value in
    let alone : (other : RootId) → other.place ≡ root.place → 0 < counted cs other → other ≡ root =
    subst (λ xs. (other : RootId) → other.place ≡ root.place → 0 < counted xs other → other ≡ root) (sym c.self.view_is)
    c.requires.alone in
    elim c.if-eq.branch [
      | then-eq w ↦
          let tests = w.if-eq.true in let means = c.eq.ensures in
          let equal : same_root old.root root ≡ true = first_of (search rules, grind (arith, common_steps)) in
          λ other. ap (λ x. counted (the_view x) other) w.self-inside-is ∙ added_again cs root old at alone equal other
          ∙ ap (λ xs. counted xs other + one_for root other) c.self.view_is
      | else-eq w ↦
          let tests = w.if-eq.false in let means = c.eq.ensures in
          let differs : same_root old.root root ≡ false = first_of (search rules, grind (arith, common_steps)) in
          λ other. ap (λ x. counted (the_view x) other) w.self-inside-is
          ∙ added_first cs root old at alone differs other
          ∙ ap (λ xs. counted xs other + one_for root other) c.self.view_is
    ]
