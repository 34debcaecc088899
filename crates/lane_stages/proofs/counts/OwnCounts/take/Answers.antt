use Rattle.std.proofs.Common.{◌≡◌, ◌-◌, ◌<◌, length, refl, sym, ap, ◌∙◌, subst, arith, Some}
use Rattle.std.specs.Prelude.{slice_get}
use Rattle.std.proofs.lemmas.Option.{slice_get_read}
use Rattle.lane_stages.specs.Counting.{counted}
use Rattle.lane_stages.specs.declared.counts.Counted.{Counted}
use Rattle.lane_stages.proofs.CountLaws.{taken, counted_within, at_counted}
use Rattle.lane_stages.proofs.counts.OwnCounts.take.Goals as goal

pub returns-clause-counts : goal.returns-clause-counts
returns-clause-counts c =
    let cs = c.self.inside.by_place.items in let root = c.args.root in let old : Counted = c.index_mut.result.now in
    let lt : 0 < counted cs root = subst (λ xs. 0 < counted xs root) (sym c.self.view_is) c.requires in
    let at : slice_get cs root.place ≡ Some old = slice_get_read cs (length cs) root.place old refl
    (counted_within cs root lt) c.index_mut.ensures.value in
    let some : 0 < old.count = at_counted cs root old at lt in
    λ other.
    taken cs root old at lt (record { root = old.root; count = old.count - 1 }) refl (omega (arith, some)) other
    ∙ ap (λ xs. counted xs other) c.self.view_is
