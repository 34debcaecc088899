use Rattle.std.proofs.Common.{◌≡◌, ◌-◌, ◌<◌, length, refl, sym, ap, ◌∙◌, subst, arith, Some}
use Rattle.std.specs.Prelude.{slice_get}
use Rattle.std.proofs.lemmas.Option.{slice_get_read}
use Rattle.pool_member.specs.Counting.{counted, is_alone, told}
use Rattle.pool_member.specs.declared.counts.Counted.{Counted}
use Rattle.pool_member.proofs.CountLaws.{taken, counted_within, at_counted}
use Rattle.pool_member.proofs.AloneLaws.{alone_same}
use Rattle.pool_member.proofs.ToldLaws.{told_same}
use Rattle.pool_member.proofs.PlaceLaws.{stand_counted}
use Rattle.pool_member.proofs.counts.OwnCounts.take.Goals as goal

pub returns-clause-counts : goal.returns-clause-counts
returns-clause-counts c =
    let cs = c.self.inside.by_place.items in let root = c.args.root.now in let old : Counted = c.index_mut.result.now in
    let lt : 0 < counted cs root = subst (λ xs. 0 < counted xs root) (sym c.self.view_is) c.requires in
    let at : slice_get cs root.place ≡ Some old = slice_get_read cs (length cs) root.place old refl
    (counted_within cs root lt) c.index_mut.ensures.value in
    let some : 0 < old.count = at_counted cs root old at lt in
    λ other.
    taken cs root old at lt (record old { count = old.count - 1 }) refl
    (omega (arith, some)) other
    ∙ ap (λ xs. counted xs other) c.self.view_is

pub returns-clause-tells : goal.returns-clause-tells
returns-clause-tells c =
    let cs = c.self.inside.by_place.items in let root = c.args.root.now in let old : Counted = c.index_mut.result.now in
    let lt : 0 < counted cs root = subst (λ xs. 0 < counted xs root) (sym c.self.view_is) c.requires in
    let at : slice_get cs root.place ≡ Some old = slice_get_read cs (length cs) root.place old refl
    (counted_within cs root lt) c.index_mut.ensures.value in
    λ other.
    told_same cs root old at (record old { count = old.count - 1 }) refl refl other
    ∙ ap (λ xs. told xs other) c.self.view_is

pub returns-clause-alone : goal.returns-clause-alone
returns-clause-alone c =
    let cs = c.self.inside.by_place.items in let root = c.args.root.now in let old : Counted = c.index_mut.result.now in
    let lt : 0 < counted cs root = subst (λ xs. 0 < counted xs root) (sym c.self.view_is) c.requires in
    let at : slice_get cs root.place ≡ Some old = slice_get_read cs (length cs) root.place old refl
    (counted_within cs root lt) c.index_mut.ensures.value in
    λ other.
    alone_same cs root old at (record old { count = old.count - 1 }) refl refl other
    ∙ ap (λ xs. is_alone xs other) c.self.view_is

pub invariant_of-self : goal.invariant_of-self
invariant_of-self c =
    let cs = c.self.inside.by_place.items in let root = c.args.root.now in
    let old : Counted = c.index_mut.result.now in
    stand_counted cs root old (record old { count = old.count - 1 })
    (subst (λ xs. 0 < counted xs root) (sym c.self.view_is) c.requires)
    c.index_mut.ensures.value c.self.invariant refl
