use Rattle.std.proofs.Common.{◌≡◌, ◌-◌, ◌<◌, true, false, length, refl, sym, ap, ◌∙◌, subst, arith, Some}
use Rattle.std.specs.Prelude.{slice_get}
use Rattle.std.proofs.lemmas.Option.{slice_get_read}
use Rattle.pool_member.specs.Counting.{counted, is_alone, told}
use Rattle.pool_member.specs.declared.counts.Counted.{Counted}
use Rattle.pool_member.proofs.AloneLaws.{alone_apart, alone_gone, alone_less}
use Rattle.pool_member.proofs.CountLaws.{taken, counted_within, at_counted}
use Rattle.pool_member.proofs.ToldLaws.{counted_here, told_same}
use Rattle.pool_member.proofs.PlaceLaws.{stand_counted}
use Rattle.pool_member.proofs.counts.OwnCounts.part.Goals as goal

pub returns-clause-counts : goal.returns-clause-counts
returns-clause-counts c =
    let cs = c.self.inside.by_place.items in let root = c.args.root in
    let old : Counted = c.index_mut-at_place.result.now in
    let lt : 0 < counted cs root = subst (λ xs. 0 < counted xs root) (sym c.self.view_is) c.requires in
    let at : slice_get cs root.place ≡ Some old = slice_get_read cs (length cs) root.place old refl
    (counted_within cs root lt) c.index_mut-at_place.ensures.value in
    let some : 0 < old.count = at_counted cs root old at lt in
    λ other.
    taken cs root old at lt (record old { count = old.count - 1; alone = false }) refl (omega (arith, some)) other
    ∙ ap (λ xs. counted xs other) c.self.view_is

pub returns-clause-tells : goal.returns-clause-tells
returns-clause-tells c =
    let cs = c.self.inside.by_place.items in let root = c.args.root in
    let old : Counted = c.index_mut-at_place.result.now in
    let lt : 0 < counted cs root = subst (λ xs. 0 < counted xs root) (sym c.self.view_is) c.requires in
    let at : slice_get cs root.place ≡ Some old = slice_get_read cs (length cs) root.place old refl
    (counted_within cs root lt) c.index_mut-at_place.ensures.value in
    λ other.
    told_same cs root old at (record old { count = old.count - 1; alone = false }) refl refl other
    ∙ ap (λ xs. told xs other) c.self.view_is

pub returns-clause-alone : goal.returns-clause-alone
returns-clause-alone c =
    let cs = c.self.inside.by_place.items in let root = c.args.root in
    let old : Counted = c.index_mut-at_place.result.now in
    let lt : 0 < counted cs root = subst (λ xs. 0 < counted xs root) (sym c.self.view_is) c.requires in
    let at : slice_get cs root.place ≡ Some old = slice_get_read cs (length cs) root.place old refl
    (counted_within cs root lt) c.index_mut-at_place.ensures.value in
    λ other is.
    subst (λ xs. is_alone xs other ≡ true) c.self.view_is
    (alone_less cs root old at (record old { count = old.count - 1; alone = false }) refl other is)

pub returns-clause-gone : goal.returns-clause-gone
returns-clause-gone c =
    let cs = c.self.inside.by_place.items in let root = c.args.root in
    let old : Counted = c.index_mut-at_place.result.now in
    let lt : 0 < counted cs root = subst (λ xs. 0 < counted xs root) (sym c.self.view_is) c.requires in
    let at : slice_get cs root.place ≡ Some old = slice_get_read cs (length cs) root.place old refl
    (counted_within cs root lt) c.index_mut-at_place.ensures.value in
    alone_gone cs root old at (record old { count = old.count - 1; alone = false }) refl

pub returns-clause-owns : goal.returns-clause-owns
returns-clause-owns c =
    let cs = c.self.inside.by_place.items in let root = c.args.root in
    let old : Counted = c.index_mut-at_place.result.now in
    let lt : 0 < counted cs root = subst (λ xs. 0 < counted xs root) (sym c.self.view_is) c.requires in
    let at : slice_get cs root.place ≡ Some old = slice_get_read cs (length cs) root.place old refl
    (counted_within cs root lt) c.index_mut-at_place.ensures.value in
    λ other apart is.
    alone_apart cs root old at (record old { count = old.count - 1; alone = false }) (counted_here cs root old at lt)
    other apart (subst (λ xs. is_alone xs other ≡ true) (sym c.self.view_is) is)

pub invariant_of-self : goal.invariant_of-self
invariant_of-self c =
    let cs = c.self.inside.by_place.items in let root = c.args.root in
    let old : Counted = c.index_mut-at_place.result.now in
    stand_counted cs root old (record old { count = old.count - 1; alone = false })
    (subst (λ xs. 0 < counted xs root) (sym c.self.view_is) c.requires)
    c.index_mut-at_place.ensures.value c.self.invariant refl
