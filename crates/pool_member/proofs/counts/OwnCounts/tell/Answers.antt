use Rattle.std.proofs.Common.{◌≡◌, ◌<◌, max, length, refl, sym, ap, ◌∙◌, subst, rules, Some}
use Rattle.std.specs.Prelude.{if◌then◌else◌, slice_get}
use Rattle.std.proofs.lemmas.Option.{slice_get_read}
use Rattle.pool_law.specs.Same.{same_root}
use Rattle.pool_member.specs.Counting.{counted, is_alone, told}
use Rattle.pool_member.specs.declared.counts.Counted.{Counted}
use Rattle.pool_member.proofs.CountLaws.{counted_same, counted_within}
use Rattle.pool_member.proofs.AloneLaws.{alone_same}
use Rattle.pool_member.proofs.ToldLaws.{counted_here, told_more}
use Rattle.pool_member.proofs.PlaceLaws.{stand_counted}
use Rattle.pool_member.proofs.counts.OwnCounts.tell.Goals as goal

pub returns-clause-counts : goal.returns-clause-counts
returns-clause-counts c =
    let cs = c.self.inside.by_place.items in let root = c.args.root in
    let old : Counted = c.index_mut-at_place.result.now in
    let lt : 0 < counted cs root = subst (λ xs. 0 < counted xs root) (sym c.self.view_is) c.requires in
    let at : slice_get cs root.place ≡ Some old = slice_get_read cs (length cs) root.place old refl
    (counted_within cs root lt) c.index_mut-at_place.ensures.value in
    λ other.
    counted_same cs root old at (record old { told = c.max-at_place.result })
    refl refl other ∙ ap (λ xs. counted xs other) c.self.view_is

pub returns-clause-tells : goal.returns-clause-tells
returns-clause-tells c =
    let cs = c.self.inside.by_place.items in let root = c.args.root in
    let old : Counted = c.index_mut-at_place.result.now in
    let lt : 0 < counted cs root = subst (λ xs. 0 < counted xs root) (sym c.self.view_is) c.requires in
    let at : slice_get cs root.place ≡ Some old = slice_get_read cs (length cs) root.place old refl
    (counted_within cs root lt) c.index_mut-at_place.ensures.value in
    let most : c.max-at_place.result ≡ max old.told c.args.capacity = first_of (search rules, cc) in
    λ other.
    told_more cs root old at (record old { told = c.max-at_place.result })
    c.args.capacity (counted_here cs root old at lt) refl most other
    ∙ ap (λ xs. max (told xs other) (if same_root root other then c.args.capacity else 0)) c.self.view_is

pub returns-clause-alone : goal.returns-clause-alone
returns-clause-alone c =
    let cs = c.self.inside.by_place.items in let root = c.args.root in
    let old : Counted = c.index_mut-at_place.result.now in
    let lt : 0 < counted cs root = subst (λ xs. 0 < counted xs root) (sym c.self.view_is) c.requires in
    let at : slice_get cs root.place ≡ Some old = slice_get_read cs (length cs) root.place old refl
    (counted_within cs root lt) c.index_mut-at_place.ensures.value in
    λ other.
    alone_same cs root old at (record old { told = c.max-at_place.result }) refl refl other
    ∙ ap (λ xs. is_alone xs other) c.self.view_is

pub invariant_of-self : goal.invariant_of-self
invariant_of-self c =
    let cs = c.self.inside.by_place.items in let root = c.args.root in
    let old : Counted = c.index_mut-at_place.result.now in
    stand_counted cs root old (record old { told = c.max-at_place.result })
    (subst (λ xs. 0 < counted xs root) (sym c.self.view_is) c.requires)
    c.index_mut-at_place.ensures.value c.self.invariant refl
