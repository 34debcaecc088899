use Rattle.std.proofs.Common.{◌≡◌, ◌+◌, ◌<◌, ◌≤◌, false, length, refl, sym, ap, ◌∙◌, subst, Some}
use Rattle.std.specs.Prelude.{slice_get, slice_set, IsTrue}
use Rattle.std.proofs.lemmas.Option.{slice_get_read}
use Rattle.pool_law.specs.declared.id.RootId.{RootId}
use Rattle.seat_work.specs.Changes.{one_for}
use Rattle.pool_member.specs.Counting.{counted, is_alone, known, told}
use Rattle.pool_member.specs.declared.counts.Counted.{Counted}
use Rattle.pool_member.proofs.CountLaws.{added_fresh}
use Rattle.pool_member.proofs.AloneLaws.{alone_fresh, alone_less}
use Rattle.pool_member.proofs.ToldLaws.{known_kept, told_less}
use Rattle.pool_member.proofs.PlaceLaws.{stand_set}
use Rattle.pool_member.proofs.counts.OwnCounts.add_born.Goals as goal

pub returns-clause-counts : goal.returns-clause-counts
returns-clause-counts c =
    let cs = c.self.inside.by_place.items in let root = c.args.root.now in let old : Counted = c.index_mut.result.now in
    let lt : root.place < length cs = subst (λ xs. root.place < length xs) (sym c.self.view_is) c.requires.place in
    let at : slice_get cs root.place ≡ Some old = slice_get_read cs (length cs) root.place old refl lt
    c.index_mut.ensures.value in
    let new : Counted = record { root = c.in_parts.result; count = 1; told = 0; alone = false } in
    let fresh : (other : RootId) → other.place ≡ root.place → counted cs other ≡ 0 =
    subst (λ xs. (other : RootId) → other.place ≡ root.place → counted xs other ≡ 0) (sym c.self.view_is)
    c.requires.fresh in
    λ other. added_fresh cs root old at fresh new c.in_parts.ensures refl other
    ∙ ap (λ xs. counted xs other + one_for root other) c.self.view_is

pub returns-clause-tells : goal.returns-clause-tells
returns-clause-tells c =
    let cs = c.self.inside.by_place.items in let root = c.args.root.now in let old : Counted = c.index_mut.result.now in
    let lt : root.place < length cs = subst (λ xs. root.place < length xs) (sym c.self.view_is) c.requires.place in
    let at : slice_get cs root.place ≡ Some old = slice_get_read cs (length cs) root.place old refl lt
    c.index_mut.ensures.value in
    let new : Counted = record { root = c.in_parts.result; count = 1; told = 0; alone = false } in
    λ other. subst (λ xs. told (slice_set cs root.place new) other ≤ told xs other) c.self.view_is
    (told_less cs root old at new refl other)

pub returns-clause-keeps : goal.returns-clause-keeps
returns-clause-keeps c =
    let cs = c.self.inside.by_place.items in let root = c.args.root.now in let old : Counted = c.index_mut.result.now in
    let lt : root.place < length cs = subst (λ xs. root.place < length xs) (sym c.self.view_is) c.requires.place in
    let at : slice_get cs root.place ≡ Some old = slice_get_read cs (length cs) root.place old refl lt
    c.index_mut.ensures.value in
    let new : Counted = record { root = c.in_parts.result; count = 1; told = 0; alone = false } in
    let low : told cs root ≤ root.capacity =
    subst (λ xs. told xs root ≤ root.capacity) (sym c.self.view_is) c.requires.untold in
    λ other some. subst (λ xs. known xs other ≤ known (slice_set cs root.place new) other) c.self.view_is
    (known_kept cs root old at new c.in_parts.ensures low other some)

pub returns-clause-alone : goal.returns-clause-alone
returns-clause-alone c =
    let cs = c.self.inside.by_place.items in let root = c.args.root.now in let old : Counted = c.index_mut.result.now in
    let lt : root.place < length cs = subst (λ xs. root.place < length xs) (sym c.self.view_is) c.requires.place in
    let at : slice_get cs root.place ≡ Some old = slice_get_read cs (length cs) root.place old refl lt
    c.index_mut.ensures.value in
    let new : Counted = record { root = c.in_parts.result; count = 1; told = 0; alone = false } in
    λ other is. subst (λ xs. IsTrue (is_alone xs other)) c.self.view_is (alone_less cs root old at new refl other is)

pub returns-clause-owns : goal.returns-clause-owns
returns-clause-owns c =
    let cs = c.self.inside.by_place.items in let root = c.args.root.now in let old : Counted = c.index_mut.result.now in
    let lt : root.place < length cs = subst (λ xs. root.place < length xs) (sym c.self.view_is) c.requires.place in
    let at : slice_get cs root.place ≡ Some old = slice_get_read cs (length cs) root.place old refl lt
    c.index_mut.ensures.value in
    let new : Counted = record { root = c.in_parts.result; count = 1; told = 0; alone = false } in
    let fresh : (other : RootId) → other.place ≡ root.place → counted cs other ≡ 0 =
    subst (λ xs. (other : RootId) → other.place ≡ root.place → counted xs other ≡ 0) (sym c.self.view_is)
    c.requires.fresh in
    λ other some is.
    alone_fresh cs root old at new fresh other (subst (λ xs. 0 < counted xs other) (sym c.self.view_is) some)
    (subst (λ xs. IsTrue (is_alone xs other)) (sym c.self.view_is) is)

pub invariant_of-self : goal.invariant_of-self
invariant_of-self c =
    let cs = c.self.inside.by_place.items in let root = c.args.root.now in
    let lt : root.place < length cs = subst (λ xs. root.place < length xs) (sym c.self.view_is) c.requires.place in
    let new : Counted = record { root = c.in_parts.result; count = 1; told = 0; alone = false } in
    stand_set cs root.place new lt c.self.invariant (ap (λ (r : RootId). r.place) c.in_parts.ensures)
