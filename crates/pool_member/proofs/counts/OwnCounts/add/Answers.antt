use Rattle.std.proofs.Common.{◌≡◌, ◌+◌, ◌<◌, true, false, length, refl, sym, ap, ◌∙◌, subst, arith, rules, Some}
use Rattle.std.specs.Prelude.{slice_get, IsTrue}
use Rattle.std.proofs.lemmas.Option.{slice_get_read}
use Rattle.std.proofs.lemmas.Grind.{common_steps}
use Rattle.pool_law.specs.declared.id.RootId.{RootId}
use Rattle.pool_law.specs.Same.{same_root}
use Rattle.seat_work.specs.Changes.{one_for}
use Rattle.pool_member.specs.Counting.{counted, is_alone, told}
use Rattle.pool_member.specs.declared.counts.Counted.{Counted}
use Rattle.pool_member.specs.contracts.counts.OwnCounts.{the_view}
use Rattle.pool_member.proofs.CountLaws.{added_again, added_first}
use Rattle.pool_member.proofs.AloneLaws.{alone_kept, alone_less, alone_same}
use Rattle.pool_member.proofs.ToldLaws.{least_by, most_by, same_least, told_kept, told_less, told_same}
use Rattle.pool_member.proofs.PlaceLaws.{stand_set, stands_here}
use Rattle.pool_member.proofs.counts.OwnCounts.add.Goals as goal
use Rattle.pool_member.proofs.counts.OwnCounts.add.Goals.{then-eq, else-eq}

pub returns-clause-counts : goal.returns-clause-counts
returns-clause-counts c =
    let cs = c.self.inside.by_place.items in let root = c.args.root in let old : Counted =
    c.index_mut-at_place.result.now in
    let lt : root.place < length cs = subst (λ xs. root.place < length xs) (sym c.self.view_is) c.requires.place in
    let at : slice_get cs root.place ≡ Some old = slice_get_read cs (length cs) root.place old refl lt
    c.index_mut-at_place.ensures.value in
    let alone : (other : RootId) → other.place ≡ root.place → 0 < counted cs other → other ≡ root =
    subst (λ xs. (other : RootId) → other.place ≡ root.place → 0 < counted xs other → other ≡ root) (sym c.self.view_is)
    c.requires.alone in
    elim c.if-eq.branch [
      | then-eq w ↦
          let tests = w.if-eq.true in let means = c.eq.ensures in
          let equal : same_root old.root root ≡ true = first_of (search rules, grind (arith, common_steps)) in
          λ other. ap (λ x. counted (the_view x) other) w.self-inside-is ∙ added_again cs root old at alone equal other
          ∙ ap (λ xs. counted xs other + one_for root other) c.self.view_is
      | else-eq w ↦
          let tests = w.if-eq.false in let means = c.eq.ensures in
          let differs : same_root old.root root ≡ false = first_of (search rules, grind (arith, common_steps)) in
          λ other. ap (λ x. counted (the_view x) other) w.self-inside-is
          ∙ added_first cs root old at alone differs other
          ∙ ap (λ xs. counted xs other + one_for root other) c.self.view_is
    ]

pub returns-clause-tells : goal.returns-clause-tells
returns-clause-tells c =
    let cs = c.self.inside.by_place.items in let root = c.args.root in let old : Counted =
    c.index_mut-at_place.result.now in
    let lt : root.place < length cs = subst (λ xs. root.place < length xs) (sym c.self.view_is) c.requires.place in
    let at : slice_get cs root.place ≡ Some old = slice_get_read cs (length cs) root.place old refl lt
    c.index_mut-at_place.ensures.value in
    elim c.if-eq.branch [
      | then-eq w ↦
          λ other. least_by _ _ _ _ (ap (λ x. told (the_view x) other) w.self-inside-is)
          (same_least _ _ (told_same cs root old at
          (record old { count = old.count + 1 }) refl refl other))
          (ap (λ xs. told xs other) c.self.view_is)
      | else-eq w ↦
          λ other. least_by _ _ _ _ (ap (λ x. told (the_view x) other) w.self-inside-is)
          (told_less cs root old at (record { root = root; count = 1; told = 0; alone = false }) refl other)
          (ap (λ xs. told xs other) c.self.view_is)
    ]

pub returns-clause-keeps : goal.returns-clause-keeps
returns-clause-keeps c =
    let cs = c.self.inside.by_place.items in let root = c.args.root in let old : Counted =
    c.index_mut-at_place.result.now in
    let lt : root.place < length cs = subst (λ xs. root.place < length xs) (sym c.self.view_is) c.requires.place in
    let at : slice_get cs root.place ≡ Some old = slice_get_read cs (length cs) root.place old refl lt
    c.index_mut-at_place.ensures.value in
    elim c.if-eq.branch [
      | then-eq w ↦
          λ other some. most_by _ _ _ (least_by _ _ _ _ (sym (ap (λ xs. told xs other) c.self.view_is))
          (same_least _ _ (sym (told_same cs root old at
          (record old { count = old.count + 1 }) refl refl other)))
          (sym (ap (λ x. told (the_view x) other) w.self-inside-is)))
      | else-eq w ↦
          let tests = w.if-eq.false in let means = c.eq.ensures in
          let differs : same_root old.root root ≡ false = first_of (search rules, grind (arith, common_steps)) in
          λ other some. most_by _ _ _ (least_by _ _ _ _ (sym (ap (λ xs. told xs other) c.self.view_is))
          (told_kept cs root old at (record { root = root; count = 1; told = 0; alone = false }) refl differs other
          (subst (λ x. 0 < counted (the_view x) other) w.self-inside-is some))
          (sym (ap (λ x. told (the_view x) other) w.self-inside-is)))
    ]

pub returns-clause-alone : goal.returns-clause-alone
returns-clause-alone c =
    let cs = c.self.inside.by_place.items in let root = c.args.root in let old : Counted =
    c.index_mut-at_place.result.now in
    let lt : root.place < length cs = subst (λ xs. root.place < length xs) (sym c.self.view_is) c.requires.place in
    let at : slice_get cs root.place ≡ Some old = slice_get_read cs (length cs) root.place old refl lt
    c.index_mut-at_place.ensures.value in
    elim c.if-eq.branch [
      | then-eq w ↦
          λ other is. subst (λ xs. IsTrue (is_alone xs other)) c.self.view_is
          (sym (alone_same cs root old at (record old { count = old.count + 1 }) refl refl other)
          ∙ subst (λ x. IsTrue (is_alone (the_view x) other)) w.self-inside-is is)
      | else-eq w ↦
          λ other is. subst (λ xs. IsTrue (is_alone xs other)) c.self.view_is
          (alone_less cs root old at (record { root = root; count = 1; told = 0; alone = false }) refl other
          (subst (λ x. IsTrue (is_alone (the_view x) other)) w.self-inside-is is))
    ]

pub returns-clause-owns : goal.returns-clause-owns
returns-clause-owns c =
    let cs = c.self.inside.by_place.items in let root = c.args.root in let old : Counted =
    c.index_mut-at_place.result.now in
    let lt : root.place < length cs = subst (λ xs. root.place < length xs) (sym c.self.view_is) c.requires.place in
    let at : slice_get cs root.place ≡ Some old = slice_get_read cs (length cs) root.place old refl lt
    c.index_mut-at_place.ensures.value in
    let alone : (other : RootId) → other.place ≡ root.place → 0 < counted cs other → other ≡ root =
    subst (λ xs. (other : RootId) → other.place ≡ root.place → 0 < counted xs other → other ≡ root) (sym c.self.view_is)
    c.requires.alone in
    elim c.if-eq.branch [
      | then-eq w ↦
          λ other some is. subst (λ x. IsTrue (is_alone (the_view x) other)) (sym w.self-inside-is)
          (alone_same cs root old at (record old { count = old.count + 1 }) refl refl other
          ∙ subst (λ xs. IsTrue (is_alone xs other)) (sym c.self.view_is) is)
      | else-eq w ↦
          let tests = w.if-eq.false in let means = c.eq.ensures in
          let differs : same_root old.root root ≡ false = first_of (search rules, grind (arith, common_steps)) in
          λ other some is. subst (λ x. IsTrue (is_alone (the_view x) other)) (sym w.self-inside-is)
          (alone_kept cs root old at (record { root = root; count = 1; told = 0; alone = false }) differs alone other
          (subst (λ xs. 0 < counted xs other) (sym c.self.view_is) some)
          (subst (λ xs. IsTrue (is_alone xs other)) (sym c.self.view_is) is))
    ]

pub invariant_of-self : goal.invariant_of-self
invariant_of-self c =
    let cs = c.self.inside.by_place.items in let root = c.args.root in let old : Counted =
    c.index_mut-at_place.result.now in
    let lt : root.place < length cs = subst (λ xs. root.place < length xs) (sym c.self.view_is) c.requires.place in
    let at : slice_get cs root.place ≡ Some old = slice_get_read cs (length cs) root.place old refl lt
    c.index_mut-at_place.ensures.value in
    elim c.if-eq.branch [
      | then-eq w ↦
          rw w.self-inside-is (stand_set cs root.place (record old { count = old.count + 1 }) lt c.self.invariant
          (stands_here cs root.place old c.self.invariant at))
      | else-eq w ↦
          rw w.self-inside-is (stand_set cs root.place (record { root = root; count = 1; told = 0; alone = false }) lt
          c.self.invariant refl)
    ]
