use Rattle.std.proofs.Common.{◌≡◌, ◌<◌, length, map, refl, sym, ap, ◌∙◌, arith}
use Rattle.std.proofs.lemmas.Bool.{false≢true}
use Rattle.std.proofs.lemmas.Option.{slice_get_read}
use Rattle.std.specs.Prelude.{box_value}
use Rattle.std.proofs.lemmas.List.{length-map}
use Rattle.pool_c.specs.declared.held.Common.{Common}
use Rattle.pool_c.specs.Holding.{Holding}
use Rattle.pool_c.proofs.Closed.{have_numbers, their_number}
use Rattle.pool_c.proofs.Places.{up_to}
use Rattle.pool_c.proofs.closable.are_all.Goals as goal
use Rattle.pool_c.proofs.closable.are_all.Goals.{then-deref-name-via-then-deref-name, then-deref-name-via-else-deref-name+then-deref-number}
use Rattle.pool_law.proofs.ListLemmas.{get-map}

pub returns-then-deref-name : goal.returns-then-deref-name
returns-then-deref-name c =
    let inv = c.loop-number.invariant in let at = c.loop-number.number in let all = c.args.all.now in
    let b = c.index-all-number.result in let lt : at < length all = omega (arith, inv.many, c.loop-number-test.true) in
    let there = get-map box_value all at b (slice_get_read all (length all) at b refl lt c.index-all-number.is) in
    let common = c.deref-in-loop-number.ensures
    ∙ ap (λ (h : Holding). h.common) (c.behind-held.view_is ∙ c.deref.ensures) in (
      λ e. absurd (false≢true e),
      λ have.
          let is = their_number c.args.name c.args.threads (map box_value all) have at b.value there in
          absurd (elim c.then-deref-name.branch [
            | then-deref-name-via-then-deref-name w ↦ w.if-deref-name.true (ap (λ (x : Common). x.name) common ∙ is.0)
            | then-deref-name-via-else-deref-name+then-deref-number w ↦
                w.if-deref-number.true
                (ap (λ (h : Holding). h.member.account.lane)
                (w.behind-held-else-deref-name.view_is ∙ w.deref-else-deref-name.ensures)
                ∙ is.1)
          ]),
    )

pub loop-number-preserved : goal.loop-number-preserved
loop-number-preserved c =
    let inv = c.loop-number.invariant in let at = c.loop-number.number in let all = c.args.all.now in
    let b = c.index-all-number.result in let lt : at < length all = omega (arith, inv.many, c.loop-number-test.true) in
    let there = get-map box_value all at b (slice_get_read all (length all) at b refl lt c.index-all-number.is) in
    let common = c.deref-in-loop-number.ensures
    ∙ ap (λ (h : Holding). h.common) (c.behind-held.view_is ∙ c.deref.ensures) in
    let lane = ap (λ (h : Holding). h.member.account.lane)
    (c.behind-held-else-deref-name.view_is ∙ c.deref-else-deref-name.ensures) in
    record {
      many = inv.many;
      most = omega arith;
      each =
          up_to (λ k (h : Holding). (h.common.name ≡ c.args.name) × (h.member.account.lane ≡ k)) (map box_value all)
          at b.value there
          (sym (ap (λ (x : Common). x.name) common) ∙ c.if-deref-name.false, sym lane ∙ c.if-deref-number.false)
          inv.each;
    }

pub returns : goal.returns
returns c =
    let inv = c.loop-number.invariant in let all = c.args.all.now in (
      λ e. have_numbers c.args.name c.args.threads (map box_value all) (length-map all box_value ∙ inv.many)
          (λ k h lt at. inv.each k h (omega (arith, lt, c.loop-number-test.false)) at),
      λ have. refl,
    )
