use Rattle.std.proofs.Common.{◌<◌, length, map, refl, sym, ap, ◌∙◌, subst, arith}
use Rattle.std.proofs.lemmas.Bool.{false≢true}
use Rattle.std.proofs.lemmas.Option.{slice_get_read, slice_get_within}
use Rattle.std.specs.Prelude.{box_value}
use Rattle.std.proofs.lemmas.List.{length-map}
use Rattle.pool_member.specs.Threads.{IsSettled}
use Rattle.pool_c.specs.Closing.{members_of}
use Rattle.pool_c.specs.Holding.{Holding}
use Rattle.pool_c.proofs.Places.{all_of, at_all, of_map, up_to}
use Rattle.pool_c.proofs.closable.are_settled.Goals as goal
use Rattle.pool_law.proofs.ListLemmas.{get-map}

pub returns-then-not-is_nothing : goal.returns-then-not-is_nothing
returns-then-not-is_nothing c =
    let at = c.loop-held.held-index in let all = c.args.all.now in let b = c.held-item.result in
    let hs = map box_value all in
    let there = get-map box_value all at b (slice_get_read all _ at b refl (omega arith) c.held-item.is) in
    let member = ap (λ (h : Holding). h.member) (c.behind-held.view_is ∙ c.deref.ensures) in (
      λ e. absurd (false≢true e),
      λ settled.
          let is = at_all IsSettled (members_of hs) at b.value.member settled
          (get-map (λ (h : Holding). h.member) hs at b.value there) in
          sym c.if-not-is_nothing.true ∙ c.is_nothing.ensures.1 (subst IsSettled (sym member) is),
    )

pub loop-held-preserved : goal.loop-held-preserved
loop-held-preserved c =
    let at = c.loop-held.held-index in let all = c.args.all.now in let b = c.held-item.result in
    let there = get-map box_value all at b (slice_get_read all _ at b refl (omega arith) c.held-item.is) in
    let member = ap (λ (h : Holding). h.member) (c.behind-held.view_is ∙ c.deref.ensures) in
    up_to (λ k (h : Holding). IsSettled h.member) (map box_value all) at b.value there
    (subst IsSettled member (c.is_nothing.ensures.0 c.if-not-is_nothing.false)) c.loop-held.invariant

pub returns : goal.returns
returns c =
    let all = c.args.all.now in let hs = map box_value all in (
      λ e. all_of IsSettled (members_of hs) (λ k m there.
          let h = of_map (λ (x : Holding). x.member) hs k m there in
          let lt : k < length all = subst (λ n. k < n) (length-map all box_value) (slice_get_within hs k h.0 h.1) in
          subst IsSettled (sym h.2) (c.loop-held.invariant k h.0 (omega (arith, lt, c.loop-held-test.false)) h.1)),
      λ settled. refl,
    )
