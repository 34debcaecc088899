use Rattle.std.proofs.Common.{◌≡◌, Ok, Some, None, sym, ap, ◌∙◌, subst}
use Rattle.std.specs.Arc.{arc_value}
use Rattle.shared_pool.specs.Posting.{PostedLetter}
use Rattle.pool_table.specs.declared.views.Letter.{Letter}
use Rattle.pool_member.specs.declared.member.Member.{Member}
use Rattle.pool_member.specs.Refusals.{accept_no}
use Rattle.pool_member.proofs.Lists.{some_same}
use Rattle.pool_c.specs.declared.held.Common.{Common}
use Rattle.pool_c.specs.Holding.{Holding}
use Rattle.pool_c.specs.Parcels.{accept_refusal, Accepts, arrived, HasAccepted}
use Rattle.pool_c.proofs.CallLaws.{begun_call}
use Rattle.pool_c.proofs.Parted.{has_accepted, may_accept}
use Rattle.pool_c.proofs.held.Held.accept.Goals as goal

pub returns-clause-accepts : goal.returns-clause-accepts
returns-clause-accepts c =
    let h : Holding = c.args.self.now in let m : Member = c.self.inside.member in let x : Common = c.deref-2.result.now
    in
    let q = c.args.carried.now in let new = c.accept-at.new.member in let at = c.accept-at.result in
    let letter = c.in-Some-take.posted in
    let view_common : arc_value c.self.inside.common ≡ h.common = ap (λ (i : Holding). i.common) c.self.view_is in
    let common : x ≡ h.common = c.deref-2.ensures ∙ view_common in
    let member : m ≡ h.member = ap (λ (i : Holding). i.member) c.self.view_is in
    let first : c.deref.result.now ≡ x = c.deref.ensures ∙ sym c.deref-2.ensures in
    let third : c.deref-3.result.now ≡ x = c.deref-3.ensures ∙ sym c.deref-2.ensures in
    let named : q.pool ≡ x.name = c.if-carried-deref.false ∙ ap (λ (y : Common). y.name) first in
    let posted : q.posted ≡ Some letter = sym c.take.ensures.value ∙ c.in-Some-take.is in
    let same : c.in-Some.posted ≡ letter = some_same c.in-Some.posted letter (sym c.in-Some.is ∙ posted) in
    let told : accept_no m.account letter.letter ≡ None =
    subst (λ (l : Letter). accept_no m.account l ≡ None)
    (c.letter-letter.ensures ∙ ap (λ (y : PostedLetter). y.letter) same) c.in_default-may_accept.ensures.answers in
    let no : accept_refusal x m.account q ≡ None = may_accept x m.account q letter named posted told in
    subst (λ (p : Common × Member). Accepts q p.0 p.1 new (Ok c.arrived.result)) (λ i. (common i, member i))
    (begun_call (accept_refusal x m.account q) (Ok c.arrived.result) m new (HasAccepted q x m new) (λ why. ⊥) no
    (subst (HasAccepted q x m new)
    (sym (c.arrived.ensures ∙ ap (λ (y : Common). arrived y.name new.account.lane at) third))
    (has_accepted q x m new letter at posted c.accept-at.ensures.at c.accept-at.ensures.counts
    c.accept-at.ensures.reaches c.accept-at.ensures.does c.accept-at.ensures.moves)))
