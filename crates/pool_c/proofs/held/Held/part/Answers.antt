use Rattle.std.proofs.Common.{◌≡◌, ◌+◌, ◌<◌, ◌≤◌, true, Ok, Some, None, refl, sym, ap, ◌∙◌, subst, arith}
use Rattle.std.specs.Arc.{arc_value}
use Rattle.std_alloc.specs.Box.{with_value}
use Rattle.pool_member.specs.declared.member.Member.{Member}
use Rattle.pool_c.specs.declared.carried.Carried.{Carried}
use Rattle.pool_c.specs.declared.held.Common.{Common}
use Rattle.pool_c.specs.Answers.{Answers}
use Rattle.pool_c.specs.Holding.{Holding}
use Rattle.pool_c.specs.Parcels.{HasParted, LacksMemory, part_refusal}
use Rattle.pool_c.specs.Refusals.{buffer_refusal}
use Rattle.pool_c.proofs.CallLaws.{begun_call}
use Rattle.pool_c.proofs.Parted.{has_parted, may_part}
use Rattle.pool_c.proofs.held.Held.part.Goals as goal

pub returns-clause-refused : goal.returns-clause-refused
returns-clause-refused c =
    let h : Holding = c.args.self.now in let m : Member = c.self.inside.member in let x : Common = c.deref-3.result.now
    in
    let b = c.args.buffer.now in let to = c.args.to in let new = c.part.new.member in let r = c.in_ok-root in
    let view_common : arc_value c.self.inside.common ≡ h.common = ap (λ (i : Holding). i.common) c.self.view_is in
    let common : x ≡ h.common = c.deref-3.ensures ∙ view_common in
    let member : m ≡ h.member = ap (λ (i : Holding). i.member) c.self.view_is in
    let first : c.deref.result.now ≡ x = c.deref.ensures ∙ sym c.deref-3.ensures in
    let second : c.deref-2.result.now ≡ x = c.deref-2.ensures ∙ sym c.deref-3.ensures in
    let may : buffer_refusal x m.account b true 1 0 ≡ None =
    subst (λ (p : Common × Member). buffer_refusal p.0 p.1.account b true 1 0 ≡ None)
    (λ i. (sym common i, sym member i)) r.ensures.answers in
    let lies : b.offset + b.length ≤ 16777216 =
    omega (arith, c.if-buffer-gt-MOST_CAPACITY.false, c.if-buffer.false) in
    let no : part_refusal x m.account b to ≡ None =
    may_part x m.account b to (subst (λ (y : Common). to < y.threads) first c.if-to-deref.false) lies may in
    let p : Carried = record { pool = c.deref_mut.result.now.pool; posted = Some c.part.result } in
    let pool : p.pool ≡ x.name =
    ap (λ (q : Carried). q.pool) (c.deref_mut.ensures.value ∙ c.in-Ok.ensures.ok)
    ∙ ap (λ (y : Common). y.name) second in
    subst (λ (q : Common × Member). Answers (part_refusal q.0 q.1.account b to) (Ok (with_value c.in-Ok.carried p))
    q.1 new (λ made. HasParted b to q.0 q.1 new made.value) (LacksMemory q.1 new)) (λ i. (common i, member i))
    (begun_call (part_refusal x m.account b to) (Ok (with_value c.in-Ok.carried p)) m new
    (λ made. HasParted b to x m new made.value) (LacksMemory m new) no
    (has_parted b to x m new p c.part.result refl pool c.part.ensures.parcel c.part.ensures.moves c.sent-at.result
    c.sent-at.ensures c.part.ensures.letter c.part.ensures.does))
