use Rattle.std.proofs.Common.{◌≡◌, refl, sym, ap, ◌∙◌, subst}
use Rattle.std.specs.Prelude.{Result, Err, MatchResult}
use Rattle.pool_c.specs.declared.buffer.PoolBuffer.{PoolBuffer}
use Rattle.pool_c.specs.declared.carried.Carried.{Carried}
use Rattle.pool_c.specs.declared.codes.Refusal.{Refusal}
use Rattle.pool_c.specs.Handles.{handle_refusal}
use Rattle.pool_c.specs.Holding.{Holding}
use Rattle.pool_c.specs.ParcelHandles.{AcceptsIf, HasParcel}
use Rattle.pool_c.specs.Parcels.{Accepts}
use Rattle.pool_c.proofs.CallLaws.{a_call, told_as}
use Rattle.pool_c.proofs.Passed.{is_spent}
use Rattle.pool_c.proofs.parcel_exports.pool_accept.Goals as goal

pub returns-in-Err-take-clause-accepts : goal.returns-in-Err-take-clause-accepts
returns-in-Err-take-clause-accepts c =
    let takes = c.in-Ok.ensures.takes in let h = c.in-Ok.held.value in let not = c.in-Err-take.ensures in
    let was = c.args.parcel.now in let is = c.take-2.new.self in let out = c.args.out.now in
    let answer : Result PoolBuffer Refusal = Err c.in-Err-take.why in
    a_call c.args.thread.now c.put.new.self out out _ (AcceptsIf (handle_refusal was.state) was is) h h answer
    c.in-Ok.ensures.answers (record { ready = takes.1; held = takes.0 }) c.put.ensures.0 c.put.ensures.1 refl
    (told_as c.code-in-Err-take.result answer c.code-in-Err-take.ensures) refl
    (subst (λ o. AcceptsIf o was is h.common h.member h.member answer) (sym not.answers) (refl, refl, not.takes))

pub returns-clause-accepts : goal.returns-clause-accepts
returns-clause-accepts c =
    let a = c.accept-answer in let same = c.deref_mut.ensures.value in let here = c.deref_mut-2.ensures.value in
    let takes = c.in-Ok.ensures.takes in let h = c.in-Ok.held.value in let m = a.new.self.member in
    let was = c.args.parcel.now in let is = c.put_unless.new.self in let p = c.in-Ok-take.carried.value in
    let taken = c.in-Ok-take.ensures.takes in
    let had : HasParcel was p = record { ready = taken.1; held = taken.0 } in
    let kept = subst (λ (q : Carried). MatchResult a.result (λ _. a.new.carried.pool ≡ q.pool)
    (λ _. a.new.carried ≡ q)) here a.ensures.kept in
    let accepts = subst (λ (q : Carried × Holding). Accepts q.0 q.1.common q.1.member m a.result)
    (λ i. (here i, same i)) a.ensures.accepts in
    a_call c.args.thread.now c.put-2.new.self c.args.out.now c.give.new.out _
    (AcceptsIf (handle_refusal was.state) was is) h a.new.self a.result c.in-Ok.ensures.answers
    (record { ready = takes.1; held = takes.0 }) c.put-2.ensures.0 c.put-2.ensures.1
    (a.ensures.pool ∙ ap (λ (x : Holding). x.common) same) (told_as c.give.result a.result c.give.ensures.code)
    c.give.ensures.out
    (subst (λ o. AcceptsIf o was is h.common h.member m a.result) (sym c.in-Ok-take.ensures.answers)
    (record {
      parcel = p;
      had = had;
      spent =
          is_spent was is p a.new.carried c.is_ok.result a.result had c.is_ok.ensures.value c.put_unless.ensures kept;
      accepts = accepts;
    }))
