use Rattle.std.proofs.Common.{◌≡◌, to_z, of_z, w32, true, None, sym, ap, ◌∙◌, subst}
use Rattle.pool_member.specs.declared.member.Member.{Member}
use Rattle.pool_c.specs.declared.held.Common.{Common}
use Rattle.pool_c.specs.Answers.{Releases}
use Rattle.pool_c.specs.Holding.{Holding}
use Rattle.pool_c.specs.Refusals.{buffer_refusal}
use Rattle.pool_c.proofs.Released.{released, told_shown, unreleased}
use Rattle.pool_c.proofs.held.Held.release.Goals as goal
use Rattle.pool_c.proofs.held.Held.release.Goals.{in-Some, in-None}

pub returns-clause-releases : goal.returns-clause-releases
returns-clause-releases c =
    let h : Holding = c.args.self.now in let m : Member = c.self.inside.member in let x : Common = c.deref.result.now in
    let b = c.args.buffer.now in let new = c.try_release.new.member in let r = c.in_ok-root in
    let common : x ≡ h.common = c.deref.ensures ∙ ap (λ (i : Holding). i.common) c.self.view_is in
    let member : m ≡ h.member = ap (λ (i : Holding). i.member) c.self.view_is in
    let may : buffer_refusal x m.account b true 4 0 ≡ None =
    subst (λ (p : Common × Member). buffer_refusal p.0 p.1.account b true 4 0 ≡ None)
    (λ i. (sym common i, sym member i)) r.ensures.answers in
    subst (λ (p : Common × Member). Releases b p.0 p.1 new c.match-try_release.result) (λ i. (common i, member i))
    (elim c.match-try_release.branch [
      | in-Some w ↦
          subst (Releases b x m new) (sym w.result-is)
          (released b x m new may r.root w.in-Some.last (to_z w32 (of_z w32 w.from.result)) r.ensures.root
          (told_shown w.in-Some.last w.from.result w.from.ensures) w.in-Some.ensures.does w.in-Some.ensures.moves)
      | in-None w ↦
          subst (Releases b x m new) (sym w.result-is)
          (unreleased b x m new may w.in-None.ensures.settles w.in-None.ensures.cause)
    ])
