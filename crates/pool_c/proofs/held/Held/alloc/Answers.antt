use Rattle.std.proofs.Common.{◌≡◌, Ok, Err, None, sym, ap, ◌∙◌, subst}
use Rattle.std.specs.Arc.{arc_value}
use Rattle.size_classes.specs.Sizes.{Geometry}
use Rattle.pool_law.specs.Limits.{geometry_of}
use Rattle.pool_member.specs.declared.member.Member.{Member}
use Rattle.pool_c.specs.declared.held.Common.{Common}
use Rattle.pool_c.specs.Answers.{Allocs, HasAllocated, HasStopped, whole}
use Rattle.pool_c.specs.Holding.{Holding}
use Rattle.pool_c.specs.Refusals.{size_refusal}
use Rattle.pool_c.proofs.Allocated.{has_allocated, has_stopped}
use Rattle.pool_c.proofs.CallLaws.{begun_call}
use Rattle.pool_c.proofs.Released.{may_allocate}
use Rattle.pool_c.proofs.held.Held.alloc.Goals as goal
use Rattle.pool_c.proofs.held.Held.alloc.Goals.{in-Ok, in-Err}

pub returns-clause-allocs : goal.returns-clause-allocs
returns-clause-allocs c =
    let h : Holding = c.args.self.now in let m : Member = c.self.inside.member in let x : Common = c.deref-2.result.now
    in
    let size = c.args.size in let new = c.try_allocate.new.member in
    let view_common : arc_value c.self.inside.common ≡ h.common = ap (λ (i : Holding). i.common) c.self.view_is in
    let common : x ≡ h.common = c.deref-2.ensures ∙ view_common in
    let member : m ≡ h.member = ap (λ (i : Holding). i.member) c.self.view_is in
    let same : c.deref.result.now ≡ x = c.deref.ensures ∙ sym c.deref-2.ensures in
    let g = geometry_of x.shared.table.layout.shape in
    let may : size_refusal g m.account size ≡ None =
    subst (λ (y : Common). size_refusal (geometry_of y.shared.table.layout.shape) m.account size ≡ None) same
    (subst (λ (k : Geometry). size_refusal k m.account size ≡ None) c.deref.result.now.sizes_are
    (may_allocate c.deref.result.now.sizes m.account size (λ lt. cc (c.in-Some.ensures.none.1 lt))
    c.if-self-lt-ALLOC_TURNS.false)) in
    elim c.match-try_allocate.branch [
      | in-Ok w ↦
          let ok = w.in-Ok.ensures in
          let name : w.deref-in-Ok.result.now.name ≡ x.name =
          ap (λ (y : Common). y.name) (w.deref-in-Ok.ensures ∙ sym c.deref-2.ensures) in
          rw w.result-is (subst (λ (p : Common × Member). Allocs size p.0 p.1 new (Ok w.whole.result))
          (λ i. (common i, member i))
          (begun_call (size_refusal g m.account size) (Ok w.whole.result) m new (HasAllocated size x m new)
          (HasStopped size x m new) may
          (subst (HasAllocated size x m new)
          (sym (w.whole.ensures ∙ ap (λ n. whole n new.account.lane w.in-Ok.root) name))
          (has_allocated size x m new w.in-Ok.root ok.root ok.counts ok.does ok.moves ok.born ok.watcher ok.notes))))
      | in-Err w ↦
          let err = w.in-Err.ensures in
          rw w.result-is (subst (λ (p : Common × Member). Allocs size p.0 p.1 new (Err w.stopped.result))
          (λ i. (common i, member i))
          (begun_call (size_refusal g m.account size) (Err w.stopped.result) m new (HasAllocated size x m new)
          (HasStopped size x m new) may
          (subst (HasStopped size x m new) (sym w.stopped.ensures)
          (has_stopped size x m new w.in-Err.no err.does err.moves err.cause err.watcher err.notes))))
    ]
