use Rattle.std.proofs.Common.{◌≡◌, ◌+◌, ◌<◌, ◌≤◌, true, None, Some, Err, sym, ap, ◌∙◌, subst}
use Rattle.size_classes.specs.Sizes.{chunk_bytes, Geometry}
use Rattle.pool_law.specs.Limits.{geometry_of}
use Rattle.pool_member.specs.declared.member.Member.{Member}
use Rattle.pool_member.specs.declared.work.attempted.AskNo.{AskNo}
use Rattle.pool_member.specs.Counting.{known}
use Rattle.pool_member.specs.Growing.{IsAsked}
use Rattle.pool_member.specs.Growths.{asked, MayRefuseAsked}
use Rattle.pool_member.specs.Threads.{Does}
use Rattle.pool_c.specs.declared.held.Common.{Common}
use Rattle.pool_c.specs.Growing.{Grows}
use Rattle.pool_c.specs.Holding.{Holding}
use Rattle.pool_c.specs.Refusals.{buffer_refusal}
use Rattle.pool_c.proofs.Grown.{busy, full, grown}
use Rattle.pool_c.proofs.held.Held.capacity.Goals as goal
use Rattle.pool_c.proofs.held.Held.capacity.Goals.{in-Ok, in-Err-Busy, in-Err-Full}

pub returns-clause-grows : goal.returns-clause-grows
returns-clause-grows c =
    let h : Holding = c.args.self.now in let m : Member = c.self.inside.member in let b = c.args.buffer.now in
    let size = c.args.size in let new = c.try_grow.new.member in let r = c.in_ok-root in
    let of = ap (λ (i : Holding). i.common) c.self.view_is in
    let first : c.deref.result.now ≡ h.common = c.deref.ensures ∙ of in
    let x : Common = c.deref-2.result.now in let same : x ≡ h.common = c.deref-2.ensures ∙ of in
    let member : m ≡ h.member = ap (λ (i : Holding). i.member) c.self.view_is in
    let may : buffer_refusal h.common m.account b true 0 0 ≡ None =
    subst (λ (y : Member). buffer_refusal h.common y.account b true 0 0 ≡ None) (sym member) r.ensures.answers in
    let sizes : c.deref.result.now.sizes ≡ geometry_of h.common.shared.table.layout.shape =
    c.deref.result.now.sizes_are ∙ ap (λ (y : Common). geometry_of y.shared.table.layout.shape) first in
    let within : chunk_bytes (geometry_of h.common.shared.table.layout.shape) < size → ⊥ =
    λ lt. cc (c.in-Some.ensures.none.1 (subst (λ (k : Geometry). chunk_bytes k < size) (sym sizes) lt)) in
    let turns = c.if-self-lt-CAPACITY_TURNS.false in
    let reached : b.offset + b.length ≤ known m.account.counts r.root =
    subst (λ (y : Member). b.offset + b.length ≤ known y.account.counts r.root) (sym member) r.ensures.reaches.1 in
    subst (λ (y : Member). Grows b size h.common y new c.match-try_grow.result) member
    (elim c.match-try_grow.branch [
      | in-Ok w ↦
          let e = w.in-Ok.ensures in
          subst (Grows b size h.common m new) (sym w.result-is)
          (grown b size h.common m new may within turns x r.root same r.ensures.root w.in-Ok.capacity e.enough.0
          reached e.knows.0 e.knows.1 e.counts e.told e.notes e.does e.alone e.moves)
      | in-Err-Busy w ↦
          let e = w.in-Err-Busy.ensures in let is = w.in-Err-Busy.field-0-is in
          subst (Grows b size h.common m new) (sym w.result-is)
          (busy b size h.common m new may within turns x r.root same r.ensures.root
          (subst (λ (n : AskNo). Does x.shared 6 (asked (Err n)) (Some r.root) m new) is e.does) e.alone e.moves
          (subst (MayRefuseAsked x.shared r.root m.seat new.seat) is e.cause))
      | in-Err-Full w ↦
          let e = w.in-Err-Full.ensures in let is = w.in-Err-Full.field-0-is in
          subst (Grows b size h.common m new) (sym w.result-is)
          (full b size h.common m new may within turns x r.root same r.ensures.root
          (subst (λ (n : AskNo). Does x.shared 6 (asked (Err n)) (Some r.root) m new) is e.does) e.alone e.moves
          (subst (λ (n : AskNo). IsAsked x.shared r.root size (Err n) m new) is e.notes))
    ])
