use Rattle.std.proofs.Common.{◌≡◌, ℕ, ◌+◌, ◌-◌, ◌≤◌, List, length, ap, ◌∙◌, subst, arith}
use Rattle.std.specs.Prelude.{min, Some, slice_get}
use Rattle.std.proofs.lemmas.Result.{err_from_is_err_and}
use borrow.Rule.Slice.PartMut.{put_mid}
use Rattle.pool_law.specs.declared.id.Part.{Part}
use Rattle.pool_law.specs.Composites.{cut}
use Rattle.shared_composite.specs.Cores.{turns_of}
use Rattle.shared_composite.proofs.Components.{root_there, root_counted, cut_known}
use Rattle.shared_composite.proofs.GetSteps.{still_core}
use Rattle.shared_composite.proofs.ReadSteps.{after_get, read_on, held_there, put_same}
use Rattle.shared_composite.proofs.reading.read_parts.Goals as goal

pub get-requires-clause-counts : goal.get-requires-clause-counts
get-requires-clause-counts c =
    root_counted c.args.pool.now c.loop-k.core c.loop-k.invariant.core c.loop-k.k c.part-part.result
    c.part-part.ensures.part

pub get-requires-clause-known : goal.get-requires-clause-known
get-requires-clause-known c =
    cut_known c.args.pool.now c.loop-k.core c.loop-k.invariant.core c.loop-k.k c.part-part.result
    c.part-part.ensures.part c.min-skipped.result c.min-len.result
    (omega (arith, c.min-skipped.ensures, c.min-len.ensures))

pub returns-in_err-get-clause-core : goal.returns-in_err-get-clause-core
returns-in_err-get-clause-core c =
    still_core c.args.pool.now c.loop-k.core c.loop-k.invariant.core c.get.new.seat c.get.ensures.seat
    (ap (λ m. m.0) c.in_err-get.ensures.held.2.marked)

pub returns-in_err-get-clause-held : goal.returns-in_err-get-clause-held
returns-in_err-get-clause-held c =
    let far = c.loop-k.invariant in let held = c.in_err-get.ensures.held in let part = c.part-part.result in
    let s = c.min-skipped.result in let t = c.min-len.result in let done = c.loop-k.done in
    let p = err_from_is_err_and c.from_residual.result c.from_residual.ensures.1 in
    let there = subst (λ (ps : List Part). slice_get ps c.loop-k.k ≡ Some part) far.kept.parts
    c.part-part.ensures.part in
    let skipped : s ≡ min c.loop-k.skip part.len = omega (arith, c.min-skipped.ensures) in
    let taken : t ≡ min (length c.args.out.now - done) (part.len - s) =
    omega (arith, c.min-len.ensures, far.long) in
    let is = ap (λ (ys : List ℕ). put_mid done (done + t - done) c.loop-k.out ys) held.0
    ∙ put_same done (done + t - done) c.loop-k.out in
    rw (p.1, p.2) (held_there c.args.pool.now c.args.core.now c.loop-k.core c.args.start c.args.out.now c.loop-k.out
    c.loop-k.skip done c.loop-k.k far part there s t skipped taken c.get.new.seat _ held.1 held.2
    (put_mid done (done + t - done) c.loop-k.out c.get.new.out) is)

pub loop-k-preserved : goal.loop-k-preserved
loop-k-preserved c =
    let far = c.loop-k.invariant in let part = c.part-part.result in let pool = c.args.pool.now in
    let now = c.loop-k.core in let s = c.min-skipped.result in let t = c.min-len.result in
    let done = c.loop-k.done in let k = c.loop-k.k in
    let there = subst (λ (ps : List Part). slice_get ps k ≡ Some part) far.kept.parts c.part-part.ensures.part in
    let skipped : s ≡ min c.loop-k.skip part.len = omega (arith, c.min-skipped.ensures) in
    let taken : t ≡ min (length c.args.out.now - done) (part.len - s) =
    omega (arith, c.min-len.ensures, far.long) in
    let enough : 101 ≤ turns_of now =
    omega (arith, far.turns, c.requires.turns, c.loop-k-test.true, c.parts-k-end.ensures.bound) in
    let after = after_get pool now far.core c.get.new.seat c.get.ensures.seat c.get.ensures.same (cut part s t)
    (root_there pool now far.core k part c.part-part.ensures.part) c.get.new.out enough c.in_ok-get.ensures.got in
    let size : done + t - done ≡ t = omega arith in
    read_on pool c.args.core.now now c.args.start c.args.out.now c.loop-k.out c.loop-k.skip done k far part there s t
    skipped taken c.get.new.seat c.get.new.out c.in_ok-get.ensures.got after c.get.ensures.len
    (put_mid done (done + t - done) c.loop-k.out c.get.new.out)
    (ap (λ (m : ℕ). put_mid done m c.loop-k.out c.get.new.out) size)
