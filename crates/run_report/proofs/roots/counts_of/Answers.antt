use Rattle.std.proofs.Common.{◌≡◌, List, length, count_by, nat_le, ap, sym, ◌∙◌, arith}
use Rattle.pool_law.specs.declared.id.RootId.{RootId}
use Rattle.pool_law.specs.Text.{born_roots}
use Rattle.run_report.specs.Roots.{counted, times}
use Rattle.run_report.proofs.RootLaws.{born_is, live_among_is, notes_of}
use Rattle.run_report.proofs.roots.counts_of.Goals as goal

pub returns-clause-born : goal.returns-clause-born
returns-clause-born c =
    let born : length c.in_ok-born.born.items ≡ length (born_roots (notes_of c.args.logs.now)) =
    ap length (c.in_ok-born.ensures ∙ sym (born_is c.args.logs.now)) in
    omega (arith, born, c.len.ensures)

pub returns-clause-live : goal.returns-clause-live
returns-clause-live c =
    let live = live_among_is c.args.logs.now c.in_ok-retains.retains c.in_ok-releases.releases
    (λ q. c.in_ok-retains.ensures q
    ∙ ap (λ (rs : List RootId). times rs q) (c.deref.ensures.value ∙ c.in_ok-roots_over.ensures))
    (λ q. c.in_ok-releases.ensures q
    ∙ ap (λ (rs : List RootId). times rs q) (c.deref-2.ensures.value ∙ c.in_ok-roots_over-2.ensures)) in
    let test = λ (q : RootId). nat_le (counted c.in_ok-releases.releases q) (counted c.in_ok-retains.retains q) in
    c.live_among.ensures ∙ (ap (count_by test) (c.deref-3.ensures.value ∙ c.in_ok-born.ensures) ∙ sym live)
