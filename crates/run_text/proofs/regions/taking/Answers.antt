use Rattle.std.proofs.Common.{◌∙◌}
use Rattle.run_text.specs.Told.{region_told, nowhere}
use Rattle.run_text.proofs.WordLemmas.{passed_on}
use Rattle.run_text.proofs.regions.taking.Goals as goal

pub returns-in_err-taking : goal.returns-in_err-taking
returns-in_err-taking c = λ region more fits e.
    let r0 = rw c.in_err-taking.was at (c.number.ensures region.taking more fits e) in
    passed_on _ _ _ _ _ c.from_residual.ensures.1 r0

pub returns : goal.returns
returns c = λ region more fits e.
    let r0 = rw c.in_ok-taking.was at (c.number.ensures region.taking more fits e) in
    (c.region_of.ensures ∙ (λ k. region_told nowhere (r0.0 k) 0), r0.1)
