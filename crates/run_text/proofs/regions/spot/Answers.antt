use Rattle.std.proofs.Common.{◌∷◌, ◌∙◌, decimal}
use Rattle.run_text.specs.Told.{region_told}
use Rattle.run_text.proofs.WordLemmas.{passed_on}
use Rattle.run_text.proofs.regions.spot.Goals as goal

pub returns-in_err-chunk : goal.returns-in_err-chunk
returns-in_err-chunk c = λ region more fits e.
    let r0 = rw c.in_err-chunk.was
    at (c.pair.ensures region.place.chunk region.place.offset (decimal region.taking ∷ more) fits.0 fits.1 e) in
    passed_on _ _ _ _ _ c.from_residual.ensures.1 r0

pub returns-in_err-taking : goal.returns-in_err-taking
returns-in_err-taking c = λ region more fits e.
    let r0 = rw c.in_ok-chunk.was
    at (c.pair.ensures region.place.chunk region.place.offset (decimal region.taking ∷ more) fits.0 fits.1 e) in
    let r1 = rw c.in_err-taking.was at (c.number.ensures region.taking more fits.2 r0.1) in
    passed_on _ _ _ _ _ c.from_residual-in_err-taking.ensures.1 r1

pub returns : goal.returns
returns c = λ region more fits e.
    let r0 = rw c.in_ok-chunk.was
    at (c.pair.ensures region.place.chunk region.place.offset (decimal region.taking ∷ more) fits.0 fits.1 e) in
    let r1 = rw c.in_ok-taking.was at (c.number.ensures region.taking more fits.2 r0.1) in (
      c.region_of.ensures
          ∙ (λ k. region_told (record { arena = 0; chunk = (r0.0 k).0; offset = (r0.0 k).1; len = 0 }) (r1.0 k) 0),
      r1.1,
    )
