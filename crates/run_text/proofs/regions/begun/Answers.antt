use Rattle.std.proofs.Common.{◌≡◌, ◌∷◌, ◌∙◌, decimal, refl}
use Rattle.run_text.specs.Told.{region_told, use_told}
use Rattle.run_text.proofs.WordLemmas.{passed_on}
use Rattle.run_text.proofs.regions.begun.Goals as goal

pub returns-in_err-place : goal.returns-in_err-place
returns-in_err-place c = λ region capacity more fits e.
    let r0 = rw c.in_err-place.was
    at (c.place.ensures (record {
      arena = region.place.arena;
      chunk = region.place.chunk;
      offset =
          region.place.offset;
      len = 0;
    }) (decimal region.taking ∷ decimal region.uses ∷ decimal capacity ∷ more) refl
    fits.0.0 fits.0.1 fits.0.2 e) in
    passed_on _ _ _ _ _ c.from_residual.ensures.1 r0

pub returns-in_err-taking : goal.returns-in_err-taking
returns-in_err-taking c = λ region capacity more fits e.
    let r0 = rw c.in_ok-place.was
    at (c.place.ensures (record {
      arena = region.place.arena;
      chunk = region.place.chunk;
      offset =
          region.place.offset;
      len = 0;
    }) (decimal region.taking ∷ decimal region.uses ∷ decimal capacity ∷ more) refl
    fits.0.0 fits.0.1 fits.0.2 e) in
    let r1 = rw c.in_err-taking.was
    at (c.number.ensures region.taking (decimal region.uses ∷ decimal capacity ∷ more) fits.1 r0.1) in
    passed_on _ _ _ _ _ c.from_residual-in_err-taking.ensures.1 r1

pub returns-in_err-uses : goal.returns-in_err-uses
returns-in_err-uses c = λ region capacity more fits e.
    let r0 = rw c.in_ok-place.was
    at (c.place.ensures (record {
      arena = region.place.arena;
      chunk = region.place.chunk;
      offset =
          region.place.offset;
      len = 0;
    }) (decimal region.taking ∷ decimal region.uses ∷ decimal capacity ∷ more) refl
    fits.0.0 fits.0.1 fits.0.2 e) in
    let r1 = rw c.in_ok-taking.was
    at (c.number.ensures region.taking (decimal region.uses ∷ decimal capacity ∷ more) fits.1 r0.1) in
    let r2 = rw c.in_err-uses.was at (c.number-2.ensures region.uses (decimal capacity ∷ more) fits.2 r1.1) in
    passed_on _ _ _ _ _ c.from_residual-in_err-uses.ensures.1 r2

pub returns-in_err-capacity : goal.returns-in_err-capacity
returns-in_err-capacity c = λ region capacity more fits e.
    let r0 = rw c.in_ok-place.was
    at (c.place.ensures (record {
      arena = region.place.arena;
      chunk = region.place.chunk;
      offset =
          region.place.offset;
      len = 0;
    }) (decimal region.taking ∷ decimal region.uses ∷ decimal capacity ∷ more) refl
    fits.0.0 fits.0.1 fits.0.2 e) in
    let r1 = rw c.in_ok-taking.was
    at (c.number.ensures region.taking (decimal region.uses ∷ decimal capacity ∷ more) fits.1 r0.1) in
    let r2 = rw c.in_ok-uses.was at (c.number-2.ensures region.uses (decimal capacity ∷ more) fits.2 r1.1) in
    let r3 = rw c.in_err-capacity.was at (c.small.ensures capacity more fits.3 r2.1) in
    passed_on _ _ _ _ _ c.from_residual-in_err-capacity.ensures.1 r3

pub returns : goal.returns
returns c = λ region capacity more fits e.
    let r0 = rw c.in_ok-place.was
    at (c.place.ensures (record {
      arena = region.place.arena;
      chunk = region.place.chunk;
      offset =
          region.place.offset;
      len = 0;
    }) (decimal region.taking ∷ decimal region.uses ∷ decimal capacity ∷ more) refl
    fits.0.0 fits.0.1 fits.0.2 e) in
    let r1 = rw c.in_ok-taking.was
    at (c.number.ensures region.taking (decimal region.uses ∷ decimal capacity ∷ more) fits.1 r0.1) in
    let r2 = rw c.in_ok-uses.was at (c.number-2.ensures region.uses (decimal capacity ∷ more) fits.2 r1.1) in
    let r3 = rw c.in_ok-capacity.was at (c.small.ensures capacity more fits.3 r2.1) in (
      let whole : c.region_of.result ≡ use_told region = c.region_of.ensures
          ∙ (λ j. region_told (r0.0 j) (r1.0 j) (r2.0 j)) in λ k. (whole k, r3.0 k),
      r3.1,
    )
