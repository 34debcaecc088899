use Rattle.run_text.proofs.WordLemmas.{passed_on}
use Rattle.run_text.proofs.regions.root.Goals as goal

pub returns-in_err-place : goal.returns-in_err-place
returns-in_err-place c = λ root more low least e.
    let r0 = rw c.in_err-place.was at (c.pair.ensures root.place root.generation more low least e) in
    passed_on _ _ _ _ _ c.from_residual.ensures.1 r0

pub returns : goal.returns
returns c = λ root more low least e.
    let r0 = rw c.in_ok-place.was at (c.pair.ensures root.place root.generation more low least e) in
    (λ k. record { place = (r0.0 k).0; generation = (r0.0 k).1; capacity = 0 }, r0.1)
