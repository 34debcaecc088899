-- The number of a post differs from its place.
use Rattle.std.proofs.Common.{◌≡◌, ℕ, arith, refl}
use Rattle.std.specs.Prelude.{None}
use Rattle.definition_rows.proofs.mails.forged_posts_are_refused.Goals as goal

pub returns-clause-number_skipped : goal.returns-clause-number_skipped
returns-clause-number_skipped c = λ h.
    let same : ◌≡◌ {A = ℕ} 3 2 = h.numbered 1 (3, record { view = None }) refl in
    absurd (omega (arith, same))

pub returns-clause-number_twice : goal.returns-clause-number_twice
returns-clause-number_twice c = λ h.
    let same : ◌≡◌ {A = ℕ} 1 2 = h.numbered 1 (1, record { view = None }) refl in
    absurd (omega (arith, same))

pub returns-clause-out_of_order : goal.returns-clause-out_of_order
returns-clause-out_of_order c = λ h.
    let same : ◌≡◌ {A = ℕ} 2 1 = h.numbered 0 (2, record { view = None }) refl in
    absurd (omega (arith, same))

pub returns-clause-behind_the_fetches : goal.returns-clause-behind_the_fetches
returns-clause-behind_the_fetches c = λ h.
    let same : ◌≡◌ {A = ℕ} 3 2 = h.numbered 1 (3, record { view = None }) refl in
    absurd (omega (arith, same))
