-- What is fetched differs from the front of what is posted.
use Rattle.std.proofs.Common.{◌≡◌, ℕ, length, arith}
use Rattle.definition_rows.proofs.MailRows.{numbers_of, first_of, written_of, front-has}
use Rattle.definition_rows.proofs.mails.forged_fetches_are_refused.Goals as goal

pub returns-clause-twice : goal.returns-clause-twice
returns-clause-twice c = λ h.
    let same : ◌≡◌ {A = ℕ} 2 3 = front-has _ _ h numbers_of in absurd (omega (arith, same))

pub returns-clause-twice_in_turn : goal.returns-clause-twice_in_turn
returns-clause-twice_in_turn c = λ h.
    let same : ◌≡◌ {A = ℕ} 4 2 = front-has _ _ h written_of in absurd (omega (arith, same))

pub returns-clause-second_first : goal.returns-clause-second_first
returns-clause-second_first c = λ h.
    let same : ◌≡◌ {A = ℕ} 2 1 = front-has _ _ h first_of in absurd (omega (arith, same))

pub returns-clause-second_alone : goal.returns-clause-second_alone
returns-clause-second_alone c = λ h.
    let same : ◌≡◌ {A = ℕ} 2 1 = front-has _ _ h numbers_of in absurd (omega (arith, same))

pub returns-clause-second_as_first : goal.returns-clause-second_as_first
returns-clause-second_as_first c = λ h.
    let same : ◌≡◌ {A = ℕ} 0 2 = front-has _ _ h written_of in absurd (omega (arith, same))

pub returns-clause-of_other_content : goal.returns-clause-of_other_content
returns-clause-of_other_content c = λ h.
    let same : ◌≡◌ {A = ℕ} 0 2 = front-has _ _ h written_of in absurd (omega (arith, same))

pub returns-clause-number_skipped : goal.returns-clause-number_skipped
returns-clause-number_skipped c = λ h.
    let same : ◌≡◌ {A = ℕ} 4 3 = front-has _ _ h numbers_of in absurd (omega (arith, same))

pub returns-clause-nobody_posted : goal.returns-clause-nobody_posted
returns-clause-nobody_posted c = λ h.
    let same : ◌≡◌ {A = ℕ} 1 0 = front-has _ _ h length in absurd (omega (arith, same))

pub returns-clause-one_too_many : goal.returns-clause-one_too_many
returns-clause-one_too_many c = λ h.
    let same : ◌≡◌ {A = ℕ} 2 1 = front-has _ _ h length in absurd (omega (arith, same))
