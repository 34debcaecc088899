-- A number that is not the place of its note in the history.
use Rattle.std.proofs.Common.{◌≡◌, ℕ, List, [], ◌∷◌, ap, arith}
use Rattle.pool_law.specs.declared.note.Did.{Did}
use Rattle.definition_rows.proofs.logs.whole_histories.Goals as goal

-- the first number of two lists of notes that are the same
first_number : (n m : ℕ) (d e : Did) (xs ys : List (ℕ × Did)) →
    ◌≡◌ {A = List (ℕ × Did)} ((n, d) ∷ xs) ((m, e) ∷ ys) → n ≡ m
first_number n m d e xs ys same =
    let first : ◌≡◌ {A = ℕ × Did} (n, d) (m, e) = cc same in ap (λ x. x.0) first

pub returns-clause-number_left_out : goal.returns-clause-number_left_out
returns-clause-number_left_out c = λ whole.
    let same : ◌≡◌ {A = ℕ} 2 1 = first_number 2 1 Did.Touch Did.Touch [] [] (whole 0) in
    absurd (omega (arith, same))

pub returns-clause-number_twice : goal.returns-clause-number_twice
returns-clause-number_twice c = λ whole.
    let same : ◌≡◌ {A = ℕ} 1 2 = first_number 1 2 Did.Touch Did.Touch [] [] (whole 1) in
    absurd (omega (arith, same))

pub returns-clause-out_of_order : goal.returns-clause-out_of_order
returns-clause-out_of_order c = λ whole.
    let same : ◌≡◌ {A = ℕ} 2 1 =
    first_number 2 1 Did.Touch Did.Touch ((1, Did.Touch) ∷ []) ((2, Did.Touch) ∷ []) (whole 0) in
    absurd (omega (arith, same))
