-- What is left of a lane, from behind a reference.
use Rattle.std.proofs.Common.{◌≡◌, ℕ, zero, suc, ◌<◌, ◌≤◌, List, [], ◌∷◌, length, get_or, ⊎_elim, refl, sym, ap, subst, arith}
use Rattle.std.proofs.lemmas.Bool.{cases_lt}
use denote.Ref.{Bor}
use Rattle.pool_law.specs.declared.note.Did.{Did}
use Rattle.run_check.specs.declared.gathering.HistoryNote.{HistoryNote}
use Rattle.run_check.specs.Gathering.{notes_data, left_of, HasNext, IsStuck}

pub left-at : (left : List (Bor (List HistoryNote))) (lane : ℕ) (notes : Bor (List HistoryNote)) → lane < length left →
    notes ≡ get_or left lane notes → left_of left lane ≡ notes_data notes.now
left-at [] lane notes there is = absurd (omega (arith, there))
left-at (x ∷ left) zero notes there is = ap (λ (s : Bor (List HistoryNote)). notes_data s.now) (sym is)
left-at (x ∷ left) (suc lane) notes there is = left-at left lane notes (omega (arith, there)) is

pub left-past : (left : List (Bor (List HistoryNote))) (lane : ℕ) → length left ≤ lane → left_of left lane ≡ []
left-past [] lane past = refl
left-past (x ∷ left) zero past = absurd (omega (arith, past))
left-past (x ∷ left) (suc lane) past = left-past left lane (omega (arith, past))

-- where no lane that is there has the number, none has
pub none-has : (left : List (Bor (List HistoryNote))) (number n : ℕ) →
    ((k : ℕ) → k < n → HasNext number (left_of left k) → ⊥) → length left ≤ n → IsStuck number (left_of left)
none-has left number n below all lane has =
    ⊎_elim
    (λ inside. below lane (omega (arith, inside, all)) has)
    (λ past. subst (λ (xs : List (ℕ × Did)). HasNext number xs) (left-past left lane past) has)
    (cases_lt lane (length left))
