-- The notes of a log from a place on.
use Rattle.std.proofs.Common.{◌≡◌, ℕ, zero, suc, ◌+◌, ◌<◌, List, [], ◌∷◌, length, drop, get_or, refl, sym, arith, ◌∙◌}
use Rattle.std.specs.Prelude.{slice_get, unwrap_or}
use Rattle.pool_law.specs.declared.note.Note.{Note}
use Rattle.object_steps.specs.declared.told.PlaceTold.{PlaceTold}
use Rattle.lane_reader.specs.Reading.{entry, untold, entries_in}
use Rattle.lane_reader.proofs.ReadingLemmas.{entries-from}

pub entries-at : (notes : List Note) (told : List PlaceTold) (at : ℕ) (note : Note) → at < length notes →
    note ≡ get_or notes at note →
    drop at (entries_in notes told)
    ≡ entry note (unwrap_or (slice_get told at) untold) ∷ drop (at + 1) (entries_in notes told)
entries-at notes told at note there e =
    let next : suc at ≡ at + 1 = omega arith in
    entries-from notes told at note there
    ∙ (λ i. entry (sym e i) (unwrap_or (slice_get told at) untold) ∷ drop (next i) (entries_in notes told))

-- what is told of a note that is there
pub told-or : (told : List PlaceTold) (at : ℕ) (d : PlaceTold) → at < length told →
    get_or told at d ≡ unwrap_or (slice_get told at) untold
told-or [] at d there = absurd (omega (arith, there))
told-or (t ∷ told) zero d there = refl
told-or (t ∷ told) (suc at) d there = told-or told at d (omega (arith, there))
