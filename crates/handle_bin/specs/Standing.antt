-- When a bin stands for a list of notes, and which note may come next.
use Rattle.std.specs.Prelude.{◌≡◌, ℕ, List, [], ◌∷◌, ◌++◌, Option, Some, IsSome, is_some, option_and_then}
use Rattle.std.proofs.Common.{sym, ap, ◌∙◌}
use Rattle.ground.specs.Grounds.{Grounds}
use Rattle.pool_law.specs.declared.note.Did.{Did}
use Rattle.pool_law.specs.declared.note.Noted.{Noted}
use Rattle.pool_law.specs.Caches.{new_bin, bin_step}
use Rattle.pool_law.specs.Histories.{after}
use Rattle.pool_law.specs.NotedHistories.{noted_dids}
use Rattle.pool_law.proofs.HistoryLemmas.{after-noted}
use Rattle.handle_bin.specs.Bins.{BinValue, places_in}

-- what the notes make of a new bin of this lane
abbrev pub bin_told : ℕ → ℕ → List Noted → Option (List ℕ)
bin_told lane handles notes =
    after (bin_step lane handles) (new_bin lane handles) (noted_dids notes)

-- the notes make this bin of a new one: it has no memory, so under any grounds
pub record StandsFor (grounds : Grounds) (notes : List Noted) (b : BinValue) : Type 0 where
  pub told : bin_told b.lane b.handles notes ≡ Some (places_in b.ready)

-- the note may come after these at the bin of this lane
abbrev pub MayFollow : BinValue → List Noted → Noted → Type 0
MayFollow b notes n = IsSome (bin_told b.lane b.handles (notes ++ n ∷ []))

-- of two lists for which a bin stands, the same notes may follow
pub MayFollow-decided : (grounds : Grounds) (b : BinValue) (xs ys : List Noted) →
    StandsFor grounds xs b → StandsFor grounds ys b →
    (n : Noted) → MayFollow b xs n → MayFollow b ys n
MayFollow-decided grounds b xs ys left right n may =
    let step : List ℕ → Did → Option (List ℕ) = bin_step b.lane b.handles in
    let new : List ℕ = new_bin b.lane b.handles in
    let told : List Noted → Option (List ℕ) = bin_told b.lane b.handles in
    let alike : told (xs ++ n ∷ []) ≡ told (ys ++ n ∷ []) =
    after-noted step new xs n
    ∙ ap (option_and_then (λ places. step places n.did)) (left.told ∙ sym right.told)
    ∙ sym (after-noted step new ys n) in
    sym (ap is_some alike) ∙ may
