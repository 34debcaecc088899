-- A bin stands for one note more after each step.
use Rattle.std.proofs.Common.{◌≡◌, ℕ, List, [], ◌∷◌, ◌++◌, sym, ap, subst, Some, ◌∙◌}
use Rattle.std.specs.Prelude.{Option, option_and_then}
use Rattle.ground.specs.Grounds.{Grounds}
use Rattle.pool_law.specs.declared.note.Noted.{Noted}
use Rattle.pool_law.specs.declared.note.Did.{Did}
use Rattle.pool_law.specs.Caches.{new_bin, bin_step}
use Rattle.pool_law.proofs.HistoryLemmas.{after-noted}
use Rattle.handle_bin.specs.Bins.{BinValue, places_in, full_bin, Makes}
use Rattle.handle_bin.specs.Standing.{bin_told, StandsFor}
use Rattle.handle_bin.proofs.BinLaws.{places_of_first}

-- a new bin stands for no notes
pub stands_new : (grounds : Grounds) (lane handles : ℕ) → StandsFor grounds [] (full_bin lane handles)
stands_new grounds lane handles = record { told = ap Some (sym (places_of_first lane handles handles)) }

-- after a step that a note makes the bin stands for one note more
pub stands_more : (grounds : Grounds) (h : List Noted) (n : Noted) (old new : BinValue) →
    StandsFor grounds h old → Makes old n.did new → StandsFor grounds (h ++ n ∷ []) new
stands_more grounds h n old new stands makes =
    let step : List ℕ → Did → Option (List ℕ) = bin_step old.lane old.handles in
    let told : bin_told old.lane old.handles (h ++ n ∷ []) ≡ Some (places_in new.ready) =
    after-noted step (new_bin old.lane old.handles) h n
    ∙ ap (option_and_then (λ places. step places n.did)) stands.told
    ∙ makes.step in
    let measures : ℕ × ℕ → Type 0 = λ m. bin_told m.0 m.1 (h ++ n ∷ []) ≡ Some (places_in new.ready) in
    record { told = subst {A = ℕ × ℕ} measures (λ i. (sym makes.lane i, sym makes.handles i)) told }
