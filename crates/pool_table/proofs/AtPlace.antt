-- The counts, tokens and ends of a root by its place and generation alone, and what a note may put down by these.
use Rattle.std.proofs.Common.{◌≡◌, ℕ, ◌+◌, ◌<◌, List}
use Rattle.std.specs.Prelude.{Some}
use Rattle.pool_law.specs.declared.id.RootId.{RootId}
use Rattle.pool_law.specs.declared.note.Did.{Did}
use Rattle.pool_law.specs.declared.note.Noted.{Noted}
use Rattle.history_laws.specs.Histories.{root_after}
use Rattle.history_laws.specs.NoteCounts.{did_home, did_birth, did_end, did_post}
use Rattle.pool_table.specs.declared.views.SeatView.{SeatView}
use Rattle.pool_table.specs.Counts.{weigh, gained, lost, on_root, ref_ended, ref_vacated}
use Rattle.pool_table.specs.Hands.{at_end, InHand, NoneWaits}

abbrev pub CountsAt : ℕ → ℕ → SeatView → Type 0
CountsAt p g v = lost p g v < gained p g v

abbrev pub TokenAt : ℕ → ℕ → SeatView → Type 0
TokenAt p g v = weigh (on_root ref_ended p g) v ≡ weigh (on_root ref_vacated p g) v + 1

abbrev pub EndedAt : ℕ → ℕ → SeatView → Type 0
EndedAt p g v = weigh (on_root ref_vacated p g) v < weigh (at_end p g) v

-- what a note puts down and tells, by places and generations
pub record PutsAt (v : SeatView) (d : Did) : Type 0 where
  pub home : (p : ℕ) → 0 < did_home p d → InHand p v × NoneWaits p v
  pub birth : (p : ℕ) → 0 < did_birth p d → InHand p v
  pub token : (p g : ℕ) → 0 < did_end p g d → TokenAt p g v
  pub posted : (p g : ℕ) → 0 < did_post p g d → CountsAt p g v

-- the root of generation g is present at the place p whose history is h
abbrev pub IsPresentIn : ℕ → ℕ → List Noted → Type 0
IsPresentIn p g h = (r : RootId) × (root_after p h ≡ Some r) × (r.place ≡ p) × (r.generation ≡ g)
