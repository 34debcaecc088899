-- What the count word of a root place tells, and how the roots of a place follow one another.
use Rattle.std.specs.Prelude.{◌≡◌, ℕ, ◌+◌, ◌-◌, ◌*◌, ◌<◌, ◌≤◌, ◌↔◌, List, Option, sum_by, slice_index}
use Rattle.step_law.specs.Settings.{Setting}
use Rattle.atomic_table.specs.Table.{State}
use Rattle.pool_law.specs.declared.note.Noted.{Noted}
use Rattle.pool_table.specs.declared.views.Layout.{Layout}
use Rattle.pool_table.specs.declared.views.SeatView.{SeatView}
use Rattle.pool_table.specs.Counts.{weigh, at_gain, at_loss, gained, lost, tally, place_tally, ref_born, ref_ended, ref_vacated}
use Rattle.pool_table.specs.Words.{count_word_of}
use Rattle.pool_table.specs.Sound.{IsSound}

-- the counts of the root (p, g) in all views
abbrev pub counted_in : ℕ → ℕ → List SeatView → ℕ
counted_in p g views = sum_by (λ v. gained p g v - lost p g v) views

-- the parcels with it that were posted and not fetched
abbrev pub unfetched_in : ℕ → ℕ → List SeatView → ℕ
unfetched_in p g views =
    sum_by (weigh (at_loss p g)) views - sum_by (weigh (at_gain p g)) views

-- how many roots were born at the place: the generation of the last one
abbrev pub births_at : ℕ → List SeatView → ℕ
births_at p views = place_tally ref_born p views

-- the raw half of the word: twice all counts and unfetched parcels of the last root, and one more
-- while the place is vacant, which is vacated once before the first birth
abbrev pub raw_half : ℕ → List SeatView → ℕ
raw_half p views =
    2 * (counted_in p (births_at p views) views + unfetched_in p (births_at p views) views)
    + (place_tally ref_vacated p views + 1 - births_at p views)

-- the word of the place is the generation of its last root, and the raw half; of the parcels with
-- that root no more were fetched than posted
pub record WordTells (p : ℕ) (views : List SeatView) (word : ℕ) : Type 0 where
  pub word_is : word ≡ births_at p views * 4294967296 + raw_half p views
  pub fits : raw_half p views < 4294967296
  pub posted : sum_by (weigh (at_gain p (births_at p views))) views
      ≤ sum_by (weigh (at_loss p (births_at p views))) views

-- the root (p, g) is born once, then ends, where nothing counts it any more, then is vacated, and
-- then the next one of its place is born; the first one is of generation 1
pub record InTurn (p g : ℕ) (views : List SeatView) : Type 0 where
  pub from_one : 0 < tally ref_born p g views → 0 < g
  pub born_once : tally ref_born p g views ≤ 1
  pub born_before : tally ref_ended p g views ≤ tally ref_born p g views
  pub ended_before : tally ref_vacated p g views ≤ tally ref_ended p g views
  pub vacated_before : 0 < g → tally ref_born p (g + 1) views ≤ tally ref_vacated p g views
  pub ended_uncounted : 0 < tally ref_born p g views →
      (tally ref_ended p g views ≡ 1)
      ↔ (counted_in p g views + unfetched_in p g views ≡ 0)

module _ {H : Type 0} (stands : List ℕ → Setting → List Noted → H → Type 0) (l : Layout) where
  -- each count word tells its counts
  abbrev pub WordsTellCounts : Type 0
  WordsTellCounts =
      (s : State (Option H) SeatView) → IsSound stands l s →
      (p : ℕ) → p < l.shape.lanes * l.shape.handles →
      WordTells p s.views (slice_index s.words (count_word_of l.shape p))

  -- the roots of each place follow one another
  abbrev pub RootsInTurn : Type 0
  RootsInTurn =
      (s : State (Option H) SeatView) → IsSound stands l s →
      (p : ℕ) → p < l.shape.lanes * l.shape.handles → (g : ℕ) → InTurn p g s.views
