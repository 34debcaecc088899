-- How often a seat counts roots, and what its steps tell of that and of what it asked for.
use Rattle.std.specs.Prelude.{◌≡◌, ℕ, ◌+◌, ◌≤◌, if◌then◌else◌, Bool, true, false, List, [], ◌∷◌, sum_by}
use Rattle.pool_law.specs.declared.id.RootId.{RootId}
use Rattle.pool_law.specs.declared.note.Did.{Did}
use Rattle.pool_law.specs.declared.note.Did.TheVariants.{NoHandle, Full}
use Rattle.pool_law.specs.Same.{same_root}
use Rattle.pool_table.specs.declared.views.Entry.{Entry}
use Rattle.pool_table.specs.declared.views.SeatView.{SeatView}
use Rattle.pool_table.specs.Counts.{weigh, on_this, ref_ended, gained_of, lost_of}
use Rattle.pool_table.specs.Views.{noted_weight}

-- 1 for this root, and 0 for another
abbrev pub one_for : RootId → RootId → ℕ
one_for root other = if same_root root other then 1 else 0

-- how often a root is in a list
abbrev pub times : RootId → List RootId → ℕ
times root roots = sum_by (λ r. one_for r root) roots

-- the view counts each root at least as often as it is in the list
abbrev pub Holds : List RootId → SeatView → Type 0
Holds roots v = (root : RootId) → times root roots + lost_of root v ≤ gained_of root v

-- the view lost no more counts of a root than it gained
abbrev pub IsPaid : SeatView → Type 0
IsPaid v = Holds [] v

-- how often the view noted that the count of a root ended
abbrev pub ends_of : RootId → SeatView → ℕ
ends_of root v = weigh (on_this ref_ended root) v

-- a note that a bin was empty, and that an arena was full
abbrev pub is_no_handle : Did → Bool
is_no_handle NoHandle = true
is_no_handle _ = false

abbrev pub is_full : Did → Bool
is_full (Full class) = true
is_full _ = false

-- 1 for an entry with such a note
abbrev pub finds_empty : Entry → ℕ
finds_empty e = noted_weight (λ n. if is_no_handle n.did then 1 else 0) e

abbrev pub finds_full : Entry → ℕ
finds_full e = noted_weight (λ n. if is_full n.did then 1 else 0) e

-- what steps told: roots that the seat counts once more, roots that it counts once less, those of them
-- whose count of all seats ended so, and how often it found its bin empty and its arena full
pub record Change : Type 0 where
  pub got : List RootId
  pub gone : List RootId
  pub over : List RootId
  pub empty : ℕ
  pub full : ℕ

abbrev pub no_change : Change
no_change = record { got = []; gone = []; over = []; empty = 0; full = 0 }

-- a root is counted once more, or once less, and that was the last count or not
abbrev pub once_more : RootId → Change
once_more root = record no_change { got = root ∷ [] }

abbrev pub once_less : RootId → Bool → Change
once_less root last =
    record no_change { gone = root ∷ []; over = if last then root ∷ [] else [] }

-- just this changed from the one view to the other
pub record Changes (c : Change) (v w : SeatView) : Type 0 where
  pub counts : (root : RootId) →
      times root c.gone + gained_of root w + lost_of root v
      ≡ times root c.got + gained_of root v + lost_of root w
  pub ended : (root : RootId) → ends_of root w ≡ ends_of root v + times root c.over
  pub empty : weigh finds_empty w ≡ weigh finds_empty v + c.empty
  pub full : weigh finds_full w ≡ weigh finds_full v + c.full
