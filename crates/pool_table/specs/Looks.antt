-- What a look at a root's count tells of the notes of its part, and of all retains.
use Rattle.std.specs.Prelude.{◌≡◌, ℕ, ◌+◌, ◌≤◌, List, ◌∷◌, ◌++◌, All, sum_by}
use Rattle.pool_law.specs.declared.id.RootId.{RootId}
use Rattle.pool_law.specs.declared.note.RefDid.TheVariants.{Look}
use Rattle.pool_table.specs.declared.views.Entry.{Entry}
use Rattle.pool_table.specs.declared.views.Entry.TheVariants.{Ref}
use Rattle.pool_table.specs.declared.views.Part.{Part}
use Rattle.pool_table.specs.declared.views.SeatView.{SeatView}
use Rattle.pool_table.specs.Views.{parts_of}
use Rattle.pool_table.specs.Counts.{on_root, at_gain, at_loss, ref_gain, ref_loss, ref_retain, tally}

-- a look that answered k, after the entries `before` of a part with the entries `own`, where the
-- root (p, g) was retained `retains` times in all parts: what the part counted then is at most k,
-- and k at most 1 more than the part's own retains then and those of all other parts, less the
-- part's own releases then
pub record IsLookRight (p g k retains : ℕ) (own before : List Entry) : Type 0 where
  pub least : sum_by (on_root ref_gain p g) before + sum_by (at_gain p g) before
      ≤ k + (sum_by (on_root ref_loss p g) before + sum_by (at_loss p g) before)
  pub most : k + sum_by (on_root ref_loss p g) before + sum_by (on_root ref_retain p g) own
      ≤ 1 + sum_by (on_root ref_retain p g) before + retains

-- each look of a part is right, by how often each root was retained
abbrev pub LooksRight : (ℕ → ℕ → ℕ) → Part → Type 0
LooksRight retains q =
    (before after : List Entry) (r : RootId) (k : ℕ) → q.notes ≡ before ++ Ref r (Look k) ∷ after →
    IsLookRight r.place r.generation k (retains r.place r.generation) q.notes before

-- how often each root was retained, in all views
abbrev pub retains_in : List SeatView → ℕ → ℕ → ℕ
retains_in views p g = tally ref_retain p g views

-- each look of each part is right
abbrev pub AreLooksRight : List SeatView → Type 0
AreLooksRight views = All (λ (v : SeatView). All (LooksRight (retains_in views)) (parts_of v)) views
