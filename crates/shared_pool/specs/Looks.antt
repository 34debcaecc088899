-- What a lane that looks up the count of a root finds, by the entries before the look in its log.
use Rattle.std.specs.Prelude.{◌≡◌, ℕ, ◌+◌, ◌≤◌, List, ◌∷◌, ◌++◌}
use Rattle.pool_law.specs.declared.id.RootId.{RootId}
use Rattle.pool_law.specs.declared.note.RefDid.TheVariants.{Look}
use Rattle.pool_law.specs.declared.note.Note.TheVariants.{Ref}
use Rattle.pool_law.specs.Logs.{ToldNote}
use Rattle.pool_law.specs.Counts.{count_in, note_gains, note_loses, is_retain, is_release}

-- found is at least what the lane gained less what it lost, and at most 1 with its own retains less
-- its own releases, all before the look, and the retains of the other lanes, whenever they were
pub record LookRight (root : RootId) (others : ℕ) (before : List ToldNote) (found : ℕ) : Type 0 where
  pub least : count_in (note_gains root) before ≤ found + count_in (note_loses root) before
  pub most : found + count_in (is_release root) before
      ≤ 1 + (count_in (is_retain root) before + others)

-- each look at the root in a lane's log found what is right, whether or not the lane counts it
abbrev pub LooksRight : RootId → ℕ → List ToldNote → Type 0
LooksRight root others es =
    (before after : List ToldNote) (e : ToldNote) (found : ℕ) → es ≡ before ++ e ∷ after →
    e.note ≡ Ref root (Look found) → LookRight root others before found
