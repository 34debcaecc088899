-- Where root places lie that are packed.
use Rattle.std.specs.Prelude.{◌≡◌, ℕ, ◌+◌, ◌*◌, ◌<◌, ◌≤◌}
use Rattle.pool_law.specs.declared.run.Shape.{Shape}
use Rattle.pool_law.specs.declared.note.Object.TheVariants.{Root}
use Rattle.pool_table.specs.Words.{word_of, count_word_of}
use Rattle.pool_table.specs.Slots.{slot_of}
use Rattle.pool_table.specs.declared.firsts.Firsts.{Firsts}

-- the slot, the word and the count's word of each packed place lie so far behind the first's
pub record AreFirsts (s : Shape) (f : Firsts) : Type 0 where
  pub many : f.packed ≤ s.lanes * s.handles
  pub slots : (p : ℕ) → p < f.packed → slot_of s (Root p) ≡ f.slot + p
  pub words : (p : ℕ) → p < f.packed → word_of s (Root p) ≡ f.word + p
  pub counts : (p : ℕ) → p < f.packed → count_word_of s p ≡ f.count + p
  -- so no sum overflows
  pub low_slot : f.slot < 4294967296
  pub low_word : f.word < 4294967296
  pub low_count : f.count < 4294967296
