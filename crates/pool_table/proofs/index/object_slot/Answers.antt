use Rattle.std.proofs.Common.{◌*◌, ◌<◌, ℕ, ap, sym, subst, ◌∙◌}
use Rattle.pool_law.specs.Homes.{home_of}
use Rattle.pool_table.specs.Words.{listed_of, word_at}
use Rattle.pool_table.proofs.Words.{object_listed, word_lies, lies_single}
use Rattle.pool_table.proofs.Slots.{single_home, slot_single}
use Rattle.pool_table.proofs.index.object_slot.Goals as goal

pub word_index-requires-clause-listed : goal.word_index-requires-clause-listed
word_index-requires-clause-listed c =
    let s = c.args.shape.now in
    subst (λ (n : ℕ). n < listed_of s) (sym c.home_index-number.ensures)
    (object_listed s c.args.object c.requires.object)

pub returns-in-Root-clause-word : goal.returns-in-Root-clause-word
returns-in-Root-clause-word c = c.word_index.ensures ∙ ap (word_at c.args.shape.now) c.home_index-number.ensures

pub returns-in_default-clause-home : goal.returns-in_default-clause-home
returns-in_default-clause-home c = let s = c.args.shape.now in let i : ℕ = home_of s c.args.object in
    ap (λ (n : ℕ). n * 8) c.home_index-number.ensures
    ∙ sym (slot_single s i (single_home s c.args.object c.requires.object c.in_default.not-Root))

pub returns-in_default-clause-word : goal.returns-in_default-clause-word
returns-in_default-clause-word c = let s = c.args.shape.now in let i : ℕ = home_of s c.args.object in
    ap (λ (n : ℕ). n * 16) c.home_index-number.ensures
    ∙ sym (word_lies s i ∙ lies_single s i (single_home s c.args.object c.requires.object c.in_default.not-Root))
