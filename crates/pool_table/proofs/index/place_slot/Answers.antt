use Rattle.std.proofs.Common.{◌<◌, ℕ, subst}
use Rattle.pool_law.specs.declared.note.Object.TheVariants.{Root}
use Rattle.pool_table.specs.Words.{words_of}
use Rattle.pool_table.proofs.Words.{object_word}
use Rattle.pool_table.proofs.PackedPlaces.{packed_within}
use Rattle.pool_table.proofs.index.place_slot.Goals as goal

pub returns-then-place-firsts-clause-within : goal.returns-then-place-firsts-clause-within
returns-then-place-firsts-clause-within c =
    let s = c.args.shape.now in let p = c.args.place in let firsts = c.requires.firsts in
    let lt = c.if-place-firsts.true in
    subst (λ (w : ℕ). w < words_of s) (firsts.words p lt) (object_word s (Root p) (packed_within s _ firsts p lt))
