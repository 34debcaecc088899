use Rattle.std.proofs.Common.{◌<◌, ℕ, sym, subst, arith}
use Rattle.pool_law.specs.declared.note.Object.TheVariants.{Bin, Root}
use Rattle.pool_table.specs.Words.{words_of, word_of}
use Rattle.pool_table.proofs.Words.{object_word}
use Rattle.pool_table.proofs.index.padded_place_slot.Goals as goal

pub returns-then-place-shape-clause-within : goal.returns-then-place-shape-clause-within
returns-then-place-shape-clause-within c =
    subst (λ (w : ℕ). w < words_of c.args.shape.now) (sym c.object_slot.ensures.word)
    (object_word c.args.shape.now (Root c.args.place) c.if-place-shape.true)

pub returns-else-place-shape-clause-within : goal.returns-else-place-shape-clause-within
returns-else-place-shape-clause-within c =
    let n : ℕ = words_of c.args.shape.now in let w : ℕ = word_of c.args.shape.now (Bin 0) in
    let lt : w < n = object_word c.args.shape.now (Bin 0) c.requires.shape.some_lane in let g : 0 < n =
    omega (arith, lt) in
    g
