use Rattle.std.proofs.Common.{◌<◌, ℕ, subst}
use Rattle.pool_table.specs.Words.{words_of}
use Rattle.pool_table.proofs.Words.{count_word}
use Rattle.pool_table.proofs.PackedPlaces.{packed_within}
use Rattle.pool_table.proofs.index.root_index.Goals as goal

pub returns-then-place-firsts-clause-within : goal.returns-then-place-firsts-clause-within
returns-then-place-firsts-clause-within c =
    let s = c.args.shape.now in let p = c.args.place in let firsts = c.requires.firsts in
    let lt = c.if-place-firsts.true in
    subst (λ (w : ℕ). w < words_of s) (firsts.counts p lt) (count_word s p (packed_within s _ firsts p lt))
