use Rattle.std.proofs.Common.{◌+◌, ◌*◌, ◌^◌, ◌≤◌, get_or, sym, ◌∙◌, Fits-le, Fits-lit, arith, w64}
use Rattle.std.proofs.Math.Facts.{Fits-lt-pow}
use Rattle.std.specs.Int.{trailing_zeros}
use Rattle.bit_words.proofs.WordLaws.{first-set, all-clear}
use Rattle.bit_words.proofs.words.lowest_set.Goals as goal

pub overflow_add-result : goal.overflow_add-result
overflow_add-result c =
    let words = c.args.words.now in
    let at = first-set words c.in-Some.i (λ k. Fits-lt-pow (c.type_inv.words k))
    (sym c.first_with_set.ensures.place ∙ c.in-Some.is) in
    let small : 64 * c.in-Some.i + trailing_zeros w64 (get_or words c.in-Some.i 0) ≤ 2 ^ 31 =
    omega (arith, at.there, c.requires) in
    Fits-le small (Fits-lit tt)

pub returns-in-None : goal.returns-in-None
returns-in-None c = all-clear c.args.words.now (sym c.first_with_set.ensures.place ∙ c.in-None.is)

pub returns-in-Some : goal.returns-in-Some
returns-in-Some c =
    first-set c.args.words.now c.in-Some.i (λ k. Fits-lt-pow (c.type_inv.words k))
    (sym c.first_with_set.ensures.place ∙ c.in-Some.is)
