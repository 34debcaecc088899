use Rattle.std.proofs.Common.{◌+◌, ◌*◌, ◌^◌, ◌≤◌, ℕ, subst, sym, ◌∙◌, Fits-le, Fits-lit, arith}
use Rattle.std.proofs.Math.Facts.{Fits-lt-pow}
use Rattle.bit_words.specs.Words.{IsLowestClear}
use Rattle.bit_words.proofs.WordLaws.{lowest, all-set}
use Rattle.bit_words.proofs.words.lowest_clear.Goals as goal

pub overflow_add-result : goal.overflow_add-result
overflow_add-result c =
    let words = c.args.words.now in
    let at = lowest words c.in-Some.i (λ k. Fits-lt-pow (c.type_inv.words k))
    (sym c.first_with_clear.ensures.place ∙ c.in-Some.is) in
    let small : 64 * c.in-Some.i + c.trailing_ones.result ≤ 2 ^ 31 =
    omega (arith, at.there, c.trailing_ones.ensures, c.requires) in
    Fits-le small (Fits-lit tt)

pub returns-in-None : goal.returns-in-None
returns-in-None c =
    all-set c.args.words.now (λ k. Fits-lt-pow (c.type_inv.words k))
    (sym c.first_with_clear.ensures.place ∙ c.in-None.is)

pub returns-in-Some : goal.returns-in-Some
returns-in-Some c =
    let words = c.args.words.now in
    let P : ℕ → Type 0 = λ n. IsLowestClear words (64 * c.in-Some.i + n) in
    subst P (sym c.trailing_ones.ensures)
    (lowest words c.in-Some.i (λ k. Fits-lt-pow (c.type_inv.words k))
    (sym c.first_with_clear.ensures.place ∙ c.in-Some.is))
