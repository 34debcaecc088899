use Rattle.std.proofs.Common.{refl, decimal, arith}
use Rattle.run_text.proofs.WordLemmas.{lacks-decimal}
use Rattle.run_text.proofs.words.Words.small.Goals as goal

pub returns : goal.returns
returns c = λ n more small e.
    let w = c.next-word.ensures (decimal n) more (lacks-decimal 32 n (omega arith) (omega arith)) e in
    rw (c.small_in.ensures n small w.0) (refl, w.1)
