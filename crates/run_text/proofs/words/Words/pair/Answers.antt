use Rattle.std.proofs.Common.{◌∷◌, ◌++◌, decimal, arith}
use Rattle.run_text.proofs.WordLemmas.{is_word-pair, lacks-decimal, same_ok, not_err}
use Rattle.run_text.proofs.words.Words.pair.Goals as goal

pub returns-in_err-before : goal.returns-in_err-before
returns-in_err-before c = λ a b more low least e.
    let w = c.next-word.ensures (decimal a ++ c.args.mark ∷ decimal b) more
    (is_word-pair c.args.mark a b c.requires.0 low least) e in
    let free = lacks-decimal c.args.mark a c.requires.1 (omega arith) in
    absurd (rw c.in_err-before.was at (c.parted.ensures (decimal a) (decimal b) free w.0))

pub returns-in_err-a : goal.returns-in_err-a
returns-in_err-a c = λ a b more low least e.
    let w = c.next-word.ensures (decimal a ++ c.args.mark ∷ decimal b) more
    (is_word-pair c.args.mark a b c.requires.0 low least) e in
    let free = lacks-decimal c.args.mark a c.requires.1 (omega arith) in
    let p = rw c.in_ok-before.was at (c.parted.ensures (decimal a) (decimal b) free w.0) in
    absurd (not_err c.small_in.result _ a c.in_err-a.was (c.small_in.ensures a low p.0))

pub returns-in_err-b : goal.returns-in_err-b
returns-in_err-b c = λ a b more low least e.
    let w = c.next-word.ensures (decimal a ++ c.args.mark ∷ decimal b) more
    (is_word-pair c.args.mark a b c.requires.0 low least) e in
    let free = lacks-decimal c.args.mark a c.requires.1 (omega arith) in
    let p = rw c.in_ok-before.was at (c.parted.ensures (decimal a) (decimal b) free w.0) in
    absurd (not_err c.small_in-2.result _ b c.in_err-b.was (c.small_in-2.ensures b least p.1))

pub returns : goal.returns
returns c = λ a b more low least e.
    let w = c.next-word.ensures (decimal a ++ c.args.mark ∷ decimal b) more
    (is_word-pair c.args.mark a b c.requires.0 low least) e in
    let free = lacks-decimal c.args.mark a c.requires.1 (omega arith) in
    let p = rw c.in_ok-before.was at (c.parted.ensures (decimal a) (decimal b) free w.0) in
    let first = same_ok c.small_in.result c.in_ok-a.a a c.in_ok-a.was (c.small_in.ensures a low p.0) in
    let second = same_ok c.small_in-2.result c.in_ok-b.b b c.in_ok-b.was (c.small_in-2.ensures b least p.1) in
    (λ k. (first k, second k), w.1)
