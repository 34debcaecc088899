use Rattle.std.proofs.Common.{◌≡◌, Ok, decimal, arith}
use Rattle.std.proofs.lemmas.Fmt.{parse-decimal}
use Rattle.run_text.proofs.WordLemmas.{lacks-decimal}
use Rattle.run_text.proofs.words.Words.number.Goals as goal

pub returns-in-Ok : goal.returns-in-Ok
returns-in-Ok c = λ n more small e.
    let w = c.next.ensures (decimal n) more (lacks-decimal 32 n (omega arith) small) e in
    let p : c.parse.result ≡ Ok n = parse-decimal 64 n c.next.result.now c.parse.result small small w.0
    c.parse.ensures.value.0 in
    let same : c.in-Ok.number ≡ n = cc (c.in-Ok.is, p) in
    (same, w.1)

pub returns-in-Err : goal.returns-in-Err
returns-in-Err c = λ n more small e.
    let w = c.next.ensures (decimal n) more (lacks-decimal 32 n (omega arith) small) e in
    let p : c.parse.result ≡ Ok n = parse-decimal 64 n c.next.result.now c.parse.result small small w.0
    c.parse.ensures.value.0 in
    cc (c.in-Err.is, p)
