use Rattle.std.proofs.Common.{◌≡◌, Ok, arith}
use Rattle.std.proofs.lemmas.Fmt.{parse-decimal}
use Rattle.run_text.proofs.words.Words.small_in.Goals as goal

pub returns-in-Ok : goal.returns-in-Ok
returns-in-Ok c = λ n small e.
    let p : c.parse.result ≡ Ok n = parse-decimal 32 n c.args.word.now c.parse.result small (omega arith) e
    c.parse.ensures.value.0 in
    cc (c.in-Ok.is, p)

pub returns-in-Err : goal.returns-in-Err
returns-in-Err c = λ n small e.
    let p : c.parse.result ≡ Ok n = parse-decimal 32 n c.args.word.now c.parse.result small (omega arith) e
    c.parse.ensures.value.0 in
    cc (c.in-Err.is, p)
