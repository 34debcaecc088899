use Rattle.std.proofs.Common.{◌≡◌, sym, ◌∙◌, arith}
use Rattle.pool_law.specs.Text.{shown_bytes}
use Rattle.run_report.proofs.HexLaws.{shown_is}
use Rattle.run_report.proofs.writer.Writer.shown.Goals as goal

pub returns : goal.returns
returns c =
    let some = sym c.is_empty.ensures ∙ c.if-is_empty.false in
    let told : c.as_str.result.now ≡ shown_bytes c.args.bytes.now =
    c.as_str.ensures.value
    ∙ (c.in_ok-digits.ensures
    ∙ shown_is c.args.bytes.now some (λ i. let small = c.type_inv.bytes i in omega arith)) in
    rw told at c.word-2.ensures
