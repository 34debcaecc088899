use Rattle.std.proofs.Common.{◌∙◌, sym}
use Rattle.option_words.proofs.Parsed.{parsed}
use Rattle.option_words.proofs.numerals.numeral.Goals as goal

pub returns-then-is_numeral : goal.returns-then-is_numeral
returns-then-is_numeral c =
    let good = sym c.is_numeral.ensures ∙ c.if-is_numeral.true in
    c.ok.ensures.value ∙ parsed c.args.text.now c.parse.result c.parse.ensures.value.0 good
