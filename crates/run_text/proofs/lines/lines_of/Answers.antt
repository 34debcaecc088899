use Rattle.std.proofs.Common.{◌≡◌, List, map, ap, subst, ◌∙◌}
use Rattle.std.specs.Prelude.{IfOk}
use Rattle.std.specs.Str.Lines.{lines}
use Rattle.std.proofs.lemmas.Iterator.Consumers.{map_from_collect}
use Rattle.std.proofs.lemmas.Iterator.Splits.{YieldsList-from_lines}
use Rattle.pool_law.specs.Text.{Text}
use Rattle.run_text.proofs.TextLemmas.{lines_back}
use Rattle.run_text.proofs.lines.lines_of.Goals as goal

pub returns : goal.returns
returns c texts shown is =
    subst (λ (ls : List Text). IfOk c.collect.result (λ list. map (λ l. l.now) list.items ≡ ls))
    (ap lines is ∙ lines_back texts shown)
    (map_from_collect _ c.collect.ensures.ran (YieldsList-from_lines c.args.text.now c.lines.ensures.rest))
