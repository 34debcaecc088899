use Rattle.std.proofs.Common.{Some, option_map, ap, sym, ◌∙◌, map}
use Rattle.serde_json.specs.View.{view}
use Rattle.trace_text.specs.Items.{listed}
use Rattle.trace_text.proofs.Values.{listed-items_of}
use Rattle.trace_text.proofs.items.array_of.Goals as goal

pub returns-in-Some : goal.returns-in-Some
returns-in-Some c =
    sym (ap (option_map listed) (sym c.in-Some.ensures)
    ∙ ap Some (listed-items_of (map view c.in-Some.values.now.items))
    ∙ ap (λ vs. Some (map view vs)) (sym c.as_slice.ensures.value))
