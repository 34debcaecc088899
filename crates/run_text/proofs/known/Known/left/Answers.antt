use Rattle.std.proofs.Common.{Option, sym, ap, ◌∙◌}
use Rattle.std.specs.Option.{option_and_then}
use Rattle.run_text.specs.Lines.{Begun, begun_before, region_with, taking_key}
use Rattle.run_text.specs.Knowing.{use_of}
use Rattle.run_text.specs.declared.known.Use.{Use}
use Rattle.run_text.proofs.KnownLemmas.{known_use, map_none}
use Rattle.run_text.proofs.known.Known.left.Goals as goal

pub returns-in_err-begun : goal.returns-in_err-begun
returns-in_err-begun c all knows =
    let empty = map_none (λ b. use_of b.1) (begun_before all c.args.place c.args.number)
    (sym c.in_err-begun.was ∙ c.use_before.ensures all all knows) in
    c.from_residual.ensures
    ∙ sym (ap (λ (o : Option Begun). option_and_then (λ b. region_with all (taking_key b.1) b.1.uses) o) empty)

pub returns : goal.returns
returns c all knows =
    let u = c.in_ok-begun.begun in
    let b = known_use (begun_before all c.args.place c.args.number) u
    (sym c.in_ok-begun.was ∙ c.use_before.ensures all all knows) in
    c.region.ensures all all knows
    ∙ sym (ap (λ (v : Use). region_with all v.taking v.uses) b.2)
    ∙ sym (ap (λ (o : Option Begun). option_and_then (λ b. region_with all (taking_key b.1) b.1.uses) o) b.1)
