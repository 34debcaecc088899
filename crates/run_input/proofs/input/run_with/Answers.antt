use Rattle.std.proofs.Common.{◌≡◌, ◌∙◌, sym, subst}
use Rattle.pool_law.specs.Limits.{IsShape}
use Rattle.run_text.specs.declared.TextNo.TheVariants.{Line, Memory}
use Rattle.run_input.proofs.PlayedLaws.{told-found, told-none}
use Rattle.run_input.proofs.input.run_with.Goals as goal

pub returns-in-Ok : goal.returns-in-Ok
returns-in-Ok c =
    told-found c.args.asked c.args.text.now c.in-Ok.run' c.in-Ok.ensures.found
    (subst IsShape (sym c.in-Ok.ensures.found.shape) c.requires) c.in-Ok.ensures.same

pub returns-in-Err-Line : goal.returns-in-Err-Line
returns-in-Err-Line c =
    told-none c.args.asked c.args.text.now (record { line = c.in-Err-Line.number; why = c.in-Err-Line.why })
    (λ other reads derived.
    let same : Line c.in-Err-Line.number c.in-Err-Line.why ≡ Memory =
    sym c.in-Err-Line.field-0-is ∙ c.in-Err-Line.ensures.same other reads derived in
    absurd (cc same))
