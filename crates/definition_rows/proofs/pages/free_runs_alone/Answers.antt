-- A run with a page that is free is not out.
use Rattle.std.proofs.Common.{⊎_elim, [], ◌∷◌, arith}
use Rattle.std.proofs.lemmas.List.Elements.{All-head}
use Rattle.size_classes.specs.Spans.{AreApart}
use Rattle.definition_rows.proofs.pages.free_runs_alone.Goals as goal

pub returns-clause-partly_free : goal.returns-clause-partly_free
returns-clause-partly_free c = λ out.
    let apart : AreApart (9, 2) (0, 10) = All-head (AreApart (9, 2)) (0, 10) ((15, 1) ∷ []) out.2 in
    ⊎_elim (λ before. absurd (omega (arith, before))) (λ after. absurd (omega (arith, after))) apart
