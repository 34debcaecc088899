-- The text computes, once the digits of a number do.
use Rattle.std.proofs.Common.{refl}
use Rattle.std.specs.Fmt.{digits}
use Rattle.definition_rows.proofs.texts.notes_of_roots.Goals as goal

pub returns-clause-root : goal.returns-clause-root
unfolding digits
returns-clause-root c = refl

pub returns-clause-word : goal.returns-clause-word
unfolding digits
returns-clause-word c = refl

pub returns-clause-marks : goal.returns-clause-marks
unfolding digits
returns-clause-marks c = refl
