-- The text computes, once the digits of a number do.
use Rattle.std.proofs.Common.{refl}
use Rattle.std.specs.Fmt.{digits}
use Rattle.definition_rows.proofs.texts.parts_in_order.Goals as goal

pub returns-clause-text : goal.returns-clause-text
unfolding digits
returns-clause-text c = refl

pub returns-clause-history : goal.returns-clause-history
unfolding digits
returns-clause-history c = refl
