-- The text computes, once the digits of a number do.
use Rattle.std.proofs.Common.{refl}
use Rattle.std.specs.Fmt.{digits}
use Rattle.definition_rows.proofs.texts.notes_of_regions.Goals as goal

pub returns-clause-arena : goal.returns-clause-arena
unfolding digits
returns-clause-arena c = refl

pub returns-clause-cache : goal.returns-clause-cache
unfolding digits
returns-clause-cache c = refl

pub returns-clause-bin : goal.returns-clause-bin
unfolding digits
returns-clause-bin c = refl

pub returns-clause-mail : goal.returns-clause-mail
unfolding digits
returns-clause-mail c = refl

pub returns-clause-back_and_given : goal.returns-clause-back_and_given
unfolding digits
returns-clause-back_and_given c = refl
