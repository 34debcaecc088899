-- The text computes, once the digits of a number do.
use Rattle.std.proofs.Common.{refl}
use Rattle.std.specs.Fmt.{digits}
use Rattle.definition_rows.proofs.texts.replies.Goals as goal

pub returns : goal.returns
unfolding digits
returns c = record { text = refl }
