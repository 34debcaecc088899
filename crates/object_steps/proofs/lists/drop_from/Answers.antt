use Rattle.std.proofs.Common.{rules}
use Rattle.std.specs.Prelude.{not, ◌==◌}
use Rattle.std.proofs.lemmas.Fn.{filter_same}
use Rattle.object_steps.proofs.lists.drop_from.Goals as goal

pub returns : goal.returns
returns c = filter_same _ (λ x. not (x == c.args.chunk)) _ (λ x b f' k. search rules) _ _ c.retain.ensures.filtered
