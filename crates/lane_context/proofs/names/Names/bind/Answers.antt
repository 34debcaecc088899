use Rattle.std.proofs.Common.{ap, ◌∙◌, Some}
use Rattle.std.specs.Prelude.{option_map, slice_set}
use Rattle.std.proofs.lemmas.List.{map-set}
use Rattle.lane_context.specs.Named.{bound_of}
use Rattle.lane_context.proofs.names.Names.bind.Goals as goal

pub returns : goal.returns
returns c =
    map-set (option_map bound_of) c.self.inside.bound.items c.args.name (Some c.args.bound)
    ∙ ap (λ names. slice_set names c.args.name (option_map bound_of (Some c.args.bound))) c.self.view_is
