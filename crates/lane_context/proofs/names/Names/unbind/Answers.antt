use Rattle.std.proofs.Common.{ap, ◌∙◌, None}
use Rattle.std.specs.Prelude.{option_map, slice_set}
use Rattle.std.proofs.lemmas.List.{map-set}
use Rattle.lane_context.specs.Named.{bound_of}
use Rattle.lane_context.proofs.names.Names.unbind.Goals as goal

pub returns : goal.returns
returns c =
    map-set (option_map bound_of) c.self.inside.bound.items c.args.name None
    ∙ ap (λ names. slice_set names c.args.name (option_map bound_of None)) c.self.view_is
