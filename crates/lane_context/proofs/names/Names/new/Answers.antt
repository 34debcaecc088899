use Rattle.std.proofs.Common.{◌≡◌, ap, ◌∙◌, map, replicate, None, arith}
use Rattle.std.specs.Prelude.{option_map}
use Rattle.lane_context.specs.Named.{bound_of}
use Rattle.lane_context.proofs.NameLaws.{map-replicate}
use Rattle.lane_context.proofs.names.Names.new.Goals as goal

pub returns : goal.returns
returns c =
    let done : c.loop.counter ≡ c.args.count = omega arith in
    ap (map (option_map bound_of)) (c.loop.invariant ∙ ap (λ n. replicate n None) done)
    ∙ map-replicate (option_map bound_of) c.args.count None
