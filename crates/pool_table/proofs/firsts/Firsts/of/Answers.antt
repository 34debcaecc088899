use Rattle.std.proofs.Common.{◌*◌, ◌+◌, ℕ, ap}
use Rattle.pool_table.proofs.PackedPlaces.{firsts_are}
use Rattle.pool_table.proofs.firsts.Firsts.of.Goals as goal

pub returns : goal.returns
returns c =
    let s = c.args.shape.now in let single = c.single_count-single.ensures in
    firsts_are s c.requires _ c.packed_count-packed.ensures.within c.packed_count-packed.ensures.full
    (ap (λ (n : ℕ). n * 8) single) (ap (λ (n : ℕ). n * 16) single)
    (ap (λ (n : ℕ). n * 16 + s.lanes * s.handles) single)
