-- A `&` to a claim has a share of it. Assumes `Logic`.
use mathlib.Core.List.{[], ◌∷◌}
use base.Fraction.{full_share}
use base.Fml.{fbor}
use types.Logic.{lfts}
use types.Kit.{‵, raw, ◌$◌, ◌∵◌, !, qed, updating, now, done}
use types.Tokens.{bor_fracture}
use denote.SharingLaws.{one_shr_laws}
use denote.Struct.Lending.{of_Lends}
use Rattle.ground.specs.Ownership.{claim}
use Rattle.ground.specs.contracts.claim.Claim as C
use Rattle.ground.proofs.claim.Claim.TheLaw.Statement.{statement}

pub shares : statement
shares =
    of_Lends C.struct C.the_codes C.the_heap C.the_lent
    (λ d p. one_shr_laws (claim d.name d.start d.len)) tt (λ M 𝓤 𝓛 d p κ ts inc sp.
    qed 𝓛 (‵ (fbor κ (claim d.name d.start d.len full_share)) ∷ raw (lfts 𝓛 ts) ∷ []) ∵ updating ! $ bor_fracture ! tt
    (claim d.name d.start d.len) full_share $ now ! $ done !)
