-- A `&` to bytes shows them. Assumes `Logic`.
use lib.ListN.{length}
use denote.Builtin.{u8}
use denote.Array.{Array, Array-row_laws}
use denote.Shares.{Shares-Array}
use denote.Struct.Lending.{Lends-lies, lent_at_shr_laws, of_Lends}
use Rattle.ground.specs.contracts.raw_bytes.RawBytes as C
use Rattle.ground.proofs.ByteLaws.{byte_laws}
use Rattle.ground.proofs.raw_bytes.RawBytes.TheLaw.Statement.{statement}

pub shares : statement
shares =
    of_Lends C.struct C.the_codes C.the_heap C.the_lent
    (λ d p. let n = length d.items in
    lent_at_shr_laws (Array u8 n) (Array-row_laws u8 byte_laws.shr_laws n) d.ptr d.items)
    tt
    (λ M 𝓤 𝓛 d p. let n = length d.items in
    Lends-lies 𝓛 (Array u8 n) (C.the_row).lives d.ptr d.items
    (Shares-Array 𝓛 u8 tt n (C.the_row).lives (byte_laws.shares 𝓛) d.items))
