-- A `&` to bytes may go to another thread.
use lib.ListN.{length}
use denote.Builtin.{u8}
use denote.Array.{Array}
use denote.Param.Send.{IsSync, struct_sync, array_sync}
use denote.Struct.Owning.{shape}
use Rattle.std_alloc.proofs.SendSync.{seen}
use Rattle.ground.proofs.Crosses.{u8-sync}
use Rattle.ground.specs.contracts.raw_bytes.RawBytes as C

pub sync : IsSync C.the_row
sync = record {
  shared = λ c b o κ. (
    (struct_sync (shape C.the_type) tt).shared tt b o κ,
    let n = length c.items in seen (Array u8 n) (array_sync u8 n u8-sync) c.ptr c.items κ,
  );
}
