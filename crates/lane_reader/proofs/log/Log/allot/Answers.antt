use Rattle.std.proofs.Common.{[], arith}
use Rattle.std.specs.Prelude.{option_and_then}
use Rattle.pool_law.specs.declared.note.Object.{Object}
use Rattle.pool_law.specs.Dids as says
use Rattle.pool_law.specs.Readers.{done_at}
use Rattle.lane_reader.specs.Reading.{log_from}
use Rattle.lane_reader.proofs.ReadingLemmas.{next-asked}
use Rattle.lane_reader.proofs.log.Log.allot.Goals as goal

pub with_handle-requires-clause-asked : goal.with_handle-requires-clause-asked
with_handle-requires-clause-asked c =
    let log = c.args.self.now in
    let kept = next-asked (λ e. option_and_then says.handle (done_at (Object.Bin c.args.lane) e.note))
    (log_from [] log c.args.at) (log_from [] log c.in_ok-place.behind) c.in_ok-place.place (c.in_ok-place.ensures []) in
    omega (arith, kept, c.requires.asked)
