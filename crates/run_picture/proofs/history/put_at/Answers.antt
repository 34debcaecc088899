use Rattle.std.proofs.Common.{◌≡◌, Some, refl, arith}
use Rattle.std.specs.Prelude.{slice_get}
use Rattle.std.proofs.lemmas.Option.{slice_get_read}
use Rattle.run_picture.specs.Slots.{done_in}
use Rattle.run_picture.proofs.SlotLemmas.{put_at-past, put_at-free, put_at-held}
use Rattle.run_picture.proofs.history.put_at.Goals as goal

pub returns-then-at-len : goal.returns-then-at-len
returns-then-at-len c = put_at-past c.args.slots.now.items c.args.at (done_in c.args.done) (omega arith)

pub returns-then-is_none : goal.returns-then-is_none
returns-then-is_none c =
    let items = c.args.slots.now.items in
    let there : slice_get items c.args.at ≡ Some c.index.result.now =
    slice_get_read items _ c.args.at c.index.result.now refl (omega arith) c.index.ensures in
    put_at-free items c.args.at c.args.done c.index.result.now c.is_none.result there
    c.is_none.ensures c.if-is_none.true

pub returns-else-is_none : goal.returns-else-is_none
returns-else-is_none c =
    let items = c.args.slots.now.items in
    let there : slice_get items c.args.at ≡ Some c.index.result.now =
    slice_get_read items _ c.args.at c.index.result.now refl (omega arith) c.index.ensures in
    put_at-held items c.args.at (done_in c.args.done) c.index.result.now c.is_none.result there
    c.is_none.ensures c.if-is_none.false
