use Rattle.std.proofs.Common.{refl}
use Rattle.std.specs.BTreeMap.{get}
use Rattle.lane_reader.specs.Counting.{key_cmp}
use Rattle.run_check.specs.ByObject.{notes_at}
use Rattle.run_check.proofs.ObjectNoteLemmas.{put-note, notes-pushed}
use Rattle.run_check.proofs.object_notes.ObjectNotes.put.Goals as goal

pub returns : goal.returns
returns c other =
    let object = c.args.object.now in
    put-note object other (get key_cmp c.args.self.now.map) (get key_cmp c.take-notes.new.self.map)
    (get key_cmp c.insert.new.self) (notes_at c.args.self.now object) c.push.new.self c.args.note
    c.object_key.result c.object_key.ensures
    (notes-pushed c.take-notes.result.items c.push.new.self.items c.args.note (notes_at c.args.self.now object)
    c.take-notes.ensures.items c.in_ok-push.ensures.items)
    c.take-notes.ensures.others c.in_ok-insert.ensures.updates.0 refl
