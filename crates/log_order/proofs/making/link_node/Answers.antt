use Rattle.std.proofs.Common.{length, refl}
use Rattle.std.proofs.lemmas.Option.{slice_get_read}
use Rattle.log_order.specs.Spots.{notes_in}
use Rattle.log_order.proofs.LinkLemmas.{grows-on, node-linked}
use Rattle.log_order.proofs.making.link_node.Goals as goal

pub returns : goal.returns
returns c =
    let logs = notes_in c.args.logs.now in
    let old = c.args.graph.now in
    let mid = c.link_last.new.graph in
    let some = c.link_stage.new.graph in
    let new = c.link_stage-2.new.graph in
    let last = c.in_ok-link_last.ensures in
    let one = c.in_ok-link_stage.ensures in
    let two = c.in_ok-link_stage-2.ensures in
    let here = slice_get_read old.spots.items (length old.spots.items) c.args.node c.index.result.now refl
    c.requires.node c.index.ensures in
    let links = node-linked logs old mid some new c.args.index.now (length c.args.logs.now) 0 c.args.node
    c.index.result.now c.in-Some.note.now c.first_want.result c.second_want.result c.first_want.ensures
    c.second_want.ensures c.requires.filled here c.in-Some.ensures.stands last one two in
    grows-on logs old mid new _ _ _ last (grows-on logs mid some new _ _ _ one two links) links
