use Rattle.std.proofs.Common.{◌≤◌, sym, subst, arith}
use Rattle.std.specs.Prelude.{All}
use Rattle.std.proofs.lemmas.List.{take_all}
use Rattle.lane_core.specs.Opened.{ChangesBelow}
use Rattle.lane_core.proofs.RoomLaws.{all_below_more, max_most}
use Rattle.lane_core.proofs.room.name_count.Goals as goal

pub loop-command-preserved : goal.loop-command-preserved
loop-command-preserved c =
    let most : (c.loop-command.count ≤ c.max-count.result) × (c.names_of.result ≤ c.max-count.result) =
    subst (λ n. (c.loop-command.count ≤ n) × (c.names_of.result ≤ n)) (sym c.max-count.ensures)
    (max_most c.loop-command.count c.names_of.result) in
    all_below_more c.loop-command.count c.names_of.result c.max-count.result c.args.commands.now
    c.loop-command.command-index c.command-item.result
    (omega arith) c.command-item.is most.0 most.1 c.loop-command.invariant c.names_of.ensures

pub returns : goal.returns
returns c =
    subst (All (ChangesBelow c.loop-command.count))
    (take_all c.loop-command.command-index c.args.commands.now (omega arith))
    c.loop-command.invariant
