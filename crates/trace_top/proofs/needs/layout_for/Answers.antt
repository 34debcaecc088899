use Rattle.std.proofs.Common.{◌<◌, ◌≤◌, ℕ, List, length, subst, arith}
use Rattle.pool_law.specs.declared.command.Command.{Command}
use Rattle.pool_law.specs.Bounds.{note_bound}
use Rattle.lane_core.specs.Lanes.{left_for_all}
use Rattle.trace_top.proofs.Sums.{each_more}
use Rattle.trace_top.proofs.needs.layout_for.Goals as goal

pub loop-commands-preserved : goal.loop-commands-preserved
loop-commands-preserved c =
    let lanes = c.args.lanes.now in let i = c.loop-commands.commands-index in let inv = c.loop-commands.invariant in
    let cs = c.commands-item.result in
    let below : i < length lanes = omega arith in
    let moves = c.moves_of.ensures in let turns = c.turns_of.ensures in
    let most_m = c.max-moves.ensures in let most_t = c.max-turns.ensures in
    let old_moves : c.loop-commands.moves ≤ c.max-moves.result = omega (arith, most_m) in
    let new_moves : c.moves_of.result ≤ c.max-moves.result = omega (arith, most_m) in
    let old_turns : c.loop-commands.turns ≤ c.max-turns.result = omega (arith, most_t) in
    let new_turns : c.turns_of.result ≤ c.max-turns.result = omega (arith, most_t) in
    let these_moves : (left_for_all cs).moves ≤ c.max-moves.result =
    subst (λ (xs : List Command). (left_for_all xs).moves ≤ c.max-moves.result) c.items.ensures
    (subst (λ (n : ℕ). n ≤ c.max-moves.result) moves.moves new_moves) in
    let these_turns : note_bound cs ≤ c.max-turns.result =
    subst (λ (xs : List Command). note_bound xs ≤ c.max-turns.result) c.items-in-loop-commands.ensures
    (subst (λ (n : ℕ). n ≤ c.max-turns.result) turns.turns new_turns) in
    record {
      moves = each_more (λ (xs : List Command). (left_for_all xs).moves) lanes i cs c.loop-commands.moves
          c.max-moves.result
          below c.commands-item.is old_moves these_moves inv.moves;
      turns = each_more note_bound lanes i cs c.loop-commands.turns c.max-turns.result
          below c.commands-item.is old_turns these_turns inv.turns;
      most_moves = (let was = inv.most_moves in let is = moves.most in omega (arith, most_m, was, is));
      most_turns = (let was = inv.most_turns in let is = turns.most in omega (arith, most_t, was, is));
    }
