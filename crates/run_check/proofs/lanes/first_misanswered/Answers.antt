use Rattle.std.proofs.Common.{rules, ◌≡◌, ℕ, ◌<◌, ◌≤◌, List, length, get_or, sym, ap, subst, below_more, arith, ◌∙◌}
use Rattle.pool_law.specs.declared.command.Command.{Command}
use Rattle.pool_law.specs.declared.run.Answered.{Answered}
use Rattle.pool_law.specs.declared.run.Shape.{Shape}
use Rattle.pool_law.specs.Logs.{ToldNote, of_lane, entries_of}
use Rattle.pool_law.specs.LaneLaw.{IsLaneLog}
use Rattle.pool_law.specs.Legal.{AreCommands}
use Rattle.pool_law.proofs.LogLemmas.{lane-at}
use Rattle.lane_reader.specs.Unlike.{IsUnlikeAt}
use Rattle.run_check.specs.ByObject.{notes_in}
use Rattle.run_check.specs.ByObject.{replies_in}
use Rattle.run_check.proofs.LaneLemmas.{replies-get}
use Rattle.run_check.proofs.lanes.first_misanswered.Goals as goal

-- the same command breaks the law of the same commands, replies and entries
same-unlike : (shape : Shape) (lane at : ℕ) (cs ds : List Command) (rs qs : List Answered) (es fs : List ToldNote) →
    cs ≡ ds → rs ≡ qs → es ≡ fs → IsUnlikeAt shape lane cs rs es at → IsUnlikeAt shape lane ds qs fs at
same-unlike shape lane at cs ds rs qs es fs c r e h =
    subst (λ (xs : List Command). IsUnlikeAt shape lane xs qs fs at) c
    (subst (λ (xs : List Answered). IsUnlikeAt shape lane cs xs fs at) r
    (subst (λ (xs : List ToldNote). IsUnlikeAt shape lane cs rs xs at) e h))

-- the law of the same commands, replies and entries
same-log : (shape : Shape) (lane : ℕ) (cs ds : List Command) (rs qs : List Answered) (es fs : List ToldNote) →
    cs ≡ ds → rs ≡ qs → es ≡ fs → IsLaneLog shape lane cs rs es → IsLaneLog shape lane ds qs fs
same-log shape lane cs ds rs qs es fs c r e h =
    subst (λ (xs : List Command). IsLaneLog shape lane xs qs fs) c
    (subst (λ (xs : List Answered). IsLaneLog shape lane cs xs fs) r
    (subst (λ (xs : List ToldNote). IsLaneLog shape lane cs rs xs) e h))

pub first_unlike-requires-clause-commands : goal.first_unlike-requires-clause-commands
first_unlike-requires-clause-commands c =
    let lanes = c.args.lanes.now in
    let lane = c.loop-lane.lane in
    let there : lane < length c.args.logs.now = search rules in
    let asked : lane < length lanes = omega (arith, there, c.requires.as_many) in
    let first : List Command = get_or lanes lane c.index-lanes-lane.result in
    let commands : of_lane lanes lane ≡ c.items-commands.result.now =
    lane-at lanes lane first asked (ap (get_or lanes lane) c.index-lanes-lane.is)
    ∙ sym c.index-lanes-lane.is
    ∙ sym c.items-commands.ensures in
    subst (λ (cs : List Command). AreCommands c.args.shape.now cs) commands (c.requires.commands lane)

pub returns-in-Some : goal.returns-in-Some
returns-in-Some c =
    let lanes = c.args.lanes.now in
    let logs = c.args.logs.now in
    let lane = c.loop-lane.lane in
    let there : lane < length logs = search rules in
    let asked : lane < length lanes = omega (arith, there, c.requires.as_many) in
    let first : List Command = get_or lanes lane c.index-lanes-lane.result in
    let commands : of_lane lanes lane ≡ c.items-commands.result.now =
    lane-at lanes lane first asked (ap (get_or lanes lane) c.index-lanes-lane.is) ∙ sym c.index-lanes-lane.is
    ∙ sym c.items-commands.ensures in
    let replies : of_lane (replies_in logs) lane ≡ c.items-replies.result.now =
    replies-get logs lane c.index-logs-lane.result there ∙ sym c.items-replies.ensures in
    record {
      there = there;
      earlier = c.loop-lane.invariant;
      here =
          same-unlike c.args.shape.now lane c.in-Some.command _ _ _ _ _ _ (sym commands) (sym replies)
          c.log_at-log.ensures.entries (rw c.in-Some.is at c.in_ok-found.ensures);
    }

pub loop-lane-preserved : goal.loop-lane-preserved
loop-lane-preserved c =
    let shape = c.args.shape.now in
    let lanes = c.args.lanes.now in
    let logs = c.args.logs.now in
    let lane = c.loop-lane.lane in
    let there : lane < length logs = search rules in
    let asked : lane < length lanes = omega (arith, there, c.requires.as_many) in
    let first : List Command = get_or lanes lane c.index-lanes-lane.result in
    let commands : of_lane lanes lane ≡ c.items-commands.result.now =
    lane-at lanes lane first asked (ap (get_or lanes lane) c.index-lanes-lane.is) ∙ sym c.index-lanes-lane.is
    ∙ sym c.items-commands.ensures in
    let replies : of_lane (replies_in logs) lane ≡ c.items-replies.result.now =
    replies-get logs lane c.index-logs-lane.result there ∙ sym c.items-replies.ensures in
    below_more
    (λ (k : ℕ). IsLaneLog shape k (of_lane lanes k) (of_lane (replies_in logs) k)
    (of_lane (entries_of (notes_in logs)) k))
    lane c.loop-lane.invariant
    (same-log _ _ _ _ _ _ _ _ (sym commands) (sym replies) c.log_at-log.ensures.entries
    (rw c.in_default.is at c.in_ok-found.ensures))

pub returns : goal.returns
returns c =
    let past : length c.args.logs.now ≤ c.loop-lane.lane = search rules in
    λ lane there. c.loop-lane.invariant lane (omega (arith, there, past))
