use Rattle.std.proofs.Common.{rules, ◌≡◌, ℕ, ◌<◌, ◌≤◌, List, Some, length, map, get_or, sym, ap, subst, arith, ◌∙◌}
use Rattle.std.specs.Prelude.{Vec}
use Rattle.std.specs.declared.alloc.Global.{Global}
use Rattle.std.proofs.lemmas.List.{length-map, length_push, take_all}
use Rattle.pool_law.specs.declared.command.Command.{Command}
use Rattle.pool_law.specs.declared.run.Answered.{Answered}
use Rattle.pool_law.specs.declared.run.Reply.{Reply}
use Rattle.pool_law.specs.Legal.{AreCommands}
use Rattle.pool_law.specs.LaneLaw.{note_counts, replies_in}
use Rattle.pool_law.specs.declared.run.Shape.{Shape}
use Rattle.pool_law.specs.Logs.{ToldNote, of_lane, entries_of}
use Rattle.pool_law.proofs.LogLemmas.{lane-at}
use Rattle.lane_reader.specs.Cutting.{AreNoteCounts}
use Rattle.lane_reader.specs.Reading.{entries}
use Rattle.lane_reader.specs.Unlike.{AreAnswered}
use Rattle.lane_reader.proofs.WholeLemmas.{answered-lengths}
use Rattle.run_check.specs.ByObject.{notes_in}
use Rattle.run_check.specs.Cutting.{lists_in}
use Rattle.run_check.proofs.CutLemmas.{counts-further, cuts-further, lane-replies, lists-get, log-answered}
use Rattle.run_check.proofs.cuts.cuts_told.Goals as goal

pub cut-requires-clause-commands : goal.cut-requires-clause-commands
cut-requires-clause-commands c =
    let lanes = c.args.lanes.now in
    let lane = c.loop-lane.lane in
    let there : lane < length c.args.logs.now = search rules in
    let asked : lane < length lanes = omega (arith, there, c.requires.asked) in
    let first : List Command = get_or lanes lane c.index-lanes-lane.result in
    let commands : of_lane lanes lane ≡ c.items-commands.result.now =
    lane-at lanes lane first asked (ap (get_or lanes lane) c.index-lanes-lane.is)
    ∙ sym c.index-lanes-lane.is
    ∙ sym c.items-commands.ensures in
    subst (λ (cs : List Command). AreCommands c.args.shape.now cs) commands (c.requires.commands lane)

-- the law reads all commands
pub returns-then-len-commands-clause-only : goal.returns-then-len-commands-clause-only
returns-then-len-commands-clause-only c answered same logged =
    let shape = c.args.shape.now in
    let lanes = c.args.lanes.now in
    let logs = c.args.logs.now in
    let replies = c.args.replies.now in
    let lane = c.loop-lane.lane in
    let there : lane < length logs = search rules in
    let asked : lane < length lanes = omega (arith, there, c.requires.asked) in
    let replied : lane < length replies = omega (arith, there, c.requires.replied) in
    let first : List Command = get_or lanes lane c.index-lanes-lane.result in
    let commands : of_lane lanes lane ≡ c.items-commands.result.now =
    lane-at lanes lane first asked (ap (get_or lanes lane) c.index-lanes-lane.is)
    ∙ sym c.index-lanes-lane.is
    ∙ sym c.items-commands.ensures in
    let list = c.index-replies-lane.result in
    let answers : replies_in (of_lane answered lane) ≡ c.deref.result.now =
    lane-replies answered replies lane list same replied
    ∙ ap (λ (v : Vec Reply Global). v.items) (sym c.index-replies-lane.is)
    ∙ sym c.deref.ensures.value in
    let law : AreAnswered shape lane c.items-commands.result.now (of_lane answered lane) (entries c.log_at-log.result) =
    log-answered shape lane (of_lane lanes lane) c.items-commands.result.now (of_lane answered lane)
    (of_lane (entries_of (notes_in logs)) lane) (entries c.log_at-log.result) commands
    (sym c.log_at-log.ensures.entries) (logged lane there) in
    let found : c.in_ok-counts.counts.items ≡ note_counts (of_lane answered lane) =
    c.in_ok-counts.ensures.only (of_lane answered lane) answers law in
    let size : c.len.result ≡ length c.in_ok-counts.counts.items = search rules in
    let many : length c.items-commands.result.now ≡ length (of_lane answered lane) =
    answered-lengths shape lane c.items-commands.result.now (of_lane answered lane) (entries c.log_at-log.result) law in
    absurd
    (c.if-len-commands.true
    (omega (
      arith,
      size,
      many,
      ap (λ (ns : List ℕ). length ns) found,
      length-map (of_lane answered lane) (λ (a : Answered). a.notes),
    )))

-- what is so of a lane's log and counts is so of what they are the same as
same-cut : (shape : Shape) (lane : ℕ) (cs ds : List Command) (rs qs : List Reply) (es fs : List ToldNote)
    (counts : List ℕ) → cs ≡ ds → rs ≡ qs → es ≡ fs → AreNoteCounts shape lane cs rs es counts
    → AreNoteCounts shape lane ds qs fs counts
same-cut shape lane cs ds rs qs es fs counts c r e h =
    subst (λ (xs : List Command). AreNoteCounts shape lane xs qs fs counts) c
    (subst (λ (xs : List Reply). AreNoteCounts shape lane cs xs fs counts) r
    (subst (λ (xs : List ToldNote). AreNoteCounts shape lane cs rs xs counts) e h))

pub loop-lane-preserved : goal.loop-lane-preserved
loop-lane-preserved c =
    let shape = c.args.shape.now in
    let lanes = c.args.lanes.now in
    let logs = c.args.logs.now in
    let replies = c.args.replies.now in
    let lane = c.loop-lane.lane in
    let there : lane < length logs = search rules in
    let asked : lane < length lanes = omega (arith, there, c.requires.asked) in
    let replied : lane < length replies = omega (arith, there, c.requires.replied) in
    let first : List Command = get_or lanes lane c.index-lanes-lane.result in
    let commands : of_lane lanes lane ≡ c.items-commands.result.now =
    lane-at lanes lane first asked (ap (get_or lanes lane) c.index-lanes-lane.is)
    ∙ sym c.index-lanes-lane.is
    ∙ sym c.items-commands.ensures in
    let list = c.index-replies-lane.result in
    let said : of_lane (lists_in replies) lane ≡ c.deref.result.now =
    lists-get replies lane list replied
    ∙ ap (λ (v : Vec Reply Global). v.items) (sym c.index-replies-lane.is)
    ∙ sym c.deref.ensures.value in
    let size : c.len.result ≡ length c.in_ok-counts.counts.items = search rules in
    let whole : length c.in_ok-counts.counts.items ≡ length c.items-commands.result.now =
    omega (arith, size, c.if-len-commands.false) in
    record {
      many = omega (
        arith,
        c.loop-lane.invariant.many,
        ap (λ (vs : List (Vec ℕ Global)). length vs)
            c.in_ok-push.ensures.items,
        length_push c.loop-lane.cuts.items c.in_ok-counts.counts,
      );
      read =
          cuts-further
          (λ k ns. (length ns ≡ length (of_lane lanes k))
          × AreNoteCounts shape k (of_lane lanes k) (of_lane (lists_in replies) k)
          (of_lane (entries_of (notes_in logs)) k) ns)
          c.loop-lane.cuts.items c.push.new.self.items c.in_ok-counts.counts lane c.loop-lane.invariant.many
          c.in_ok-push.ensures.items c.loop-lane.invariant.read (
            whole ∙ sym (ap (λ (cs : List Command). length cs) commands),
            same-cut shape lane _ _ _ _ _ _ c.in_ok-counts.counts.items (sym commands) (sym said)
                c.log_at-log.ensures.entries c.in_ok-counts.ensures.read,
          );
      only = λ answered same logged.
          let many : lane < length answered =
          omega (
            arith,
            replied,
            ap (λ (lists : List (List Reply)). length lists) same,
            length-map answered replies_in,
            length-map replies (λ (list : Vec Reply Global). list.items),
          ) in
          let answers : replies_in (of_lane answered lane) ≡ c.deref.result.now =
          lane-replies answered replies lane list same replied
          ∙ ap (λ (v : Vec Reply Global). v.items) (sym c.index-replies-lane.is)
          ∙ sym c.deref.ensures.value in
          let law :
          AreAnswered shape lane c.items-commands.result.now (of_lane answered lane) (entries c.log_at-log.result) =
          log-answered shape lane (of_lane lanes lane) c.items-commands.result.now (of_lane answered lane)
          (of_lane (entries_of (notes_in logs)) lane) (entries c.log_at-log.result) commands
          (sym c.log_at-log.ensures.entries) (logged lane there) in
          counts-further answered c.loop-lane.cuts.items c.push.new.self.items c.in_ok-counts.counts lane many
          c.in_ok-push.ensures.items (c.loop-lane.invariant.only answered same logged)
          (c.in_ok-counts.ensures.only (of_lane answered lane) answers law);
    }

pub returns-clause-read : goal.returns-clause-read
returns-clause-read c lane there =
    let past : length c.args.logs.now ≤ c.loop-lane.lane = search rules in
    c.loop-lane.invariant.read lane (omega (arith, there, past))

pub returns-clause-only : goal.returns-clause-only
returns-clause-only c answered same logged =
    let logs = c.args.logs.now in
    let past : length logs ≤ c.loop-lane.lane = search rules in
    let many : length answered ≤ c.loop-lane.lane =
    omega (
      arith,
      past,
      c.requires.replied,
      ap (λ (lists : List (List Reply)). length lists) same,
      length-map answered replies_in,
      length-map c.args.replies.now (λ (list : Vec Reply Global). list.items),
    ) in
    ap (λ (all : List (List ℕ)). Some all)
    (c.loop-lane.invariant.only answered same logged
    ∙ ap (λ (lists : List (List Answered)). map note_counts lists) (take_all c.loop-lane.lane answered many))
