use Rattle.std.proofs.Common.{◌≡◌, ℕ, ◌+◌, ◌<◌, ◌≤◌, Bool, true, false, List, length, drop, sym, ap, ◌∙◌, arith}
use Rattle.std.specs.Prelude.{◌&&◌, max, nat_le}
use Rattle.pool_law.specs.declared.command.Command.{Command}
use Rattle.lane_context.specs.Contexts.{left_for}
use Rattle.lane_core.specs.Lanes.{Heeds, number_of}
use Rattle.lane_core.specs.declared.lane.Lane.{Lane}
use Rattle.pool_law.specs.LaneLaw.{before_stop, replies_in}
use Rattle.lane_core.proofs.LaneTurns.{front_is, none_left, begin_state, begun_lane, begun_same, begun_so, begun_heeds}
use Rattle.lane_core.proofs.LaneCloses.{first_context, first_room, closes_lane, closes_same, closes_so, closes_heeds}
use Rattle.lane_context.proofs.BeginTurns.{within_same}
use Rattle.lane_core.proofs.Carrying.{begin_may}
use Rattle.lane_core.proofs.EitherLane.{stopped_is, running_is}
use Rattle.lane_core.proofs.StoppedKept.{stops_lane}
use Rattle.lane_core.proofs.StoppedTurns.{stepped_anew}
use Rattle.lane_core.proofs.Heeding.{heeds_asked}
use Rattle.lane_core.proofs.lane.Lane.carry_out.Goals as goal

pub close-turn-requires-clause-context : goal.close-turn-requires-clause-context
close-turn-requires-clause-context g c =
    let l = c.args.self.now in
    first_context c.args.pool.now l c.requires.lane c.requires.ready
    (none_left l c.len-line.result c.items.result.now (omega (arith, c.len-line.ensures, l.context.replies.ok.0))
    c.items.ensures c.in_default.ensures.lookup.3)

pub close-turn-requires-clause-room : goal.close-turn-requires-clause-room
close-turn-requires-clause-room g c =
    let l = c.args.self.now in
    first_room c.args.pool.now l c.requires.lane c.requires.ready
    (none_left l c.len-line.result c.items.result.now (omega (arith, c.len-line.ensures, l.context.replies.ok.0))
    c.items.ensures c.in_default.ensures.lookup.3)

pub returns-in_default : goal.returns-in_default
returns-in_default g c =
    let pool = c.args.pool.now in let l = c.args.self.now in let lane = c.requires.lane in let is = c.requires.ready in
    let none = none_left l c.len-line.result c.items.result.now
    (omega (arith, c.len-line.ensures, l.context.replies.ok.0))
    c.items.ensures c.in_default.ensures.lookup.3 in
    let d = c.close-turn.new.self in let turn = c.close-turn.result in let t = c.close-turn.ensures in
    record {
      lane =
          running_is pool c.after.new.self
          (closes_lane pool l lane is none d turn t c.after.new.self c.after.ensures.next);
      same = closes_same pool l lane is none d turn t c.after.new.self c.after.ensures.next;
      stepped =
          closes_so pool l lane is none d turn t c.after.new.self c.after.ensures.next c.after.result
          c.after.ensures.stepped;
      err = tt;
      heeds =
          closes_heeds pool l lane is none d turn t c.after.new.self c.after.ensures.next
          (g.G.Gate.stops c.args.gate.now (number_of l));
    }

pub begin_with-turn-requires-clause-may : goal.begin_with-turn-requires-clause-may
begin_with-turn-requires-clause-may g c =
    let l = c.args.self.now in let command = c.in-Some.command.now in
    begin_may c.args.pool.now l c.requires.lane c.requires.ready command (drop (c.len-line.result + 1) l.commands)
    (front_is l c.len-line.result c.items.result.now command (omega (arith, c.len-line.ensures, l.context.replies.ok.0))
    c.items.ensures c.in-Some.ensures.lookup.3.0 c.in-Some.ensures.lookup.1)
    (left_for l.context.composes command) (within_same (left_for l.context.composes command))

pub begin_with-turn-requires-clause-few : goal.begin_with-turn-requires-clause-few
begin_with-turn-requires-clause-few g c =
    let few = c.requires.lane.commands.few in let lt = c.in-Some.ensures.lookup.3.0 in
    let same = ap (λ (cs : List Command). length cs) c.items.ensures in
    let line = c.len-line.ensures in let own = c.args.self.now.context.replies.ok.0 in
    omega (arith, few, lt, same, line, own)

pub begin_with-turn-requires-clause-state : goal.begin_with-turn-requires-clause-state
begin_with-turn-requires-clause-state g c =
    let l = c.args.self.now in let command = c.in-Some.command.now in let lane = c.requires.lane in (
      lane.state,
      begin_state c.args.pool.now l lane c.requires.ready command (drop (c.len-line.result + 1) l.commands)
          (front_is l c.len-line.result c.items.result.now command
          (omega (arith, c.len-line.ensures, l.context.replies.ok.0))
          c.items.ensures c.in-Some.ensures.lookup.3.0 c.in-Some.ensures.lookup.1),
    )

pub stops_at-stops-requires : goal.stops_at-stops-requires
stops_at-stops-requires g c = (
  record { shared = c.type_bounds.sync-G.shared },
  (let few = c.requires.lane.commands.few in let lt = c.in-Some.ensures.lookup.3.0 in
      let same = ap (λ (cs : List Command). length cs) c.items.ensures in omega (arith, few, lt, same)),
)

-- for how many lines the gate was asked then
few_asked : (asked line n most : ℕ) → asked ≤ most → line < most → n ≡ max asked (line + 1) → n ≤ most
few_asked asked line n most few lt is = omega (arith, few, lt, is)

line_asked : (asked line n : ℕ) → n ≡ max asked (line + 1) → line < n
line_asked asked line n is = omega (arith, is)

-- the gate was heeded so far, and asked for this line
module _ (stops : ℕ → ℕ → Bool) (l : Lane) (line number n : ℕ) (stopped : Bool)
    (line_is : line ≡ length l.context.replies.items) (number_is : number ≡ number_of l)
    (asked : n ≡ max l.asked (line + 1)) (is : stopped ≡ (nat_le l.asked line && stops number line)) where
  asked_heeds : l.stopped ≡ false → before_stop (replies_in l.context.replies.items) ≡ length l.context.replies.items
      → Heeds (stops (number_of l)) l → Heeds (stops (number_of l)) (record l { asked = n; stopped = stopped })
  asked_heeds going unstopped h =
      heeds_asked (stops (number_of l)) l h going unstopped n stopped
      (asked ∙ ap (λ (k : ℕ). max l.asked (k + 1)) line_is)
      (is ∙ (λ i. nat_le l.asked (line_is i) && stops (number_is i) (line_is i)))

pub pass_over-requires-clause-lane : goal.pass_over-requires-clause-lane
pass_over-requires-clause-lane g c =
    let l = c.args.self.now in let lt = c.in-Some.ensures.lookup.3.0 in
    let few = few_asked l.asked c.len-line.result c.stops_at-stops.new.asked (length l.commands) c.requires.lane.asked
    (let a = ap (λ (cs : List Command). length cs) c.items.ensures in omega (arith, a, lt))
    c.stops_at-stops.ensures.asked in
    stops_lane c.args.pool.now l c.requires.lane c.requires.ready c.stops_at-stops.new.asked few

pub returns-then-stops : goal.returns-then-stops
returns-then-stops g c =
    let pool = c.args.pool.now in let l = c.args.self.now in let lane = c.requires.lane in
    let new = c.pass_over.new.self in let n = c.stops_at-stops.new.asked in let same = c.pass_over.ensures.same in
    let line : c.len-line.result ≡ length l.context.replies.items =
    omega (arith, c.len-line.ensures, l.context.replies.ok.0) in
    record {
      lane = stopped_is pool new c.pass_over.ensures.lane;
      same = record { number = same.number; shape = same.shape; commands = same.commands };
      stepped = stepped_anew pool l new n c.pass_over.result c.requires.ready c.pass_over.ensures.stepped;
      err = tt;
      heeds = λ h. c.pass_over.ensures.heeds (g.G.Gate.stops c.args.gate.now (number_of l))
          (asked_heeds (g.G.Gate.stops c.args.gate.now) l c.len-line.result c.lane_of-number.result n true line
          c.lane_of-number.ensures.lane c.stops_at-stops.ensures.asked
          (sym c.if-stops.true ∙ c.stops_at-stops.ensures.stops) lane.going lane.answered.unstopped h);
    }

pub returns : goal.returns
returns g c =
    let pool = c.args.pool.now in let l = c.args.self.now in let lane = c.requires.lane in let is = c.requires.ready in
    let command = c.in-Some.command.now in
    let later : List Command = drop (c.len-line.result + 1) l.commands in let lt = c.in-Some.ensures.lookup.3.0 in
    let left = front_is l c.len-line.result c.items.result.now command
    (omega (arith, c.len-line.ensures, l.context.replies.ok.0)) c.items.ensures lt c.in-Some.ensures.lookup.1 in
    let state = begin_state pool l lane is command later left in
    let d = c.begin_with-turn.new.context in let turn = c.begin_with-turn.result in let n =
    c.stops_at-stops.new.asked in
    let t = c.begin_with-turn.ensures lane.state state in
    let asked = c.stops_at-stops.ensures.asked in
    let few = few_asked l.asked c.len-line.result n (length l.commands) lane.asked
    (let a = ap (λ (cs : List Command). length cs) c.items.ensures in omega (arith, a, lt)) asked in
    let line_is : c.len-line.result ≡ length l.context.replies.items =
    omega (arith, c.len-line.ensures, l.context.replies.ok.0) in
    let line : length l.context.replies.items < n =
    (let a = line_asked l.asked c.len-line.result n asked in omega (arith, a, line_is)) in
    let new = c.after-2.new.self in let new_is = c.after-2.ensures.next in
    record {
      lane = running_is pool new (begun_lane pool l lane is command later left d n few line turn t new new_is);
      same = begun_same pool l lane is command later left d n few line turn t new new_is;
      stepped =
          begun_so pool l lane is command later left d n few line turn t new new_is c.after-2.result
          c.after-2.ensures.stepped;
      err = tt;
      heeds = λ h. begun_heeds pool l lane is command later left d n few line turn t new new_is
          (g.G.Gate.stops c.args.gate.now (number_of l))
          (asked_heeds (g.G.Gate.stops c.args.gate.now) l c.len-line.result c.lane_of-number.result n l.stopped line_is
          c.lane_of-number.ensures.lane asked
          (lane.going ∙ sym c.if-stops.false ∙ c.stops_at-stops.ensures.stops) lane.going lane.answered.unstopped h);
    }
