use Rattle.std.proofs.Common.{◌≡◌, sym, ap, ◌∙◌, subst, Ok}
use Rattle.std.specs.Prelude.{IfOk, OnErr}
use Rattle.pool_law.specs.declared.command.Command.{Command}
use Rattle.shared_pool.specs.declared.pool.SharedPool.{SharedPool}
use Rattle.lane_core.specs.declared.lane.Lane.{Lane}
use Rattle.shared_pool.specs.SeatViews.{view_of}
use Rattle.lane_context.specs.declared.context.Stage.{Stage}
use Rattle.lane_context.specs.declared.context.Stage.TheVariants.{Ready, Closing}
use Rattle.lane_stages.specs.declared.draining.Draining.TheVariants.{Done}
use Rattle.pool_law.specs.LaneStates.{LaneState}
use Rattle.lane_context.specs.Named.{NamesAre}
use Rattle.lane_stages.specs.declared.stepped.Stepped.{Stepped}
use Rattle.lane_context.specs.Contexts.{IsContext, hand_of, Fits, NameFits, IsUnderway, HasTurned, HasRoomFor, left_at}
use Rattle.lane_core.specs.Lanes.{Heeds, IsLane, IsRunningLane, SameLane, number_of}
use Rattle.lane_core.specs.Steps.{HasStepped, at_stage}
use Rattle.lane_core.proofs.StageKinds.{underway}
use Rattle.lane_core.proofs.LaneTurns.{underway_room, underway_replies, underway_lane, underway_same, underway_so, underway_heeds}
use Rattle.lane_core.proofs.EitherLane.{running_is, lane_or, lane_context}
use Rattle.lane_core.proofs.lane.Lane.step.Goals as goal

pub begin-requires : goal.begin-requires
begin-requires g c = (
  c.type_bounds.sync-G,
  (
    subst (λ (x : Stage). IsLane c.args.pool.now (at_stage c.args.self.now x))
        (sym c.replace.ensures.value ∙ c.in-Ready.is ∙ sym c.replace.ensures.after) c.requires.lane,
    c.replace.ensures.after,
  ),
)

pub returns-in-Ready : goal.returns-in-Ready
returns-in-Ready g c =
    let pool = c.args.pool.now in let l = c.args.self.now in let b = c.begin.ensures in let new = c.begin.new.self in
    let ready : Ready ≡ l.stage = sym c.in-Ready.is ∙ c.replace.ensures.value in
    let is : c.replace.new.dest ≡ l.stage = c.replace.ensures.after ∙ ready in
    let stops = g.G.Gate.stops c.args.gate.now (number_of l) in
    record {
      lane = b.lane;
      same = subst (λ (x : Stage). SameLane (at_stage l x) new) is b.same;
      stepped = subst (λ (x : Stage). IfOk c.begin.result (HasStepped pool (at_stage l x) new)) is b.stepped;
      finished = λ done. absurd (cc (ready, done));
      err = subst (λ (x : Stage). OnErr c.begin.result (new ≡ at_stage l x)) is b.err;
      heeds = subst (λ (x : Stage). Heeds stops (at_stage l x) → Heeds stops new) is b.heeds;
    }

pub close-requires-clause-lane : goal.close-requires-clause-lane
close-requires-clause-lane g c =
    subst (λ (x : Stage). IsLane c.args.pool.now (at_stage c.args.self.now x))
    (sym c.replace.ensures.value ∙ c.in-Closing.is) c.requires.lane

pub returns-in-Closing : goal.returns-in-Closing
returns-in-Closing g c =
    let l = c.args.self.now in let is : Closing c.in-Closing.stage ≡ l.stage = sym c.in-Closing.is
    ∙ c.replace.ensures.value in
    record {
      lane = c.close.ensures.lane;
      same = subst (λ (x : Stage). SameLane (at_stage l x) c.close.new.self) is c.close.ensures.same;
      stepped =
          subst (λ (x : Stage). HasStepped c.args.pool.now (at_stage l x) c.close.new.self c.close.result) is
          c.close.ensures.stepped;
      finished = λ done. ap (λ (x : Stepped). Ok x) (c.close.ensures.finished (cc (is, done)));
      err = tt;
      heeds =
          let stops = g.G.Gate.stops c.args.gate.now (number_of l) in
          subst (λ (x : Stage). Heeds stops (at_stage l x) → Heeds stops c.close.new.self) is
          (c.close.ensures.heeds stops);
    }

-- a lane with a command under way is a running one
running : (pool : SharedPool) (l : Lane) → IsLane pool l → IsUnderway l.stage → IsRunningLane pool l
running pool l lane u = lane_or pool l (IsRunningLane pool l) lane (λ s. absurd (s.underway u)) (λ r. r)

pub go_on-turn-requires-clause-context : goal.go_on-turn-requires-clause-context
go_on-turn-requires-clause-context g c =
    let l = c.args.self.now in
    subst (λ (x : Stage). IsContext c.args.pool.now (hand_of x) l.context) (sym c.replace.ensures.value)
    (lane_context c.args.pool.now l c.requires.lane)

pub go_on-turn-requires-clause-fits : goal.go_on-turn-requires-clause-fits
go_on-turn-requires-clause-fits g c =
    let pool = c.args.pool.now in let l = c.args.self.now in
    subst (λ (x : Stage). Fits pool l.context x) (sym c.replace.ensures.value)
    (lane_or pool l (Fits pool l.context l.stage) c.requires.lane (λ s. s.fits) (λ r. r.fits))

pub go_on-turn-requires-clause-name : goal.go_on-turn-requires-clause-name
go_on-turn-requires-clause-name g c =
    let l = c.args.self.now in
    let u = underway l.stage (λ e. c.in_default.not-Ready (c.replace.ensures.value ∙ e))
    (λ x e. c.in_default.not-Closing x (c.replace.ensures.value ∙ e)) in
    subst (λ (x : Stage). NameFits l.context x) (sym c.replace.ensures.value)
    (running c.args.pool.now l c.requires.lane u).names

pub go_on-turn-requires-clause-room : goal.go_on-turn-requires-clause-room
go_on-turn-requires-clause-room g c =
    λ command. subst (λ (x : Stage). HasRoomFor c.args.pool.now c.args.self.now.context
    (left_at c.args.self.now.context.composes command x (view_of c.args.self.now.context.seat)))
    (sym c.replace.ensures.value)
    (let u = underway c.args.self.now.stage (λ e. c.in_default.not-Ready (c.replace.ensures.value ∙ e))
    (λ x e. c.in_default.not-Closing x (c.replace.ensures.value ∙ e)) in
    underway_room c.args.pool.now c.args.self.now (running c.args.pool.now c.args.self.now c.requires.lane u) u command)

pub go_on-turn-requires-clause-replies : goal.go_on-turn-requires-clause-replies
go_on-turn-requires-clause-replies g c =
    let u = underway c.args.self.now.stage (λ e. c.in_default.not-Ready (c.replace.ensures.value ∙ e))
    (λ x e. c.in_default.not-Closing x (c.replace.ensures.value ∙ e)) in
    underway_replies c.args.pool.now c.args.self.now (running c.args.pool.now c.args.self.now c.requires.lane u) u

pub returns-in_default : goal.returns-in_default
returns-in_default g c =
    let pool = c.args.pool.now in let l = c.args.self.now in let d = c.go_on-turn.new.self in let turn =
    c.go_on-turn.result in
    let u = underway l.stage (λ e. c.in_default.not-Ready (c.replace.ensures.value ∙ e))
    (λ x e. c.in_default.not-Closing x (c.replace.ensures.value ∙ e)) in
    let lane = running pool l c.requires.lane u in
    let t = subst (λ (x : Stage). (s : LaneState) (command : Command) → NamesAre s.names l.context.names
    → HasTurned pool l.context d s command x turn) c.replace.ensures.value c.go_on-turn.ensures in
    record {
      lane =
          running_is pool c.after.new.self
          (underway_lane pool l lane u d turn t c.after.new.self c.after.ensures.next);
      same = underway_same pool l lane u d turn t c.after.new.self c.after.ensures.next;
      stepped =
          underway_so pool l lane u d turn t c.after.new.self c.after.ensures.next c.after.result
          c.after.ensures.stepped;
      finished = λ done. absurd (c.in_default.not-Closing Done (c.replace.ensures.value ∙ done));
      err = tt;
      heeds =
          underway_heeds pool l lane u d turn t c.after.new.self c.after.ensures.next
          (g.G.Gate.stops c.args.gate.now (number_of l));
    }
