use Rattle.std.proofs.Common.{◌≡◌, ℕ, ◌<◌, Bool, List, length, Result, Ok, OnOk, sym, ap, ◌∙◌, subst}
use Rattle.std.specs.Prelude.{All}
use Rattle.std.proofs.lemmas.Result.{IfOk-weaker}
use Rattle.pool_law.specs.declared.command.Command.{Command}
use Rattle.pool_law.specs.declared.run.Run.{Run}
use Rattle.pool_law.specs.Limits.{IsShape}
use Rattle.pool_law.specs.Logs.{of_lane}
use Rattle.pool_table.specs.declared.views.Layout.{Layout}
use Rattle.shared_pool.specs.Opening.{AreOpened}
use Rattle.shared_pool.specs.Seats.{IsPoolSeat}
use Rattle.shared_pool.specs.Wearing.{IsShort}
use Rattle.lane_core.specs.declared.lane.Lane.{Lane}
use Rattle.lane_core.specs.Lanes.{Heeds, number_of}
use Rattle.lane_core.specs.Played.{IsHeeded, IsRunOf}
use Rattle.trace_top.specs.Needs.{AreSent, HasRoomFor}
use Rattle.trace_top.specs.Standing.{AllFinished, AllRun, AreReady}
use Rattle.work_table.proofs.Places.{all_at}
use Rattle.trace_top.proofs.Runs.{all_heed, are_finished, ready, same_commands, short_for}
use Rattle.trace_top.proofs.Tables.{numbered}
use Rattle.trace_top.proofs.play.play.Goals as goal

-- what holds on Ok, at an Ok
on_ok : {A E : Type 0} (P : Type 0) (r : Result A E) (x : A) → r ≡ Ok x → OnOk r P → P
on_ok P r x e p = subst (λ r'. OnOk r' P) e p

pub all_lanes-requires-clause-ready : goal.all_lanes-requires-clause-ready
all_lanes-requires-clause-ready g c =
    let trace = c.args.trace.lanes in
    let layout = c.layout_for-layout.result in
    let pool = c.in_ok-pool.pool in
    let seats = c.in_ok-pool.seats.items in
    let shape =
    sym (ap (λ (l : Layout). l.shape) (pool.same_layout ∙ c.in_ok-pool.ensures.layout)
    ∙ c.layout_for-layout.ensures.shape) in
    let room =
    subst (λ (t : List (List Command)). (lane : ℕ) → lane < length t → HasRoomFor layout (of_lane t lane))
    c.items.ensures c.layout_for-layout.ensures.room in
    let sent =
    subst (λ (t : List (List Command)). AreSent t c.in_ok-mail.mail.items) c.items-2.ensures
    c.in_ok-mail.ensures.sent in
    let limits = subst IsShape (sym c.layout_for-layout.ensures.shape) c.requires.shape in
    let short =
    subst IsShort (sym (pool.same_layout ∙ c.in_ok-pool.ensures.layout))
    (short_for layout limits c.layout_for-layout.ensures.turns) in
    let opened =
    subst (λ (m : List ℕ). AreOpened layout m pool seats) c.deref.ensures.value c.in_ok-pool.ensures.seats in
    subst (λ (t : List (List Command)). AreReady pool c.args.shape.now t seats) (sym c.into_items.ensures)
    (ready trace c.args.shape.now layout c.in_ok-mail.mail.items pool seats c.requires.shape shape short
    c.requires.lanes
    c.layout_for-layout.ensures.shape c.requires.commands room sent opened)

pub abandon-requires : goal.abandon-requires
abandon-requires g c = record { seats = all_at (IsPoolSeat c.in_ok-pool.pool) _ c.in-Err.ensures.err }

pub step_together-lanes-requires-clause-lanes : goal.step_together-lanes-requires-clause-lanes
step_together-lanes-requires-clause-lanes g c κs within =
    numbered _ _ _ _ (c.in-Ok.ensures.lanes (g.G.Gate.stops c.args.gate.now))

pub returns-in-Ok-ended-clause-trace : goal.returns-in-Ok-ended-clause-trace
returns-in-Ok-ended-clause-trace g c =
    let trace = c.args.trace.lanes in
    let pool = c.in_ok-pool.pool in
    let stops = g.G.Gate.stops c.args.gate.now in
    let after = c.step_together-lanes.result.0 in
    let runs = c.step_together-lanes.ensures.runs trace
    (subst (λ (t : List (List Command)). AllRun t stops pool c.in-Ok.made.0.items) c.into_items.ensures
    (c.in-Ok.ensures.lanes stops)) in
    let many : length after.items ≡ length trace =
    sym after.ok.0 ∙ c.step_together-lanes.ensures.count ∙ c.in-Ok.ensures.count ∙ c.into_items.result.ok.0
    ∙ ap (λ (t : List (List Command)). length t) c.into_items.ensures in
    IfOk-weaker c.finish.result (IsRunOf c.args.shape.now after.items) (λ (r : Run). r.trace.lanes ≡ trace)
    (λ r e. e.trace ∙ same_commands trace after.items many (λ i l h. (runs i l h).commands)) c.finish.ensures.run

-- each lane heeded the gate, from when it was made
pub returns-in-Ok-ended-clause-stopped : goal.returns-in-Ok-ended-clause-stopped
returns-in-Ok-ended-clause-stopped g c =
    let trace = c.args.trace.lanes in
    let pool = c.in_ok-pool.pool in
    let stops = g.G.Gate.stops c.args.gate.now in
    let after = c.step_together-lanes.result.0 in
    let runs = c.step_together-lanes.ensures.runs trace
    (subst (λ (t : List (List Command)). AllRun t stops pool c.in-Ok.made.0.items) c.into_items.ensures
    (c.in-Ok.ensures.lanes stops)) in
    IfOk-weaker c.finish.result
    (λ (r : Run). (stops : ℕ → ℕ → Bool)
    → All (λ (l : Lane). Heeds (stops (number_of l)) l) after.items → IsHeeded stops r)
    (IsHeeded stops) (λ r e. e stops (all_heed trace stops pool after.items runs)) c.finish.ensures.heeds

pub abandon-requires-in-Err-ended : goal.abandon-requires-in-Err-ended
abandon-requires-in-Err-ended g c =
    record { seats = all_at (IsPoolSeat c.in_ok-pool.pool) _ c.given_back-seats.ensures.seats }

pub finish-requires-clause-lanes : goal.finish-requires-clause-lanes
finish-requires-clause-lanes g c =
    let trace = c.args.trace.lanes in
    let pool = c.in_ok-pool.pool in
    let stops = g.G.Gate.stops c.args.gate.now in
    let after = c.step_together-lanes.result.0 in
    let runs = c.step_together-lanes.ensures.runs trace
    (subst (λ (t : List (List Command)). AllRun t stops pool c.in-Ok.made.0.items) c.into_items.ensures
    (c.in-Ok.ensures.lanes stops)) in
    let shape =
    sym (ap (λ (l : Layout). l.shape) (pool.same_layout ∙ c.in_ok-pool.ensures.layout)
    ∙ c.layout_for-layout.ensures.shape) in
    let many : length after.items ≡ length trace =
    sym after.ok.0 ∙ c.step_together-lanes.ensures.count ∙ c.in-Ok.ensures.count ∙ c.into_items.result.ok.0
    ∙ ap (λ (t : List (List Command)). length t) c.into_items.ensures in
    let done : AllFinished after.items =
    on_ok (AllFinished after.items) c.step_together-lanes.result.1 _ c.in-Ok-ended.is
    c.step_together-lanes.ensures.finished in
    are_finished trace stops pool after.items (many ∙ sym c.requires.lanes ∙ ap (λ s. s.lanes) shape) runs done
