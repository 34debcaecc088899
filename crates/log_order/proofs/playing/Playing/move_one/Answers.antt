use Rattle.std.proofs.Common.{⊎_elim, ◌≡◌, ◌<◌, ◌+◌, ℕ, Bool, false, sym, subst}
use Rattle.topo_order.proofs.Walks.{below-or}
use Rattle.log_order.specs.Spots.{notes_in}
use Rattle.log_order.specs.Playing.{IsHeld, MovesOn}
use Rattle.log_order.specs.declared.playing.Eager.TheVariants.{Any}
use Rattle.log_order.proofs.MoveLemmas.{stays-on, held-stays}
use Rattle.log_order.proofs.playing.Playing.move_one.Goals as goal

pub loop-lane-preserved : goal.loop-lane-preserved
loop-lane-preserved c =
    let logs = notes_in c.args.logs.now in
    let mid = c.loop-lane.self in
    let new = c.try_lane.new.self in
    let eager = c.args.eager in
    let H : Type 0 = eager ≡ Any → (lane : ℕ) → lane < c.loop-lane.lane → IsHeld logs mid lane in
    let K : Type 0 = eager ≡ Any → IsHeld logs new c.loop-lane.lane in
    let L : Type 0 = eager ≡ Any → (lane : ℕ) → lane < c.loop-lane.lane + 1 → IsHeld logs new lane in
    let i : MovesOn logs c.args.self.now mid false H = c.loop-lane.invariant in
    let m = subst (λ (b : Bool). MovesOn logs mid new b K) c.if-branch.false c.in_ok-try_lane.ensures in
    stays-on logs c.args.self.now mid new false H K L i m
    (λ any lane low. ⊎_elim
    (λ below. held-stays logs mid new lane m.1.next m.1.order (i.1.holds any lane below))
    (λ same. subst (IsHeld logs new) (sym same) (m.1.holds any))
    (below-or lane c.loop-lane.lane low))
