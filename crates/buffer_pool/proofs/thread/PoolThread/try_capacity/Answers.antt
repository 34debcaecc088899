use Rattle.std.proofs.Common.{◌≡◌, ◌<◌, true, Ok, Err, None, Some, sym, ◌∙◌, subst}
use Rattle.std.specs.Prelude.{ℕ, Result}
use Rattle.size_classes.specs.Sizes.{chunk_bytes, Geometry}
use Rattle.pool_law.specs.declared.run.Reply.{Reply}
use Rattle.pool_law.specs.Limits.{geometry_of}
use Rattle.shared_pool.specs.declared.pool.SharedPool.{SharedPool}
use Rattle.seat_work.specs.Changes.{no_change}
use Rattle.pool_member.specs.declared.answers.CapacityNo.TheVariants.{Full}
use Rattle.pool_member.specs.declared.answers.TryCapacityNo.{TryCapacityNo}
use Rattle.pool_member.specs.declared.answers.TryCapacityNo.TheVariants.{Busy, Refused}
use Rattle.pool_member.specs.declared.member.Member.{Member}
use Rattle.pool_member.specs.declared.work.attempted.AskNo.{AskNo}
use Rattle.pool_member.specs.Growing.{IsAsked, IsGrown}
use Rattle.pool_member.specs.Growths.{asked, LeavesAsked, MayRefuseAsked}
use Rattle.pool_member.specs.Refusals.{is_here}
use Rattle.pool_member.specs.Regrowths.{capacity_no}
use Rattle.pool_member.specs.Threads.{HasChanged}
use Rattle.pool_member.specs.Windows.{Window}
use Rattle.buffer_pool.proofs.Growing.{no_cause}
use Rattle.buffer_pool.proofs.thread.PoolThread.try_capacity.Goals as goal
use Rattle.buffer_pool.proofs.thread.PoolThread.try_capacity.Goals.{in-Ok, in-Err-Busy, in-Err-Full}

pub returns-clause-left : goal.returns-clause-left
returns-clause-left g c =
    let pool = c.pool.inside.shared in let old : Member = c.self.inside.member in let new = c.try_grow.new.member in
    let root = c.buffer.inside.view.at.root in
    let of = λ (no : TryCapacityNo) (left : LeavesAsked pool root old new no).
    subst (λ (w : Window). LeavesAsked c.args.pool.now w.at.root c.args.self.now new no) c.buffer.view_is
    (subst (λ (p : SharedPool). LeavesAsked p root c.args.self.now new no) c.pool.view_is
    (subst (λ (m : Member). LeavesAsked pool root m new no) c.self.view_is left)) in
    elim c.match-try_grow.branch [
      | in-Ok w ↦ rw w.result-is tt
      | in-Err-Busy w ↦
          let e = w.in-Err-Busy.ensures in
          let changed = subst (λ (no : AskNo). HasChanged 6 (asked (Err no)) (Some root) old new)
          w.in-Err-Busy.field-0-is e.does.changed in
          let cause = subst (λ (no : AskNo). MayRefuseAsked pool root old.seat new.seat no) w.in-Err-Busy.field-0-is
          e.cause in
          rw w.result-is (of Busy (changed, cause))
      | in-Err-Full w ↦
          let changed = subst (λ (no : AskNo). HasChanged 6 (asked (Err no)) (Some root) old new)
          w.in-Err-Full.field-0-is w.in-Err-Full.ensures.does.changed in
          rw w.result-is (of (Refused Full) changed)
    ]

pub returns-clause-notes : goal.returns-clause-notes
returns-clause-notes g c =
    let pool = c.pool.inside.shared in let old : Member = c.self.inside.member in let new = c.try_grow.new.member in
    let root = c.buffer.inside.view.at.root in let size = c.args.size in
    let of = λ (answer : Result ℕ Reply) (x : IsGrown pool root size answer old new).
    subst (λ (w : Window). IsGrown c.args.pool.now w.at.root size answer c.args.self.now new) c.buffer.view_is
    (subst (λ (p : SharedPool). IsGrown p root size answer c.args.self.now new) c.pool.view_is
    (subst (λ (m : Member). IsGrown pool root size answer m new) c.self.view_is x)) in
    elim c.match-try_grow.branch [
      | in-Ok w ↦ rw w.result-is (of (Ok w.in-Ok.capacity) w.in-Ok.ensures.notes)
      | in-Err-Busy w ↦ rw w.result-is tt
      | in-Err-Full w ↦
          rw w.result-is (of (Err Reply.Full)
          (subst (λ (no : AskNo). IsAsked pool root size (Err no) old new) w.in-Err-Full.field-0-is
          w.in-Err-Full.ensures.notes))
    ]

pub returns-clause-answers : goal.returns-clause-answers
returns-clause-answers g c =
    let pool = c.pool.inside.shared in let old : Member = c.self.inside.member in let size = c.args.size in
    let w : Window = record { at = c.buffer.inside.view.at; thread = c.buffer.inside.thread } in
    let within : chunk_bytes (geometry_of pool.table.layout.shape) < size → ⊥ =
    λ lt. cc (c.in-Some.ensures.none.1
    (subst (λ (k : Geometry). chunk_bytes k < size) (sym c.pool.invariant.sizes_are) lt)) in
    let none : capacity_no (geometry_of pool.table.layout.shape) old.account w size ≡ None =
    no_cause (geometry_of pool.table.layout.shape) old.account w size
    (subst (λ (v : Window). is_here old.account v ≡ true) (sym c.buffer.view_is)
    (sym c.is_here.ensures ∙ c.if-not-is_here.false)) within c.if-self-lt-CAPACITY_TURNS.false in
    let sizes = geometry_of c.args.pool.now.table.layout.shape in let m = c.args.self.now in
    let may : capacity_no sizes m.account c.args.buffer.now size ≡ None =
    subst (λ (v : Window). capacity_no sizes m.account v size ≡ None) c.buffer.view_is
    (subst (λ (p : SharedPool). capacity_no (geometry_of p.table.layout.shape) m.account w size ≡ None)
    c.pool.view_is
    (subst (λ (m : Member). capacity_no (geometry_of pool.table.layout.shape) m.account w size ≡ None) c.self.view_is
    none)) in
    elim c.match-try_grow.branch [
      | in-Ok w ↦ rw w.result-is may
      | in-Err-Busy w ↦ rw w.result-is may
      | in-Err-Full w ↦ rw w.result-is may
    ]

pub returns-clause-changed : goal.returns-clause-changed
returns-clause-changed g c =
    let new = c.try_grow.new.member in let root = c.buffer.inside.view.at.root in
    elim c.match-try_grow.branch [
      | in-Ok w ↦
          let did = w.in-Ok.ensures.does.changed in
          rw w.result-is (subst (λ (v : Window). HasChanged 6 no_change (Some v.at.root) c.args.self.now new)
          c.buffer.view_is
          (subst (λ (m : Member). HasChanged 6 no_change (Some root) m new) c.self.view_is did))
      | in-Err-Busy w ↦ rw w.result-is tt
      | in-Err-Full w ↦ rw w.result-is tt
    ]
