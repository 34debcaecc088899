use Rattle.std.proofs.Common.{◌≡◌, ◌<◌, true, Ok, Err, None, Some, sym, ap, ◌∙◌, subst}
use Rattle.std.specs.Prelude.{ℕ, IsTrue, Result}
use Rattle.std.proofs.Math.Nat.{le_trans}
use Rattle.size_classes.specs.Sizes.{chunk_bytes, Geometry}
use Rattle.pool_law.specs.declared.run.Reply.{Reply}
use Rattle.pool_law.specs.declared.id.ViewData.{ViewData}
use Rattle.pool_law.specs.Limits.{geometry_of}
use Rattle.pool_law.specs.Views.{reaching, LiesIn}
use Rattle.shared_pool.specs.declared.pool.SharedPool.{SharedPool}
use Rattle.seat_work.specs.Changes.{Change, no_change}
use Rattle.pool_member.specs.declared.member.Member.{Member}
use Rattle.pool_member.specs.Alone.{GrowsAlone}
use Rattle.pool_member.specs.Growing.{IsGrown}
use Rattle.pool_member.specs.Refusals.{is_here}
use Rattle.pool_member.specs.Regrowths.{capacity_no}
use Rattle.pool_member.specs.Threads.{HasChanged}
use Rattle.pool_member.specs.Windows.{Window}
use Rattle.buffer_pool.proofs.Growing.{full_reply, full_told, no_cause, reaches, reaches_on}
use Rattle.buffer_pool.proofs.thread.PoolThread.capacity.Goals as goal
use Rattle.buffer_pool.proofs.thread.PoolThread.capacity.Goals.{in-Ok, in-Err-Full}

pub reach-requires-clause-covers : goal.reach-requires-clause-covers
reach-requires-clause-covers g c =
    let old : Member = c.self.inside.member in
    let w : Window = record { at = c.buffer.inside.view.at; thread = c.buffer.inside.thread } in
    le_trans (reaches old.account w (subst (λ (v : Window). is_here old.account v ≡ true) (sym c.buffer.view_is)
    (sym c.is_here.ensures ∙ c.if-not-is_here.false))) c.in-Ok.ensures.knows.0

pub returns-clause-answers : goal.returns-clause-answers
returns-clause-answers g c =
    let pool = c.pool.inside.shared in let old : Member = c.self.inside.member in let size = c.args.size in
    let w : Window = record { at = c.buffer.inside.view.at; thread = c.buffer.inside.thread } in
    let within : chunk_bytes (geometry_of pool.table.layout.shape) < size → ⊥ =
    λ lt. cc (c.in-Some.ensures.none.1
    (subst (λ (k : Geometry). chunk_bytes k < size) (sym c.pool.invariant.sizes_are) lt)) in
    let none : capacity_no (geometry_of pool.table.layout.shape) old.account w size ≡ None =
    no_cause (geometry_of pool.table.layout.shape) old.account w size
    (subst (λ (v : Window). is_here old.account v ≡ true) (sym c.buffer.view_is)
    (sym c.is_here.ensures ∙ c.if-not-is_here.false)) within c.if-self-lt-CAPACITY_TURNS.false in
    let sizes = geometry_of c.args.pool.now.table.layout.shape in let m = c.args.self.now in
    let may : capacity_no sizes m.account c.args.buffer.now size ≡ None =
    subst (λ (v : Window). capacity_no sizes m.account v size ≡ None) c.buffer.view_is
    (subst (λ (p : SharedPool). capacity_no (geometry_of p.table.layout.shape) m.account w size ≡ None)
    c.pool.view_is
    (subst (λ (m : Member). capacity_no (geometry_of pool.table.layout.shape) m.account w size ≡ None) c.self.view_is
    none)) in
    elim c.match-grow.branch [
      | in-Ok w ↦ rw w.result-is may
      | in-Err-Full w ↦ rw w.result-is may
    ]

pub returns-clause-grown : goal.returns-clause-grown
returns-clause-grown g c =
    let old : Member = c.self.inside.member in
    let w : Window = record { at = c.buffer.inside.view.at; thread = c.buffer.inside.thread } in
    elim c.match-grow.branch [
      | in-Ok x ↦
          let bytes = x.in-Ok.bytes in
          let lies : LiesIn bytes w.at =
          le_trans (reaches old.account w (subst (λ (v : Window). is_here old.account v ≡ true) (sym c.buffer.view_is)
          (sym c.is_here.ensures ∙ c.if-not-is_here.false))) x.in-Ok.ensures.knows.0 in
          rw x.result-is (
            x.in-Ok.ensures.enough.0,
            subst (λ (v : Window). LiesIn bytes v.at) c.buffer.view_is lies,
            x.buffer-is ∙ ap (λ (at : ViewData). record w { at = at }) x.reach.ensures
                ∙ ap (λ (v : Window). record v { at = reaching bytes v.at }) c.buffer.view_is,
          )
      | in-Err-Full x ↦ rw x.result-is tt
    ]

pub returns-clause-here : goal.returns-clause-here
returns-clause-here g c =
    let old : Member = c.self.inside.member in let new = c.grow.new.member in
    let w : Window = record { at = c.buffer.inside.view.at; thread = c.buffer.inside.thread } in
    let here : is_here old.account w ≡ true =
    subst (λ (v : Window). is_here old.account v ≡ true) (sym c.buffer.view_is)
    (sym c.is_here.ensures ∙ c.if-not-is_here.false) in
    elim c.match-grow.branch [
      | in-Ok x ↦
          let e = x.in-Ok.ensures in
          rw x.result-is (subst (λ (v : Window). IsTrue (is_here new.account v))
          (sym (x.buffer-is ∙ ap (λ (at : ViewData). record w { at = at }) x.reach.ensures))
          (reaches_on old.account w here new.account x.in-Ok.bytes e.does.changed.number e.counts
          (le_trans (reaches old.account w here) e.knows.0) e.knows.1))
      | in-Err-Full x ↦ rw x.result-is tt
    ]

pub returns-clause-changed : goal.returns-clause-changed
returns-clause-changed g c =
    let new = c.grow.new.member in
    let root = c.buffer.inside.view.at.root in
    elim c.match-grow.branch [
      | in-Ok w ↦
          let did = w.in-Ok.ensures.does.changed in
          rw w.result-is (subst (λ (v : Window). HasChanged 6 no_change (Some v.at.root) c.args.self.now new)
          c.buffer.view_is
          (subst (λ (m : Member). HasChanged 6 no_change (Some root) m new) c.self.view_is did))
      | in-Err-Full w ↦ rw w.result-is tt
    ]

pub returns-clause-alone : goal.returns-clause-alone
returns-clause-alone g c =
    let new = c.grow.new.member in
    subst (λ (v : Window). GrowsAlone v.at.root c.args.self.now new) c.buffer.view_is
    (subst (λ (m : Member). GrowsAlone c.buffer.inside.view.at.root m new) c.self.view_is c.grow.ensures.alone)

pub returns-clause-refused : goal.returns-clause-refused
returns-clause-refused g c =
    let old : Member = c.self.inside.member in let new = c.grow.new.member in
    let root = c.buffer.inside.view.at.root in let full : Change = record no_change { full = 1 } in
    elim c.match-grow.branch [
      | in-Ok w ↦ rw w.result-is tt
      | in-Err-Full w ↦
          rw w.result-is (subst (λ (v : Window). HasChanged 6 full (Some v.at.root) c.args.self.now new)
          c.buffer.view_is
          (subst (λ (m : Member). HasChanged 6 full (Some root) m new) c.self.view_is
          (subst (λ (d : Change). HasChanged 6 d (Some root) old new) (full_told w.in-Err-Full.field-0)
          w.in-Err-Full.ensures.does.changed)))
    ]

pub returns-clause-notes : goal.returns-clause-notes
returns-clause-notes g c =
    let pool = c.pool.inside.shared in let old : Member = c.self.inside.member in let new = c.grow.new.member in
    let root = c.buffer.inside.view.at.root in let size = c.args.size in
    let of = λ (answer : Result ℕ Reply) (x : IsGrown pool root size answer old new).
    subst (λ (w : Window). IsGrown c.args.pool.now w.at.root size answer c.args.self.now new) c.buffer.view_is
    (subst (λ (p : SharedPool). IsGrown p root size answer c.args.self.now new) c.pool.view_is
    (subst (λ (m : Member). IsGrown pool root size answer m new) c.self.view_is x)) in
    elim c.match-grow.branch [
      | in-Ok w ↦ rw w.result-is (of (Ok w.in-Ok.bytes) w.in-Ok.ensures.notes)
      | in-Err-Full w ↦
          rw w.result-is (of (Err Reply.Full)
          (subst (λ (r : Result ℕ Reply). IsGrown pool root size r old new) (full_reply w.in-Err-Full.field-0)
          w.in-Err-Full.ensures.notes))
    ]
