use Rattle.std.proofs.Common.{◌≡◌, ◌+◌, ◌≤◌, Err, None, Some, sym, ◌∙◌, subst}
use Rattle.std.specs.Prelude.{IfSome, Option}
use Rattle.size_classes.specs.Sizes.{class_of, Geometry}
use Rattle.pool_law.specs.Limits.{geometry_of}
use Rattle.pool_law.specs.declared.id.RootId.{RootId}
use Rattle.pool_law.specs.declared.id.ViewData.{ViewData}
use Rattle.seat_work.specs.declared.allocation.AllocNo.{AllocNo as WorkNo}
use Rattle.seat_work.specs.declared.allocation.AllocNo.TheVariants as work
use Rattle.seat_work.specs.Answers.{allocated}
use Rattle.shared_pool.specs.declared.pool.SharedPool.{SharedPool}
use Rattle.seat_work.specs.Changes.{once_more, one_for}
use Rattle.seat_work.specs.Works.{HasBorn}
use Rattle.pool_member.specs.declared.answers.AllocNo.{AllocNo}
use Rattle.pool_member.specs.declared.member.Member.{Member}
use Rattle.pool_member.specs.Answers.{alloc_told, alloc_turns, as_alloc, HasCause}
use Rattle.pool_member.specs.Allotting.{IsAllotted, IsRefused}
use Rattle.pool_member.specs.Counting.{counted}
use Rattle.pool_member.specs.Threads.{HasChanged, IsThread, less_turns}
use Rattle.pool_member.specs.Windows.{HasPlace}
use Rattle.pool_member.proofs.Keeping.{here_placed}
use Rattle.buffer_pool.proofs.Allocating.{at_fresh, at_untold, back_is, back_thread, back_turns, did_refuse, did_spend, had_cause, here_made, made_apart, made_quick, Made, may_bear}
use Rattle.buffer_pool.proofs.thread.PoolThread.alloc.Goals as goal
use Rattle.buffer_pool.proofs.thread.PoolThread.alloc.Goals.{then-is_quick+in-Ok, else-is_quick+in-Ok-allocate}
use Rattle.buffer_pool.proofs.thread.PoolThread.alloc.Given as given

-- a refusal of the work tells as much as this crate's
told_as : (no : WorkNo) (old new : Member) → HasChanged 6 (allocated (Err no)) None old new
    → HasChanged (alloc_turns (as_alloc no)) (alloc_told (as_alloc no)) None old new
told_as work.NoHandle old new x = x
told_as work.Full old new x = x
told_as work.Worn old new x = x

pub allocate-requires-clause-works : goal.allocate-requires-clause-works
allocate-requires-clause-works g c =
    let pool = c.pool.inside.shared in let old : Member = c.self.inside.member in
    let mid : Member = c.lacks.new.member in let size = c.args.size in
    let is : IsThread pool old =
    subst (λ (o : Option SharedPool). IfSome o (λ p. IsThread p old)) c.pool.invariant.named c.self.invariant in
    let took : (6 ≤ old.account.turns) × (mid ≡ less_turns 6 old) = c.if-lacks.ensures in
    may_bear pool old mid is took.0 took.1 (c.is_quick.ensures.settled c.if-is_quick.true)

pub count_born-requires-clause-fresh : goal.count_born-requires-clause-fresh
count_born-requires-clause-fresh g c =
    let pool = c.pool.inside.shared in let old : Member = c.self.inside.member in
    let mid : Member = c.lacks.new.member in let size = c.args.size in
    let is : IsThread pool old =
    subst (λ (o : Option SharedPool). IfSome o (λ p. IsThread p old)) c.pool.invariant.named c.self.invariant in
    let took : (6 ≤ old.account.turns) × (mid ≡ less_turns 6 old) = c.if-lacks.ensures in
    let none = c.is_quick.ensures.settled c.if-is_quick.true in let ok = c.in-Ok.ensures in
    rw c.in_parts-root.ensures (at_fresh pool old mid is took.0 took.1 none c.in-Ok.root c.allocate.new.seat ok.proceeds
    ok.later ok.born.fresh ok.root.1)

pub count_born-requires-clause-untold : goal.count_born-requires-clause-untold
count_born-requires-clause-untold g c =
    let pool = c.pool.inside.shared in let old : Member = c.self.inside.member in
    let mid : Member = c.lacks.new.member in let size = c.args.size in
    let is : IsThread pool old =
    subst (λ (o : Option SharedPool). IfSome o (λ p. IsThread p old)) c.pool.invariant.named c.self.invariant in
    let took : (6 ≤ old.account.turns) × (mid ≡ less_turns 6 old) = c.if-lacks.ensures in
    let none = c.is_quick.ensures.settled c.if-is_quick.true in let ok = c.in-Ok.ensures in
    rw c.in_parts-root.ensures (at_untold pool old mid is took.0 took.1 none c.in-Ok.root c.allocate.new.seat
    ok.proceeds ok.later ok.born.fresh)

pub allocate-requires-else-is_quick-clause-thread : goal.allocate-requires-else-is_quick-clause-thread
allocate-requires-else-is_quick-clause-thread g c =
    let pool = c.pool.inside.shared in let old : Member = c.self.inside.member in
    let mid : Member = c.lacks.new.member in let size = c.args.size in
    let is : IsThread pool old =
    subst (λ (o : Option SharedPool). IfSome o (λ p. IsThread p old)) c.pool.invariant.named c.self.invariant in
    let took : (6 ≤ old.account.turns) × (mid ≡ less_turns 6 old) = c.if-lacks.ensures in
    back_thread pool old mid is took.0 took.1 c.give_back.new.member c.give_back.ensures.small

pub allocate-requires-else-is_quick-clause-turns : goal.allocate-requires-else-is_quick-clause-turns
allocate-requires-else-is_quick-clause-turns g c =
    let pool = c.pool.inside.shared in let old : Member = c.self.inside.member in
    let mid : Member = c.lacks.new.member in let size = c.args.size in
    let is : IsThread pool old =
    subst (λ (o : Option SharedPool). IfSome o (λ p. IsThread p old)) c.pool.invariant.named c.self.invariant in
    let took : (6 ≤ old.account.turns) × (mid ≡ less_turns 6 old) = c.if-lacks.ensures in
    back_turns pool old mid is took.0 took.1 c.give_back.new.member c.give_back.ensures.small

-- by either way the root is the thread's
made_by : (g : given.Over) (c : goal.After-of_root g) →
    Made c.pool.inside.shared c.args.size c.self.inside.member c.if-is_quick.member c.if-is_quick.root
made_by g c =
    let pool = c.pool.inside.shared in let old : Member = c.self.inside.member in
    let mid : Member = c.lacks.new.member in let size = c.args.size in
    let is : IsThread pool old =
    subst (λ (o : Option SharedPool). IfSome o (λ p. IsThread p old)) c.pool.invariant.named c.self.invariant in
    let took : (6 ≤ old.account.turns) × (mid ≡ less_turns 6 old) = c.if-lacks.ensures in
    let class_is : class_of (geometry_of pool.table.layout.shape) size ≡ Some c.in-Some.class =
    subst (λ (k : Geometry). class_of k size ≡ Some c.in-Some.class) c.pool.invariant.sizes_are
    (sym c.class_of.ensures.class ∙ c.in-Some.is) in
    elim c.if-is_quick.branch [
      | then-is_quick+in-Ok w ↦
          let none = c.is_quick.ensures.settled w.if-is_quick.true in let ok = w.in-Ok.ensures in
          let less = w.count_born.ensures in let r : RootId = w.in-Ok.root in
          let cs = w.count_born.new.member.account.counts in
          let more = subst (λ (q : RootId). (other : RootId) → counted cs other
          ≡ counted mid.account.counts other + one_for q other) w.in_parts-root.ensures less.counts in
          rw w.root-is (rw w.member-is (subst (λ (q : RootId). Made pool size old w.count_born.new.member q)
          (sym w.in_parts-root.ensures)
          (made_quick pool old mid is took.0 took.1 none r w.allocate.new.seat ok.proceeds ok.later size
          c.in-Some.class class_is (c.is_quick.ensures.next w.if-is_quick.true) ok.root.0 ok.born ok.allots cs more
          less.tells less.keeps less.alone less.owns less.places w.count_born.new.member less.rest)))
      | else-is_quick+in-Ok-allocate w ↦
          let back : Member = w.give_back.new.member in let ok = w.in-Ok-allocate.ensures in
          let r : RootId = w.in-Ok-allocate.root in let done : Member = w.allocate-else-is_quick.new.member in
          rw w.root-is (rw w.member-is (subst (λ (q : RootId). Made pool size old done q)
          (sym (w.sized.ensures ok.root)) (made_apart pool size old back done r
          (back_is pool old mid is took.0 took.1 back w.give_back.ensures.small) ok.does ok.root ok.counts ok.born
          ok.moves ok.watcher ok.settled ok.notes)))
    ]

pub invariant_of-self-2 : goal.invariant_of-self-2
invariant_of-self-2 g c =
    let pool = c.pool.inside.shared in let old : Member = c.self.inside.member in let size = c.args.size in
    let new : Member = c.if-is_quick.member in let root : RootId = c.if-is_quick.root in let made = made_by g c in
    subst (λ (o : Option SharedPool). IfSome o (λ p. IsThread p new)) (sym c.pool.invariant.named) made.does.thread

pub returns-clause-changed : goal.returns-clause-changed
returns-clause-changed g c =
    let pool = c.pool.inside.shared in let old : Member = c.self.inside.member in let size = c.args.size in
    let new : Member = c.if-is_quick.member in let root : RootId = c.if-is_quick.root in let made = made_by g c in
    subst (λ (v : ViewData). HasChanged 6 (once_more v.root) None c.args.self.now new) (sym c.of_root.ensures)
    (subst (λ (m : Member). HasChanged 6 (once_more root) None m new) c.self.view_is made.does.changed)

pub returns-clause-here : goal.returns-clause-here
returns-clause-here g c =
    let pool = c.pool.inside.shared in let old : Member = c.self.inside.member in let size = c.args.size in
    let new : Member = c.if-is_quick.member in let root : RootId = c.if-is_quick.root in let made = made_by g c in
    here_made new root c.of_root.result.at c.of_root.ensures made.counts

pub returns-clause-allotted : goal.returns-clause-allotted
returns-clause-allotted g c =
    let pool = c.pool.inside.shared in let old : Member = c.self.inside.member in let size = c.args.size in
    let new : Member = c.if-is_quick.member in let root : RootId = c.if-is_quick.root in let made = made_by g c in
    subst (λ (v : ViewData). IsAllotted c.args.pool.now size v.root c.args.self.now new) (sym c.of_root.ensures)
    (subst (λ (p : SharedPool). IsAllotted p size root c.args.self.now new) c.pool.view_is
    (subst (λ (m : Member). IsAllotted pool size root m new) c.self.view_is made.allotted))

pub returns-clause-born : goal.returns-clause-born
returns-clause-born g c =
    let pool = c.pool.inside.shared in let old : Member = c.self.inside.member in let size = c.args.size in
    let new : Member = c.if-is_quick.member in let root : RootId = c.if-is_quick.root in let made = made_by g c in
    subst (λ (v : ViewData). HasBorn c.args.pool.now v.root c.args.self.now.seat new.seat) (sym c.of_root.ensures)
    (subst (λ (p : SharedPool). HasBorn p root c.args.self.now.seat new.seat) c.pool.view_is
    (subst (λ (m : Member). HasBorn pool root m.seat new.seat) c.self.view_is made.born))

-- ---- The quick way, refused.
pub invariant_of-self-in-Err : goal.invariant_of-self-in-Err
invariant_of-self-in-Err g c =
    let pool = c.pool.inside.shared in let old : Member = c.self.inside.member in
    let mid : Member = c.lacks.new.member in let size = c.args.size in
    let is : IsThread pool old =
    subst (λ (o : Option SharedPool). IfSome o (λ p. IsThread p old)) c.pool.invariant.named c.self.invariant in
    let took : (6 ≤ old.account.turns) × (mid ≡ less_turns 6 old) = c.if-lacks.ensures in
    let none = c.is_quick.ensures.settled c.if-is_quick.true in let no = c.in-Err.no in
    let seat = c.allocate.new.seat in let err = c.in-Err.ensures in let done : Member = record mid { seat = seat } in
    subst (λ (o : Option SharedPool). IfSome o (λ p. IsThread p done)) (sym c.pool.invariant.named)
    (did_spend pool old mid is took.0 took.1 none no seat err.proceeds err.later).thread

pub returns-in-Err-clause-refused : goal.returns-in-Err-clause-refused
returns-in-Err-clause-refused g c =
    let pool = c.pool.inside.shared in let old : Member = c.self.inside.member in
    let mid : Member = c.lacks.new.member in let size = c.args.size in
    let is : IsThread pool old =
    subst (λ (o : Option SharedPool). IfSome o (λ p. IsThread p old)) c.pool.invariant.named c.self.invariant in
    let took : (6 ≤ old.account.turns) × (mid ≡ less_turns 6 old) = c.if-lacks.ensures in
    let none = c.is_quick.ensures.settled c.if-is_quick.true in let no = c.in-Err.no in
    let seat = c.allocate.new.seat in let err = c.in-Err.ensures in let done : Member = record mid { seat = seat } in
    let did = did_spend pool old mid is took.0 took.1 none no seat err.proceeds err.later in
    subst (λ (n : AllocNo). HasChanged (alloc_turns n) (alloc_told n) None c.args.self.now done)
    (sym c.alloc_no.ensures)
    (subst (λ (m : Member). HasChanged (alloc_turns (as_alloc no)) (alloc_told (as_alloc no)) None m done)
    c.self.view_is (told_as no old done did.changed))

pub returns-in-Err-clause-cause : goal.returns-in-Err-clause-cause
returns-in-Err-clause-cause g c =
    let pool = c.pool.inside.shared in let old : Member = c.self.inside.member in
    let mid : Member = c.lacks.new.member in let size = c.args.size in
    let is : IsThread pool old =
    subst (λ (o : Option SharedPool). IfSome o (λ p. IsThread p old)) c.pool.invariant.named c.self.invariant in
    let took : (6 ≤ old.account.turns) × (mid ≡ less_turns 6 old) = c.if-lacks.ensures in
    let none = c.is_quick.ensures.settled c.if-is_quick.true in let no = c.in-Err.no in
    let seat = c.allocate.new.seat in let err = c.in-Err.ensures in let done : Member = record mid { seat = seat } in
    subst (λ (n : AllocNo). HasCause c.args.pool.now c.args.self.now done n) (sym c.alloc_no.ensures)
    (subst (λ (p : SharedPool). HasCause p c.args.self.now done (as_alloc no)) c.pool.view_is
    (subst (λ (m : Member). HasCause pool m done (as_alloc no)) c.self.view_is
    (had_cause pool old mid is took.0 took.1 none no seat err.proceeds err.later err.worn)))

pub returns-in-Err-clause-told : goal.returns-in-Err-clause-told
returns-in-Err-clause-told g c =
    let pool = c.pool.inside.shared in let old : Member = c.self.inside.member in
    let mid : Member = c.lacks.new.member in let size = c.args.size in
    let is : IsThread pool old =
    subst (λ (o : Option SharedPool). IfSome o (λ p. IsThread p old)) c.pool.invariant.named c.self.invariant in
    let took : (6 ≤ old.account.turns) × (mid ≡ less_turns 6 old) = c.if-lacks.ensures in
    let none = c.is_quick.ensures.settled c.if-is_quick.true in let no = c.in-Err.no in
    let seat = c.allocate.new.seat in let err = c.in-Err.ensures in let done : Member = record mid { seat = seat } in
    subst (λ (n : AllocNo). IsRefused c.args.pool.now size n c.args.self.now done) (sym c.alloc_no.ensures)
    (subst (λ (p : SharedPool). IsRefused p size (as_alloc no) c.args.self.now done) c.pool.view_is
    (subst (λ (m : Member). IsRefused pool size (as_alloc no) m done) c.self.view_is
    (did_refuse pool old mid is took.0 took.1 none no seat err.proceeds err.later size c.in-Some.class err.allots)))

-- ---- The way apart, refused.
pub returns-in-Err-allocate-clause-refused : goal.returns-in-Err-allocate-clause-refused
returns-in-Err-allocate-clause-refused g c =
    let pool = c.pool.inside.shared in let old : Member = c.self.inside.member in
    let mid : Member = c.lacks.new.member in let size = c.args.size in
    let is : IsThread pool old =
    subst (λ (o : Option SharedPool). IfSome o (λ p. IsThread p old)) c.pool.invariant.named c.self.invariant in
    let took : (6 ≤ old.account.turns) × (mid ≡ less_turns 6 old) = c.if-lacks.ensures in
    let back : Member = c.give_back.new.member in let err = c.in-Err-allocate.ensures in
    let no = c.in-Err-allocate.no in let done : Member = c.allocate-else-is_quick.new.member in
    let is_back : back ≡ old = back_is pool old mid is took.0 took.1 back c.give_back.ensures.small in
    let did : HasChanged 6 (allocated (Err no)) None old done =
    subst (λ (m : Member). HasChanged 6 (allocated (Err no)) None m done) is_back err.does.changed in
    subst (λ (n : AllocNo). HasChanged (alloc_turns n) (alloc_told n) None c.args.self.now done)
    (sym c.alloc_no-in-Err-allocate.ensures)
    (subst (λ (m : Member). HasChanged (alloc_turns (as_alloc no)) (alloc_told (as_alloc no)) None m done)
    c.self.view_is (told_as no old done did))

pub returns-in-Err-allocate-clause-cause : goal.returns-in-Err-allocate-clause-cause
returns-in-Err-allocate-clause-cause g c =
    let pool = c.pool.inside.shared in let old : Member = c.self.inside.member in
    let mid : Member = c.lacks.new.member in let size = c.args.size in
    let is : IsThread pool old =
    subst (λ (o : Option SharedPool). IfSome o (λ p. IsThread p old)) c.pool.invariant.named c.self.invariant in
    let took : (6 ≤ old.account.turns) × (mid ≡ less_turns 6 old) = c.if-lacks.ensures in
    let back : Member = c.give_back.new.member in let err = c.in-Err-allocate.ensures in
    let no = c.in-Err-allocate.no in let done : Member = c.allocate-else-is_quick.new.member in
    let is_back : back ≡ old = back_is pool old mid is took.0 took.1 back c.give_back.ensures.small in
    subst (λ (n : AllocNo). HasCause c.args.pool.now c.args.self.now done n) (sym c.alloc_no-in-Err-allocate.ensures)
    (subst (λ (p : SharedPool). HasCause p c.args.self.now done (as_alloc no)) c.pool.view_is
    (subst (λ (m : Member). HasCause pool m done (as_alloc no)) (is_back ∙ c.self.view_is) err.cause))

pub returns-in-Err-allocate-clause-told : goal.returns-in-Err-allocate-clause-told
returns-in-Err-allocate-clause-told g c =
    let pool = c.pool.inside.shared in let old : Member = c.self.inside.member in
    let mid : Member = c.lacks.new.member in let size = c.args.size in
    let is : IsThread pool old =
    subst (λ (o : Option SharedPool). IfSome o (λ p. IsThread p old)) c.pool.invariant.named c.self.invariant in
    let took : (6 ≤ old.account.turns) × (mid ≡ less_turns 6 old) = c.if-lacks.ensures in
    let back : Member = c.give_back.new.member in let err = c.in-Err-allocate.ensures in
    let no = c.in-Err-allocate.no in let done : Member = c.allocate-else-is_quick.new.member in
    let is_back : back ≡ old = back_is pool old mid is took.0 took.1 back c.give_back.ensures.small in
    subst (λ (n : AllocNo). IsRefused c.args.pool.now size n c.args.self.now done)
    (sym c.alloc_no-in-Err-allocate.ensures)
    (subst (λ (p : SharedPool). IsRefused p size (as_alloc no) c.args.self.now done) c.pool.view_is
    (subst (λ (m : Member). IsRefused pool size (as_alloc no) m done) (is_back ∙ c.self.view_is) err.notes))

pub invariant_of-result : goal.invariant_of-result
invariant_of-result g c =
    let pool = c.pool.inside.shared in let old : Member = c.self.inside.member in let size = c.args.size in
    let new : Member = c.if-is_quick.member in let root : RootId = c.if-is_quick.root in let made = made_by g c in
    let here = here_made new root c.of_root.result.at c.of_root.ensures made.counts in
    subst (λ (o : Option SharedPool). IfSome o (λ p. HasPlace p c.of_root.result.at.root)) (sym c.pool.invariant.named)
    (here_placed pool new (record { at = c.of_root.result.at; thread = new.account.lane }) made.does.thread here)
