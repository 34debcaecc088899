use Rattle.std.proofs.Common.{◌≡◌, ◌++◌, ◌∙◌, ℕ, List, length, map, take, drop, sym, ap, subst}
use Rattle.std.proofs.Math.Seq.{take-append_seam}
use Rattle.pool_table.specs.declared.views.Layout.{Layout}
use Rattle.shared_pool.specs.Opening.{AreOpened}
use Rattle.shared_pool.specs.Seated.{AreDone}
use Rattle.pool_bench.specs.declared.runner.Runner.{Runner}
use Rattle.pool_bench.specs.Mails.{HasMail, IsMailFor}
use Rattle.pool_bench.specs.Runs.{MayRun, HaveRun}
use Rattle.std.specs.Prelude.{All}
use Rattle.pool_bench.proofs.Runs.{opened_done, all_may_run, all_have_mail, done}
use Rattle.pool_bench.proofs.measure.Goals as goal

pub close-requires : goal.close-requires
close-requires g c =
    let pool = c.in_ok-pool.pool in let l = c.layout_of-layout.result in
    subst (λ v. AreDone pool v.items) (sym c.in-Err.ensures.err)
    (opened_done pool l c.as_slice.result.now c.in_ok-pool.seats.items c.in_ok-pool.ensures.seats
    (pool.same_layout ∙ c.in_ok-pool.ensures.layout))

pub work_all-sum-requires-clause-mail : goal.work_all-sum-requires-clause-mail
work_all-sum-requires-clause-mail g c =
    let pool = c.in_ok-pool.pool in let l = c.layout_of-layout.result in let mail = c.as_slice.result.now in let made =
    c.in-Ok.made.0 in
    let opened = subst (λ xs. AreOpened l mail pool xs) (sym c.in-Ok.ensures.seats) c.in_ok-pool.ensures.seats in
    let sized = subst (λ (xs : List ℕ). IsMailFor c.args.plan.now xs) (sym c.as_slice.ensures.value)
    c.in_ok-mail.ensures in
    let lanes = c.layout_of-layout.ensures.lanes in
    λ κs lives. subst (λ (rs : List Runner). All (λ (q : Runner). HasMail pool c.args.plan.now.mail q.seat) rs)
    (sym c.as_mut_slice.ensures.value)
    (all_have_mail pool l mail made.items opened c.args.plan.now sized lanes
    (ap (λ (x : Layout). x.shape.lanes) (pool.same_layout ∙ c.in_ok-pool.ensures.layout) ∙ lanes))

pub work_all-sum-requires-clause-may : goal.work_all-sum-requires-clause-may
work_all-sum-requires-clause-may g c =
    let pool = c.in_ok-pool.pool in let l = c.layout_of-layout.result in let mail = c.as_slice.result.now in let made =
    c.in-Ok.made.0 in
    let opened = subst (λ xs. AreOpened l mail pool xs) (sym c.in-Ok.ensures.seats) c.in_ok-pool.ensures.seats in
    λ κs lives. subst (λ (rs : List Runner). All (λ (q : Runner). MayRun pool c.args.plan.now.blocks q.seat) rs)
    (sym c.as_mut_slice.ensures.value)
    (all_may_run pool l mail made.items opened c.args.plan.now.blocks
    c.layout_of-layout.ensures.moves c.layout_of-layout.ensures.turns)

pub close-requires-2 : goal.close-requires-2
close-requires-2 g c =
    let pool = c.in_ok-pool.pool in let l = c.layout_of-layout.result in let mail = c.as_slice.result.now in let made =
    c.in-Ok.made.0 in
    let opened = subst (λ xs. AreOpened l mail pool xs) (sym c.in-Ok.ensures.seats) c.in_ok-pool.ensures.seats in
    let after = c.work_all-sum.new.runners in
    let many : made.len ≡ length after = sym (c.work_all-sum.ensures.many ∙ c.as_mut_slice.ensures.len) in
    let is : take made.len (after ++ drop (length after) made.items)
    ≡ after =
    ap (λ (n : ℕ). take n (after ++ drop (length after) made.items)) many
    ∙ take-append_seam after (drop (length after) made.items) in
    subst (λ xs. AreDone pool xs) (sym
    (c.seats_of.ensures ∙ ap (λ (rs : List Runner). map (λ (q : Runner). q.seat) rs) is))
    (done pool l mail made.items opened after (pool.same_layout ∙ c.in_ok-pool.ensures.layout)
    (subst (λ (rs : List Runner). HaveRun pool rs after) c.as_mut_slice.ensures.value c.work_all-sum.ensures))
