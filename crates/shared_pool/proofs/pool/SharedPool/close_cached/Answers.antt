use Rattle.std.proofs.Common.{◌≡◌, ◌+◌, ◌≤◌, false, sym, ap, ◌∙◌, subst, refl}
use Rattle.std.specs.Prelude.{ℕ}
use Rattle.pool_law.specs.Naming.{noted_by}
use Rattle.pool_law.specs.declared.note.Did.{Did}
use Rattle.pool_law.specs.declared.note.Noted.{Noted}
use Rattle.pool_law.specs.declared.note.Object.TheVariants.{Cache}
use Rattle.history_laws.specs.Measures.{measures_of}
use Rattle.pool_table.specs.Learned.{in_own, takes_of, gives_of}
use Rattle.shared_pool.specs.declared.seat.PoolSeat.{PoolSeat}
use Rattle.shared_pool.specs.SeatViews.{view_of}
use Rattle.shared_pool.specs.Notes.{plain}
use Rattle.shared_pool.specs.Quotas.{quota_left, has_closed}
use Rattle.shared_pool.specs.SeatLanes.{lane_of}
use Rattle.shared_pool.specs.Seats.{IsNoted}
use Rattle.shared_pool.proofs.CacheHands.{close_bound}
use Rattle.shared_pool.proofs.CacheHomes.{next, is_cache, cache_has}
use Rattle.shared_pool.proofs.CacheQuotas.{quota_is, closed_is}
use Rattle.shared_pool.proofs.Endings.{ends, made, stood}
use Rattle.shared_pool.proofs.Numbers.{below}
use Rattle.shared_pool.proofs.SeatCalls.{seat_did}
use Rattle.shared_pool.proofs.SeatEnds.{held_seat}
use Rattle.shared_pool.proofs.pool.SharedPool.close_cached.Goals as goal

pub close-quota-requires-clause-no_quota : goal.close-quota-requires-clause-no_quota
close-quota-requires-clause-no_quota c =
    let got = c.in-Ok.ensures.got in let seat = c.requires.seat in let old = c.args.seat.now in
    let l = c.args.self.now.table.layout in let lane = c.lane_of.result in let class = c.args.class in
    let at = stood l (Cache lane class) old.seat c.claim.new.seat c.in-Ok.section got seat.setting seat.settled in
    let lt = below (view_of old).own.number seat.lane lane l.shape.lanes seat.number c.lane_of.ensures.number
    seat.below in
    cache_has l.shape seat.setting lane class got.history c.in-Ok.section.home (λ q. q.quota ≡ 0) at
    (is_cache seat.setting got.history lane class c.in-Ok.section.home at)
    (λ q x after is.
    ap (λ y. y.quota) (sym is)
    ∙ quota_is l lane class (lt, c.requires.class) (view_of old) got.history c.in-Ok.section.home got.learned
    c.lane_of.ensures.number x after
    ∙ ap (λ k. quota_left k class (view_of old).own.notes) c.lane_of.ensures.lane
    ∙ c.requires.no_quota)
    got.learned.accepted

pub close-quota-requires-clause-not_closed : goal.close-quota-requires-clause-not_closed
close-quota-requires-clause-not_closed c =
    let got = c.in-Ok.ensures.got in let seat = c.requires.seat in let old = c.args.seat.now in
    let l = c.args.self.now.table.layout in let lane = c.lane_of.result in let class = c.args.class in
    let at = stood l (Cache lane class) old.seat c.claim.new.seat c.in-Ok.section got seat.setting seat.settled in
    let lt = below (view_of old).own.number seat.lane lane l.shape.lanes seat.number c.lane_of.ensures.number
    seat.below in
    cache_has l.shape seat.setting lane class got.history c.in-Ok.section.home (λ q. q.closed ≡ false) at
    (is_cache seat.setting got.history lane class c.in-Ok.section.home at)
    (λ q x after is.
    ap (λ y. y.closed) (sym is)
    ∙ closed_is l lane class (lt, c.requires.class) (view_of old) got.history c.in-Ok.section.home got.learned
    c.lane_of.ensures.number x after
    ∙ ap (λ k. has_closed k class (view_of old).own.notes) c.lane_of.ensures.lane
    ∙ c.requires.not_closed)
    got.learned.accepted

pub note-number-requires-clause-section : goal.note-number-requires-clause-section
note-number-requires-clause-section c =
    let got = c.in-Ok.ensures.got in let seat = c.requires.seat in let old = c.args.seat.now in
    let l = c.args.self.now.table.layout in let lane = c.lane_of.result in let class = c.args.class in
    ends l (Cache lane class) old.seat c.claim.new.seat c.in-Ok.section got seat.setting seat.settled
    c.close-quota.new.section c.noted-noted.result
    (next l lane class old.seat c.claim.new.seat c.in-Ok.section got seat.setting seat.settled c.close-quota.new.section
    (Did.Close c.close-quota.result) c.close-quota.ensures.same.0 c.close-quota.ensures.same.1
    c.close-quota.ensures.cache (refl)
    (λ m did_is. c.close-quota.ensures.stands (measures_of l.shape (Cache lane class)) seat.setting got.history m did_is
    (stood l (Cache lane class) old.seat c.claim.new.seat c.in-Ok.section got seat.setting seat.settled))
    c.noted-noted.result (c.noted-noted.ensures))

pub returns-clause-did : goal.returns-clause-did
returns-clause-did c =
    let new : PoolSeat = record c.args.seat.now { seat = c.note-number.new.seat } in
    let got = c.in-Ok.ensures.got in let seat = c.requires.seat in let old = c.args.seat.now in
    let l = c.args.self.now.table.layout in let lane = c.lane_of.result in let class = c.args.class in
    let n : c.noted-noted.result ≡ plain (Did.Close c.close-quota.result) = c.noted-noted.ensures in
    subst (λ (x : ℕ × Noted). IsNoted c.args.self.now old new (Cache x.0 class) c.note-number.result
    x.1) (λ i. (c.lane_of.ensures.lane i, n i))
    (made l (Cache lane class) old c.claim.new.seat c.in-Ok.section got seat.setting seat.settled c.args.self.now
    c.note-number.new.seat c.close-quota.new.section c.note-number.result c.noted-noted.result refl
    (next l lane class old.seat c.claim.new.seat c.in-Ok.section got seat.setting seat.settled c.close-quota.new.section
    (Did.Close c.close-quota.result) c.close-quota.ensures.same.0 c.close-quota.ensures.same.1
    c.close-quota.ensures.cache (refl)
    (λ m did_is. c.close-quota.ensures.stands (measures_of l.shape (Cache lane class)) seat.setting got.history m did_is
    (stood l (Cache lane class) old.seat c.claim.new.seat c.in-Ok.section got seat.setting seat.settled))
    c.noted-noted.result (n)) c.note-number.ensures.number c.note-number.ensures.noted)

pub returns-clause-bound : goal.returns-clause-bound
returns-clause-bound c =
    let got = c.in-Ok.ensures.got in let seat = c.requires.seat in let old = c.args.seat.now in
    let l = c.args.self.now.table.layout in let lane = c.lane_of.result in let class = c.args.class in
    let v = view_of old in
    let follows = next l lane class old.seat c.claim.new.seat c.in-Ok.section got seat.setting seat.settled
    c.close-quota.new.section (Did.Close c.close-quota.result) c.close-quota.ensures.same.0
    c.close-quota.ensures.same.1 c.close-quota.ensures.cache (refl)
    (λ m did_is. c.close-quota.ensures.stands (measures_of l.shape (Cache lane class)) seat.setting got.history m did_is
    (stood l (Cache lane class) old.seat c.claim.new.seat c.in-Ok.section got seat.setting seat.settled))
    c.noted-noted.result (c.noted-noted.ensures) in
    subst (λ (k : ℕ). c.close-quota.result + in_own (gives_of k class) v ≤ in_own (takes_of class) v)
    c.lane_of.ensures.lane
    (close_bound l lane class v got.history c.in-Ok.section.home got.learned c.lane_of.ensures.number
    c.close-quota.result (noted_by v.own.number c.noted-noted.result)
    (ap (λ (x : Noted). x.did) c.noted-noted.ensures) follows.follows)

pub returns-clause-seat : goal.returns-clause-seat
returns-clause-seat c =
    seat_did c.args.self.now c.args.seat.now c.claim.new.seat c.note-number.new.seat
    (Cache (lane_of c.args.seat.now) c.args.class) c.note-number.result _ refl c.requires.seat
    c.claim.ensures.same c.note-number.ensures.same c.note-number.ensures.counts (returns-clause-did c)

pub returns-in-Err-clause-seat : goal.returns-in-Err-clause-seat
returns-in-Err-clause-seat c =
    held_seat c.args.self.now (Cache c.lane_of.result c.args.class) false c.args.seat.now
    (record c.args.seat.now { seat = c.claim.new.seat }) c.in-Err.held c.requires.seat c.claim.ensures.same refl refl
    c.in-Err.ensures.held
