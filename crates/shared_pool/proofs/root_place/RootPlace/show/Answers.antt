use Rattle.std.proofs.Common.{◌≡◌, ℕ, ◌+◌, ◌≤◌, ap, ◌∙◌, sym, arith, List, length}
use Rattle.pool_law.specs.Roots.{bytes_at}
use Rattle.pool_law.specs.declared.report.Access.{Access}
use Rattle.shared_pool.specs.declared.root_place.Held.{Held}
use Rattle.shared_pool.specs.PlaceViews.{root_seen}
use Rattle.shared_pool.specs.PlaceSteps.{accessed}
use Rattle.shared_pool.proofs.PlaceLaws.{is_got, there-length, range_in, fits_in}
use Rattle.shared_pool.proofs.root_place.RootPlace.show.Goals as goal

pub returns-clause-len : goal.returns-clause-len
returns-clause-len g c =
    let i = c.self.inside in let h = c.in-Some.held in let k = c.record.new.self in let old = c.args.self.now in
    let at : ℕ = c.args.offset in let n : ℕ = c.args.len in
    let low : at + n ≤ i.last.capacity = range_in i h k old c.self.view_is c.in-Some.is at n c.requires.may in
    let high : i.last.capacity ≤ length h.piece.bytes =
    fits_in i h k old c.self.view_is c.in-Some.is at n c.requires.may in
    ap (λ (q : Held). length (bytes_at q.piece.bytes at n)) c.record.ensures
    ∙ there-length h.piece.bytes at n (omega (arith, low, high))

pub returns-clause-did : goal.returns-clause-did
returns-clause-did g c =
    let i = c.self.inside in let h = c.in-Some.held in let k = c.record.new.self in let old = c.args.self.now in
    let at : ℕ = c.args.offset in let n : ℕ = c.args.len in
    let low : at + n ≤ i.last.capacity = range_in i h k old c.self.view_is c.in-Some.is at n c.requires.may in
    let high : i.last.capacity ≤ length h.piece.bytes =
    fits_in i h k old c.self.view_is c.in-Some.is at n c.requires.may in
    let bytes : List ℕ = bytes_at k.piece.bytes at n in
    let is : bytes ≡ bytes_at h.piece.bytes at n = ap (λ (q : Held). bytes_at q.piece.bytes at n) c.record.ensures in
    let size : length bytes ≡ n = ap length is ∙ there-length h.piece.bytes at n (omega (arith, low, high)) in
    is_got i h k old c.self.view_is c.in-Some.is c.args.lane at n bytes c.requires.may is
    (ap (root_seen i.last) c.record.ensures
    ∙ ap (λ (m : ℕ). accessed (root_seen i.last h) h.piece.bytes (Access.Get c.args.lane at m)) (sym size))
