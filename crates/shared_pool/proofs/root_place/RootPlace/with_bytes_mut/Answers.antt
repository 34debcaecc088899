use Rattle.std.proofs.Common.{◌≡◌, ℕ, ap, ◌∙◌, sym, subst, List, length}
use Rattle.ground.specs.Ground.{with_bytes}
use Rattle.pool_law.specs.Roots.{bytes_at, laid_over}
use Rattle.pool_law.specs.declared.report.Access.{Access}
use Rattle.shared_pool.specs.declared.root_place.Held.{Held}
use Rattle.shared_pool.specs.RootPlaces.{RootState}
use Rattle.shared_pool.specs.PlaceViews.{root_seen}
use Rattle.shared_pool.specs.PlaceSteps.{MayAccess, accessed}
use Rattle.shared_pool.proofs.PlaceLaws.{are_there, is_set}
use Rattle.shared_pool.proofs.root_place.RootPlace.with_bytes_mut.Goals as goal

pub returns-clause-there : goal.returns-clause-there
returns-clause-there g c =
    are_there c.self.inside c.in-Some.held c.lend.new.self c.args.self.now c.self.view_is c.in-Some.is c.args.offset
    c.args.len c.requires.may

pub returns-clause-did : goal.returns-clause-did
returns-clause-did g c =
    let i = c.self.inside in let h = c.in-Some.held in let k = c.lend.new.self in let lane : ℕ = c.args.lane in
    let at : ℕ = c.args.offset in let n : ℕ = c.args.len in
    let ys : List ℕ = bytes_at k.piece.bytes at n in
    let size : length ys ≡ n = c.lend.ensures.len in
    let laid : Held → RootState = λ q.
    root_seen i.last (record q { piece = with_bytes q.piece (laid_over q.piece.bytes at ys) }) in
    is_set i h k c.args.self.now c.self.view_is c.in-Some.is lane at ys
    (subst (λ (m : ℕ). MayAccess at m c.args.self.now) (sym size) c.requires.may)
    (ap (root_seen i.last) c.lend.ensures.laid
    ∙ ap laid c.record.ensures
    ∙ ap (λ (m : ℕ). accessed (root_seen i.last h) (laid_over h.piece.bytes at ys) (Access.Set lane at m)) (sym size))
