use Rattle.std.proofs.Common.{ℕ, ap, ◌∙◌}
use Rattle.pool_law.specs.declared.report.Access.{Access}
use Rattle.std.specs.Prelude.{length}
use Rattle.shared_pool.specs.PlaceViews.{root_seen}
use Rattle.shared_pool.specs.PlaceSteps.{accessed}
use Rattle.shared_pool.proofs.PlaceLaws.{is_got}
use Rattle.shared_pool.proofs.root_place.RootPlace.get.Goals as goal

pub returns-clause-did : goal.returns-clause-did
returns-clause-did c =
    let lane = c.args.lane in let at = c.args.offset in let i = c.self.inside in let h = c.in-Some.held in
    is_got i h c.record.new.self c.args.self.now c.self.view_is c.in-Some.is lane at (length c.args.out.now)
    c.get.new.out c.requires c.get.ensures
    (ap (root_seen i.last) c.record.ensures
    ∙ ap (λ (n : ℕ). accessed (root_seen i.last h) h.piece.bytes (Access.Get lane at n)) c.count-len.ensures)
