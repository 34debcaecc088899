use Rattle.std.proofs.Common.{ℕ, ap, ◌∙◌}
use Rattle.handle_bin.specs.Lending.{with_tracker}
use Rattle.leak_records.specs.Records.{with_access}
use Rattle.pool_law.specs.Roots.{laid_over}
use Rattle.pool_law.specs.declared.report.Access.{Access}
use Rattle.shared_pool.specs.declared.root_place.Held.{Held}
use Rattle.shared_pool.specs.PlaceViews.{root_seen}
use Rattle.shared_pool.specs.PlaceSteps.{accessed}
use Rattle.shared_pool.proofs.PlaceLaws.{is_set}
use Rattle.shared_pool.proofs.root_place.RootPlace.set.Goals as goal

pub returns : goal.returns
returns c =
    let lane = c.args.lane in let at = c.args.offset in let i = c.self.inside in let h = c.in-Some.held in
    is_set i h c.record.new.self c.args.self.now c.self.view_is c.in-Some.is lane at c.args.bytes.now
    c.requires
    (ap (root_seen i.last) c.record.ensures
    ∙ ap (λ (q : Held). root_seen i.last (record q
    { handle = with_tracker q.handle (with_access q.handle.tracker (Access.Set lane at c.count-len.result)) }))
    c.set.ensures
    ∙ ap (λ (n : ℕ). accessed (root_seen i.last h) (laid_over h.piece.bytes at c.args.bytes.now)
    (Access.Set lane at n)) c.count-len.ensures)
