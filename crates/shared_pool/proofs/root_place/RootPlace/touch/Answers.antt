use Rattle.std.proofs.Common.{ap}
use Rattle.shared_pool.specs.PlaceViews.{root_seen}
use Rattle.shared_pool.proofs.PlaceLaws.{touched}
use Rattle.shared_pool.proofs.root_place.RootPlace.touch.Goals as goal

pub returns : goal.returns
returns c = let i = c.self.inside in
    touched i c.in-Some.held c.record.new.self c.args.self.now c.self.view_is c.in-Some.is c.args.lane
    c.requires (ap (root_seen i.last) c.record.ensures)
