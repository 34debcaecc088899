use Rattle.run_map.proofs.StoreLaws.{lowest-under}
use Rattle.run_map.proofs.store.Store.first_under.Goals as goal

pub returns : goal.returns
returns c =
    lowest-under c.args.self.now c.args.class c.deref.result.now c.lowest_set.result c.deref.ensures.value
    c.requires.long.1 c.requires.class c.lowest_set.ensures
