use Rattle.run_map.proofs.StoreLaws.{few-classes}
use Rattle.run_map.proofs.store.class_under.Goals as goal

pub returns-clause-few : goal.returns-clause-few
returns-clause-few c =
    let of_last = c.last_at_most.ensures in
    few-classes c.args.pages c.last_at_most.result c.requires.1 of_last.few of_last.last
