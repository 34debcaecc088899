use Rattle.run_map.proofs.Serving.{noted-some}
use Rattle.run_map.proofs.store.Store.serving.Goals as goal

pub first_under-requires : goal.first_under-requires
first_under-requires c =
    let long = c.requires.store.long in
    record { class = c.in-Some.ensures.few; long = (long.width.1, long.firsts) }

pub unreachable-requires : goal.unreachable-requires
unreachable-requires c =
    let least = c.in-Some.ensures in
    noted-some c.args.layout.now c.args.self.now c.requires.store c.in-Some.class least.few least.set
    c.in-None-first_under.ensures

pub returns-in-None : goal.returns-in-None
returns-in-None c = record {
  from = c.class_under.result;
  own = c.class_under.ensures.last;
  few = c.class_under.ensures.few;
  none = c.in-None.ensures;
}

pub returns-in-Some-first_under : goal.returns-in-Some-first_under
returns-in-Some-first_under c = record {
  from = c.class_under.result;
  own = c.class_under.ensures.last;
  class = c.in-Some.class;
  least = c.in-Some.ensures;
  lowest = c.in-Some-first_under.ensures;
}
