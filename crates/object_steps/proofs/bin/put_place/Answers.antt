use Rattle.object_steps.proofs.BinLemmas.{home-more}
use Rattle.object_steps.proofs.bin.put_place.Goals as goal

pub returns-clause-home : goal.returns-clause-home
returns-clause-home c =
    rw c.in_ok-push_back.ensures.items
    (home-more c.args.home.now c.insert.new.self c.args.places.now.items c.args.place c.requires.home c.requires.other
    c.in_ok-insert.ensures.updates.0)
