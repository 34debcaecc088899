use Rattle.run_map.proofs.StoreLaws.{notes-class}
use Rattle.run_map.proofs.store.Store.note.Goals as goal

pub returns-clause-noted : goal.returns-clause-noted
returns-clause-noted c = notes-class c.args.self.now.noted c.args.class c.requires.place.0
