use Rattle.std.proofs.Common.{◌++◌, ◌∷◌, [], List, Some, ap, ◌∙◌}
use Rattle.pool_law.specs.declared.note.Note.{Note}
use Rattle.run_text.proofs.MakeLemmas.{log_there, put_beside, put_here}
use Rattle.run_text.proofs.making.Making.put.Goals as goal

pub returns-in_err-push-clause-others : goal.returns-in_err-push-clause-others
returns-in_err-push-clause-others c other apart =
    put_beside c.args.self.now.logs.items c.args.lane other c.push.new.self apart

pub returns-clause-others : goal.returns-clause-others
returns-clause-others c other apart =
    put_beside c.args.self.now.logs.items c.args.lane other c.push.new.self apart

pub returns-clause-note : goal.returns-clause-note
returns-clause-note c notes is =
    let logs = c.args.self.now.logs.items in
    let was = log_there logs c.args.lane c.index_mut.result.now notes c.requires c.index_mut.ensures.value is in
    put_here logs c.args.lane c.push.new.self c.requires
    ∙ ap Some (c.in_ok-push.ensures.items ∙ ap (λ (z : List Note). z ++ c.args.note ∷ []) was)
