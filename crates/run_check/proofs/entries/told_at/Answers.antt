use Rattle.std.proofs.Common.{◌≡◌, ◌-◌, List, sym, ap, subst, ◌∙◌}
use Rattle.std.specs.Prelude.{slice_get, unwrap_or}
use Rattle.pool_law.specs.declared.note.Note.{Note}
use Rattle.pool_law.specs.declared.note.Object.{Object}
use Rattle.pool_law.specs.Logs.{entry_of}
use Rattle.object_steps.specs.declared.told.PlaceTold.{PlaceTold}
use Rattle.lane_reader.specs.Reading.{untold, entry}
use Rattle.run_check.specs.Entering.{IsNotedIn}
use Rattle.run_check.proofs.EnteringLemmas.{told-root}
use Rattle.run_check.proofs.entries.told_at.Goals as goal

pub returns-in-Root : goal.returns-in-Root
returns-in-Root c shape logs are noted =
    let m = c.args.histories.now in
    let number = c.in-At.number in
    let is : c.args.note.now ≡ Note.At (Object.Root c.in-Root.place) number c.in-At.did =
    c.in-At.is ∙ ap (λ (o : Object). Note.At o number c.in-At.did) c.in-Root.is in
    subst
    (λ (n : Note). IsNotedIn logs n → entry n c.told_of.result ≡ entry_of logs n)
    (sym is)
    (λ there.
    told-root shape logs m are c.in-Root.place number c.in-At.did there c.told_of.result
    (c.told_of.ensures ∙ ap (λ (ts : List PlaceTold). unwrap_or (slice_get ts (number - 1)) untold) c.told.ensures))
    noted
