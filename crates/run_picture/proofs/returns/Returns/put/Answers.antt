use Rattle.std.proofs.Common.{ap, ◌∙◌, Some}
use Rattle.std.specs.Prelude.{if◌then◌else◌}
use Rattle.std.specs.HashMap.{get}
use Rattle.run_picture.specs.Returning.{Key, key_of, same_key}
use Rattle.run_picture.proofs.returns.Returns.put.Goals as goal

pub returns : goal.returns
returns c r =
    c.in_ok-insert.ensures.updates.0 (key_of r)
    ∙ ap
    (λ (k : Key). if same_key k (key_of r) then Some c.args.back else get same_key c.args.self.now.map (key_of r))
    c.key_of.ensures
