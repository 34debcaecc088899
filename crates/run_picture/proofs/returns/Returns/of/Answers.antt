use Rattle.std.proofs.Common.{ap, ◌∙◌}
use Rattle.std.specs.HashMap.{get}
use Rattle.run_picture.specs.Returning.{Key, same_key}
use Rattle.run_picture.proofs.returns.Returns.of.Goals as goal

pub returns : goal.returns
returns c =
    c.copied.ensures ∙ c.get.ensures.value ∙ ap (λ (k : Key). get same_key c.args.self.now.map k) c.key_of.ensures
