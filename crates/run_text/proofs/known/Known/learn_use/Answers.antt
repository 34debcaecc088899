use Rattle.std.proofs.Common.{◌≡◌, ℕ, Option, ap, ◌∙◌}
use Rattle.std.specs.Option.{option_map, option_or}
use Rattle.std.specs.BTreeMap as tree
use Rattle.std.specs.HashMap as hash
use Rattle.pool_law.specs.declared.id.RootId.{RootId}
use Rattle.run_text.specs.Lines.{begun, born, keyed, root_key, same_key, taking_key}
use Rattle.run_text.specs.Knowing.{begin_told, birth_told, key_cmp, use_of}
use Rattle.run_text.specs.declared.known.Known.{Known}
use Rattle.run_text.proofs.KnownLemmas.{more_begun, more_born, more_uses, told_of, when_ok}
use Rattle.run_text.proofs.known.Known.learn_use.Goals as goal

pub returns : goal.returns
returns c lane note all lines told tells knows =
    let new = c.learn_begun.new.self in
    let mid = c.learn_birth.new.self in
    let first = c.learn_birth.ensures.rest in
    let second = c.learn_begun.ensures.rest in
    let birth : c.birth_told.result ≡ born note = c.birth_told.ensures ∙ ap birth_told told ∙ tells.0 in
    let begins : c.begin_told.result ≡ option_map told_of (begun note) =
    c.begin_told.ensures ∙ ap begin_told told ∙ tells.1 in
    when_ok c.learn_begun.result _ (λ x is.
    record {
      sizes = ap (λ (k : Known). k.sizes) second ∙ ap (λ (k : Known). k.sizes) first ∙ knows.sizes;
      takings = λ key.
          ap (λ (k : Known). hash.get same_key k.takings key) second
          ∙ ap (λ (k : Known). hash.get same_key k.takings key) first
          ∙ knows.takings key;
      births = λ key.
          ap (λ (k : Known). hash.get same_key k.births key) second
          ∙ c.in_ok-learn_birth.ensures.births key
          ∙ ap (λ (o : Option RootId). option_or (keyed root_key key c.birth_told.result) o) (knows.births key)
          ∙ more_born lines lane note key c.birth_told.result birth;
      uses = λ key.
          let put = rw is at (c.learn_begun.ensures.uses key) in
          put
          ∙ (λ i. option_or (option_map (λ b. b.2.uses) (keyed (λ b. taking_key b.2) key (begins i)))
          (hash.get same_key (first i).uses key))
          ∙ ap (λ (o : Option ℕ). option_or
          (option_map (λ b. b.2.uses) (keyed (λ b. taking_key b.2) key (option_map told_of (begun note)))) o)
          (knows.uses key)
          ∙ more_uses lines lane note key;
      begun = λ key.
          let put = rw is at (c.learn_begun.ensures.begun key) in
          put
          ∙ (λ i. option_or (option_map (λ b. use_of b.2) (keyed (λ b. (b.0, b.1)) key (begins i)))
          (tree.get key_cmp (first i).begun key))
          ∙ ap (λ o. option_or
          (option_map (λ b. use_of b.2) (keyed (λ b. (b.0, b.1)) key (option_map told_of (begun note)))) o)
          (knows.begun key)
          ∙ more_begun lines lane note key;
    })
