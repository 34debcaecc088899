use Rattle.std.proofs.Common.{Some, None, sym, ap, ◌∙◌}
use Rattle.std.specs.Prelude.{unwrap_or}
use Rattle.std.specs.HashMap as hash
use Rattle.pool_law.specs.declared.id.RegionId.{RegionId}
use Rattle.run_text.specs.Lines.{begun, last_use, same_key, taking_key}
use Rattle.run_text.proofs.FillLemmas.{begun_is, hand_after, passed_after, put_uses}
use Rattle.run_text.proofs.KnownLemmas.{map_none}
use Rattle.run_text.proofs.filling.Filler.pass.Goals as goal

pub returns-in_default : goal.returns-in_default
returns-in_default c arenas all before lane at =
    let note = c.args.note.now in
    let none = map_none (λ b. b.1) (begun note) (sym c.in_default.is ∙ c.begun.ensures) in
    record {
      known = at.known;
      passed = λ key. at.passed key ∙ passed_after all before lane note key None none;
      hand =
          c.unwrap_or-self.ensures
          ∙ (λ i. unwrap_or (c.brought.ensures arenas all before at i) (at.hand i))
          ∙ hand_after all before lane note;
      arenas = at.arenas;
      some = at.some;
    }

pub returns : goal.returns
returns c arenas all before lane at =
    let note = c.args.note.now in
    let region = c.in-Some.region in
    let b = begun_is (begun note) region (sym c.begun.ensures ∙ c.in-Some.is) in
    record {
      known = at.known;
      passed = λ key.
          put_uses key b.0 c.taking_key.result region.uses (hash.get same_key c.args.self.now.passed key)
          (hash.get same_key c.insert.new.self key) (last_use before key)
          (c.taking_key.ensures ∙ ap taking_key b.2) (ap (λ (r : RegionId). r.uses) b.2)
          (c.in_ok-insert.ensures.updates.0 key) (at.passed key)
          ∙ passed_after all before lane note key (Some b.0) b.1;
      hand =
          c.unwrap_or-self.ensures
          ∙ (λ i. unwrap_or (c.brought.ensures arenas all before at i) (at.hand i))
          ∙ hand_after all before lane note;
      arenas = at.arenas;
      some = at.some;
    }
