use Rattle.std.proofs.Common.{◌≡◌, ◌<◌, Some, None, sym, ap, subst, ◌∙◌}
use Rattle.std.specs.HashMap as hash
use Rattle.size_classes.specs.Sizes.{Geometry, class_count}
use Rattle.run_text.specs.Lines.{last_taken, same_key, taken, taking_key}
use Rattle.run_text.specs.Told.{note_told}
use Rattle.run_text.specs.Knowing.{taking_told}
use Rattle.run_text.proofs.KnownLemmas.{more_taken, put_this}
use Rattle.run_text.proofs.known.Known.learn_taking.Goals as goal

pub returns-in_default : goal.returns-in_default
returns-in_default c note lines told tells knows =
    let none : taking_told (note_told note) ≡ None =
    ap taking_told (sym told) ∙ sym c.taking_told.ensures ∙ c.in_default.is in
    let nothing : taken note ≡ None = rw none at tells in
    record {
      sizes = knows.sizes;
      takings = λ key. knows.takings key ∙ sym (more_taken lines c.args.lane note key None nothing);
      births = knows.births;
      uses = knows.uses;
      begun = knows.begun;
    }

pub returns : goal.returns
returns c note lines told tells knows =
    let lane = c.args.lane in
    let old = c.args.self.now in
    let some = ap taking_told (sym told) ∙ sym c.taking_told.ensures ∙ c.in-Some.is in
    let t = rw some at tells in
    let low : c.in-Some.class < class_count old.sizes =
    subst (λ (g : Geometry). c.in-Some.class < class_count g) (sym knows.sizes) t.0 in
    let region = c.in-Some-region_taken.region in
    let is : taken note ≡ Some region =
    t.1 ∙ sym (c.region_taken.ensures low) ∙ c.in-Some-region_taken.is in
    record {
      sizes = knows.sizes;
      takings = λ key.
          put_this taking_key key region c.taking_key.result (hash.get same_key old.takings key)
          (hash.get same_key c.insert.new.self key) (last_taken lines key) c.taking_key.ensures
          (c.in_ok-insert.ensures.updates.0 key) (knows.takings key)
          ∙ sym (more_taken lines lane note key (Some region) is);
      births = knows.births;
      uses = knows.uses;
      begun = knows.begun;
    }
