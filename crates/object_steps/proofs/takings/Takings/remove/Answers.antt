use Rattle.std.proofs.Common.{◌≡◌, false, length, sym, ap, ◌∙◌}
use Rattle.std.specs.List.{list_any}
use Rattle.pool_law.specs.Same.{same_taking}
use Rattle.object_steps.specs.Numbering.{out_in}
use Rattle.object_steps.proofs.TakingLemmas.{kept, numbered-set}
use Rattle.object_steps.proofs.takings.Takings.remove.Goals as goal

pub invariant_of-self : goal.invariant_of-self
invariant_of-self c = numbered-set 1 c.in-Some.place c.self.inside.slots.items c.self.invariant

pub returns-in_default : goal.returns-in_default
returns-in_default c =
    let slots = c.self.inside.slots.items in
    let none : list_any (λ other. same_taking c.args.region.now other) (out_in slots) ≡ false =
    sym (ap (λ items. list_any (λ other. same_taking c.args.region.now other) (out_in items)) c.deref.ensures.value)
    ∙ c.in_default.ensures in
    rw (← c.self.view_is) (λ i. (
      length slots,
      kept (λ other. same_taking c.args.region.now other) (out_in slots) none
          i,
    ))
