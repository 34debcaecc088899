use Rattle.std.proofs.Common.{◌≡◌, length, ap, arith}
use Rattle.object_steps.proofs.TakingLemmas.{numbered-push, pushed}
use Rattle.object_steps.proofs.takings.Takings.push.Goals as goal

pub invariant_of-self-2 : goal.invariant_of-self-2
invariant_of-self-2 c =
    let count : length c.self.inside.slots.items ≡ c.args.self.now.0 = ap (λ t. t.0) c.self.view_is in
    rw c.in_ok-push.ensures.items
    (numbered-push 1 c.self.inside.slots.items c.args.region.now c.self.invariant (omega (arith, count, c.requires)))

pub returns : goal.returns
returns c =
    rw (c.in_ok-push.ensures.items, ← c.self.view_is) (pushed c.self.inside.slots.items c.args.region.now)
