use Rattle.std.proofs.Common.{◌≡◌, ℕ, ◌+◌, ◌-◌, Some, None, arith, refl, sym, ◌∙◌}
use Rattle.object_steps.proofs.TakingLemmas.{none-below, place-none, place-is}
use Rattle.object_steps.proofs.takings.place_of.Goals as goal

-- a number that is not 0
behind : (n : ℕ) → (n ≡ 0 → ⊥) → n ≡ 1 + (n - 1)
behind n some = omega (arith, some)

pub returns-then-region-eq0 : goal.returns-then-region-eq0
returns-then-region-eq0 c =
    none-below c.args.region.now 1 c.args.slots.now c.requires (omega (arith, c.if-region-eq0.true))

pub returns-then-same_taking : goal.returns-then-same_taking
returns-then-same_taking c =
    place-is c.args.region.now 1 (c.args.region.now.taking - 1) c.args.slots.now c.in-Some.other c.requires
    (behind c.args.region.now.taking c.if-region-eq0.false) c.in-Some.ensures
    (sym c.same_taking.ensures ∙ c.if-same_taking.true)

pub returns-else-same_taking : goal.returns-else-same_taking
returns-else-same_taking c =
    place-none c.args.region.now 1 (c.args.region.now.taking - 1) c.args.slots.now (Some c.in-Some.other) c.requires
    (behind c.args.region.now.taking c.if-region-eq0.false) c.in-Some.ensures
    (sym c.same_taking.ensures ∙ c.if-same_taking.false)

pub returns-in-None : goal.returns-in-None
returns-in-None c =
    place-none c.args.region.now 1 (c.args.region.now.taking - 1) c.args.slots.now None c.requires
    (behind c.args.region.now.taking c.if-region-eq0.false) c.in-None.ensures refl
