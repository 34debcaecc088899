use Rattle.std.proofs.Common.{refl, sym}
use Rattle.object_steps.proofs.arena.Arena.give_place.Goals as goal

pub give_small-requires : goal.give_small-requires
give_small-requires c = c.if-is_small.ensures.few refl

pub returns-then-is_small-clause-arena : goal.returns-then-is_small-clause-arena
returns-then-is_small-clause-arena c = rw (sym c.if-is_small.ensures.small) c.give_small.ensures.arena

pub returns-else-is_small-clause-arena : goal.returns-else-is_small-clause-arena
returns-else-is_small-clause-arena c =
    rw (sym c.if-is_small.ensures.small) (rw c.page.ensures.page at c.give_back.ensures.arena)
