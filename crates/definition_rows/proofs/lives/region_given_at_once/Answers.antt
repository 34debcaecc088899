-- What follows what, and where in the log each note stands.
use Rattle.std.proofs.Common.{inl, inr, refl, arith, [], ◌∷◌}
use Rattle.pool_law.specs.declared.note.Object.{Object}
use Rattle.pool_law.specs.declared.note.Did.{Did}
use Rattle.definition_rows.specs.ArenaRuns.{five, five_region}
use Rattle.definition_rows.specs.LifeRows.{event, first_arena, larger_taken, larger_born}
use Rattle.definition_rows.proofs.Happened.{happens}
use Rattle.definition_rows.proofs.lives.region_given_at_once.Goals as goal

pub returns-clause-lives : goal.returns-clause-lives
returns-clause-lives c = (refl, (refl, (refl, refl)))

pub returns-clause-order : goal.returns-clause-order
returns-clause-order c = (
  happens refl (inl refl),
  (
    (refl, omega arith),
    (
      happens refl (inl refl),
      (
        (refl, (omega arith, refl)),
        (happens refl (inl refl), ((refl, omega arith), happens refl (inl refl))),
      ),
    ),
  ),
)

pub returns-clause-before : goal.returns-clause-before
returns-clause-before c = record {
  uses = 1;
  given = record { lane = 0; at = 20; number = 5; stands = refl };
  taken = record { lane = 0; at = 23; number = 6; stands = refl };
  order = omega arith;
}

pub returns-clause-apart : goal.returns-clause-apart
returns-clause-apart c = record {
  end = event 0 18 (Object.Root 1) 2 (Did.End (five 1));
  birth = larger_born;
  ended = happens refl (inl refl);
  born = happens refl (inl refl);
  between = event 0 20 first_arena 5 (Did.Give (five_region 1 1)) ∷ larger_taken ∷ [];
  order = (inl (refl, omega arith), (refl, (inr (refl, (omega arith, refl)), (refl, inl (refl, omega arith)))));
}
