-- What follows what, and where in the log each note stands.
use Rattle.std.proofs.Common.{inl, inr, refl, arith}
use Rattle.pool_law.specs.declared.note.Did.{Did}
use Rattle.definition_rows.specs.Notes.{least_region}
use Rattle.definition_rows.specs.GrowthPlays.{sixteen, wider}
use Rattle.definition_rows.proofs.Happened.{happens}
use Rattle.definition_rows.proofs.growth.regions_of_a_growth.Goals as goal

pub returns-clause-left_lives : goal.returns-clause-left_lives
returns-clause-left_lives c = (refl, (refl, (refl, (refl, (refl, refl)))))

pub returns-clause-left_order : goal.returns-clause-left_order
returns-clause-left_order c = (
  happens refl (inl refl),
  (
    (refl, omega arith),
    (
      happens refl (inl refl),
      (
        (refl, (omega arith, refl)),
        (
          happens refl (inl refl),
          (
            (refl, omega arith),
            (
              happens refl (inl refl),
              (
                (refl, (omega arith, refl)),
                (happens refl (inl refl), ((refl, omega arith), happens refl (inl refl))),
              ),
            ),
          ),
        ),
      ),
    ),
  ),
)

pub returns-clause-wider_lives : goal.returns-clause-wider_lives
returns-clause-wider_lives c = (refl, (refl, (refl, (refl, (refl, refl)))))

pub returns-clause-wider_order : goal.returns-clause-wider_order
returns-clause-wider_order c = (
  happens refl (inl refl),
  (
    (refl, omega arith),
    (
      happens refl (inr (inl refl)),
      (
        (refl, (omega arith, refl)),
        (
          happens refl (inl refl),
          (
            (refl, omega arith),
            (
              happens refl (inl refl),
              (
                (refl, (omega arith, refl)),
                (happens refl (inl refl), ((refl, omega arith), happens refl (inl refl))),
              ),
            ),
          ),
        ),
      ),
    ),
  ),
)

pub returns-clause-first_use : goal.returns-clause-first_use
returns-clause-first_use c = record {
  lane = 0;
  at = 3;
  number = 1;
  did = Did.Birth sixteen (least_region 1);
  stands = refl;
  moves = inl refl;
}

pub returns-clause-second_use : goal.returns-clause-second_use
returns-clause-second_use c = record {
  lane = 0;
  at = 10;
  number = 5;
  did = Did.Grow 100 (wider 1);
  stands = refl;
  moves = inr (inl refl);
}

pub returns-clause-passages : goal.returns-clause-passages
returns-clause-passages c = (refl, (refl, (refl, (refl, (refl, tt)))))
