-- What follows what, and where in the logs each note stands: the root ends in the second log, and its region
-- comes back in the first.
use Rattle.std.proofs.Common.{inl, refl, arith}
use Rattle.definition_rows.proofs.Happened.{happens}
use Rattle.definition_rows.proofs.lives.region_handed_over.Goals as goal

pub returns-clause-lives : goal.returns-clause-lives
returns-clause-lives c = (refl, (refl, (refl, (refl, (refl, refl)))))

pub returns-clause-order : goal.returns-clause-order
returns-clause-order c = (
  happens refl (inl refl),
  (
    (refl, omega arith),
    (
      happens refl (inl refl),
      (
        (refl, (omega arith, refl)),
        (
          happens refl (inl refl),
          (
            (refl, omega arith),
            (
              happens refl (inl refl),
              (
                (refl, (omega arith, refl)),
                (happens refl (inl refl), ((refl, omega arith), happens refl (inl refl))),
              ),
            ),
          ),
        ),
      ),
    ),
  ),
)
