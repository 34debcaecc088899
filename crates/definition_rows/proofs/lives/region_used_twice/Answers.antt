-- What follows what, and where in the log each note stands.
use Rattle.std.proofs.Common.{inl, inr, refl, arith, [], ◌∷◌}
use Rattle.pool_law.specs.declared.note.Object.{Object}
use Rattle.pool_law.specs.declared.note.Did.{Did}
use Rattle.definition_rows.specs.Notes.{least_region}
use Rattle.definition_rows.specs.RootRuns.{first_root, second_root}
use Rattle.definition_rows.specs.LifeRows.{event, least_cache}
use Rattle.definition_rows.proofs.Happened.{happens}
use Rattle.definition_rows.proofs.lives.region_used_twice.Goals as goal

pub returns-clause-lives : goal.returns-clause-lives
returns-clause-lives c = (refl, (refl, (refl, (refl, (refl, (refl, (refl, (refl, (refl, (refl, refl))))))))))

pub returns-clause-order : goal.returns-clause-order
returns-clause-order c = (
  happens refl (inl refl),
  (
    (refl, omega arith),
    (
      happens refl (inl refl),
      (
        (refl, (omega arith, refl)),
        (
          happens refl (inl refl),
          (
            (refl, omega arith),
            (
              happens refl (inl refl),
              (
                (refl, (omega arith, refl)),
                (
                  happens refl (inl refl),
                  (
                    (refl, omega arith),
                    (
                      happens refl (inl refl),
                      (
                        (refl, (omega arith, refl)),
                        (
                          happens refl (inl refl),
                          (
                            (refl, omega arith),
                            (
                              happens refl (inl refl),
                              (
                                (refl, (omega arith, refl)),
                                (happens refl (inl refl), ((refl, omega arith), happens refl (inl refl))),
                              ),
                            ),
                          ),
                        ),
                      ),
                    ),
                  ),
                ),
              ),
            ),
          ),
        ),
      ),
    ),
  ),
)

pub returns-clause-apart : goal.returns-clause-apart
returns-clause-apart c = record {
  end = event 0 8 (Object.Root 0) 3 (Did.End first_root);
  birth = event 0 14 (Object.Root 0) 4 (Did.Birth second_root (least_region 2));
  ended = happens refl (inl refl);
  born = happens refl (inl refl);
  between =
      event 0 10 least_cache 2 (Did.Kept (least_region 1)) ∷ event 0 13 least_cache 3 (Did.Hit (least_region 1)) ∷ [];
  order = (inl (refl, omega arith), (refl, (inr (refl, (omega arith, refl)), (refl, inl (refl, omega arith)))));
}
