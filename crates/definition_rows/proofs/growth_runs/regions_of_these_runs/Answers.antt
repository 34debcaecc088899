-- What follows what, and where in the logs each note stands.
use Rattle.std.proofs.Common.{inl, inr, refl, arith, [], ◌∷◌}
use Rattle.pool_law.specs.declared.note.Object.{Object}
use Rattle.pool_law.specs.declared.note.Did.{Did}
use Rattle.definition_rows.specs.Notes.{least_region}
use Rattle.definition_rows.specs.LifeRows.{event, least_cache}
use Rattle.definition_rows.specs.GrowthRuns.{far}
use Rattle.definition_rows.specs.ElsewhereRuns.{following}
use Rattle.definition_rows.proofs.Happened.{happens, ◌then◌}
use Rattle.definition_rows.proofs.growth_runs.regions_of_these_runs.Goals as goal

pub returns-clause-left_lives : goal.returns-clause-left_lives
returns-clause-left_lives c = (refl, (refl, (refl, (refl, (refl, (refl, (refl, (refl, (refl, (refl, refl))))))))))

pub returns-clause-left_order : goal.returns-clause-left_order
returns-clause-left_order c =
    happens refl (inl refl) then (refl, omega arith) then
    happens refl (inl refl) then (refl, (omega arith, refl)) then
    happens refl (inl refl) then (refl, omega arith) then
    happens refl (inl refl) then (refl, (omega arith, refl)) then
    happens refl (inl refl) then (refl, omega arith) then
    happens refl (inl refl) then (refl, (omega arith, refl)) then
    happens refl (inl refl) then (refl, omega arith) then
    happens refl (inl refl) then (refl, (omega arith, refl)) then
    happens refl (inl refl) then (refl, omega arith) then
    happens refl (inl refl)

pub returns-clause-far_lives : goal.returns-clause-far_lives
returns-clause-far_lives c = (refl, (refl, (refl, (refl, (refl, refl)))))

pub returns-clause-far_order : goal.returns-clause-far_order
returns-clause-far_order c =
    happens refl (inl refl) then (refl, omega arith) then
    happens refl (inr (inl refl)) then (refl, (omega arith, refl)) then
    happens refl (inl refl) then (refl, omega arith) then
    happens refl (inl refl) then (refl, (omega arith, refl)) then
    happens refl (inl refl) then (refl, omega arith) then
    happens refl (inl refl)

pub returns-clause-apart : goal.returns-clause-apart
returns-clause-apart c = record {
  end = event 1 4 (Object.Root 0) 4 (Did.Grow 100 (far 1));
  birth = event 0 10 (Object.Root 1) 1 (Did.Birth following (least_region 2));
  ended = happens refl (inl refl);
  born = happens refl (inl refl);
  between =
      event 1 5 least_cache 2 (Did.Kept (least_region 1)) ∷ event 0 9 least_cache 3 (Did.Hit (least_region 1)) ∷ [];
  order = (inl (refl, omega arith), (refl, (inr (refl, (omega arith, refl)), (refl, inl (refl, omega arith)))));
}

pub returns-clause-spare_lives : goal.returns-clause-spare_lives
returns-clause-spare_lives c = (refl, (refl, (refl, (refl, (refl, (refl, (refl, refl)))))))

pub returns-clause-spare_order : goal.returns-clause-spare_order
returns-clause-spare_order c =
    happens refl (inl refl) then (refl, omega arith) then
    happens refl (inl refl) then (refl, (omega arith, refl)) then
    happens refl (inl refl) then (refl, omega arith) then
    happens refl (inl refl) then (refl, (omega arith, refl)) then
    happens refl (inl refl) then (refl, omega arith) then
    happens refl (inl refl) then (refl, (omega arith, refl)) then
    happens refl (inl refl) then (refl, omega arith) then
    happens refl (inl refl)
