use Rattle.run_laws.proofs.ForgedOverlap.{still-overlapping}
use Rattle.run_laws.proofs.Forged.{overlapping, alive-given, alive-kept, twice-given, twice-kept, late-given, twice-ended, elsewhere-kept, full-false, hit-false}
use Rattle.run_laws.proofs.forged_notes_are_refused.Goals as goal

pub returns-clause-overlapping : goal.returns-clause-overlapping
returns-clause-overlapping c = still-overlapping

pub returns-clause-given_early : goal.returns-clause-given_early
returns-clause-given_early c = overlapping

pub returns-clause-given_alive : goal.returns-clause-given_alive
returns-clause-given_alive c = alive-given

pub returns-clause-kept_alive : goal.returns-clause-kept_alive
returns-clause-kept_alive c = alive-kept

pub returns-clause-given_and_kept : goal.returns-clause-given_and_kept
returns-clause-given_and_kept c = twice-given

pub returns-clause-kept_and_given : goal.returns-clause-kept_and_given
returns-clause-kept_and_given c = twice-kept

pub returns-clause-given_late : goal.returns-clause-given_late
returns-clause-given_late c = late-given

pub returns-clause-ended_twice : goal.returns-clause-ended_twice
returns-clause-ended_twice c = twice-ended

pub returns-clause-kept_elsewhere : goal.returns-clause-kept_elsewhere
returns-clause-kept_elsewhere c = elsewhere-kept

pub returns-clause-false_full : goal.returns-clause-false_full
returns-clause-false_full c = full-false

pub returns-clause-false_hit : goal.returns-clause-false_hit
returns-clause-false_hit c = hit-false
