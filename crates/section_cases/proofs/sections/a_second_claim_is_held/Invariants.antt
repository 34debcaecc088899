use Rattle.std.specs.Prelude.{None}
use Rattle.pool_law.specs.declared.note.Did.TheVariants.{Handle}
use Rattle.section_cases.proofs.sections.a_second_claim_is_held.Given as goal

abbrev pub ghosts-done : goal.ghosts-done
ghosts-done g a = record { note = record { did = Handle 0; lane = None; watch = None; root = None; region = None } }
