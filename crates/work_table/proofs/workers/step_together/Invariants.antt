use Rattle.work_table.proofs.workers.step_together.Given as goal

-- the play is named by what the machines may become, and by how they stand
abbrev pub ghosts-step_as-T-Playing : goal.ghosts-step_as-T-Playing
ghosts-step_as-T-Playing g a = record { comes = g.M.Machine.comes a.shared.now; firsts = a.machines.items }

abbrev pub ghosts-step_as-T-Ledger : goal.ghosts-step_as-T-Ledger
ghosts-step_as-T-Ledger g a = record { name = a.blank.name; parts = a.blank.parts }
