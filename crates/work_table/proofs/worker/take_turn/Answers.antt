use Rattle.work_table.proofs.worker.take_turn.Goals as goal

pub go_on-status-requires : goal.go_on-status-requires
go_on-status-requires g c =
    let at = c.in-Some.ensures.machine in
    (at.0, (c.requires.relation at.0 _).0 at.2)

pub bring_back-requires-clause-machine : goal.bring_back-requires-clause-machine
bring_back-requires-clause-machine g c =
    let at = c.in-Some.ensures.machine in
    let same = c.requires.relation in
    (at.0, at.1, (same at.0 _).1 (c.go_on-status.ensures at.0 ((same at.0 _).0 at.2)))
