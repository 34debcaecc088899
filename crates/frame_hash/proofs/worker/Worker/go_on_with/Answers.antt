use Rattle.frame_hash.proofs.worker.Worker.go_on_with.Goals as goal

pub returns-in_err-finish-clause-stands : goal.returns-in_err-finish-clause-stands
returns-in_err-finish-clause-stands g c = c.finish.ensures.stands c.args.shared.now c.requires.stands

pub returns-then-frame-eq0-clause-stands : goal.returns-then-frame-eq0-clause-stands
returns-then-frame-eq0-clause-stands g c = c.finish.ensures.stands c.args.shared.now c.requires.stands
