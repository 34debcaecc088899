use Rattle.std.proofs.Common.{◌<◌, ◌≤◌, Bor, length, arith}
use Rattle.std.proofs.lemmas.List.{length-map}
use Rattle.pool_law.specs.declared.note.Did.{Did}
use Rattle.object_steps.specs.Behind.{dids_behind}
use Rattle.run_check.proofs.BrokenLemmas.{stop-refused, stop-accepted}
use Rattle.run_check.proofs.fronts.broken_number.Goals as goal

pub returns-then-accepted-done : goal.returns-then-accepted-done
returns-then-accepted-done c logs h same stops =
    let ds = c.args.done.now in
    let inside : c.in_ok-accepted.accepted < length (dids_behind ds) =
    omega (arith, c.if-accepted-done.true, length-map ds (λ (d : Bor Did). d.now)) in
    stop-refused c.args.shape.now logs c.args.object.now c.requires.history h c.args.number
    c.in_ok-accepted.accepted (dids_behind ds) same stops c.in_ok-accepted.ensures inside

pub returns-else-accepted-done : goal.returns-else-accepted-done
returns-else-accepted-done c logs h same stops =
    let ds = c.args.done.now in
    let past : length (dids_behind ds) ≤ c.in_ok-accepted.accepted =
    omega (arith, c.if-accepted-done.false, length-map ds (λ (d : Bor Did). d.now)) in
    stop-accepted c.args.shape.now logs c.args.object.now c.requires.history h c.args.number
    c.in_ok-accepted.accepted (dids_behind ds) same stops c.in_ok-accepted.ensures past
