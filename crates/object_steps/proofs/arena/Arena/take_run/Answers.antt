-- The run is taken of the chunk that was found or opened.
use Rattle.std.proofs.Common.{Some, sym, ap, subst, ◌∙◌}
use Rattle.size_classes.specs.Pages.{run_at}
use Rattle.pool_law.specs.Arenas.{Arena, chunk_at, take_run, with_run}
use Rattle.object_steps.specs.Moves.{HasRoomAt, GivesYielded}
use Rattle.object_steps.specs.Runs.{use_of}
use Rattle.object_steps.proofs.ArenaLemmas.{run-begins}
use Rattle.object_steps.proofs.arena.Arena.take_run.Goals as goal

pub returns-in_default-clause-spot : goal.returns-in_default-clause-spot
returns-in_default-clause-spot c wanted capped =
    rw c.in_default.is at c.in_ok-place.ensures.spot wanted capped (use_of c.args.what)

pub give_run-requires : goal.give_run-requires
give_run-requires c = rw c.in-Some.is at c.in_ok-place.ensures.room

pub returns-clause-spot : goal.returns-clause-spot
returns-clause-spot c wanted capped =
    let g = c.args.sizes.now in
    let what = use_of c.args.what in
    let given : GivesYielded (take_run g c.args.self.now wanted what) c.args.self.now
    (with_run g c.room_for.new.self c.in-Some.place c.in-Some.page c.args.pages what)
    (Some (c.in-Some.place, c.in-Some.page)) =
    rw c.in-Some.is at c.in_ok-place.ensures.spot wanted capped what in
    subst (λ (a : Arena). GivesYielded (take_run g c.args.self.now wanted what) c.args.self.now a
    (Some (c.in-Some.place, c.in-Some.page))) (sym c.in_ok-give_run.ensures) given

pub returns-clause-begins : goal.returns-clause-begins
returns-clause-begins c =
    let room : HasRoomAt c.room_for.new.self c.in-Some.place c.in-Some.page c.args.pages =
    rw c.in-Some.is at c.in_ok-place.ensures.room in
    ap (λ a. run_at c.in-Some.page (chunk_at a c.in-Some.place)) c.in_ok-give_run.ensures
    ∙ run-begins c.args.sizes.now c.room_for.new.self c.in-Some.place c.in-Some.page c.args.pages
    (use_of c.args.what) room
