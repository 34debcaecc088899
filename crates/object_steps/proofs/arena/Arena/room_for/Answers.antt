-- Each way in which a run is found, or none is.
use Rattle.std.proofs.Common.{◌≡◌, ℕ, ◌≤◌, ◌<◌, ◌^◌, Some, None, refl, arith, sym, ap, subst, ◌∙◌}
use Rattle.size_classes.specs.Sizes.{chunk_pages}
use Rattle.pool_law.specs.ChunkLists.{walk}
use Rattle.pool_law.specs.Arenas.{first_holding, first_unused, with_run}
use Rattle.object_steps.specs.Moves.{HasRoomAt}
use Rattle.object_steps.proofs.ArenaLemmas.{gives-held, gives-too_many, gives-opened, opened-room, room-same, capped-same, capped-more}
use Rattle.object_steps.proofs.arena.Arena.room_for.Goals as goal

pub returns-in-Some-clause-spot : goal.returns-in-Some-clause-spot
returns-in-Some-clause-spot c wanted capped what =
    let spot : ℕ × ℕ = (c.in-Some.place, c.in-Some.page) in
    let held : first_holding c.args.sizes.now c.args.self.now wanted (walk c.args.self.now.lists) ≡ Some spot =
    sym (c.in_ok-place.ensures.spot wanted capped) ∙ c.in-Some.is in
    let room : HasRoomAt c.args.self.now c.in-Some.place c.in-Some.page c.args.pages =
    rw c.in-Some.is at c.in_ok-place.ensures.room in
    let same : wanted ≡ c.args.pages = room-same c.args.self.now c.in-Some.place c.in-Some.page wanted c.args.pages room
    capped in
    gives-held c.args.sizes.now c.args.self.now wanted what spot c.args.pages
    (with_run c.args.sizes.now c.args.self.now c.in-Some.place c.in-Some.page c.args.pages what) held same refl

pub returns-then-pages-chunk_pages-clause-spot : goal.returns-then-pages-chunk_pages-clause-spot
returns-then-pages-chunk_pages-clause-spot c wanted capped what =
    let place : ℕ = c.in-Some-first_unused.place in
    let held : first_holding c.args.sizes.now c.args.self.now wanted (walk c.args.self.now.lists) ≡ None =
    sym (c.in_ok-place.ensures.spot wanted capped) ∙ c.in_default.is in
    let unused : first_unused c.args.self.now.chunks ≡ Some place = sym c.in-Some-first_unused.ensures.place in
    let more : chunk_pages c.args.sizes.now < wanted =
    capped-more wanted c.args.pages (chunk_pages c.args.sizes.now) capped (omega arith)
    (omega (arith, c.chunk_pages.ensures.pages, c.if-pages-chunk_pages.true)) in
    gives-too_many c.args.sizes.now c.args.self.now wanted what place held unused
    c.in-Some-first_unused.ensures.within more

pub returns-clause-spot : goal.returns-clause-spot
returns-clause-spot c wanted capped what =
    let place : ℕ = c.in-Some-first_unused.place in
    let held : first_holding c.args.sizes.now c.args.self.now wanted (walk c.args.self.now.lists) ≡ None =
    sym (c.in_ok-place.ensures.spot wanted capped) ∙ c.in_default.is in
    let unused : first_unused c.args.self.now.chunks ≡ Some place = sym c.in-Some-first_unused.ensures.place in
    let few : c.args.pages ≤ chunk_pages c.args.sizes.now =
    omega (arith, c.chunk_pages.ensures.pages, c.if-pages-chunk_pages.false) in
    let same : wanted ≡ c.args.pages = capped-same wanted c.args.pages capped
    (omega (arith, few, c.chunk_pages.ensures.pages, c.chunk_pages.ensures.within)) in
    gives-opened c.args.sizes.now c.args.self.now wanted what place c.args.pages
    (with_run c.args.sizes.now c.open.new.self place 0 c.args.pages what) held unused
    c.in-Some-first_unused.ensures.within same few
    (ap (λ a. with_run c.args.sizes.now a place 0 c.args.pages what) c.in_ok-open.ensures)

pub returns-clause-room : goal.returns-clause-room
returns-clause-room c =
    let place : ℕ = c.in-Some-first_unused.place in
    let few : c.args.pages ≤ chunk_pages c.args.sizes.now =
    omega (arith, c.chunk_pages.ensures.pages, c.if-pages-chunk_pages.false) in
    let within : chunk_pages c.args.sizes.now ≤ 2 ^ 11 =
    omega (arith, c.chunk_pages.ensures.pages, c.chunk_pages.ensures.within) in
    subst (λ a. HasRoomAt a place 0 c.args.pages) (sym c.in_ok-open.ensures)
    (opened-room c.args.sizes.now c.args.self.now place c.args.pages c.in-Some-first_unused.ensures.within c.requires
    few within)
