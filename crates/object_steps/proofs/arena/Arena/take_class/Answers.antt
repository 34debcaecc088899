use Rattle.std.proofs.Common.{refl, sym, subst}
use Rattle.size_classes.specs.Sizes.{pages_of}
use Rattle.pool_law.specs.Chunks.{Whole}
use Rattle.pool_law.specs.Arenas.{take_run}
use Rattle.object_steps.specs.Moves.{GivesYielded}
use Rattle.object_steps.proofs.ElementLemmas.{gives-normal, gives-no_normal}
use Rattle.object_steps.proofs.arena.Arena.take_class.Goals as goal

pub take_small-requires : goal.take_small-requires
take_small-requires c = record { small = sym c.if-is_small.ensures.small; few = c.if-is_small.ensures.few refl }

pub returns-then-is_small : goal.returns-then-is_small
returns-then-is_small c = rw (sym c.if-is_small.ensures.small) c.take_small.ensures

pub returns-in_default : goal.returns-in_default
returns-in_default c =
    let g = c.args.sizes.now in
    let run = c.in_ok-place.ensures.spot (pages_of g c.args.class) c.pages_of-pages.ensures.capped in
    gives-no_normal g c.args.self.now c.take_run.new.self c.args.class (sym c.if-is_small.ensures.small)
    (subst (GivesYielded (take_run g c.args.self.now
    (pages_of g c.args.class) Whole) c.args.self.now c.take_run.new.self)
    c.in_default.is run)

pub returns : goal.returns
returns c =
    let g = c.args.sizes.now in
    let run = c.in_ok-place.ensures.spot (pages_of g c.args.class) c.pages_of-pages.ensures.capped in
    rw (c.wide_page.ensures.page, c.from.ensures)
    (gives-normal g c.args.self.now c.take_run.new.self c.args.class (sym c.if-is_small.ensures.small) c.in-Some.place
    c.in-Some.page
    (subst (GivesYielded (take_run g c.args.self.now
    (pages_of g c.args.class) Whole) c.args.self.now c.take_run.new.self)
    c.in-Some.is run))
