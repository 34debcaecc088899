use Rattle.std.proofs.Common.{◌≡◌, ℕ, List, ◌∙◌, refl, sym, ap, subst}
use Rattle.ground.specs.Ground.{Segment}
use Rattle.pool_law.specs.declared.id.RegionId.{RegionId}
use Rattle.pool_law.specs.Arenas.{Arena, given_place}
use Rattle.pool_arena.specs.ArenaStates.{ArenaState, IsOutOf, Gives, without_taking}
use Rattle.pool_arena.specs.Held.{state_in}
use Rattle.pool_arena.specs.Stocks.{StockState, arena_with}
use Rattle.pool_arena.proofs.ArenaLaws.{given-orderly, given-places}
use Rattle.pool_arena.proofs.StandingLaws.{gives-stands}
use Rattle.pool_arena.proofs.arena.Arena.give.Goals as goal

-- the piece of a region begins at its place
starts : (piece : Segment) (id : RegionId) (whole : Segment) (r : RegionId) → piece ≡ whole → id ≡ r
    → whole.start ≡ r.place.offset → piece.start ≡ id.place.offset
starts piece id whole r piece_is id_is begins =
    ap (λ (s : Segment). s.start) piece_is ∙ begins ∙ ap (λ (x : RegionId). x.place.offset) (sym id_is)

pub invariant_of-self : goal.invariant_of-self
invariant_of-self c =
    let id = c.into_parts-piece.result.0 in
    let piece = c.into_parts-piece.result.1 in
    let out =
    subst (λ (w : ArenaState). IsOutOf w id) (sym c.self.view_is)
    (subst (λ (r : RegionId). IsOutOf c.args.self.now r) (sym c.into_parts-piece.ensures.id) c.requires.out) in
    record {
      number = c.self.invariant.number;
      orderly =
          given-orderly c.self.inside.stock c.give.new.self id piece.start c.self.invariant.orderly out.1
          (starts piece id c.args.region.piece c.args.region.id c.into_parts-piece.ensures.piece
          c.into_parts-piece.ensures.id c.requires.place.place.start) c.give.ensures;
    }

pub returns-clause-gives : goal.returns-clause-gives
returns-clause-gives c =
    subst (λ (x : RegionId). Gives c.args.self.now x new) c.into_parts-piece.ensures.id
    (subst (λ (a : ArenaState). Gives a id new) c.self.view_is
    (record {
      step = λ out.
          ap (λ (n : ℕ). left out (given_place old.geometry (arena_with old c.self.inside.takings out) id.class
          id.place.chunk n)) (sym at)
          ∙ ap (left out) (c.give.ensures.law c.self.inside.takings out);
      same =
          record {
            number = refl;
            geometry = c.give.ensures.geometry;
            grounds = c.give.ensures.grounds;
            places = given-places old c.give.new.self id.class id.place.chunk piece.start c.give.ensures;
          };
    }))
  where
    id : RegionId
    id = c.into_parts-piece.result.0

    piece : Segment
    piece = c.into_parts-piece.result.1

    old : StockState
    old = c.self.inside.stock

    new : ArenaState
    new = state_in (record { number = c.self.inside.number; stock = c.give.new.self; takings = c.self.inside.takings })

    at : piece.start ≡ id.place.offset
    at =
        starts piece id c.args.region.piece c.args.region.id c.into_parts-piece.ensures.piece
        c.into_parts-piece.ensures.id c.requires.place.place.start

    left : List RegionId → Arena → Arena
    left out a = record a { out = without_taking id out }

pub returns-clause-stands : goal.returns-clause-stands
returns-clause-stands c = gives-stands c.args.self.now _ c.args.region.id (returns-clause-gives c)
