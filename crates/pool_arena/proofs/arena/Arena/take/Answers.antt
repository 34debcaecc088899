use Rattle.std.proofs.Common.{◌≡◌, ◌+◌, [], ◌∷◌, ◌++◌, Some, refl, sym, ap, ◌∙◌, subst, rules}
use Rattle.std.specs.Prelude.{Option, option_map}
use Rattle.pool_law.specs.declared.id.Region.{Region}
use Rattle.pool_law.specs.declared.id.RegionId.{RegionId}
use Rattle.pool_law.specs.declared.note.Did.TheVariants.{Full}
use Rattle.pool_law.specs.Arenas.{noted_taking, region_of, take_class}
use Rattle.pool_arena.specs.ArenaStates.{ArenaState, law_of, Takes, IsFullFor}
use Rattle.pool_arena.specs.Held.{state_in}
use Rattle.pool_arena.specs.Stocks.{StockState, Yields, YieldsNone}
use Rattle.pool_arena.specs.Standing.{StandsMore, taken_or_full}
use Rattle.pool_arena.proofs.ArenaLaws.{taken-orderly, taken-places}
use Rattle.pool_arena.proofs.StandingLaws.{takes-stands, full-stands}
use Rattle.pool_arena.proofs.arena.Arena.take.Goals as goal

pub invariant_of-self-2 : goal.invariant_of-self-2
invariant_of-self-2 c =
    let gives = (c.in_ok-chunk.ensures {u = tt}).some in
    record {
      number = c.self.invariant.number;
      orderly =
          taken-orderly c.self.inside.stock c.take.new.self c.args.class c.in_ok-chunk.chunk c.in_ok-chunk.piece.start
          c.self.invariant.orderly gives.yields;
    }

pub returns-clause-some : goal.returns-clause-some
returns-clause-some c =
    subst (λ (a : ArenaState). Takes a c.args.class c.args.owner new r) c.self.view_is
    (record {
      step = λ out.
          ap (option_map (noted_taking c.self.inside.number c.args.class c.args.owner))
          (yields.law c.self.inside.takings out)
          ∙ ap (λ (x : RegionId). Some (x, law_of new (out ++ x ∷ []))) is;
      same =
          record {
            number = refl;
            geometry = yields.geometry;
            grounds = yields.grounds;
            places =
                taken-places c.self.inside.stock c.take.new.self c.args.class c.in_ok-chunk.chunk
                c.in_ok-chunk.piece.start yields;
          };
    })
  where
    yields : Yields c.self.inside.stock (λ a. take_class c.self.inside.stock.geometry a c.args.class)
        c.in_ok-chunk.chunk c.in_ok-chunk.piece.start c.take.new.self
    yields = (c.in_ok-chunk.ensures {u = tt}).some.yields

    r : RegionId
    r = c.new.result.id

    new : ArenaState
    new =
        state_in (record {
          number = c.self.inside.number;
          stock = c.take.new.self;
          takings =
              c.self.inside.takings + 1;
        })

    is : region_of c.self.inside.number c.args.class c.args.owner (c.self.inside.takings + 1) c.in_ok-chunk.chunk
        c.in_ok-chunk.piece.start ≡ r
    is = search rules

pub returns-in_err-chunk-clause-stands : goal.returns-in_err-chunk-clause-stands
returns-in_err-chunk-clause-stands c =
    subst (λ (o : Option Region). StandsMore old (taken_or_full c.args.class o) (held c.take.new.self))
    (sym c.from_residual.ensures)
    (subst (λ (a : ArenaState). StandsMore old (Full c.args.class) a) (sym c.self.view_is ∙ ap held (sym none.0))
    (full-stands old c.args.class c.args.owner c.requires.class
    (subst (λ (a : ArenaState). IsFullFor a c.args.class c.args.owner) c.self.view_is full)))
  where
    old : ArenaState
    old = c.args.self.now

    held : StockState → ArenaState
    held s = state_in (record { number = c.self.inside.number; stock = s; takings = c.self.inside.takings })

    none : (c.take.new.self ≡ c.self.inside.stock)
        × YieldsNone c.self.inside.stock (λ a. take_class c.self.inside.stock.geometry a c.args.class)
    none = (c.in_err-chunk.ensures {u = tt}).none

    full : IsFullFor (state_in c.self.inside) c.args.class c.args.owner
    full out =
        ap (option_map (noted_taking c.self.inside.number c.args.class c.args.owner)) (none.1 c.self.inside.takings out)

pub returns-clause-stands : goal.returns-clause-stands
returns-clause-stands c =
    takes-stands c.args.self.now _ c.args.class c.args.owner c.new.result.id (returns-clause-some c)
