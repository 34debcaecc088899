use Rattle.std.proofs.Common.{sym, subst}
use Rattle.pool_law.specs.declared.id.Region.{Region}
use Rattle.pool_law.specs.declared.note.Did.{Did}
use Rattle.pool_law.specs.declared.note.Object.TheVariants.{Arena}
use Rattle.shared_pool.specs.Holding.{HoldsRegion}
use Rattle.shared_pool.specs.Notes.{plain}
use Rattle.shared_pool.specs.Seats.{IsNoted}
use Rattle.seat_work.proofs.Accesses.{noted_same}
use Rattle.nest_run.proofs.HeldLaws.{region_same}
use Rattle.nest_run.proofs.steps.give.Goals as goal

pub give-requires-clause-region : goal.give-requires-clause-region
give-requires-clause-region g c =
    let pool = c.args.pool.now in let mid = c.loop.seat in let inv = c.loop.invariant in
    subst (λ (r : Region). HoldsRegion pool mid r) (sym inv.2)
    (region_same pool c.args.seat.now mid inv.1 c.args.own c.requires.region)

pub returns-in-Did : goal.returns-in-Did
returns-in-Did g c =
    let pool = c.args.pool.now in let mid = c.loop.seat in let inv = c.loop.invariant in let did = c.in-Did in
    let new = c.give.new.seat in let own = c.args.own in
    let noted = subst (λ (r : Region). IsNoted pool mid new (Arena r.id.place.arena) did._number
    (plain (Did.Give r.id)))
    inv.2 did.ensures.did in
    record {
      seat = did.ensures.seat;
      did = (
        did._number,
        noted_same pool c.args.seat.now mid new did._number (λ v. Arena own.id.place.arena) (plain (Did.Give own.id))
            inv.1 noted,
      );
    }
