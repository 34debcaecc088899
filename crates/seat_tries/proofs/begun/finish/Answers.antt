use Rattle.std.proofs.Common.{refl, sym, ap, subst}
use Rattle.std.specs.Prelude.{ℕ}
use Rattle.seat_work.specs.Changes.{no_change}
use Rattle.seat_work.specs.Works.{Works}
use Rattle.seat_tries.specs.declared.begun.Begun.{Begun}
use Rattle.seat_tries.specs.declared.begun.Begun.TheVariants.{Nothing}
use Rattle.seat_tries.specs.Leaving.{hand_of, owed, GoesOn, IsBegun}
use Rattle.seat_tries.proofs.Goings.{leaves_same}
use Rattle.seat_tries.proofs.begun.finish.Goals as goal

pub put_handle-requires-clause-works : goal.put_handle-requires-clause-works
put_handle-requires-clause-works c =
    subst (λ (b : Begun). Works c.args.pool.now (hand_of b) (owed b) 0 c.args.seat.now) c.in-Place.is c.requires.works

pub put_handle-requires-clause-handle : goal.put_handle-requires-clause-handle
put_handle-requires-clause-handle c =
    subst (IsBegun c.args.pool.now c.args.seat.now) c.in-Place.is c.requires.begun

pub give_region-requires-clause-works : goal.give_region-requires-clause-works
give_region-requires-clause-works c =
    subst (λ (b : Begun). Works c.args.pool.now (hand_of b) (owed b) 0 c.args.seat.now) c.in-Both.is c.requires.works

pub give_region-requires-clause-handle : goal.give_region-requires-clause-handle
give_region-requires-clause-handle c =
    (subst (IsBegun c.args.pool.now c.args.seat.now) c.in-Both.is c.requires.begun).0

pub give_region-requires-clause-region : goal.give_region-requires-clause-region
give_region-requires-clause-region c =
    (subst (IsBegun c.args.pool.now c.args.seat.now) c.in-Both.is c.requires.begun).1

pub returns-in-Nothing-clause-goes : goal.returns-in-Nothing-clause-goes
returns-in-Nothing-clause-goes c =
    let pool = c.args.pool.now in let old = c.args.seat.now in
    let works = subst (λ (b : Begun). Works pool (hand_of b) (owed b) 0 old) c.in-Nothing.is c.requires.works in
    subst (λ (t : ℕ). GoesOn pool t no_change old old Nothing) (sym (ap owed c.in-Nothing.is))
    (leaves_same pool old works)

pub returns-in-Place-clause-goes : goal.returns-in-Place-clause-goes
returns-in-Place-clause-goes c =
    let call = c.put_handle in
    subst (λ (t : ℕ). GoesOn c.args.pool.now t no_change c.args.seat.now call.new.seat call.result)
    (sym (ap owed c.in-Place.is)) call.ensures.goes

pub returns-in-Both-clause-goes : goal.returns-in-Both-clause-goes
returns-in-Both-clause-goes c =
    let call = c.give_region in
    subst (λ (t : ℕ). GoesOn c.args.pool.now t no_change c.args.seat.now call.new.seat call.result)
    (sym (ap owed c.in-Both.is)) call.ensures.goes

-- no region is taken
pub returns-in-Nothing-clause-took : goal.returns-in-Nothing-clause-took
returns-in-Nothing-clause-took c = refl

pub returns-in-Place-clause-took : goal.returns-in-Place-clause-took
returns-in-Place-clause-took c = c.put_handle.ensures.took

pub returns-in-Both-clause-took : goal.returns-in-Both-clause-took
returns-in-Both-clause-took c = c.give_region.ensures.took
