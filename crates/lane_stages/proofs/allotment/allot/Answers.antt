use Rattle.std.proofs.Common.{◌≡◌, ℕ, ◌+◌, ◌≤◌, length, sym, subst, arith, Some}
use Rattle.std.specs.Prelude.{vec_capacity}
use Rattle.size_classes.specs.Sizes.{class_of, size_at}
use Rattle.pool_law.specs.declared.run.Shape.{Shape}
use Rattle.pool_law.specs.Limits.{geometry_of}
use Rattle.lane_stages.specs.declared.allotment.Allotting.{Allotting}
use Rattle.lane_stages.specs.Allotments.{HasAllotted, Fits, left_of}
use Rattle.lane_stages.proofs.AllotSteps.{allot_left}
use Rattle.seat_work.proofs.ClassLaws.{class_inside, class_holds}
use Rattle.lane_stages.proofs.allotment.allot.Goals as goal

pub ask_bin-requires-clause-room : goal.ask_bin-requires-clause-room
ask_bin-requires-clause-room c = let a = c.requires.room in let b = allot_left c.args.stage in omega (arith, a, b)

pub ask_cache-requires-clause-room : goal.ask_cache-requires-clause-room
ask_cache-requires-clause-room c = let a = c.requires.room in let b = allot_left c.args.stage in omega (arith, a, b)

pub ask_arena-requires-clause-room : goal.ask_arena-requires-clause-room
ask_arena-requires-clause-room c = let a = c.requires.room in let b = allot_left c.args.stage in omega (arith, a, b)

pub go_home-requires-clause-room : goal.go_home-requires-clause-room
go_home-requires-clause-room c = let a = c.requires.room in let b = allot_left c.args.stage in omega (arith, a, b)

pub bear-requires-clause-room : goal.bear-requires-clause-room
bear-requires-clause-room c =
    let log = c.args.log.now in
    subst (λ (s : Allotting). length log.items + (left_of s).notes ≤ vec_capacity log) c.in-Birth.is c.requires.room

pub ask_arena-requires-clause-class : goal.ask_arena-requires-clause-class
ask_arena-requires-clause-class c =
    class_inside (geometry_of c.args.shape.now) c.args.size c.args.class c.requires.class

pub bear-requires-clause-size : goal.bear-requires-clause-size
bear-requires-clause-size c =
    let fits = subst (λ (s : Allotting). Fits c.args.pool.now c.args.seat.now c.args.class s) c.in-Birth.is
    c.requires.may.fits in
    subst (λ (k : ℕ). c.args.size ≤ size_at k) (sym fits.2)
    (class_holds (geometry_of c.args.shape.now) c.args.size c.args.class c.requires.class)

pub returns-in-Handle : goal.returns-in-Handle
returns-in-Handle c =
    let sampler = c.args.sampler.now in
    subst (λ (s : Allotting). HasAllotted c.args.pool.now c.args.seat.now c.ask_bin.new.seat sampler sampler
    c.args.log.now c.ask_bin.new.log c.args.size c.args.class s c.ask_bin.result) (sym c.in-Handle.is)
    (c.ask_bin.ensures sampler c.args.size
    (subst (λ (s : Shape). class_of (geometry_of s) c.args.size ≡ Some c.args.class) c.requires.shape
    c.requires.class))

pub returns-in-Cache : goal.returns-in-Cache
returns-in-Cache c =
    let sampler = c.args.sampler.now in
    subst (λ (s : Allotting). HasAllotted c.args.pool.now c.args.seat.now c.ask_cache.new.seat sampler sampler
    c.args.log.now c.ask_cache.new.log c.args.size c.args.class s c.ask_cache.result) (sym c.in-Cache.is)
    (c.ask_cache.ensures sampler c.args.size)

pub returns-in-Arena : goal.returns-in-Arena
returns-in-Arena c =
    let sampler = c.args.sampler.now in
    subst (λ (s : Allotting). HasAllotted c.args.pool.now c.args.seat.now c.ask_arena.new.seat sampler sampler
    c.args.log.now c.ask_arena.new.log c.args.size c.args.class s c.ask_arena.result) (sym c.in-Arena.is)
    (c.ask_arena.ensures sampler c.args.size)

pub returns-in-Home : goal.returns-in-Home
returns-in-Home c =
    let sampler = c.args.sampler.now in
    subst (λ (s : Allotting). HasAllotted c.args.pool.now c.args.seat.now c.go_home.new.seat sampler sampler
    c.args.log.now c.go_home.new.log c.args.size c.args.class s c.go_home.result) (sym c.in-Home.is)
    (c.go_home.ensures sampler c.args.size c.args.class)
