use Rattle.std.proofs.Common.{◌≡◌, Some, arith, subst}
use Rattle.size_classes.specs.Sizes.{class_of}
use Rattle.pool_law.specs.declared.run.Shape.{Shape}
use Rattle.pool_law.specs.Limits.{geometry_of}
use Rattle.seat_work.proofs.ClassLaws.{class_inside, class_holds}
use Rattle.lane_stages.proofs.GrowSteps.{grow_left}
use Rattle.lane_stages.proofs.growing.grow.Goals as goal

pub ask_root-requires-clause-class : goal.ask_root-requires-clause-class
ask_root-requires-clause-class c =
    subst (λ (s : Shape). class_of (geometry_of s) c.args.size ≡ Some c.args.class) c.requires.shape c.requires.class

pub ask_root-requires-clause-room : goal.ask_root-requires-clause-room
ask_root-requires-clause-room c = let a = c.requires.room in let b = grow_left c.args.stage in omega (arith, a, b)

pub ask_cache-requires-clause-room : goal.ask_cache-requires-clause-room
ask_cache-requires-clause-room c = let a = c.requires.room in let b = grow_left c.args.stage in omega (arith, a, b)

pub ask_arena-requires-clause-room : goal.ask_arena-requires-clause-room
ask_arena-requires-clause-room c = let a = c.requires.room in let b = grow_left c.args.stage in omega (arith, a, b)

pub ask_arena-requires-clause-class : goal.ask_arena-requires-clause-class
ask_arena-requires-clause-class c =
    class_inside (geometry_of c.args.shape.now) c.args.size c.args.class c.requires.class

pub grow_into-requires-clause-room : goal.grow_into-requires-clause-room
grow_into-requires-clause-room c = let a = c.requires.room in let b = grow_left c.args.stage in omega (arith, a, b)

pub grow_into-requires-clause-size : goal.grow_into-requires-clause-size
grow_into-requires-clause-size c =
    class_holds (geometry_of c.args.shape.now) c.args.size c.args.class c.requires.class

pub put_away-requires-clause-room : goal.put_away-requires-clause-room
put_away-requires-clause-room c = let a = c.requires.room in let b = grow_left c.args.stage in omega (arith, a, b)

pub give_back-requires-clause-room : goal.give_back-requires-clause-room
give_back-requires-clause-room c = let a = c.requires.room in let b = grow_left c.args.stage in omega (arith, a, b)
