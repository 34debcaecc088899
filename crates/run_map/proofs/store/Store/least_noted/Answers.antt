use Rattle.std.proofs.Common.{◌^◌, ◌<◌, arith}
use Rattle.run_map.proofs.Serving.{none-noted, lowest-noted}
use Rattle.run_map.proofs.store.Store.least_noted.Goals as goal

pub returns-then-word-eq0 : goal.returns-then-word-eq0
returns-then-word-eq0 c = none-noted c.args.self.now c.args.class c.if-word-eq0.true

pub returns-then-found-lt-CLASSES : goal.returns-then-found-lt-CLASSES
returns-then-found-lt-CLASSES c =
    let fits : c.args.self.now.noted < 2 ^ 64 = omega arith in
    let found = lowest-noted c.args.self.now c.args.class (omega (arith, c.if-word-eq0.false)) fits in
    record { later = omega arith; few = c.if-found-lt-CLASSES.true; set = found.0; below = found.1 }

pub returns-else-found-lt-CLASSES : goal.returns-else-found-lt-CLASSES
returns-else-found-lt-CLASSES c =
    let fits : c.args.self.now.noted < 2 ^ 64 = omega arith in
    let found = lowest-noted c.args.self.now c.args.class (omega (arith, c.if-word-eq0.false)) fits in
    λ class later few. found.1 class later (omega (arith, few, c.if-found-lt-CLASSES.false))
