use Rattle.std.proofs.Common.{◌≡◌, ℕ, ◌-◌, Bool, true, false, Option, Some, None, refl, rules}
use Rattle.std.specs.Prelude.{◌==◌, option_map}
use Rattle.pool_law.specs.declared.run.Shape.{Shape}
use Rattle.pool_law.specs.declared.run.Reply.{Reply}
use Rattle.pool_law.specs.Composites.{Composite}
use Rattle.pool_law.specs.LaneStates.{LaneState, named}
use Rattle.pool_law.specs.Lanes.{Answer, answer, release_of, release_parts}
use Rattle.pool_law.specs.Names.{Names, Plain, Composed, bind}
use Rattle.pool_law.specs.Readers.{Log}
use Rattle.lane_reader.specs.Allotting.{release_whole}
use Rattle.lane_reader.specs.Reading.{log_from}
use Rattle.lane_reader.specs.Viewing.{data_of, composite_in}
use Rattle.lane_reader.proofs.log.Log.release_row.Goals as goal

pub returns-in_err-released-in-Plain-clause-row : goal.returns-in_err-released-in-Plain-clause-row
returns-in_err-released-in-Plain-clause-row c s is accepted =
    let there : named s c.args.name ≡ Some (Plain (data_of c.in-Plain.view)) = search rules in
    rw (there, c.from_residual-in_err-released-in-Plain.ensures, c.in_err-released-in-Plain.ensures s.seen) refl

-- what a release of a composite is answered, with these names
abbrev answered_with : Names → Option (Reply × Log) → Option (Answer × Log)
answered_with names o = option_map (λ p. (answer p.0 names, p.1)) o

released-then : (shape : Shape) (s : LaneState) (name : ℕ) (c : Composite) (log : Log) →
    release_of shape s name (Composed c) log
    ≡ answered_with (bind name (Composed (record c { count = c.count - 1 })) s.names) (release_whole shape c log)
released-then shape s name c log = go (c.count == 1) refl (release_parts shape c.parts log) refl
  where
    go : (b : Bool) → (c.count == 1) ≡ b → (o : Option (Unit {0} × Log)) → release_parts shape c.parts log ≡ o →
        release_of shape s name (Composed c) log
        ≡ answered_with (bind name (Composed (record c { count = c.count - 1 })) s.names) (release_whole shape c log)
    go true one None none = rw (one, none) refl
    go true one (Some p) some = rw (one, some) refl
    go false more o was = rw more refl

pub returns-in_ok-released-in-Composed-clause-row : goal.returns-in_ok-released-in-Composed-clause-row
returns-in_ok-released-in-Composed-clause-row c s is accepted =
    let composite = composite_in c.in-Composed.composite in
    let there : named s c.args.name ≡ Some (Composed composite) = search rules in
    let log = log_from s.seen c.args.self.now c.args.at in
    let read = c.in_ok-released-in-Composed.ensures s.seen is.counts in
    rw (there, released-then c.args.setting.now.shape.now s c.args.name composite log, read)
    (search rules)
