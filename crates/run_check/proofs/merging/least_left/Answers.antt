use Rattle.std.proofs.Common.{rules, ◌<◌, ◌≤◌, length, arith}
use Rattle.run_check.proofs.LeastLemmas.{lanes-least, lanes-there, all-lanes}
use Rattle.run_check.proofs.merging.least_left.Goals as goal

pub loop-notes-preserved : goal.loop-notes-preserved
loop-notes-preserved c =
    let old = c.loop-notes.least in
    let new = c.least_of-least.result in
    let left = c.args.left.now in
    let i = c.loop-notes.notes-index in
    let notes = c.notes-item.result in
    let there : i < length left = search rules in
    let e = c.least_of-least.ensures in
    record {
      most = omega (arith, e.most, c.loop-notes.invariant.most);
      least =
          lanes-least c.args.number old new left i notes there c.notes-item.is e.most e.least e.there
          c.loop-notes.invariant.least;
      there =
          lanes-there c.args.number old new left i notes there c.notes-item.is e.most e.least e.there
          c.loop-notes.invariant.there;
    }

pub returns-clause-least : goal.returns-clause-least
returns-clause-least c =
    let past : length c.args.left.now ≤ c.loop-notes.notes-index = search rules in
    all-lanes c.loop-notes.least c.args.left.now c.loop-notes.notes-index past c.loop-notes.invariant.least

pub returns-clause-there : goal.returns-clause-there
returns-clause-there c below all = c.loop-notes.invariant.there below (λ lane inside. all lane)
