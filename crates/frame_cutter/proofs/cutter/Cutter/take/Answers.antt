use Rattle.std.proofs.Common.{◌-◌, sym, subst, ◌∙◌, arith}
use Rattle.frame_cutter.specs.declared.cutter.Cutter.{Cutter}
use Rattle.frame_cutter.specs.Standing.{CutterStands}
use Rattle.frame_cutter.proofs.CutLaws.{counts_root}
use Rattle.frame_cutter.proofs.TakeLaws.{small, takes_none, takes_one}
use Rattle.frame_cutter.proofs.cutter.Cutter.take.Goals as goal

pub slice-requires-clause-counts : goal.slice-requires-clause-counts
slice-requires-clause-counts c =
    let stands = c.requires.stands in
    counts_root c.args.shared.now _ stands.0 stands.1 c.args.root c.args.used c.requires.stage

pub returns-then-found-clause-stands : goal.returns-then-found-clause-stands
returns-then-found-clause-stands c read stands =
    let d = c.args.self.now in
    let f = c.args.found in
    let call = c.slice in
    let new = call.new.self in
    let more = call.ensures in
    subst (λ (x : Cutter). CutterStands c.args.shared.now x read)
    (sym (more.cutter
    ∙ (λ i. record d {
      seat = new.seat;
      moves = d.moves - 1;
      slices = new.slices;
      stage = c.behind-self.ensures i;
    })))
    (takes_one c.args.shared.now d c.args.root f read stands c.args.used c.requires.stage c.requires.found new.seat
    new.slices c.if-found.true c.requires.moves more.slices more.retained more.later)

pub returns-else-found-clause-stands : goal.returns-else-found-clause-stands
returns-else-found-clause-stands c read stands =
    let d = c.args.self.now in
    let f = c.args.found in
    let place = small c.args.shared.now d c.args.root f read stands c.args.used c.requires.stage c.requires.found in
    let end = place.0 in
    let no = c.if-found.false in
    subst (λ (x : Cutter). CutterStands c.args.shared.now x read)
    (sym (λ i. record d { stage = c.behind-self.ensures i }))
    (takes_none c.args.shared.now d c.args.root f read stands c.args.used c.requires.stage c.requires.found
    (omega (arith, end, no)))

pub overflow_cast-found : goal.overflow_cast-found
overflow_cast-found c =
    let stands = c.requires.stands in
    let place = small c.args.shared.now _ c.args.root c.args.found stands.0 stands.1 c.args.used c.requires.stage
    c.requires.found in
    let a = place.0 in let b = place.1 in omega (arith, a, b)

pub overflow_cast-found-then-found : goal.overflow_cast-found-then-found
overflow_cast-found-then-found c =
    let stands = c.requires.stands in
    let place = small c.args.shared.now _ c.args.root c.args.found stands.0 stands.1 c.args.used c.requires.stage
    c.requires.found in
    let b = place.1 in omega (arith, b)
