use Rattle.std.proofs.Common.{◌<◌, ◌++◌, List, arith, length, refl, sym, subst, take, ◌∙◌}
use Rattle.std.proofs.lemmas.Result.{err_from_is_err_and}
use Rattle.frame_slices.specs.declared.slicer.Found.{Found}
use Rattle.frame_cutter.proofs.GoLaws.{Went, begun, fits, refused-in, through, went_on}
use Rattle.frame_cutter.proofs.loading.go_through.Goals as goal

pub loop-used-init : goal.loop-used-init
loop-used-init c = record {
  within = omega arith;
  room = refl;
  went = λ bytes own has.
      subst (λ (fs : List Found). Went fs c.args.block.now bytes own 0 c.args.slicer.now) (sym c.requires.room.0)
      (begun c.args.block.now bytes own c.args.slicer.now has);
}

pub returns-in_err-found-clause-refused : goal.returns-in_err-found-clause-refused
returns-in_err-found-clause-refused c =
    let p = err_from_is_err_and c.from_residual.result c.from_residual.ensures.1 in
    let refused = c.in_err-found.ensures.refused in
    rw (p.1, p.2) (λ bytes own has.
    let went = c.loop-used.invariant.went bytes own has in
    refused-in c.args.block.now bytes c.loop-used.used c.in_err-found.field-0.0
    (refused (bytes ++ take c.loop-used.used c.args.block.now) went.now went.cut).refusal)

pub push_reserved-requires : goal.push_reserved-requires
push_reserved-requires c =
    let cut = c.requires.cut in
    let went = c.loop-used.invariant.went cut.0 cut.1 cut.2 in
    let room = c.requires.room.1 in
    let kept = c.loop-used.invariant.room in
    let many = c.loop-used.finds.ok.0 in
    let short : c.loop-used.used < length c.args.block.now = omega arith in
    let few = fits c.loop-used.finds.items c.args.block.now cut.0 cut.1 c.loop-used.used c.args.slicer.now
    c.loop-used.slicer cut.2 went short in
    omega (arith, room, kept, many, few)

pub loop-used-smaller : goal.loop-used-smaller
loop-used-smaller c =
    let cut = c.requires.cut in
    let went = c.loop-used.invariant.went cut.0 cut.1 cut.2 in
    let short : c.loop-used.used < length c.args.block.now = omega arith in
    let place = c.in_ok-found.ensures.place in
    let moved = c.in_ok-found.ensures.moves (cut.0 ++ take c.loop-used.used c.args.block.now) went.now went.cut short in
    let a = place.2 in
    omega (arith, moved, a, short)

pub loop-used-preserved : goal.loop-used-preserved
loop-used-preserved c =
    let short : c.loop-used.used < length c.args.block.now = omega arith in
    let found = c.in_ok-found.ensures in
    let f = c.in_ok-found.found in
    let kept = c.loop-used.invariant in
    record {
      within = found.place.2;
      room = c.push_reserved.ensures.capacity ∙ kept.room;
      went = λ bytes own has.
          subst (λ (fs : List Found). Went fs c.args.block.now bytes own f.used c.go_on.new.self)
          (sym c.push_reserved.ensures.items)
          (went_on c.loop-used.finds.items c.args.block.now bytes own c.loop-used.used c.loop-used.slicer
          (kept.went bytes own has) f c.go_on.new.self short found.place found.takes found.whole);
    }

pub returns-clause-through : goal.returns-clause-through
returns-clause-through c bytes own has =
    let kept = c.loop-used.invariant in
    let within = kept.within in
    through c.loop-used.finds.items c.args.block.now bytes own c.loop-used.used c.loop-used.slicer
    (kept.went bytes own has) (omega (arith, within))
