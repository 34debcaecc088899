use Rattle.frame_slices.proofs.SliceLaws.{takes_part}
use Rattle.frame_slices.proofs.slicer.Slicer.go_on.Goals as goal
use Rattle.frame_slices.proofs.slicer.Slicer.go_on.Goals.{then-ended, else-ended}

pub returns-clause-takes : goal.returns-clause-takes
returns-clause-takes c =
    let fed = c.in_ok-place.ensures in
    takes_part c.args.self.now (record { cutter = c.feed.new.self; head = c.if-ended.self })
    c.args.block.now c.args.used c.in_ok-place.place c.min-skipped.result c.in_ok-place.cut
    c.is_some-ended.result fed.place.0 fed.place.1 c.min-skipped.ensures c.is_some-ended.ensures
    fed.read fed.cut fed.no_cut
    (λ t. elim c.if-ended.branch [ then-ended w ↦ w.self-is | else-ended w ↦ absurd (let f = w.if-ended.false in cc) ])
    (λ f. elim c.if-ended.branch [ then-ended w ↦ absurd (let t = w.if-ended.true in cc) | else-ended w ↦ w.self-is ])
