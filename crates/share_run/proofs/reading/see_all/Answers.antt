use Rattle.std.proofs.Common.{◌<◌, List, ℕ, [], length, get_or, sym, ap, ◌∙◌, subst, arith}
use Rattle.board_table.specs.Seats.{Counts}
use Rattle.shared_composite.specs.Boards.{view_of}
use Rattle.share_text.specs.declared.lines.Seen.{Seen}
use Rattle.share_run.specs.Reading.{whole_of}
use Rattle.share_run.proofs.PartLaws.{get_same}
use Rattle.share_run.proofs.ReadLaws.{keeps_on, seen_more, seen_next}
use Rattle.share_run.proofs.reading.see_all.Goals as goal

pub bounds-wholes-read : goal.bounds-wholes-read
bounds-wholes-read g c =
    let l = c.loop-read in let d = c.read-item.result in let old = c.args.seen.now in
    let e = ap (λ (s : Seen). s.composite)
    (seen_next c.args.wholes.now l.read-index old l.seen d l.invariant.to) in
    let f = c.requires.fits l.read-index d c.loop-read-test.true in
    let h = f.below in omega (arith, e, h)

pub see-requires-clause-size : goal.see-requires-clause-size
see-requires-clause-size g c =
    let l = c.loop-read in let d = c.read-item.result in let old = c.args.seen.now in
    let wholes = c.args.wholes.now in let k = (get_or l.seen l.read-index d).composite in
    let e = ap (λ (s : Seen). s.composite) (seen_next wholes l.read-index old l.seen d l.invariant.to) in
    let f = (c.requires.fits l.read-index d c.loop-read-test.true).below in
    let below : k < length wholes = omega (arith, e, f) in
    ap (λ (xs : List ℕ). length xs) (c.items-whole.ensures ∙ c.index-wholes-read.is
    ∙ get_same wholes k c.index-wholes-read.result [] below)
    ∙ c.requires.sizes k below

pub see-requires-clause-len : goal.see-requires-clause-len
see-requires-clause-len g c =
    let l = c.loop-read in let d = c.read-item.result in let old = c.args.seen.now in
    let wholes = c.args.wholes.now in let k = (get_or l.seen l.read-index d).composite in
    let e = seen_next wholes l.read-index old l.seen d l.invariant.to in
    let f = c.requires.fits l.read-index d c.loop-read-test.true in
    let below : k < length wholes =
    (let a = ap (λ (s : Seen). s.composite) e in let b = f.below in omega (arith, a, b)) in
    ap (λ (s : Seen). length s.bytes) e ∙ f.len
    ∙ ap (λ (s : Seen). length (whole_of wholes s.composite)) (sym e)
    ∙ sym (ap (λ (xs : List ℕ). length xs) (c.items-whole.ensures ∙ c.index-wholes-read.is
    ∙ get_same wholes k c.index-wholes-read.result [] below))

pub see-requires-clause-counts : goal.see-requires-clause-counts
see-requires-clause-counts g c =
    let l = c.loop-read in let d = c.read-item.result in let old = c.args.seen.now in
    let e = seen_next c.args.wholes.now l.read-index old l.seen d l.invariant.to in
    let a = subst (λ (s : Seen). Counts s.composite (view_of c.args.seat.now)) (sym e)
    (c.requires.counts l.read-index d c.loop-read-test.true) in
    let b = l.invariant.keeps.counts (get_or l.seen l.read-index d).composite in omega (arith, a, b)

pub loop-read-preserved : goal.loop-read-preserved
loop-read-preserved g c =
    let l = c.loop-read in let d = c.read-item.result in let old = c.args.seen.now in let at = l.read-index in
    let wholes = c.args.wholes.now in let inv = l.invariant in let k = (get_or l.seen at d).composite in
    let e = seen_next wholes at old l.seen d inv.to in
    let below : k < length wholes =
    (let a = ap (λ (s : Seen). s.composite) e in let b = (c.requires.fits at d c.loop-read-test.true).below in
    omega (arith, a, b)) in
    let composite = c.see.ensures.composite ∙ ap (λ (s : Seen). s.composite) e in
    let bytes = c.see.ensures.bytes ∙ c.items-whole.ensures ∙ c.index-wholes-read.is
    ∙ get_same wholes k c.index-wholes-read.result [] below
    ∙ ap (λ (s : Seen). whole_of wholes s.composite) e in
    record {
      to =
          seen_more wholes at old l.seen d c.see.new.read (let a = inv.to.many in let b = c.loop-read-test.true in
          omega (arith, a, b)) inv.to (λ i. record { composite = composite i; bytes = bytes i });
      keeps = keeps_on c.args.board.now c.args.seat.now l.seat c.see.new.seat inv.keeps c.see.ensures.kept;
      turns = c.see.ensures.turns;
      sections = (let a = inv.sections in let b = c.see.ensures.section in omega (arith, a, b));
    }
