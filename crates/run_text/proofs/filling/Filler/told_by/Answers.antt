use Rattle.std.proofs.Common.{List, ap, subst, get_or, take}
use Rattle.run_text.specs.Lines.{Line}
use Rattle.run_text.specs.Knowing.{Knows}
use Rattle.run_text.proofs.TellLemmas.{line_at, one_more, use_at_line}
use Rattle.run_text.proofs.filling.Filler.told_by.Goals as goal

pub loop-line-init : goal.loop-line-init
loop-line-init c lines is are = c.in_ok-known.ensures c.args.arenas lines is are

pub loop-line-preserved : goal.loop-line-preserved
loop-line-preserved c lines is are =
    let told = c.args.told.now in
    let i = c.loop-line.line-index in
    let x = c.line-item.result in
    let low = c.loop-line-test.true in
    subst (λ (ls : List Line). Knows c.learn_use.new.self lines ls)
    (one_more c.args.arenas lines told is are i low _ x c.line-item.is)
    (c.in_ok-learn_use.ensures x.0 (get_or lines i x).1 lines (take i lines)
    (ap (λ (l : Line). l.1) (line_at c.args.arenas lines told is are i low _ x c.line-item.is))
    (use_at_line c.args.arenas lines told is are i low _ x c.line-item.is) (c.loop-line.invariant lines is are))
