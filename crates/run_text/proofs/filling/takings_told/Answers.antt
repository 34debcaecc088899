use Rattle.std.proofs.Common.{List, [], ap, subst, get_or, take}
use Rattle.run_text.specs.Lines.{Line}
use Rattle.run_text.specs.Knowing.{Knows}
use Rattle.run_text.proofs.TellLemmas.{all_taken, line_at, one_more, taking_at_line}
use Rattle.run_text.proofs.filling.takings_told.Goals as goal

pub loop-line-preserved : goal.loop-line-preserved
loop-line-preserved c arenas lines is are =
    let told = c.args.told.now in
    let i = c.loop-line.line-index in
    let x = c.line-item.result in
    let low = c.loop-line-test.true in
    let note = (get_or lines i x).1 in
    subst (λ (ls : List Line). Knows c.learn_taking.new.self ls [])
    (one_more arenas lines told is are i low _ x c.line-item.is)
    (c.in_ok-learn_taking.ensures note (take i lines)
    (ap (λ (l : Line). l.1) (line_at arenas lines told is are i low _ x c.line-item.is))
    (taking_at_line arenas lines told is are i low _ x c.line-item.is)
    (c.loop-line.invariant arenas lines is are))

pub returns : goal.returns
returns c arenas lines is are =
    subst (λ (ls : List Line). Knows c.loop-line.known ls [])
    (all_taken arenas lines c.args.told.now is are c.loop-line.line-index c.loop-line-test.false)
    (c.loop-line.invariant arenas lines is are)
