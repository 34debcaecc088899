use Rattle.std.proofs.Common.{◌≡◌, ◌++◌, ◌∷◌, [], ◌-◌, get_or, rules, ◌∙◌}
use Rattle.run_text.specs.Knowing.{line_text}
use Rattle.run_text.proofs.LineLemmas.{here, line_words, no_line, one_more_told, refused_on, within}
use Rattle.run_text.proofs.reading.told_in.Goals as goal

pub returns-in_err-words : goal.returns-in_err-words
returns-in_err-words c front back notes is long ends fit =
    let n = c.loop-at.at in
    let from = c.args.from in
    let x = get_or notes (n - from) no_line in
    let there = here _ front back notes from c.args.to n is long ends c.loop-at.auto.at c.loop-at-test.true in
    let w = rw c.in_err-words.was at (c.words_behind.ensures (line_text x) there) in
    absurd w

pub returns-in_err-note : goal.returns-in_err-note
returns-in_err-note c front back notes is long ends fit =
    let n = c.loop-at.at in
    let from = c.args.from in
    let x = get_or notes (n - from) no_line in
    let there = here _ front back notes from c.args.to n is long ends c.loop-at.auto.at c.loop-at-test.true in
    let low = within _ front back notes from c.args.to n is long ends c.loop-at.auto.at c.loop-at-test.true in
    let fits = fit (n - from) no_line low in
    let w = rw c.in_ok-words.was at (c.words_behind.ensures (line_text x) there) in
    let r = rw c.in_err-note.was at (c.note_line.ensures x.0 x.1 [] fits.0 fits.1 (w ∙ line_words x)) in
    refused_on _ _ _ c.from_residual-in_err-note.ensures.1 r

pub loop-at-preserved : goal.loop-at-preserved
loop-at-preserved c front back notes is long ends fit =
    let n = c.loop-at.at in
    let from = c.args.from in
    let x = get_or notes (n - from) no_line in
    let there = here _ front back notes from c.args.to n is long ends c.loop-at.auto.at c.loop-at-test.true in
    let low = within _ front back notes from c.args.to n is long ends c.loop-at.auto.at c.loop-at-test.true in
    let fits = fit (n - from) no_line low in
    let w = rw c.in_ok-words.was at (c.words_behind.ensures (line_text x) there) in
    let r = rw c.in_ok-note.was at (c.note_line.ensures x.0 x.1 [] fits.0 fits.1 (w ∙ line_words x)) in
    let pushed : c.push.new.self.items ≡ c.loop-at.told.items ++ c.in_ok-note.note ∷ [] = search (rules) in
    one_more_told _ front back notes from c.args.to n is long ends c.loop-at.auto.at c.loop-at-test.true
    c.loop-at.told.items c.push.new.self.items c.in_ok-note.note pushed
    (c.loop-at.invariant front back notes is long ends fit) r.0
