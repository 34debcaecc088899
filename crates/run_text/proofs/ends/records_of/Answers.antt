use Rattle.std.proofs.Common.{◌≡◌, ◌++◌, ◌∷◌, [], ◌-◌, get_or, rules}
use Rattle.run_text.specs.Ending.{access_text}
use Rattle.run_text.proofs.EndLemmas.{no_access}
use Rattle.run_text.proofs.LineLemmas.{refused_on}
use Rattle.run_text.proofs.PlaceLemmas.{inside, one_more_read, shown_here}
use Rattle.run_text.proofs.ends.records_of.Goals as goal

pub returns-in_err-words : goal.returns-in_err-words
returns-in_err-words c front back xs is long ends fit =
    let n = c.loop-at.at in
    let from = c.args.from in
    let x = get_or xs (n - from) no_access in
    let there = shown_here access_text _ front back xs from c.args.to n is long ends c.loop-at.auto.at
    c.loop-at-test.true no_access in
    let w = rw c.in_err-words.was at (c.words_behind.ensures (access_text x) there) in
    absurd w

pub returns-in_err-access : goal.returns-in_err-access
returns-in_err-access c front back xs is long ends fit =
    let n = c.loop-at.at in
    let from = c.args.from in
    let x = get_or xs (n - from) no_access in
    let there = shown_here access_text _ front back xs from c.args.to n is long ends c.loop-at.auto.at
    c.loop-at-test.true no_access in
    let low = inside access_text _ front back xs from c.args.to n is long ends c.loop-at.auto.at c.loop-at-test.true
    no_access in
    let w = rw c.in_ok-words.was at (c.words_behind.ensures (access_text x) there) in
    let r = rw c.in_err-access.was at (c.access_of.ensures x (fit (n - from) no_access low) w) in
    refused_on _ _ _ c.from_residual-in_err-access.ensures.1 r

pub loop-at-preserved : goal.loop-at-preserved
loop-at-preserved c front back xs is long ends fit =
    let n = c.loop-at.at in
    let from = c.args.from in
    let x = get_or xs (n - from) no_access in
    let there = shown_here access_text _ front back xs from c.args.to n is long ends c.loop-at.auto.at
    c.loop-at-test.true no_access in
    let low = inside access_text _ front back xs from c.args.to n is long ends c.loop-at.auto.at c.loop-at-test.true
    no_access in
    let w = rw c.in_ok-words.was at (c.words_behind.ensures (access_text x) there) in
    let r = rw c.in_ok-access.was at (c.access_of.ensures x (fit (n - from) no_access low) w) in
    let pushed : c.push.new.self.items ≡ c.loop-at.records.items ++ c.in_ok-access.access ∷ [] = search (rules) in
    one_more_read access_text _ front back xs from c.args.to n is long ends c.loop-at.auto.at c.loop-at-test.true
    no_access
    c.loop-at.records.items c.push.new.self.items c.in_ok-access.access pushed
    (c.loop-at.invariant front back xs is long ends fit) r
