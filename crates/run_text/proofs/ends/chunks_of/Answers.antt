use Rattle.std.proofs.Common.{◌≡◌, ◌++◌, ◌∷◌, [], ◌-◌, get_or, rules}
use Rattle.run_text.specs.Ending.{chunk_text}
use Rattle.run_text.proofs.EndLemmas.{no_chunk}
use Rattle.run_text.proofs.LineLemmas.{refused_on}
use Rattle.run_text.proofs.PlaceLemmas.{inside, one_more_read, shown_here}
use Rattle.run_text.proofs.ends.chunks_of.Goals as goal

pub returns-in_err-words : goal.returns-in_err-words
returns-in_err-words c front back xs is long ends fit =
    let n = c.loop-at.at in
    let from = c.args.from in
    let x = get_or xs (n - from) no_chunk in
    let there = shown_here chunk_text _ front back xs from c.args.to n is long ends c.loop-at.auto.at
    c.loop-at-test.true no_chunk in
    let w = rw c.in_err-words.was at (c.words_behind.ensures (chunk_text x) there) in
    absurd w

pub returns-in_err-chunk : goal.returns-in_err-chunk
returns-in_err-chunk c front back xs is long ends fit =
    let n = c.loop-at.at in
    let from = c.args.from in
    let x = get_or xs (n - from) no_chunk in
    let there = shown_here chunk_text _ front back xs from c.args.to n is long ends c.loop-at.auto.at
    c.loop-at-test.true no_chunk in
    let low = inside chunk_text _ front back xs from c.args.to n is long ends c.loop-at.auto.at c.loop-at-test.true
    no_chunk in
    let w = rw c.in_ok-words.was at (c.words_behind.ensures (chunk_text x) there) in
    let r = rw c.in_err-chunk.was at (c.chunk_of.ensures x (fit (n - from) no_chunk low) w) in
    refused_on _ _ _ c.from_residual-in_err-chunk.ensures.1 r

pub loop-at-preserved : goal.loop-at-preserved
loop-at-preserved c front back xs is long ends fit =
    let n = c.loop-at.at in
    let from = c.args.from in
    let x = get_or xs (n - from) no_chunk in
    let there = shown_here chunk_text _ front back xs from c.args.to n is long ends c.loop-at.auto.at
    c.loop-at-test.true no_chunk in
    let low = inside chunk_text _ front back xs from c.args.to n is long ends c.loop-at.auto.at c.loop-at-test.true
    no_chunk in
    let w = rw c.in_ok-words.was at (c.words_behind.ensures (chunk_text x) there) in
    let r = rw c.in_ok-chunk.was at (c.chunk_of.ensures x (fit (n - from) no_chunk low) w) in
    let pushed : c.push.new.self.items ≡ c.loop-at.chunks.items ++ c.in_ok-chunk.chunk ∷ [] = search (rules) in
    one_more_read chunk_text _ front back xs from c.args.to n is long ends c.loop-at.auto.at c.loop-at-test.true
    no_chunk
    c.loop-at.chunks.items c.push.new.self.items c.in_ok-chunk.chunk pushed
    (c.loop-at.invariant front back xs is long ends fit) r
