use Rattle.std.proofs.Common.{◌∷◌, ◌++◌, sym, ◌∙◌, decimal, arith}
use Rattle.pool_law.specs.Text.{shown_place}
use Rattle.run_text.proofs.WordLemmas.{is_word-place, place_parts, lacks-decimal, same_ok, not_err}
use Rattle.run_text.proofs.words.Words.place.Goals as goal

pub returns-in_err-arena : goal.returns-in_err-arena
returns-in_err-arena c = λ place more long arena chunk offset e.
    let w = c.next-word.ensures (shown_place place) more (is_word-place place arena chunk offset) e in
    absurd (rw c.in_err-arena.was at (c.parted.ensures (decimal place.arena) (decimal place.chunk ++ 43 ∷ decimal
    place.offset)
    (lacks-decimal 46 place.arena (omega arith) (omega arith)) (w.0 ∙ place_parts place)))

pub returns-in_err-chunk : goal.returns-in_err-chunk
returns-in_err-chunk c = λ place more long arena chunk offset e.
    let w = c.next-word.ensures (shown_place place) more (is_word-place place arena chunk offset) e in
    let p = rw c.in_ok-arena.was at (c.parted.ensures (decimal place.arena) (decimal place.chunk ++ 43 ∷ decimal
    place.offset)
    (lacks-decimal 46 place.arena (omega arith) (omega arith)) (w.0 ∙ place_parts place)) in
    absurd (rw c.in_err-chunk.was at (c.parted-2.ensures (decimal place.chunk) (decimal place.offset)
    (lacks-decimal 43 place.chunk (omega arith) (omega arith)) p.1))

pub returns-in_err-arena-2 : goal.returns-in_err-arena-2
returns-in_err-arena-2 c = λ place more long arena chunk offset e.
    let w = c.next-word.ensures (shown_place place) more (is_word-place place arena chunk offset) e in
    let p = rw c.in_ok-arena.was at (c.parted.ensures (decimal place.arena) (decimal place.chunk ++ 43 ∷ decimal
    place.offset)
    (lacks-decimal 46 place.arena (omega arith) (omega arith)) (w.0 ∙ place_parts place)) in
    absurd (not_err c.small_in.result _ place.arena c.in_err-arena-2.was (c.small_in.ensures place.arena arena p.0))

pub returns-in_err-chunk-2 : goal.returns-in_err-chunk-2
returns-in_err-chunk-2 c = λ place more long arena chunk offset e.
    let w = c.next-word.ensures (shown_place place) more (is_word-place place arena chunk offset) e in
    let p = rw c.in_ok-arena.was at (c.parted.ensures (decimal place.arena) (decimal place.chunk ++ 43 ∷ decimal
    place.offset)
    (lacks-decimal 46 place.arena (omega arith) (omega arith)) (w.0 ∙ place_parts place)) in
    let q = rw c.in_ok-chunk.was at (c.parted-2.ensures (decimal place.chunk) (decimal place.offset)
    (lacks-decimal 43 place.chunk (omega arith) (omega arith)) p.1) in
    absurd (not_err c.small_in-2.result _ place.chunk c.in_err-chunk-2.was (c.small_in-2.ensures place.chunk chunk q.0))

pub returns-in_err-offset : goal.returns-in_err-offset
returns-in_err-offset c = λ place more long arena chunk offset e.
    let w = c.next-word.ensures (shown_place place) more (is_word-place place arena chunk offset) e in
    let p = rw c.in_ok-arena.was at (c.parted.ensures (decimal place.arena) (decimal place.chunk ++ 43 ∷ decimal
    place.offset)
    (lacks-decimal 46 place.arena (omega arith) (omega arith)) (w.0 ∙ place_parts place)) in
    let q = rw c.in_ok-chunk.was at (c.parted-2.ensures (decimal place.chunk) (decimal place.offset)
    (lacks-decimal 43 place.chunk (omega arith) (omega arith)) p.1) in
    absurd (not_err c.small_in-3.result _ place.offset c.in_err-offset.was (c.small_in-3.ensures place.offset offset
    q.1))

pub returns : goal.returns
returns c = λ place more long arena chunk offset e.
    let w = c.next-word.ensures (shown_place place) more (is_word-place place arena chunk offset) e in
    let p = rw c.in_ok-arena.was at (c.parted.ensures (decimal place.arena) (decimal place.chunk ++ 43 ∷ decimal
    place.offset)
    (lacks-decimal 46 place.arena (omega arith) (omega arith)) (w.0 ∙ place_parts place)) in
    let q = rw c.in_ok-chunk.was at (c.parted-2.ensures (decimal place.chunk) (decimal place.offset)
    (lacks-decimal 43 place.chunk (omega arith) (omega arith)) p.1) in
    let a = same_ok c.small_in.result c.in_ok-arena-2.arena place.arena c.in_ok-arena-2.was (c.small_in.ensures
    place.arena arena p.0) in
    let b = same_ok c.small_in-2.result c.in_ok-chunk-2.chunk place.chunk c.in_ok-chunk-2.was (c.small_in-2.ensures
    place.chunk chunk q.0) in
    let o = same_ok c.small_in-3.result c.in_ok-offset.offset place.offset c.in_ok-offset.was (c.small_in-3.ensures
    place.offset offset q.1) in
    (λ k. record { arena = a k; chunk = b k; offset = o k; len = sym long k }, w.1)
