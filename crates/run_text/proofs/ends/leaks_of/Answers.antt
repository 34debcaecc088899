use Rattle.std.proofs.Common.{◌≡◌, ◌+◌, ◌-◌, ◌++◌, ◌∷◌, ℕ, [], List, Bor, codes, inl, inr, ap, get_or, length, map, refl, rules, ◌∙◌, arith, length-append}
use Rattle.std.proofs.lemmas.Bool.{cases_lt}
use Rattle.std.proofs.lemmas.List.{length-map, take_all}
use Rattle.run_text.specs.Ending.{access_text, leak_words, leaks_texts}
use Rattle.run_text.proofs.LeakLemmas.{accesses_begin, accesses_from, accesses_there, before_accesses, is_room, last_here, last_text, leak_here, lines_many, many_accesses, next_at, no_access_first, no_leak, not_end, not_leak, one_more_leak, rest}
use Rattle.run_text.proofs.LineLemmas.{refused_on}
use Rattle.run_text.proofs.ends.leaks_of.Goals.{else-loop-test, then-loop-test+in_ok-words+then-ne}
use Rattle.run_text.proofs.ends.leaks_of.Goals as goal

pub returns-in_err-words : goal.returns-in_err-words
returns-in_err-words c front leaks words is long fit =
    let k = c.loop.counter - c.args.from in
    let at = c.loop.at in
    let now = c.loop.invariant front leaks words is long fit in
    elim (cases_lt k (length leaks)) [
      | inl low ↦
          absurd (rw c.in_err-words.was
          at (c.words_behind.ensures _ (leak_here _ front leaks words c.args.from k at is long now.2 low)))
      | inr over ↦
          absurd (rw c.in_err-words.was at (c.words_behind.ensures _
          (last_here _ front leaks words c.args.from k at is long now.2 (take_all k leaks over))))
    ]

pub returns-in_err-leak : goal.returns-in_err-leak
returns-in_err-leak c front leaks words is long fit =
    let k = c.loop.counter - c.args.from in
    let at = c.loop.at in
    let now = c.loop.invariant front leaks words is long fit in
    let many = length-map c.args.lines.now (λ (l : Bor (List ℕ)). l.now) in
    elim (cases_lt k (length leaks)) [
      | inl low ↦
          let leak = get_or leaks k no_leak in
          let w = rw c.in_ok-words.was
          at (c.words_behind.ensures _ (leak_here _ front leaks words c.args.from k at is long now.2 low)) in
          let first = c.next.ensures (codes "leak") (leak_words leak) refl w in
          let ahead = before_accesses _ front leaks words c.args.from k at is long now.2 low in
          let more = rest _ front leaks words c.args.from k at is long now.2 low in
          let there = accesses_there _ front leaks words c.args.from k at is long now.2 low in
          let from = accesses_from _ front leaks words c.args.from k at is long now.2 low in
          let room = is_room _ front leaks words c.args.from k at is long now.2 low in
          let sums = many_accesses _ front leaks words c.args.from k at is long now.2 low in
          let end = c.end_of-end.ensures ahead (map access_text leak.records) more there
          (omega (arith, from, room, many)) (accesses_begin leak.records) (no_access_first _ words) in
          let r = rw c.in_err-leak.was at (c.leak_of.ensures leak ahead more (fit k no_leak low) first.1 there
          (omega (arith, from, room, many)) (omega (arith, end, sums))) in
          refused_on _ _ _ c.from_residual-in_err-leak.ensures.1 r
      | inr over ↦
          let w = rw c.in_ok-words.was at (c.words_behind.ensures _
          (last_here _ front leaks words c.args.from k at is long now.2 (take_all k leaks over))) in
          let first = c.next.ensures (codes "end") words refl w in
          absurd (not_end _ _ c.ne.ensures c.if-ne.false first.0)
    ]

pub loop-preserved : goal.loop-preserved
loop-preserved c front leaks words is long fit =
    let k = c.loop.counter - c.args.from in
    let at = c.loop.at in
    let now = c.loop.invariant front leaks words is long fit in
    let many = length-map c.args.lines.now (λ (l : Bor (List ℕ)). l.now) in
    elim (cases_lt k (length leaks)) [
      | inl low ↦
          let leak = get_or leaks k no_leak in
          let w = rw c.in_ok-words.was
          at (c.words_behind.ensures _ (leak_here _ front leaks words c.args.from k at is long now.2 low)) in
          let first = c.next.ensures (codes "leak") (leak_words leak) refl w in
          let ahead = before_accesses _ front leaks words c.args.from k at is long now.2 low in
          let more = rest _ front leaks words c.args.from k at is long now.2 low in
          let there = accesses_there _ front leaks words c.args.from k at is long now.2 low in
          let from = accesses_from _ front leaks words c.args.from k at is long now.2 low in
          let room = is_room _ front leaks words c.args.from k at is long now.2 low in
          let sums = many_accesses _ front leaks words c.args.from k at is long now.2 low in
          let end = c.end_of-end.ensures ahead (map access_text leak.records) more there
          (omega (arith, from, room, many)) (accesses_begin leak.records) (no_access_first _ words) in
          let r = rw c.in_ok-leak.was at (c.leak_of.ensures leak ahead more (fit k no_leak low) first.1 there
          (omega (arith, from, room, many)) (omega (arith, end, sums))) in
          let pushed : c.push.new.self.items ≡ c.loop.leaks.items ++ c.in_ok-leak.leak ∷ [] = search (rules) in
          let next : k + 1 ≡ c.loop.counter + 1 - c.args.from = omega arith in (
            rw (← next) (one_more_leak _ front leaks words c.args.from k at is long now.2 low c.loop.leaks.items
                c.push.new.self.items c.in_ok-leak.leak pushed now.0 r),
            omega (arith, low),
            rw (← next) (next_at _ front leaks words c.args.from k at is long now.2 low c.end_of-end.result
                (omega (arith, end, room, many))),
          )
      | inr over ↦
          let w = rw c.in_ok-words.was at (c.words_behind.ensures _
          (last_here _ front leaks words c.args.from k at is long now.2 (take_all k leaks over))) in
          let first = c.next.ensures (codes "end") words refl w in
          absurd (not_end _ _ c.ne.ensures c.if-ne.false first.0)
    ]

pub returns : goal.returns
returns c front leaks words is long fit =
    let k = c.loop.counter - c.args.from in
    let at = c.loop.at in
    let now = c.loop.invariant front leaks words is long fit in
    let many = length-map c.args.lines.now (λ (l : Bor (List ℕ)). l.now) in
    elim c.loop-test.branch [
      | else-loop-test w ↦
          absurd (omega (
            arith,
            now.1,
            many,
            lines_many leaks,
            w.loop-test.false,
            long,
            ap length is,
            length-append front (leaks_texts leaks ++ last_text words ∷ []),
            length-append (leaks_texts leaks) (last_text words ∷ []),
          ))
      | then-loop-test+in_ok-words+then-ne w ↦
          elim (cases_lt k (length leaks)) [
            | inl low ↦
                let line = rw w.in_ok-words.was at (w.words_behind.ensures _
                (leak_here _ front leaks words c.args.from k at is long now.2 low)) in
                let first = w.next.ensures (codes "leak") (leak_words (get_or leaks k no_leak)) refl line in
                absurd (not_leak _ _ w.ne.ensures w.if-ne.true first.0)
            | inr over ↦ c.of.ensures ∙ now.0 ∙ take_all k leaks over
          ]
    ]
