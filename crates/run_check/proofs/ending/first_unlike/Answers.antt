use Rattle.std.proofs.Common.{◌≡◌, ℕ, ◌<◌, ◌≤◌, length, take, sym, subst, arith, ◌∙◌}
use Rattle.std.proofs.lemmas.Bool.{false≢true}
use Rattle.std.proofs.lemmas.List.{take_more_same}
use Rattle.std.proofs.lemmas.Option.{same_Some}
use Rattle.run_check.proofs.DifferLemmas.{get-there, differ-lengths, same-whole}
use Rattle.run_check.proofs.ending.first_unlike.Goals as goal

pub returns-then-not-same_end : goal.returns-then-not-same_end
returns-then-not-same_end c =
    let a = c.args.a.now in
    let b = c.args.b.now in
    let at = c.loop-at.at in
    let in_a : at < length a = omega arith in
    let in_b : at < length b = omega arith in
    record {
      same = c.loop-at.invariant;
      unlike = λ e.
          false≢true (sym c.if-not-same_end.true ∙ c.same_end.ensures.1
          (same_Some _ _ (sym (get-there a at _ in_a) ∙ e ∙ get-there b at _ in_b)));
    }

pub loop-at-preserved : goal.loop-at-preserved
loop-at-preserved c =
    let a = c.args.a.now in
    let b = c.args.b.now in
    let at = c.loop-at.at in
    let in_a : at < length a = omega arith in
    let in_b : at < length b = omega arith in
    take_more_same a b at _ in_a in_b c.loop-at.invariant (c.same_end.ensures.0 c.if-not-same_end.false)

pub returns-then-a-b : goal.returns-then-a-b
returns-then-a-b c =
    let a = c.args.a.now in
    let b = c.args.b.now in
    let both = c.min-both.result in
    let end : c.loop-at.at ≡ both = omega arith in
    differ-lengths a b both c.min-both.ensures (subst (λ (n : ℕ). take n a ≡ take n b) end c.loop-at.invariant)
    c.if-a-b.true

pub returns : goal.returns
returns c =
    let a = c.args.a.now in
    let past : length a ≤ c.loop-at.at = omega arith in
    same-whole a c.args.b.now c.loop-at.at c.if-a-b.false past c.loop-at.invariant
