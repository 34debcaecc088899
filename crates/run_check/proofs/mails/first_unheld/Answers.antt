use Rattle.std.proofs.Common.{◌≡◌, ℕ, ◌+◌, ◌-◌, ◌≤◌, length, subst, sym, below_more, ⊎_elim, arith, ◌∙◌}
use Rattle.std.proofs.lemmas.Bool.{cases_lt, false≢true}
use Rattle.run_check.specs.Mailing.{Passes}
use Rattle.run_check.proofs.MailLemmas.{turn-past, of-past}
use Rattle.run_check.proofs.mails.first_unheld.Goals as goal

pub returns-then-not-passes : goal.returns-then-not-passes
returns-then-not-passes c =
    let posts = c.args.posts.now in
    let fetches = c.args.fetches.now in
    let i = c.loop-at.at in
    let place : i + 1 - 1 ≡ i = omega arith in
    record {
      from_one = omega arith;
      before = λ k below. c.loop-at.invariant k (omega (arith, below));
      there = λ all.
          false≢true
          (sym c.if-not-passes.true
          ∙ c.passes.ensures.1 (subst (λ (k : ℕ). Passes posts fetches k) place all));
    }

pub loop-at-preserved : goal.loop-at-preserved
loop-at-preserved c =
    below_more (λ (k : ℕ). Passes c.args.posts.now c.args.fetches.now k) c.loop-at.at c.loop-at.invariant
    (c.passes.ensures.0 c.if-not-passes.false)

pub returns : goal.returns
returns c k =
    let posts = c.args.posts.now in
    let fetches = c.args.fetches.now in
    let in_posts : length posts ≤ c.loop-at.at = omega arith in
    let in_fetches : length fetches ≤ c.loop-at.at = omega arith in
    ⊎_elim
    (λ inside. c.loop-at.invariant k inside)
    (λ past.
    (turn-past posts k (omega (arith, past, in_posts)), of-past posts fetches k (omega (arith, past, in_fetches))))
    (cases_lt k c.loop-at.at)
