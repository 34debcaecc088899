use Rattle.std.proofs.Common.{◌≡◌, ℕ, ◌≤◌, List, [], get_or, length, map, inl, inr, Bor, refl, sym, ap, ◌∙◌, arith}
use Rattle.std.specs.Prelude.{nat_eq}
use Rattle.std.specs.List.{starts_with}
use Rattle.std.proofs.lemmas.Bool.{cases_lt}
use Rattle.std.proofs.lemmas.List.{get_or-map, length-map}
use Rattle.std.proofs.lemmas.Str.Pattern.{starts_text}
use Rattle.pool_law.specs.Text.{Text}
use Rattle.run_text.specs.Starting.{Begins}
use Rattle.run_text.proofs.LineLemmas.{end_is, whole}
use Rattle.run_text.proofs.lines.end_of.Goals as goal

pub returns-then-not-starts_with : goal.returns-then-not-starts_with
returns-then-not-starts_with c front middle back is long inside outside =
    let n = c.loop-at.at in
    let low = c.loop-at-test.true in
    let first = c.args.first.now in
    let many = length-map c.args.lines.now (λ (l : Bor (List ℕ)). l.now) in
    end_is first _ front middle back c.args.from is long inside outside n c.loop-at.auto.at
    (omega (arith, low, many)) c.loop-at.invariant.1
    (λ more. ap (λ (t : Text). starts_with nat_eq t first)
    (get_or-map (λ (l : Bor (List ℕ)). l.now) c.args.lines.now n _ [] low)
    ∙ sym (starts_text c.starts_with.result first _ c.starts_with.ensures.cases)
    ∙ c.if-not-starts_with.true)

pub loop-at-preserved : goal.loop-at-preserved
loop-at-preserved c =
    let n = c.loop-at.at in
    let low = c.loop-at-test.true in
    let first = c.args.first.now in
    let texts = map (λ (l : Bor (List ℕ)). l.now) c.args.lines.now in
    let does : Begins first (get_or texts n []) =
    ap (λ (t : Text). starts_with nat_eq t first)
    (get_or-map (λ (l : Bor (List ℕ)). l.now) c.args.lines.now n _ [] low)
    ∙ sym (starts_text c.starts_with.result first _ c.starts_with.ensures.cases)
    ∙ c.if-not-starts_with.false in (
      refl,
      λ i from high.
          elim (cases_lt i n) [
            | inl less ↦ c.loop-at.invariant.1 i from less
            | inr more ↦
                let same : i ≡ n = omega (arith, high, more) in
                ap (λ m. starts_with nat_eq (get_or texts m []) first) same ∙ does
          ],
    )

pub returns : goal.returns
returns c front middle back is long inside outside =
    let many = length-map c.args.lines.now (λ (l : Bor (List ℕ)). l.now) in
    let n = c.loop-at.at in
    let over = c.loop-at-test.false in
    let inside_all : c.args.from ≤ length c.args.lines.now =
    omega (arith, whole c.args.first.now _ front middle back c.args.from is long inside outside, many) in
    c.loop-at.invariant.0
    ∙ end_is c.args.first.now _ front middle back c.args.from is long inside outside n c.loop-at.auto.at
    (omega (arith, c.loop-at.auto.at-end inside_all, many)) c.loop-at.invariant.1
    (λ more. absurd (omega (arith, more, over, many)))
