use Rattle.std.proofs.Common.{◌≡◌, ◌+◌, ◌-◌, List, ℕ, length, take, get_or, arith, ap, ◌∙◌}
use Rattle.pool_law.specs.declared.id.Part.{Part}
use Rattle.pool_law.specs.Composites.{size_of}
use Rattle.composite_buf.proofs.EndLaws.{end_at, same_count}
use Rattle.composite_buf.proofs.composite.Composite.start_of.Goals as goal

pub index-requires : goal.index-requires
index-requires c =
    let count : length c.self.inside.ends.items ≡ length c.args.self.now =
    same_count c.self.inside.ends.items c.self.inside.parts.items c.args.self.now
    c.self.invariant.ends c.self.view_is in
    omega (arith, c.if-k-eq0.false, c.self.inside.ends.ok.0, count, c.requires)

pub returns-else-k-eq0 : goal.returns-else-k-eq0
returns-else-k-eq0 c =
    let ps : List Part = c.self.inside.parts.items in
    let k : ℕ = c.args.k in
    let same : k - 1 + 1 ≡ k = omega (arith, c.if-k-eq0.false) in
    let none : 0 + size_of (take (k - 1 + 1) ps) ≡ size_of (take (k - 1 + 1) ps) = omega arith in
    c.index.ensures
    ∙ ap (λ (es : List ℕ). get_or es (k - 1) c.index.result.now) c.self.invariant.ends
    ∙ end_at 0 ps (k - 1) c.index.result.now (omega (arith, c.if-k-eq0.false, ap length c.self.view_is, c.requires))
    ∙ none
    ∙ ap (λ (j : ℕ). size_of (take j ps)) same
    ∙ ap (λ (qs : List Part). size_of (take k qs)) c.self.view_is
