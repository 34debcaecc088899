use Rattle.std.proofs.Common.{◌≡◌, ℕ, zero, suc, ◌+◌, List, [], ◌∷◌, ◌++◌, take, ap, sym, ◌∙◌, arith, Some}
use Rattle.std.proofs.Math.Numerals.{add-one}
use Rattle.std.specs.Prelude.{slice_get}
use Rattle.std.proofs.lemmas.List.Elements.{All-push, All-same}
use Rattle.pool_law.specs.declared.id.Part.{Part}
use Rattle.pool_law.specs.Composites.{Composite}
use Rattle.composite_buf.specs.Maps.{Fits}
use Rattle.lane_context.proofs.composed.Composed.part_list.Goals as goal

-- one item more from the front of a list
take-get : (ps : List Part) (k : ℕ) (p : Part) → slice_get ps k ≡ Some p → take (k + 1) ps ≡ take k ps ++ p ∷ []
take-get ps k p is = ap (λ (n : ℕ). take n ps) (add-one k) ∙ go ps k is
  where
    go : (qs : List Part) (n : ℕ) → slice_get qs n ≡ Some p → take (suc n) qs ≡ take n qs ++ p ∷ []
    go [] n there = absurd (cc there)
    go (q ∷ qs) zero there = let same : q ≡ p = cc there in ap (λ (r : Part). r ∷ []) same
    go (q ∷ qs) (suc n) there = ap (λ (rs : List Part). q ∷ rs) (go qs n there)

pub loop-k-preserved : goal.loop-k-preserved
loop-k-preserved c =
    let before = c.loop-k.invariant in
    let part : Part = c.part.result in
    let same : c.args.self.now.parts ≡ c.self.inside.parts =
    sym (ap (λ (v : Composite). v.parts) c.self.view_is) in
    let there : slice_get c.args.self.now.parts c.loop-k.k ≡ Some part =
    ap (λ (ps : List Part). slice_get ps c.loop-k.k) same ∙ c.part.ensures.part in (
      c.push_reserved.ensures.items ∙ ap (λ (ps : List Part). ps ++ part ∷ []) before.0
          ∙ sym (take-get c.args.self.now.parts c.loop-k.k part there),
      All-same Fits c.push_reserved.new.self.items (c.loop-k.parts.items ++ part ∷ []) c.push_reserved.ensures.items
          (All-push Fits c.loop-k.parts.items part before.1 c.part.ensures.fits),
      omega (arith, c.push_reserved.ensures.capacity, before.2),
    )
