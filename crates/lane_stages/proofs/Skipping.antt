-- Parts that are passed by, since their roots aren't counted.
use Rattle.std.proofs.Common.{◌≡◌, ◌<◌, List, [], ◌∷◌, ◌++◌, refl, sym, ap, ◌∙◌, subst, append-nil, append_assoc, Some, None}
use Rattle.std.specs.Prelude.{All}
use Rattle.std.proofs.lemmas.List.Elements.{All-nil, All-push}
use Rattle.pool_law.specs.declared.id.Part.{Part}
use Rattle.lane_stages.specs.declared.counts.Counted.{Counted}
use Rattle.lane_stages.specs.Counting.{counted}
use Rattle.lane_stages.specs.Releasings.{NextCounted}

-- those before the parts that are left aren't counted
abbrev pub Skips : List Counted → List Part → List Part → Type 0
Skips cs before left =
    (skipped : List Part) × (before ≡ skipped ++ left) × All (λ p. counted cs p.root ≡ 0) skipped

pub none_skipped : (cs : List Counted) (parts : List Part) → Skips cs parts parts
none_skipped cs parts = ([], refl, All-nil (λ p. counted cs p.root ≡ 0))

module _ (cs : List Counted) (before left : List Part) (skips : Skips cs before left) where
  pub one_more : (p : Part) (rest : List Part) → left ≡ p ∷ rest → counted cs p.root ≡ 0 → Skips cs before rest
  one_more p rest is none = (
    skips.0 ++ p ∷ [],
    skips.1 ∙ ap (λ (ps : List Part). skips.0 ++ ps) is ∙ sym (append_assoc skips.0 (p ∷ []) rest),
    All-push (λ q. counted cs q.root ≡ 0) skips.0 p skips.2 none,
  )

  -- the next one is counted
  pub next_found : (p : Part) (rest : List Part) → left ≡ p ∷ rest → 0 < counted cs p.root
      → NextCounted cs before rest (Some p.root)
  next_found p rest is some =
      (skips.0, p, skips.1 ∙ ap (λ (ps : List Part). skips.0 ++ ps) is, skips.2, refl, some)

  -- none is left
  pub none_found : left ≡ [] → NextCounted cs before left None
  none_found none = (
    subst (All (λ q. counted cs q.root ≡ 0))
        (sym (skips.1 ∙ ap (λ (ps : List Part). skips.0 ++ ps) none ∙ append-nil skips.0)) skips.2,
    none,
  )
