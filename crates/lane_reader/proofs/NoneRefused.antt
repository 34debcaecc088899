-- Refusals of which none comes.
use Rattle.std.proofs.Common.{◌≡◌, Bool, true, false, List, [], ◌∷◌, ◌++◌, Some, None, refl, sym, ap, ◌∙◌}
use Rattle.std.specs.Prelude.{if◌then◌else◌}
use Rattle.pool_law.specs.Refusals.{Refusal, first_refusal}

-- the first does not come, and none of the others
none-split : (r : Refusal) (rs : List Refusal) → first_refusal (r ∷ rs) ≡ None →
    (r.comes ≡ false) × (first_refusal rs ≡ None)
none-split r rs none = go r.comes refl
  where
    go : (b : Bool) → r.comes ≡ b → (r.comes ≡ false) × (first_refusal rs ≡ None)
    go true here = absurd (cc (none, ap (λ (b : Bool). if b then Some r.reply else first_refusal rs) here))
    go false here = (here, sym (ap (λ (b : Bool). if b then Some r.reply else first_refusal rs) here) ∙ none)

-- the last does not come
pub none-last : (rs : List Refusal) (r : Refusal) → first_refusal (rs ++ r ∷ []) ≡ None → r.comes ≡ false
none-last [] r none = (none-split r [] none).0
none-last (x ∷ rs) r none = none-last rs r (none-split x (rs ++ r ∷ []) none).1
