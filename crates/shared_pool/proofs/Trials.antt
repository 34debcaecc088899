-- Lemmas for the tests: the seats of a pool with one lane, and of one with two.
use Rattle.std.proofs.Common.{◌≡◌, ◌∙◌, ◌+◌, ◌*◌, List, [], ◌∷◌, ◌++◌, length, ap, subst, arith, length-append}
use Rattle.std.specs.Prelude.{HoldsAt}

-- the last of one element
pub only_one : {X : Type 0} (P : X → Type 0) (items rest : List X) (a : X) → length items ≡ 1 →
    items ≡ rest ++ a ∷ [] → HoldsAt P items 0 → P a
only_one {X} P items rest a many e each = go rest e
  where
    go : (rest : List X) → items ≡ rest ++ a ∷ [] → P a
    go [] is = subst (λ (l : List X). HoldsAt P l 0) is each a
    go (x ∷ xs) is =
        let n = ap (λ (l : List X). length l) is in let u = length-append (x ∷ xs) (a ∷ []) in
        absurd (omega (arith, n, u, many))
