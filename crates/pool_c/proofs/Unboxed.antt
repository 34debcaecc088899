-- The threads that were in boxes, and what they have in common.
use Rattle.std.proofs.Common.{◌≡◌, suc, ◌<◌, List, [], ◌∷◌, ◌++◌, length, map, ap, ◌∙◌, append_assoc, arith}
use Rattle.std.specs.Prelude.{Box, box_value, remove, slice_index_or}
use Rattle.std.proofs.lemmas.List.{map-append}
use Rattle.pool_member.specs.declared.member.Member.{Member}
use Rattle.pool_c.specs.declared.held.Common.{Common}
use Rattle.pool_c.specs.Closing.{AreOf}
use Rattle.pool_c.specs.Holding.{behind, Holding}

-- the parts of a thread make it up
made_up : (h : Holding) (c : Common) (m : Member) → c ≡ h.common → m ≡ h.member → behind c m ≡ h
made_up h c m of is = ap (λ (x : Common). behind x m) of ∙ ap (behind h.common) is

-- one box less
module _ {Z : Type 0} (all : List (Box Holding Z)) (b : Box Holding Z) (c : Common) (m : Member)
    (first : b ≡ slice_index_or all 0 b) (of : c ≡ (box_value b).common) (is : m ≡ (box_value b).member) where
  pub first_out : 0 < length all → behind c m ∷ map box_value (remove all 0) ≡ map box_value all
  first_out = go all first
    where
      go : (xs : List (Box Holding Z)) → b ≡ slice_index_or xs 0 b → 0 < length xs
          → behind c m ∷ map box_value (remove xs 0) ≡ map box_value xs
      go [] e some = absurd (omega (arith, some))
      go (x ∷ xs) e some =
          ap (λ h. h ∷ map box_value xs) (made_up (box_value b) c m of is ∙ ap (λ y. box_value y) e)

  pub more_out : (ms : List Member) → 0 < length all
      → map (behind c) (ms ++ m ∷ []) ++ map box_value (remove all 0) ≡ map (behind c) ms ++ map box_value all
  more_out ms some =
      ap (λ hs. hs ++ map box_value (remove all 0)) (map-append (behind c) ms (m ∷ []))
      ∙ append_assoc (map (behind c) ms) (behind c m ∷ []) (map box_value (remove all 0))
      ∙ ap (λ hs. map (behind c) ms ++ hs) (first_out some)

-- what all have, the rest have, and the first
pub rest_are : {Z : Type 0} (c : Common) (all : List (Box Holding Z)) → AreOf c (map box_value all)
    → AreOf c (map box_value (remove all 0))
rest_are c [] are = are
rest_are c (x ∷ xs) are = λ k d lt. are (suc k) d (omega (arith, lt))

pub first_is : {Z : Type 0} (c : Common) (all : List (Box Holding Z)) (b : Box Holding Z) → 0 < length all
    → b ≡ slice_index_or all 0 b → AreOf c (map box_value all) → (box_value b).common ≡ c
first_is {Z} c [] b some first are = absurd (omega (arith, some))
first_is {Z} c (x ∷ xs) b some first are =
    ap (λ (y : Box Holding Z). (box_value y).common) first ∙ are 0 (box_value x) (omega arith)
