-- Bytes cut in two, and bytes that lie side by side. Assumes `Logic`.
use Rattle.std.proofs.Common.{◌≡◌, ℕ, ◌+◌, ◌≤◌, List, [], ◌∷◌, ◌++◌, length, take, drop, refl, sym, take-append-drop, length-take-le}
use seplogic.Ra.Ura.{Ura}
use base.Fraction.{full_share}
use base.Logic.{SProp, ent, sep, never_e}
use base.Fml.{Fml, ffalse, feq, fsep}
use types.Logic.{Logic, sem}
use types.Kit.{‵, ◌⊛◌, ◌$◌, ◌∵◌, !, qed, by, move, keep, drop as drops, use1, use2, split, fsplit, fjoin, feq_i, rewrite, done}
use denote.RawPtr.Bytes.{bytes, bytes_cut, bytes_glue, bytes_apart, bytes_whole}
use denote.RawPtr.{Ptr, block_ptr, null_ptr, ◌+ₚ◌}
use Rattle.ground.specs.Ownership.{raw_bytes_owns}

module _ {M : Type 1} {𝓤 : Ura M} (𝓛 : Logic 𝓤) where
  abbrev ⟦◌⟧ : Fml → SProp 𝓤
  ⟦ P ⟧ = sem 𝓛 P

  pub loose : (b o : ℕ) (xs : List ℕ) → ent 𝓤 ⟦ raw_bytes_owns (block_ptr b o) xs ⟧ ⟦ bytes full_share xs b o ⟧
  loose b o xs =
      qed 𝓛 (‵ (raw_bytes_owns (block_ptr b o) xs) ∷ []) ∵
      use1 𝓛 (‵ (fsep (feq ℕ (length xs) (length xs)) (bytes full_share xs b o)))
      (bytes_apart 𝓛 full_share (length xs) xs b o) $
      fsplit ! $ drops ! $ done !

  pub whole : (b o : ℕ) (xs : List ℕ) → ent 𝓤 ⟦ bytes full_share xs b o ⟧ ⟦ raw_bytes_owns (block_ptr b o) xs ⟧
  whole b o xs =
      qed 𝓛 (‵ (bytes full_share xs b o) ∷ []) ∵ feq_i ! ℕ (length xs) (length xs) refl $ fjoin ! $
      use1 𝓛 (‵ (raw_bytes_owns (block_ptr b o) xs)) (bytes_whole 𝓛 full_share (length xs) xs b o) $ done !

  pub raw_bytes_cut : (p : Ptr) (n : ℕ) (xs : List ℕ) → n ≤ length xs
      → ent 𝓤 ⟦ raw_bytes_owns p xs ⟧ (sep 𝓤 ⟦ raw_bytes_owns p (take n xs) ⟧ ⟦ raw_bytes_owns (p +ₚ n) (drop n xs) ⟧)
  raw_bytes_cut null_ptr n xs h = never_e 𝓤 _
  raw_bytes_cut (block_ptr b o) n xs h =
      let same = sym (take-append-drop n xs) in
      let long : length (take n xs) ≡ n = length-take-le n xs h in
      qed 𝓛 (‵ (raw_bytes_owns (block_ptr b o) xs) ∷ []) ∵ use1 𝓛 (‵ (bytes full_share xs b o)) (loose b o xs) $
      rewrite ! 0 (λ ys. ‵ (bytes full_share ys b o)) same refl $
      use1 𝓛 (‵ (bytes full_share (take n xs) b o) ⊛ ‵ (bytes full_share (drop n xs) b (o + length (take n xs))))
      (bytes_cut 𝓛 full_share (take n xs) (drop n xs) b o) $ split ! $
      use1 𝓛 (‵ (raw_bytes_owns (block_ptr b o) (take n xs))) (whole b o (take n xs)) $ move ! (1 ∷ []) $
      rewrite ! 0 (λ k. ‵ (bytes full_share (drop n xs) b (o + k))) long refl $
      use1 𝓛 (‵ (raw_bytes_owns (block_ptr b (o + n)) (drop n xs))) (whole b (o + n) (drop n xs)) $
      move ! (1 ∷ 0 ∷ []) $ done !

  pub raw_bytes_glue : (p : Ptr) (xs ys : List ℕ) → ent 𝓤
      (sep 𝓤 ⟦ raw_bytes_owns p xs ⟧ ⟦ raw_bytes_owns (p +ₚ length xs) ys ⟧) ⟦ raw_bytes_owns p (xs ++ ys) ⟧
  raw_bytes_glue null_ptr xs ys =
      qed 𝓛 (‵ ffalse ∷ ‵ (raw_bytes_owns (null_ptr +ₚ length xs) ys) ∷ []) ∵ keep ! (0 ∷ []) $ by ! (never_e 𝓤 _)
  raw_bytes_glue (block_ptr b o) xs ys =
      qed 𝓛 (‵ (raw_bytes_owns (block_ptr b o) xs) ∷ ‵ (raw_bytes_owns (block_ptr b (o + length xs)) ys) ∷ []) ∵
      use1 𝓛 (‵ (bytes full_share xs b o)) (loose b o xs) $ move ! (1 ∷ []) $
      use1 𝓛 (‵ (bytes full_share ys b (o + length xs))) (loose b (o + length xs) ys) $ move ! (1 ∷ 0 ∷ []) $
      use2 𝓛 (‵ (bytes full_share (xs ++ ys) b o)) (bytes_glue 𝓛 full_share xs ys b o) $
      use1 𝓛 (‵ (raw_bytes_owns (block_ptr b o) (xs ++ ys))) (whole b o (xs ++ ys)) $ done !
