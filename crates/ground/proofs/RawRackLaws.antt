-- Elements taken out of a raw rack and put in. Assumes `Logic`.
use Rattle.std.proofs.Common.{◌≡◌, ℕ, zero, suc, ◌+◌, ◌-◌, ◌*◌, ◌≤◌, List, [], ◌∷◌, ◌++◌, length, take, drop, refl, sym, ap, ◌∙◌, arith, length-drop, append-nil}
use Rattle.std.specs.Prelude.{Some, None}
use seplogic.Ra.Ura.{Ura}
use base.Logic.{SProp, ent, sep}
use base.Fml.{GName, Fml}
use types.Logic.{Logic, sem}
use types.Kit.{‵, ◌⊛◌, later, ◌$◌, ◌∵◌, !, qed, move, keep, drop as drops, use1, use2, split, fsplit, fjoin, rewrite, updating, await, now, done}
use denote.Steps.{nothing}
use denote.RawPtr.{Ptr, block_ptr, null_ptr, ◌+ₚ◌}
use Rattle.ground.specs.Ownership.{raw_bytes_owns, claim_owns, cell_owns, raw_rack_owns, AreAllIn}
use Rattle.ground.specs.Rack.{Cell, cells_of, with_cell, HasCell}
use Rattle.ground.proofs.RawBytesLaws.{raw_bytes_cut, raw_bytes_glue}
use Rattle.ground.proofs.ClaimLaws.{claim_cut, claim_glue}

-- places further on
pub past : (p : Ptr) (m n k : ℕ) → m + n ≡ k → (p +ₚ m) +ₚ n ≡ p +ₚ k
past null_ptr m n k e = refl
past (block_ptr b o) m n k e = let far : o + m + n ≡ o + k = omega (arith, e) in ap (λ (x : ℕ). block_ptr b x) far

pub stays : (p : Ptr) (k : ℕ) → k ≡ 0 → p ≡ p +ₚ k
stays null_ptr k e = refl
stays (block_ptr b o) k e = let same : o ≡ o + k = omega (arith, e) in ap (λ (x : ℕ). block_ptr b x) same

module _ {M : Type 1} {𝓤 : Ura M} (𝓛 : Logic 𝓤) (γ : GName) (n : ℕ) where
  abbrev ⟦◌⟧ : Fml → SProp 𝓤
  ⟦ P ⟧ = sem 𝓛 P

  pub raw_rack_pull : (i : ℕ) (c : Cell) (cs : List Cell) (p : Ptr) (s : ℕ) → HasCell i c cs
      → ent 𝓤 ⟦ raw_rack_owns γ n cs p s ⟧
      (sep 𝓤 ⟦ cell_owns γ n c (p +ₚ i * n) (s + i * n) ⟧ ⟦ raw_rack_owns γ n (with_cell i None cs) p s ⟧)
  raw_rack_pull i c [] p s h = absurd h
  raw_rack_pull zero c (d ∷ cs) p s h =
      let here : p ≡ p +ₚ 0 * n = stays p (0 * n) (omega arith) in
      let start : s ≡ s + 0 * n = omega arith in
      qed 𝓛 (‵ (raw_rack_owns γ n (d ∷ cs) p s) ∷ []) ∵ fsplit ! $
      rewrite ! 0 (λ x. ‵ (cell_owns γ n x p s)) h refl $ rewrite ! 0 (λ x. ‵ (cell_owns γ n c x s)) here refl $
      rewrite ! 0 (λ x. ‵ (cell_owns γ n c (p +ₚ 0 * n) x)) start refl $
      nothing ! $ move ! (0 ∷ 2 ∷ []) $ fjoin ! $ move ! (1 ∷ 0 ∷ []) $ done !
  raw_rack_pull (suc i) c (d ∷ cs) p s h =
      let there : (p +ₚ n) +ₚ i * n ≡ p +ₚ suc i * n = past p n (i * n) (suc i * n) (omega arith) in
      let start : s + n + i * n ≡ s + suc i * n = omega arith in
      qed 𝓛 (‵ (raw_rack_owns γ n (d ∷ cs) p s) ∷ []) ∵ fsplit ! $ move ! (1 ∷ []) $
      use1 𝓛 (‵ (cell_owns γ n c ((p +ₚ n) +ₚ i * n) (s + n + i * n)) ⊛ ‵
      (raw_rack_owns γ n (with_cell i None cs) (p +ₚ n) (s + n))) (raw_rack_pull i c cs (p +ₚ n) (s + n) h) $
      split ! $
      rewrite ! 0 (λ x. ‵ (cell_owns γ n c x (s + n + i * n))) there refl $ rewrite ! 0
      (λ x. ‵ (cell_owns γ n c (p +ₚ suc i * n) x)) start refl $
      move ! (2 ∷ 1 ∷ []) $ fjoin ! $ move ! (1 ∷ 0 ∷ []) $ done !

  pub raw_rack_push : (i : ℕ) (c : Cell) (cs : List Cell) (p : Ptr) (s : ℕ) → HasCell i None cs
      → ent 𝓤 (sep 𝓤 ⟦ cell_owns γ n c (p +ₚ i * n) (s + i * n) ⟧ ⟦ raw_rack_owns γ n cs p s ⟧) ⟦ raw_rack_owns γ n
      (with_cell i c cs) p s ⟧
  raw_rack_push i c [] p s h = absurd h
  raw_rack_push zero c (d ∷ cs) p s h =
      let here : p ≡ p +ₚ 0 * n = stays p (0 * n) (omega arith) in
      let start : s ≡ s + 0 * n = omega arith in
      qed 𝓛 (‵ (cell_owns γ n c (p +ₚ 0 * n) (s + 0 * n)) ∷ ‵ (raw_rack_owns γ n (d ∷ cs) p s) ∷ []) ∵
      rewrite ! 0 (λ x. ‵ (cell_owns γ n c x (s + 0 * n))) (sym here) refl $ rewrite ! 0 (λ x. ‵ (cell_owns γ n c p x))
      (sym start) refl $
      move ! (1 ∷ []) $ fsplit ! $ drops ! $ move ! (1 ∷ 0 ∷ []) $ fjoin ! $ done !
  raw_rack_push (suc i) c (d ∷ cs) p s h =
      let there : (p +ₚ n) +ₚ i * n ≡ p +ₚ suc i * n = past p n (i * n) (suc i * n) (omega arith) in
      let start : s + n + i * n ≡ s + suc i * n = omega arith in
      qed 𝓛 (‵ (cell_owns γ n c (p +ₚ suc i * n) (s + suc i * n)) ∷ ‵ (raw_rack_owns γ n (d ∷ cs) p s) ∷ []) ∵
      rewrite ! 0 (λ x. ‵ (cell_owns γ n c x (s + suc i * n))) (sym there) refl $ rewrite ! 0
      (λ x. ‵ (cell_owns γ n c ((p +ₚ n) +ₚ i * n) x)) (sym start) refl $
      move ! (1 ∷ []) $ fsplit ! $ move ! (2 ∷ 1 ∷ []) $
      use2 𝓛 (‵ (raw_rack_owns γ n (with_cell i c cs) (p +ₚ n) (s + n))) (raw_rack_push i c cs (p +ₚ n) (s + n) h) $
      move ! (1 ∷ 0 ∷ []) $ fjoin ! $ done !

  pub raw_rack_of : (k : ℕ) (p : Ptr) (s : ℕ) (bs : List ℕ) → length bs ≡ k * n
      → ent 𝓤 (sep 𝓤 ⟦ raw_bytes_owns p bs ⟧ ⟦ claim_owns γ s (k * n) ⟧)
      (𝓛.H.⇛ ⟦ raw_rack_owns γ n (cells_of n k bs) p s ⟧)
  raw_rack_of zero p s bs e =
      qed 𝓛 (‵ (raw_bytes_owns p bs) ∷ ‵ (claim_owns γ s (0 * n)) ∷ []) ∵ updating ! $ drops ! $ drops ! $ nothing ! $
      now ! $ done !
  raw_rack_of (suc k) p s bs e =
      let fits : n ≤ length bs = omega (arith, e) in
      let rest : suc k * n - n ≡ k * n = omega arith in
      let left : length (drop n bs) ≡ k * n = omega (arith, length-drop n bs, e) in
      qed 𝓛 (‵ (raw_bytes_owns p bs) ∷ ‵ (claim_owns γ s (suc k * n)) ∷ []) ∵ updating ! $
      use1 𝓛 (‵ (raw_bytes_owns p (take n bs)) ⊛ ‵ (raw_bytes_owns (p +ₚ n) (drop n bs)))
      (raw_bytes_cut 𝓛 p n bs fits) $ split ! $ move ! (2 ∷ []) $
      use1 𝓛 (later (‵ (claim_owns γ s n) ⊛ ‵ (claim_owns γ (s + n) (suc k * n - n))))
      (claim_cut 𝓛 γ s (suc k * n) n (omega arith)) $ await ! tt $ split ! $
      -- [the first claim; the others; the first bytes; the others]
      move ! (1 ∷ []) $ rewrite ! 0 (λ x. ‵ (claim_owns γ (s + n) x)) rest refl $ move ! (3 ∷ 0 ∷ []) $
      use2 𝓛 (later (‵ (raw_rack_owns γ n (cells_of n k (drop n bs)) (p +ₚ n) (s + n))))
      (raw_rack_of k (p +ₚ n) (s + n) (drop n bs) left) $ await ! tt $
      move ! (2 ∷ 1 ∷ []) $ fjoin ! $ move ! (0 ∷ 1 ∷ []) $ fjoin ! $ now ! $ done !

  pub raw_rack_whole : (b : List ℕ) (cs : List Cell) (p : Ptr) (s : ℕ) (bs : List ℕ) → AreAllIn n (Some b ∷ cs) bs
      → ent 𝓤 ⟦ raw_rack_owns γ n (Some b ∷ cs) p s ⟧
      (𝓛.H.⇛ (sep 𝓤 ⟦ raw_bytes_owns p bs ⟧ ⟦ claim_owns γ s (suc (length cs) * n) ⟧))
  raw_rack_whole b [] p s bs h =
      let same : b ≡ bs = sym (h.0 ∙ ap (λ (l : List ℕ). b ++ l) h.2 ∙ append-nil b) in
      let one : n ≡ 1 * n = omega arith in
      qed 𝓛 (‵ (raw_rack_owns γ n (Some b ∷ []) p s) ∷ []) ∵ updating ! $ fsplit ! $ fsplit ! $
      rewrite ! 0 (λ x. ‵ (raw_bytes_owns p x)) same refl $ move ! (1 ∷ []) $ rewrite ! 0 (λ x. ‵ (claim_owns γ s x))
      one refl $ keep ! (1 ∷ 0 ∷ []) $ now ! $ done !
  raw_rack_whole b (None ∷ cs) p s bs h = absurd h.2
  raw_rack_whole b (Some b' ∷ cs) p s bs h =
      let k = suc (length cs) in
      let all : n + k * n ≡ suc k * n = omega arith in
      let far : p +ₚ n ≡ p +ₚ length b = ap (λ (x : ℕ). p +ₚ x) (sym h.1) in
      qed 𝓛 (‵ (raw_rack_owns γ n (Some b ∷ Some b' ∷ cs) p s) ∷ []) ∵ updating ! $ fsplit ! $ move ! (1 ∷ []) $
      use1 𝓛 (later (‵ (raw_bytes_owns (p +ₚ n) (drop n bs)) ⊛ ‵ (claim_owns γ (s + n) (k * n))))
      (raw_rack_whole b' cs (p +ₚ n) (s + n) (drop n bs) h.2) $ await ! tt $ split ! $ move ! (2 ∷ []) $ fsplit ! $
      -- [the first bytes; the first claim; the other bytes; the other claims]
      move ! (2 ∷ []) $ rewrite ! 0 (λ x. ‵ (raw_bytes_owns x (drop n bs))) far refl $ move ! (1 ∷ 0 ∷ []) $
      use2 𝓛 (‵ (raw_bytes_owns p (b ++ drop n bs))) (raw_bytes_glue 𝓛 p b (drop n bs)) $ rewrite ! 0
      (λ x. ‵ (raw_bytes_owns p x)) (sym h.0) refl $ move ! (1 ∷ 2 ∷ []) $
      use2 𝓛 (later (‵ (claim_owns γ s (n + k * n)))) (claim_glue 𝓛 γ s n (k * n)) $ await ! tt $ rewrite ! 0
      (λ x. ‵ (claim_owns γ s x)) all refl $ move ! (1 ∷ 0 ∷ []) $ now ! $ done !
