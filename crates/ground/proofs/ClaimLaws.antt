-- Claims cut, glued, shared and compared. Assumes `Logic`.
use Rattle.std.proofs.Common.{◌≡◌, ℕ, ◌+◌, ◌-◌, ◌<◌, ◌≤◌, [], ◌∷◌, refl, ap, arith}
use mathlib.Core.Option.{Option, none, some}
use mathlib.Mathlib.Data.Part.{◌∈◌}
use native.Mathlib.Decide.{ℕ_discrete, dec_le, dec_lt}
use seplogic.Ra.Pcs.{OpDef, FpUpd₁}
use seplogic.Ra.Ura.{Ura}
use seplogic.Ra.Constructions.Prod
use seplogic.Ra.Constructions.Opt
use seplogic.Ra.Instances.Ag
use seplogic.Ra.IProd.{mem-op_iff}
use base.Share
use base.Fraction.{full_share}
use base.FractionLaws.{not-OpDef-full_share}
use base.Stored.{coded×, coded_ℕ}
use base.SetCodes.{coded, SetCoded-set}
use base.Logic.{SProp, ent, sep, ex, guard, upd, guard_i, emp, via}
use base.Fml.{Lft, GName, Share, Fml, flft, fown, fshr_bor}
use base.Shift.{Keyless}
use ghost.Rules.{Halves}
use types.Logic.{Logic, sem}
use types.Owned.{own_sum, own_join, own_step, own_new}
use types.Owned.{basic}
use types.Kit.{‵, ◌⊛◌, later, given, ◌$◌, ◌∵◌, !, qed, move, drop, split, updating, await, now, use1, use2, use3, learn, check, rewrite, done}
use types.Tokens.{shr_bor-open, obor_close}
use Rattle.std.proofs.Common.{inl, inr, max}
use Rattle.ground.specs.Ground.{ApartAt}
use Rattle.ground.specs.Ownership.{Mark, marks, claims, when_both, mark_row, claim, claim_owns}

-- ---- the algebra, place by place
abbrev cell : Option (Share × Mark) → Option (Share × Mark)
    → mathlib.Mathlib.Data.Part.Part {0, 0} (Option (Share × Mark))
cell = Opt.op marks.op

rows : (f g h : ℕ → Option (Share × Mark)) → ((j : ℕ) → h j ∈ cell (f j) (g j)) → h ∈ claims.op f g
rows f g h = (mem-op_iff {A = λ (_ : ℕ). Option (Share × Mark)} (λ _. cell) {f = f} {g = g} {h = h}).1

sum : (m : Mark) (r e f : Share) → r ∈ Share.op e f → ◌∈◌ {α = Share × Mark} (r, m) (marks.op (e, m) (f, m))
sum m r e f h = let s = SetCoded-set (coded (coded× coded_ℕ coded_ℕ)) in
    Prod.mk-mem-op Share.op (Ag.op s) {a = e} {a' = f} {x = r} {b = m} {b' = m} {y = m} h (Ag.idem s m)

halved : {P Q : Type 0} (d : Dec P) (e : Dec Q) (q q₁ q₂ : Share) (m : Mark) → q ∈ Share.op q₁ q₂
    → when_both d e (q, m) ∈ cell (when_both d e (q₁, m)) (when_both d e (q₂, m))
halved (yes _) (yes _) q q₁ q₂ m h =
    (Opt.some-mem-op-some_iff marks.op {a = (q₁, m)} {b = (q₂, m)} {c = (q, m)}).1 (sum m q q₁ q₂ h)
halved (yes _) (no _) q q₁ q₂ m h = Opt.mem-none-op marks.op none
halved (no _) (yes _) q q₁ q₂ m h = Opt.mem-none-op marks.op none
halved (no _) (no _) q q₁ q₂ m h = Opt.mem-none-op marks.op none

pub mark_row_halved : (q q₁ q₂ : Share) (s e : ℕ) (m : Mark) → q ∈ Share.op q₁ q₂
    → mark_row q s e m ∈ claims.op (mark_row q₁ s e m) (mark_row q₂ s e m)
mark_row_halved q q₁ q₂ s e m h =
    rows (mark_row q₁ s e m) (mark_row q₂ s e m) (mark_row q s e m) (λ j. halved (dec_le s j) (dec_lt j e) q q₁ q₂ m h)

meets : (a : Share × Mark) (s c e j : ℕ) → s ≤ c → c ≤ e
    → (d₁ : Dec (s ≤ j)) (d₂ : Dec (j < e)) (d₃ : Dec (j < c)) (d₄ : Dec (c ≤ j))
    → when_both d₁ d₂ a ∈ cell (when_both d₁ d₃ a) (when_both d₄ d₂ a)
meets a s c e j h k (yes p) (yes q) (yes r) (yes t) = absurd (omega arith)
meets a s c e j h k (yes p) (yes q) (yes r) (no t) = Opt.mem-op-none marks.op (some a)
meets a s c e j h k (yes p) (yes q) (no r) (yes t) = Opt.mem-none-op marks.op (some a)
meets a s c e j h k (yes p) (yes q) (no r) (no t) = absurd (omega arith)
meets a s c e j h k (yes p) (no q) (yes r) (yes t) = absurd (omega arith)
meets a s c e j h k (yes p) (no q) (yes r) (no t) = absurd (omega arith)
meets a s c e j h k (yes p) (no q) (no r) (yes t) = Opt.mem-none-op marks.op none
meets a s c e j h k (yes p) (no q) (no r) (no t) = Opt.mem-none-op marks.op none
meets a s c e j h k (no p) (yes q) (yes r) (yes t) = absurd (omega arith)
meets a s c e j h k (no p) (yes q) (yes r) (no t) = Opt.mem-none-op marks.op none
meets a s c e j h k (no p) (yes q) (no r) (yes t) = absurd (omega arith)
meets a s c e j h k (no p) (yes q) (no r) (no t) = Opt.mem-none-op marks.op none
meets a s c e j h k (no p) (no q) (yes r) (yes t) = absurd (omega arith)
meets a s c e j h k (no p) (no q) (yes r) (no t) = Opt.mem-none-op marks.op none
meets a s c e j h k (no p) (no q) (no r) (yes t) = Opt.mem-none-op marks.op none
meets a s c e j h k (no p) (no q) (no r) (no t) = Opt.mem-none-op marks.op none

-- two rows that meet at c
pub mark_row_meets : (q : Share) (s c e : ℕ) (m : Mark) → s ≤ c → c ≤ e
    → mark_row q s e m ∈ claims.op (mark_row q s c m) (mark_row q c e m)
mark_row_meets q s c e m h k =
    rows (mark_row q s c m) (mark_row q c e m) (mark_row q s e m)
    (λ j. meets (q, m) s c e j h k (dec_le s j) (dec_lt j e) (dec_lt j c) (dec_le c j))

remarked : {P Q : Type 0} (d : Dec P) (e : Dec Q) (m w : Mark) (o : Option (Share × Mark))
    → OpDef cell (when_both d e (full_share, m)) o → OpDef cell (when_both d e (full_share, w)) o
remarked (yes _) (yes _) m w none h = tt
remarked (yes _) (yes _) m w (some x) h = absurd (not-OpDef-full_share x.0 h.0)
remarked (yes _) (no _) m w o h = h
remarked (no _) (yes _) m w o h = h
remarked (no _) (no _) m w o h = h

-- whoever has all of a row may mark it anew
pub mark_row_anew : (s e : ℕ) (m w : Mark) → FpUpd₁ claims.op (mark_row full_share s e m) (mark_row full_share s e w)
mark_row_anew s e m w f d = λ j. remarked (dec_le s j) (dec_lt j e) m w (f j) (d j)

agrees : {P Q R S : Type 0} (d : Dec P) (e : Dec Q) (d' : Dec R) (e' : Dec S) (a b : Share × Mark) → P → Q → R → S
    → OpDef cell (when_both d e a) (when_both d' e' b) → a.1 ≡ b.1
agrees (yes _) (yes _) (yes _) (yes _) a b p q r s h = h.1
agrees (yes _) (yes _) (yes _) (no n) a b p q r s h = absurd (n s)
agrees (yes _) (yes _) (no n) e a b p q r s h = absurd (n r)
agrees (yes _) (no n) d' e' a b p q r s h = absurd (n q)
agrees (no n) e d' e' a b p q r s h = absurd (n p)

-- two rows that have a place in common bear one mark
pub mark_row_agrees : (q r : Share) (s e t f j : ℕ) (m w : Mark) → s ≤ j → j < e → t ≤ j → j < f
    → OpDef claims.op (mark_row q s e m) (mark_row r t f w) → m ≡ w
mark_row_agrees q r s e t f j m w a b c d h =
    agrees (dec_le s j) (dec_lt j e) (dec_le t j) (dec_lt j f) (q, m) (r, w) a b c d (h j)

pub claim_keyless : (γ : GName) (s n : ℕ) (q : Share) → Keyless (claim γ s n q)
claim_keyless γ s n q = tt

-- ---- at one name
module _ {M : Type 1} {𝓤 : Ura M} (𝓛 : Logic 𝓤) where
  abbrev Pr : Type 2
  Pr = SProp 𝓤

  abbrev ⟦◌⟧ : Fml → Pr
  ⟦ P ⟧ = sem 𝓛 P

  abbrev row : GName → ℕ → ℕ → Mark → Fml
  row γ s e m = fown claims γ (mark_row full_share s e m)

  anew : (γ : GName) (s e : ℕ) (m w : Mark) → ent 𝓤 ⟦ row γ s e m ⟧ (𝓛.H.⇛ ⟦ row γ s e w ⟧)
  anew γ s e m w =
      via 𝓤 (upd 𝓤 ⟦ row γ s e w ⟧) (own_step 𝓛 claims γ (mark_row full_share s e m) (mark_row full_share s e w)
      (mark_row_anew s e m w)) (basic 𝓛 ⟦ row γ s e w ⟧)

  pub claim_new : (n : ℕ) → ent 𝓤 (emp 𝓤) (𝓛.H.⇛ (ex 𝓤 (λ (γ : GName). ⟦ claim_owns γ 0 n ⟧)))
  claim_new n =
      via 𝓤 (upd 𝓤 (ex 𝓤 (λ (γ : GName). ⟦ claim_owns γ 0 n ⟧)))
      (own_new 𝓛 claims (mark_row full_share 0 (0 + n) (0, n)))
      (basic 𝓛 (ex 𝓤 (λ (γ : GName). ⟦ claim_owns γ 0 n ⟧)))

  pub claim_cut : (γ : GName) (s n a : ℕ) → a ≤ n → ent 𝓤 ⟦ claim_owns γ s n ⟧
      (𝓛.H.⇛ (sep 𝓤 ⟦ claim_owns γ s a ⟧ ⟦ claim_owns γ (s + a) (n - a) ⟧))
  claim_cut γ s n a h =
      let end : s + n ≡ s + a + (n - a) = omega arith in
      let m : Mark = (s, n) in
      qed 𝓛 (‵ (claim_owns γ s n) ∷ []) ∵ updating ! $
      use1 𝓛 (‵ (row γ s (s + a) m) ⊛ ‵ (row γ (s + a) (s + n) m))
      (𝓛.algebras.own_cut claims γ (mark_row full_share s (s + a) m) (mark_row full_share (s + a) (s + n) m)
      (mark_row full_share s (s + n) m)
      (mark_row_meets full_share s (s + a) (s + n) m (omega arith) (omega (arith, h)))) $ split ! $
      use1 𝓛 (later (‵ (claim_owns γ s a))) (anew γ s (s + a) m (s, a)) $ await ! tt $ move ! (1 ∷ []) $
      rewrite ! 0 (λ e. ‵ (row γ (s + a) e m)) end refl $
      use1 𝓛 (later (‵ (claim_owns γ (s + a) (n - a)))) (anew γ (s + a) (s + a + (n - a)) m (s + a, n - a)) $
      await ! tt $ move ! (1 ∷ 0 ∷ []) $ now ! $ done !

  pub claim_glue : (γ : GName) (s a b : ℕ) → ent 𝓤 (sep 𝓤 ⟦ claim_owns γ s a ⟧ ⟦ claim_owns γ (s + a) b ⟧)
      (𝓛.H.⇛ ⟦ claim_owns γ s (a + b) ⟧)
  claim_glue γ s a b =
      let end : s + a + b ≡ s + (a + b) = omega arith in
      let m : Mark = (s, a + b) in
      qed 𝓛 (‵ (claim_owns γ s a) ∷ ‵ (claim_owns γ (s + a) b) ∷ []) ∵ updating ! $
      use1 𝓛 (later (‵ (row γ s (s + a) m))) (anew γ s (s + a) (s, a) m) $ await ! tt $ move ! (1 ∷ []) $
      use1 𝓛 (later (‵ (row γ (s + a) (s + a + b) m))) (anew γ (s + a) (s + a + b) (s + a, b) m) $ await ! tt $
      rewrite ! 0 (λ e. ‵ (row γ (s + a) e m)) end refl $ move ! (1 ∷ 0 ∷ []) $
      use2 𝓛 (‵ (claim_owns γ s (a + b)))
      (own_join 𝓛 claims γ (mark_row full_share s (s + a) m) (mark_row full_share (s + a) (s + (a + b)) m)
      (mark_row full_share s (s + (a + b)) m)
      (mark_row_meets full_share s (s + a) (s + (a + b)) m (omega arith) (omega arith))) $ now ! $ done !

  pub claim_halves : (γ : GName) (s n : ℕ) → Halves 𝓤 𝓛.H 𝓛.A (claim γ s n)
  claim_halves γ s n =
      let m : Mark = (s, n) in
      let r = λ (q : Share). mark_row q s (s + n) m in
      record {
        cut =
            λ q. 𝓛.algebras.own_cut claims γ (r (Share.left q)) (r (Share.right q)) (r q)
            (mark_row_halved q (Share.left q) (Share.right q) s (s + n) m (Share.halves q));
        join =
            λ q. own_join 𝓛 claims γ (r (Share.left q)) (r (Share.right q)) (r q)
            (mark_row_halved q (Share.left q) (Share.right q) s (s + n) m (Share.halves q));
      }

  met : (γ : GName) (s n t m : ℕ) (q r : Share) → 0 < n → 0 < m
      → OpDef claims.op (mark_row q s (s + n) (s, n)) (mark_row r t (t + m) (t, m)) → (d : Dec (s + n ≤ t))
      → (e : Dec (t + m ≤ s)) → ApartAt s n t m
  met γ s n t m q r p k h (yes d) e = inr (inl d)
  met γ s n t m q r p k h (no d) (yes e) = inr (inr e)
  met γ s n t m q r p k h (no d) (no e) =
      let same = mark_row_agrees q r s (s + n) t (t + m) (max s t) (s, n) (t, m) (omega arith) (omega arith)
      (omega arith) (omega arith) h in
      inl (ap (λ (x : Mark). x.0) same, ap (λ (x : Mark). x.1) same)

  -- two shares of claims under one name are of one piece, or of pieces that lie apart
  pub claims_apart : (γ : GName) (s n t m : ℕ) (q r : Share) → 0 < n → 0 < m
      → ent 𝓤 (sep 𝓤 ⟦ claim γ s n q ⟧ ⟦ claim γ t m r ⟧)
      (guard 𝓤 (ApartAt s n t m) (sep 𝓤 ⟦ claim γ s n q ⟧ ⟦ claim γ t m r ⟧))
  claims_apart γ s n t m q r p k =
      let Z : Pr = sep 𝓤 ⟦ claim γ s n q ⟧ ⟦ claim γ t m r ⟧ in
      own_sum 𝓛 claims γ (mark_row q s (s + n) (s, n)) (mark_row r t (t + m) (t, m)) (guard 𝓤 (ApartAt s n t m) Z)
      (λ c x.
      guard_i 𝓤 (ApartAt s n t m) Z (met γ s n t m q r p k x.0 (dec_le (s + n) t) (dec_le (t + m) s)))

  -- the same of what two `&`s show
  pub claims_seen : (κ : Lft) (q : Share) (γ : GName) (s n t m : ℕ) → 0 < n → 0 < m
      → ent 𝓤 (sep 𝓤 ⟦ fshr_bor κ (claim γ s n) ⟧ (sep 𝓤 ⟦ fshr_bor κ (claim γ t m) ⟧ ⟦ flft κ q ⟧))
      (𝓛.H.⇛ (guard 𝓤 (ApartAt s n t m) ⟦ flft κ q ⟧))
  claims_seen κ q γ s n t m p k =
      qed 𝓛 (‵ (fshr_bor κ (claim γ s n)) ∷ ‵ (fshr_bor κ (claim γ t m)) ∷ ‵ (flft κ q) ∷ []) ∵ updating ! $
      move ! (2 ∷ []) $
      use1 𝓛 (‵ (flft κ (Share.left q)) ⊛ ‵ (flft κ (Share.right q))) (𝓛.lfts.lft_split κ q) $ split ! $
      move ! (2 ∷ 0 ∷ []) $
      shr_bor-open ! tt (claim_halves γ s n) (λ a. move ! (3 ∷ 2 ∷ []) $
      shr_bor-open ! tt (claim_halves γ t m) (λ b. move ! (3 ∷ 1 ∷ []) $
      use2 𝓛 (given (ApartAt s n t m) (‵ (claim γ s n a) ⊛ ‵ (claim γ t m b))) (claims_apart γ s n t m a b p k) $
      learn ! (λ far. split ! $
      move ! (3 ∷ 0 ∷ []) $ obor_close ! tt $ drop ! $ move ! (2 ∷ 1 ∷ []) $ obor_close ! tt $ drop ! $
      move ! (1 ∷ 0 ∷ []) $
      use2 𝓛 (‵ (flft κ q)) (𝓛.lfts.lft_join κ q) $ now ! $ check ! far $ done !)))

  seen_by : (κ : Lft) (q : Share) (γ δ : GName) (s n t m : ℕ) → 0 < n → 0 < m → Dec (δ ≡ γ)
      → ent 𝓤 (sep 𝓤 ⟦ fshr_bor κ (claim γ s n) ⟧ (sep 𝓤 ⟦ fshr_bor κ (claim δ t m) ⟧ ⟦ flft κ q ⟧))
      (𝓛.H.⇛ (guard 𝓤 (δ ≡ γ → ApartAt s n t m) ⟦ flft κ q ⟧))
  seen_by κ q γ δ s n t m p k (yes e) =
      qed 𝓛 (‵ (fshr_bor κ (claim γ s n)) ∷ ‵ (fshr_bor κ (claim δ t m)) ∷ ‵ (flft κ q) ∷ []) ∵ updating ! $
      rewrite ! 1 (λ α. ‵ (fshr_bor κ (claim α t m))) e refl $
      use3 𝓛 (later (given (ApartAt s n t m) (‵ (flft κ q)))) (claims_seen κ q γ s n t m p k) $ await ! tt $
      learn ! (λ far. now ! $ check ! (λ _. far) $ done !)
  seen_by κ q γ δ s n t m p k (no ne) =
      qed 𝓛 (‵ (fshr_bor κ (claim γ s n)) ∷ ‵ (fshr_bor κ (claim δ t m)) ∷ ‵ (flft κ q) ∷ []) ∵ updating ! $
      drop ! $ drop ! $ now ! $ check ! (λ e. absurd (ne e)) $ done !

  pub claims_seen_apart : (κ : Lft) (q : Share) (γ δ : GName) (s n t m : ℕ) → 0 < n → 0 < m
      → ent 𝓤 (sep 𝓤 ⟦ fshr_bor κ (claim γ s n) ⟧ (sep 𝓤 ⟦ fshr_bor κ (claim δ t m) ⟧ ⟦ flft κ q ⟧))
      (𝓛.H.⇛ (guard 𝓤 (δ ≡ γ → ApartAt s n t m) ⟦ flft κ q ⟧))
  claims_seen_apart κ q γ δ s n t m p k = seen_by κ q γ δ s n t m p k (ℕ_discrete δ γ)
