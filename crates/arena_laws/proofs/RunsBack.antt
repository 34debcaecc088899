-- Which runs of a chunk are in use after a change: those that were, and the one that is new.
use Rattle.std.proofs.Common.{⊎_elim, ◌≡◌, ◌≢◌, inl, inr, ℕ, zero, suc, ◌+◌, ◌-◌, ◌≤◌, List, [], ◌∷◌, ◌++◌, refl, sym, subst, arith, true, false, eq-eqb, ne_eqb}
use Rattle.std.specs.Prelude.{◌⊎◌, ◌==◌, if◌then◌else◌}
use Rattle.size_classes.specs.Pages.{Run, Free, Used, pages_in, total_pages, NoneEmpty, taken_at, given_at, replaced, front_used, freed, rest_of, joined, merged}
use Rattle.size_classes.specs.Runs.{Begins}
use Rattle.size_classes.proofs.Runs.{rest_of-total, replaced-keeps, merged-keeps}

-- a run of two lists is one of the first, or of the second
pub append-back : {U : Type 0} (xs ys : List (Run U)) (p : ℕ) (r : Run U) → Begins p r (xs ++ ys) →
    Begins p r xs ⊎ ((k : ℕ) × (p ≡ total_pages xs + k) × Begins k r ys)
append-back [] ys p r b = inr (p, omega arith, b)
append-back (x ∷ xs) ys p r (inl b) = inl (inl b)
append-back (x ∷ xs) ys p r (inr b) =
    ⊎_elim (λ c. inl (inr (b.0, b.1, c))) (λ c. inr (c.0, omega (arith, b.1, c.1), c.2)) (append-back xs ys b.0 r b.2)

-- after one is replaced by others of as many pages, a run is one of these, or was there elsewhere
pub replaced-back : {U : Type 0} (rs : List (Run U)) (at p : ℕ) (by : Run U → List (Run U)) (s r : Run U) →
    NoneEmpty rs → Begins at s rs → total_pages (by s) ≡ pages_in s → Begins p r (replaced at by rs) →
    ((k : ℕ) × (p ≡ at + k) × Begins k r (by s)) ⊎ ((p ≢ at) × Begins p r rs)
replaced-back [] at p by s r ne b t c = absurd b
replaced-back (u ∷ us) at p by s r ne (inl b) t c =
    let is_zero : (at == 0) ≡ true = eq-eqb at 0 b.0 in
    let pages : total_pages (by u) ≡ pages_in u = subst (λ x. total_pages (by x) ≡ pages_in x) b.1 t in
    let d : Begins p r (by u ++ us) = subst
    (λ z. Begins p r (if z then by u ++ us else u ∷ replaced (at - pages_in u) by us)) is_zero c in
    ⊎_elim
    (λ e. inl (p, omega (arith, b.0), subst (λ x. Begins p r (by x)) (sym b.1) e))
    (λ e. inr ((λ same. omega (arith, same, b.0, e.1, pages, ne.0)), inr (e.0, omega (arith, e.1, pages), e.2)))
    (append-back (by u) us p r d)
replaced-back (u ∷ us) at p by s r ne (inr b) t c =
    let not_zero : (at == 0) ≡ false = ne_eqb at 0 (λ e. omega (arith, ne.0, b.1)) in
    let rest : at - pages_in u ≡ b.0 = omega (arith, b.1) in
    let d : Begins p r (u ∷ replaced (at - pages_in u) by us) =
    subst (λ z. Begins p r (if z then by u ++ us else u ∷ replaced (at - pages_in u) by us)) not_zero c in
    ⊎_elim
    (λ e. inr ((λ same. omega (arith, same, e.0, b.1, ne.0)), inl e))
    (λ e. ⊎_elim
    (λ f. inl (f.0, omega (arith, b.1, e.1, f.1), f.2))
    (λ f. inr ((λ same. f.0 (omega (arith, same, b.1, e.1))), inr (e.0, e.1, f.1)))
    (replaced-back us b.0 e.0 by s r ne.1 b.2 t (subst (λ n. Begins e.0 r (replaced n by us)) rest e.2)))
    d

-- a run that is in use was in use before free runs became one
pub joined-back : {U : Type 0} (t : Run U) (rs : List (Run U)) (p m : ℕ) (w : U) → Begins p (Used m w) (joined t rs) →
    Begins p (Used m w) (t ∷ rs)
joined-back (Free n) (Free k ∷ rs) p m w (inl b) = absurd (cc b.1)
joined-back (Free n) (Free k ∷ rs) p m w (inr b) = inr (k + b.0, omega (arith, b.1), inr (b.0, refl, b.2))
joined-back (Free n) (Used k v ∷ rs) p m w b = b
joined-back (Free n) [] p m w b = b
joined-back (Used n v) rs p m w b = b

pub merged-back : {U : Type 0} (rs : List (Run U)) (p m : ℕ) (w : U) → Begins p (Used m w) (merged rs) →
    Begins p (Used m w) rs
merged-back [] p m w b = b
merged-back (t ∷ ts) p m w b =
    ⊎_elim (λ c. inl c) (λ c. inr (c.0, c.1, merged-back ts c.0 m w c.2)) (joined-back t (merged ts) p m w b)

no-used : {U : Type 0} (n p m : ℕ) (w : U) → Begins p (Used m w) (rest_of n) → ⊥
no-used zero p m w b = b
no-used (suc n) p m w (inl b) = cc b.1
no-used (suc n) p m w (inr b) = b.2

module _ {U : Type 0} (rs : List (Run U)) (ne : NoneEmpty rs) where
  -- the runs in use once pages of a free run are taken
  pub taken-back : (at n pages : ℕ) (what : U) → Begins at (Free n) rs → pages ≤ n →
      (p m : ℕ) (w : U) → Begins p (Used m w) (taken_at at pages what rs) →
      ((p ≡ at) × (Used m w ≡ Used pages what)) ⊎ ((p ≢ at) × Begins p (Used m w) rs)
  taken-back at n pages what here fits p m w b =
      ⊎_elim (λ c. inl (front c.0 c.1 c.2)) (λ c. inr c)
      (replaced-back rs at p (front_used pages what) (Free n) (Used m w) ne here
      (omega (arith, rest_of-total U (n - pages), fits)) b)
    where
      front : (k : ℕ) → p ≡ at + k → Begins k (Used m w) (Used pages what ∷ rest_of (n - pages))
          → (p ≡ at) × (Used m w ≡ Used pages what)
      front k is (inl c) = (omega (arith, is, c.0), c.1)
      front k is (inr c) = absurd (no-used (n - pages) c.0 m w c.2)

  -- the runs in use once one of them is given back
  pub given-back : (page m : ℕ) (what : U) → Begins page (Used m what) rs → (p n : ℕ) (w : U) →
      Begins p (Used n w) (given_at page rs) → (p ≢ page) × Begins p (Used n w) rs
  given-back page m what here p n w b =
      ⊎_elim (λ c. absurd (none c.0 c.2)) (λ c. c)
      (replaced-back rs page p freed (Used m what) (Used n w) ne here (omega arith)
      (merged-back (replaced page freed rs) p n w b))
    where
      none : (k : ℕ) → Begins k (Used n w) (Free m ∷ []) → ⊥
      none k (inl c) = cc c.1
      none k (inr c) = c.2

  pub given-keeps : (page m : ℕ) (what : U) → Begins page (Used m what) rs → (p n : ℕ) (w : U) → p ≢ page →
      Begins p (Used n w) rs → Begins p (Used n w) (given_at page rs)
  given-keeps page m what here p n w other b =
      merged-keeps (replaced page freed rs) p n w
      (replaced-keeps rs page p freed (Used m what) (Used n w) ne here (omega arith) b other)

  -- the runs in use once the use of one of them is another
  pub changed-back : (page m : ℕ) (what : U) (by : Run U → List (Run U)) (v : U) → Begins page (Used m what) rs →
      by (Used m what) ≡ Used m v ∷ [] → (p n : ℕ) (w : U) → Begins p (Used n w) (replaced page by rs) →
      ((p ≡ page) × (Used n w ≡ Used m v)) ⊎ ((p ≢ page) × Begins p (Used n w) rs)
  changed-back page m what by v here is p n w b =
      ⊎_elim (λ c. inl (only c.0 c.1 (subst (λ xs. Begins c.0 (Used n w) xs) is c.2))) (λ c. inr c)
      (replaced-back rs page p by (Used m what) (Used n w) ne here (rw is (omega arith)) b)
    where
      only : (k : ℕ) → p ≡ page + k → Begins k (Used n w) (Used m v ∷ []) → (p ≡ page) × (Used n w ≡ Used m v)
      only k at (inl c) = (omega (arith, at, c.0), c.1)
      only k at (inr c) = absurd c.2
