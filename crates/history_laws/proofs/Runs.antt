-- Histories as steps from state to state: how a run of an object is taken apart, and what its steps add up to.
use Rattle.std.proofs.Common.{◌≡◌, ℕ, ◌+◌, List, [], ◌∷◌, ◌++◌, sym, refl, ap, ◌∙◌, subst, arith, Some, None}
use Rattle.std.specs.Prelude.{Option, IsTrue, is_some, sum_by, option_and_then}
use Rattle.std.proofs.lemmas.List.Sums.{sum_by-cons}
use Rattle.pool_law.specs.declared.note.Did.{Did}
use Rattle.pool_law.specs.declared.note.Noted.{Noted}
use Rattle.pool_law.specs.declared.note.Object.{Object}
use Rattle.pool_law.specs.Histories.{after}
use Rattle.pool_law.specs.NotedHistories.{noted_dids, IsRightAt}
use Rattle.history_laws.specs.Histories.{AreRight}

pub there : {X : Type 0} (o : Option X) → IsTrue (is_some o) → (x : X) × (o ≡ Some x)
there None h = absurd (cc h)
there (Some x) h = (x, refl)

-- what is there is one thing
pub one_there : {X : Type 0} (o : Option X) (x y : X) → o ≡ Some x → o ≡ Some y → x ≡ y
one_there o x y a b = let e : Some x ≡ Some y = sym a ∙ b in cc e

-- the notes lead from x to y
abbrev pub Runs : {S : Type 0} → (S → Noted → S → Type 0) → S → List Noted → S → Type 0
Runs step x [] y = x ≡ y
Runs {S = S} step x (n ∷ ns) y = (z : S) × step x n z × Runs step z ns y

module _ {S : Type 0} (real : S → Did → Option S) where
  -- the last note of a history, between what the others make and what it makes
  pub last_note : (h : List Noted) (n : Noted) (a b : S) → after real a (noted_dids (h ++ n ∷ [])) ≡ Some b →
      (x : S) × (after real a (noted_dids h) ≡ Some x) × (real x n.did ≡ Some b)
  last_note [] n a b e = (a, refl, go (real a n.did) e)
    where
      go : (o : Option S) → option_and_then (λ t. after real t []) o ≡ Some b → o ≡ Some b
      go None e = absurd (cc e)
      go (Some x) e = e
  last_note (m ∷ h) n a b e = go (real a m.did) refl e (λ t. last_note h n t b)
    where
      go : (o : Option S) → real a m.did ≡ o → option_and_then (λ t. after real t (noted_dids (h ++ n ∷ []))) o ≡ Some b
          →
          ((t : S) → after real t (noted_dids (h ++ n ∷ [])) ≡ Some b
          → (x : S) × (after real t (noted_dids h) ≡ Some x) × (real x n.did ≡ Some b)) →
          (x : S) × (option_and_then (λ t. after real t (noted_dids h)) (real a m.did) ≡ Some x)
          × (real x n.did ≡ Some b)
      go None is e more = absurd (cc e)
      go (Some t) is e more =
          let rest = more t e in
          (rest.0, ap (λ (o : Option S). option_and_then (λ t. after real t (noted_dids h)) o) is ∙ rest.1, rest.2)

  -- one note more
  pub next_note : (h : List Noted) (n : Noted) (a x b : S) → after real a (noted_dids h) ≡ Some x
      → real x n.did ≡ Some b →
      after real a (noted_dids (h ++ n ∷ [])) ≡ Some b
  next_note [] n a x b e f =
      let same : a ≡ x = cc e in
      ap (λ (o : Option S). option_and_then (λ t. after real t []) o) (ap (λ s. real s n.did) same ∙ f)
  next_note (m ∷ h) n a x b e f = go (real a m.did) refl e (λ t e. next_note h n t x b e f)
    where
      go : (o : Option S) → real a m.did ≡ o → option_and_then (λ t. after real t (noted_dids h)) o ≡ Some x →
          ((t : S) → after real t (noted_dids h) ≡ Some x → after real t (noted_dids (h ++ n ∷ [])) ≡ Some b) →
          option_and_then (λ t. after real t (noted_dids (h ++ n ∷ []))) (real a m.did) ≡ Some b
      go None is e more = absurd (cc e)
      go (Some t) is e more =
          ap (λ (o : Option S). option_and_then (λ t. after real t (noted_dids (h ++ n ∷ []))) o) is ∙ more t e

  -- a fact that each step keeps
  pub kept : (Inv : S → Type 0) → ((x y : S) (d : Did) → Inv x → real x d ≡ Some y → Inv y) → (h : List Noted) (x y : S)
      → Inv x →
      after real x (noted_dids h) ≡ Some y → Inv y
  kept Inv one [] x y fine e = let same : x ≡ y = cc e in subst Inv same fine
  kept Inv one (n ∷ ns) x y fine e = go (real x n.did) refl e (λ z fine. kept Inv one ns z y fine)
    where
      go : (o : Option S) → real x n.did ≡ o → option_and_then (λ t. after real t (noted_dids ns)) o ≡ Some y →
          ((z : S) → Inv z → after real z (noted_dids ns) ≡ Some y → Inv y) → Inv y
      go None is e rest = absurd (cc e)
      go (Some z) is e rest = rest z (one x z n.did fine is) e

  -- a history is a run, by a fact that each step keeps
  pub told : (o : Object) (Inv : List Noted → S → Type 0) (step : S → Noted → S → Type 0) →
      ((before : List Noted) (x y : S) (n : Noted) → Inv before x → IsRightAt o before n → real x n.did ≡ Some y
      → step x n y × Inv (before ++ n ∷ []) y) →
      (h before : List Noted) (x y : S) → Inv before x → AreRight o before h → after real x (noted_dids h) ≡ Some y
      → Runs step x h y
  told o Inv step one [] before x y fine right e = cc e
  told o Inv step one (n ∷ ns) before x y fine right e =
      go (real x n.did) refl e (λ z fine. told o Inv step one ns (before ++ n ∷ []) z y fine right.1)
    where
      go : (p : Option S) → real x n.did ≡ p → option_and_then (λ t. after real t (noted_dids ns)) p ≡ Some y →
          ((z : S) → Inv (before ++ n ∷ []) z → after real z (noted_dids ns) ≡ Some y → Runs step z ns y)
          → Runs step x (n ∷ ns) y
      go None is e rest = absurd (cc e)
      go (Some z) is e rest = let t = one before x z n fine right.0 is in (z, t.0, rest z t.1 e)

module _ {S : Type 0} (step : S → Noted → S → Type 0) where
  -- where each step moves as much as its note says, so do all
  pub balance : (load : S → ℕ) (comes goes : Noted → ℕ)
      → ((x y : S) (n : Noted) → step x n y → load x + comes n ≡ goes n + load y) →
      (h : List Noted) (x y : S) → Runs step x h y → load x + sum_by comes h ≡ sum_by goes h + load y
  balance load comes goes one [] x y r = let a = ap load r in omega (arith, a)
  balance load comes goes one (n ∷ ns) x y r =
      let a = one x r.0 n r.1 in let b = balance load comes goes one ns r.0 y r.2 in
      let c = sum_by-cons comes n ns in let d = sum_by-cons goes n ns in omega (arith, a, b, c, d)

  -- a fact of the state that each step keeps
  pub keeps : (Inv : S → Type 0) → ((x y : S) (n : Noted) → step x n y → Inv x → Inv y) → (h : List Noted) (x y : S)
      → Runs step x h y → Inv x → Inv y
  keeps Inv one [] x y r fine = subst Inv r fine
  keeps Inv one (n ∷ ns) x y r fine = keeps Inv one ns r.0 y r.2 (one x r.0 n r.1 fine)

-- the notes of a history are right, so the last one is, and one more may be
right_past : (o : Object) (h before : List Noted) (n : Noted) → AreRight o before (h ++ n ∷ [])
    → IsRightAt o (before ++ h) n
right_past o [] before n r = subst (λ (b : List Noted). IsRightAt o b n) (sym (nil before)) r.0
  where
    nil : (xs : List Noted) → xs ++ [] ≡ xs
    nil [] = refl
    nil (x ∷ xs) = ap (λ (ys : List Noted). x ∷ ys) (nil xs)
right_past o (m ∷ h) before n r =
    subst (λ (b : List Noted). IsRightAt o b n) (assoc before) (right_past o h (before ++ m ∷ []) n r.1)
  where
    assoc : (xs : List Noted) → (xs ++ m ∷ []) ++ h ≡ xs ++ m ∷ h
    assoc [] = refl
    assoc (x ∷ xs) = ap (λ (ys : List Noted). x ∷ ys) (assoc xs)

pub right_last : (o : Object) (h : List Noted) (n : Noted) → AreRight o [] (h ++ n ∷ []) → IsRightAt o h n
right_last o h n r = right_past o h [] n r

right_more : (o : Object) (h before : List Noted) (n : Noted) → AreRight o before h → IsRightAt o (before ++ h) n
    → AreRight o before (h ++ n ∷ [])
right_more o [] before n r last = (subst (λ (b : List Noted). IsRightAt o b n) (nil before) last, tt)
  where
    nil : (xs : List Noted) → xs ++ [] ≡ xs
    nil [] = refl
    nil (x ∷ xs) = ap (λ (ys : List Noted). x ∷ ys) (nil xs)
right_more o (m ∷ h) before n r last = (
  r.0,
  right_more o h (before ++ m ∷ []) n r.1
      (subst (λ (b : List Noted). IsRightAt o b n) (sym (assoc before)) last),
)
  where
    assoc : (xs : List Noted) → (xs ++ m ∷ []) ++ h ≡ xs ++ m ∷ h
    assoc [] = refl
    assoc (x ∷ xs) = ap (λ (ys : List Noted). x ∷ ys) (assoc xs)

pub right_push : (o : Object) (h : List Noted) (n : Noted) → AreRight o [] h → IsRightAt o h n
    → AreRight o [] (h ++ n ∷ [])
right_push o h n r last = right_more o h [] n r last
