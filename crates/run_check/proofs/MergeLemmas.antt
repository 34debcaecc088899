-- A history is merged from the notes of the lanes, one number after another.
use Rattle.std.proofs.Common.{◌≡◌, ℕ, ◌+◌, Bool, true, false, List, [], ◌∷◌, ◌++◌, length, Some, None, refl, sym, ap, subst, eqb-true, eq-eqb, arith, ◌∙◌, append-nil}
use Rattle.std.specs.Prelude.{◌==◌, if◌then◌else◌}
use Rattle.pool_law.specs.declared.note.Did.{Did}
use Rattle.pool_law.specs.Logs.{History, numbered, with_number}
use Rattle.pool_law.proofs.HistoryLemmas.{numbered-append, with_number-below, append-assoc}
use Rattle.run_check.specs.Gathering.{AreNumbered}

-- what is left once a lane's first note is merged
abbrev pub without_first : ℕ → List (ℕ × Did) → (ℕ → List (ℕ × Did)) → ℕ → List (ℕ × Did)
without_first lane rest left l = if lane == l then rest else left l

-- the notes of a lane that a history begins with are its first's, or are of the rest
pub numbered-own : (k : ℕ) (e : ℕ × Did) (h : History) → numbered e.0 k (e ∷ h) ≡ (k, e.1) ∷ numbered e.0 (k + 1) h
numbered-own k e h = let same : (e.0 == e.0) ≡ true = eq-eqb e.0 e.0 refl in rw same refl

pub numbered-other : (lane k : ℕ) (e : ℕ × Did) (h : History) → (e.0 == lane) ≡ false →
    numbered lane k (e ∷ h) ≡ numbered lane (k + 1) h
numbered-other lane k e h other = rw other refl

-- the first of a list, and the others
abbrev pub did_first : Did → List (ℕ × Did) → Did
did_first did [] = did
did_first did (x ∷ xs) = x.1

abbrev others_of : List (ℕ × Did) → List (ℕ × Did)
others_of [] = []
others_of (x ∷ xs) = xs

-- where a lane has the next number, a history goes on with its note
pub record GoesOnWith (k lane : ℕ) (did : Did) (rest : List (ℕ × Did)) (left : ℕ → List (ℕ × Did)) (h : History) :
    Type 0 where
  pub later : History
  pub is : h ≡ (lane, did) ∷ later
  pub numbers : AreNumbered (k + 1) (without_first lane rest left) later

no-lesser : (k lane : ℕ) (did : Did) (rest : List (ℕ × Did)) (h : History) →
    (k, did) ∷ rest ≡ numbered lane (k + 1) h → ⊥
no-lesser k lane did rest h e =
    let same : (k == k) ≡ true = eq-eqb k k refl in
    let here : with_number k ((k, did) ∷ rest) ≡ Some did = rw same refl in
    let none : with_number k (numbered lane (k + 1) h) ≡ None = with_number-below lane (k + 1) k h (omega arith) in
    let both : Some did ≡ None = sym here ∙ ap (with_number k) e ∙ none in
    cc both

pub merge-found : (k lane : ℕ) (did : Did) (rest : List (ℕ × Did)) (left : ℕ → List (ℕ × Did)) (h : History) →
    left lane ≡ (k, did) ∷ rest → AreNumbered k left h → GoesOnWith k lane did rest left h
merge-found k lane did rest left [] first whole =
    let none : (k, did) ∷ rest ≡ [] = sym first ∙ whole lane in absurd (cc none)
merge-found k lane did rest left (e ∷ h) first whole = go (e.0 == lane) refl
  where
    go : (b : Bool) → (e.0 == lane) ≡ b → GoesOnWith k lane did rest left (e ∷ h)
    go false other = absurd (no-lesser k lane did rest h (sym first ∙ whole lane ∙ numbered-other lane k e h other))
    go true same =
        let of : e.0 ≡ lane = eqb-true e.0 lane same in
        let own : (k, did) ∷ rest ≡ (k, e.1) ∷ numbered lane (k + 1) h =
        sym first
        ∙ whole lane
        ∙ subst (λ (l : ℕ). numbered l k (e ∷ h) ≡ (k, e.1) ∷ numbered l (k + 1) h) of (numbered-own k e h) in
        let this : did ≡ e.1 = ap (did_first did) own in
        let others : rest ≡ numbered lane (k + 1) h = ap others_of own in
        let numbers : AreNumbered (k + 1) (without_first lane rest left) h = (λ l. each l (lane == l) refl of others) in
        record { later = h; is = λ i. (of i, sym this i) ∷ h; numbers = numbers }
      where
        each : (l : ℕ) (b : Bool) → (lane == l) ≡ b → e.0 ≡ lane → rest ≡ numbered lane (k + 1) h →
            without_first lane rest left l ≡ numbered l (k + 1) h
        each l true here of others =
            rw here (others ∙ ap (λ (n : ℕ). numbered n (k + 1) h) (eqb-true lane l here))
        each l false here of others =
            let other : (e.0 == l) ≡ false = ap (λ (n : ℕ). n == l) of ∙ here in
            rw here (whole l ∙ numbered-other l k e h other)

-- where no lane has the next number, nothing is left
pub merge-stuck : (k : ℕ) (left : ℕ → List (ℕ × Did)) (h : History) → AreNumbered k left h →
    ((lane : ℕ) (did : Did) (rest : List (ℕ × Did)) → left lane ≡ (k, did) ∷ rest → ⊥) → (lane : ℕ) → left lane ≡ []
merge-stuck k left [] whole never lane = whole lane
merge-stuck k left (e ∷ h) whole never lane =
    absurd (never e.0 e.1 (numbered e.0 (k + 1) h) (whole e.0 ∙ numbered-own k e h))

-- one more note behind those that are merged
pub merge-push : (all : ℕ → List (ℕ × Did)) (left : ℕ → List (ℕ × Did)) (h : History) (lane : ℕ) (did : Did)
    (rest : List (ℕ × Did)) → left lane ≡ (length h + 1, did) ∷ rest →
    ((l : ℕ) → all l ≡ numbered l 1 h ++ left l) →
    (l : ℕ) → all l ≡ numbered l 1 (h ++ (lane, did) ∷ []) ++ without_first lane rest left l
merge-push all left h lane did rest first so_far l = so_far l ∙ go (lane == l) refl
  where
    go : (b : Bool) → (lane == l) ≡ b →
        numbered l 1 h ++ left l ≡ numbered l 1 (h ++ (lane, did) ∷ []) ++ without_first lane rest left l
    go true here =
        let same : lane ≡ l = eqb-true lane l here in
        let next : length h + 1 ≡ 1 + length h = omega arith in
        let mine : left l ≡ (1 + length h, did) ∷ rest =
        ap left (sym same) ∙ first ∙ ap (λ (n : ℕ). (n, did) ∷ rest) next in
        let pushed : numbered l 1 (h ++ (lane, did) ∷ []) ≡ numbered l 1 h ++ (1 + length h, did) ∷ [] =
        numbered-append l 1 h (lane, did)
        ∙ ap (λ (b : Bool). numbered l 1 h ++ (if b then (1 + length h, did) ∷ [] else [])) here in
        rw here
        (ap (λ (xs : List (ℕ × Did)). numbered l 1 h ++ xs) mine
        ∙ sym (append-assoc (numbered l 1 h) ((1 + length h, did) ∷ []) rest)
        ∙ ap (λ (xs : List (ℕ × Did)). xs ++ rest) (sym pushed))
    go false here =
        let pushed : numbered l 1 (h ++ (lane, did) ∷ []) ≡ numbered l 1 h =
        numbered-append l 1 h (lane, did)
        ∙ ap (λ (b : Bool). numbered l 1 h ++ (if b then (1 + length h, did) ∷ [] else [])) here
        ∙ append-nil (numbered l 1 h) in
        rw here (ap (λ (xs : List (ℕ × Did)). xs ++ left l) (sym pushed))
