-- What the last line says that says anything.
use Rattle.std.proofs.Common.{⊎_elim, inl, inr, ◌≡◌, ℕ, zero, suc, ◌<◌, Bool, true, false, List, [], ◌∷◌, Option, Some, None, refl, sym, ap, arith, ◌∙◌, eqb-true, eq-eqb}
use Rattle.std.specs.Prelude.{◌⊎◌, nat_eq, if◌then◌else◌, slice_get}
use Rattle.std.specs.Option.{option_or}
use Rattle.pool_law.proofs.SameLemmas.{and-first, and-second}
use Rattle.pool_law.proofs.PatternLemmas.{both_true}
use Rattle.run_text.specs.Lines.{Line, keyed, last, same_key}

-- none of these lines says anything
abbrev pub SayNone : {X : Type 0} → (Line → Option X) → List Line → Type 0
SayNone says lines = (j : ℕ) (l : Line) → slice_get lines j ≡ Some l → says l ≡ None

pub last-none : {X : Type 0} (says : Line → Option X) (lines : List Line) → SayNone says lines
    → last says lines ≡ None
last-none says [] none = refl
last-none says (l ∷ lines) none =
    ap (λ o. option_or o (says l)) (last-none says lines (λ j m e. none (suc j) m e)) ∙ none 0 l refl

-- where a line says this, and none behind it says anything
pub last-is : {X : Type 0} (says : Line → Option X) (lines : List Line) (i : ℕ) (line : Line) (x : X)
    → slice_get lines i ≡ Some line → says line ≡ Some x
    → ((j : ℕ) (l : Line) → i < j → slice_get lines j ≡ Some l → says l ≡ None) → last says lines ≡ Some x
last-is says [] i line x there is none = absurd (cc there)
last-is says (l ∷ lines) zero line x there is none =
    let same : l ≡ line = cc there in
    ap (λ o. option_or o (says l)) (last-none says lines (λ j m e. none (suc j) m (omega arith) e))
    ∙ ap says same ∙ is
last-is says (l ∷ lines) (suc i) line x there is none =
    ap (λ o. option_or o (says l))
    (last-is says lines i line x there is (λ j m low e. none (suc j) m (omega (arith, low)) e))

-- the line that says this, behind which none says anything
pub record LastOf {X : Type 0} (says : Line → Option X) (lines : List Line) (x : X) : Type 0 where
  pub at : ℕ
  pub line : Line
  pub there : slice_get lines at ≡ Some line
  pub is : says line ≡ Some x
  pub none : (j : ℕ) (l : Line) → at < j → slice_get lines j ≡ Some l → says l ≡ None

-- either no line says anything, or there is a last that does
abbrev pub HasLast : {X : Type 0} → (Line → Option X) → List Line → Type 0
HasLast {X} says lines =
    ((last says lines ≡ None) × SayNone says lines)
    ⊎ ((x : X) × (last says lines ≡ Some x) × LastOf says lines x)

pub last-or : {X : Type 0} (says : Line → Option X) (lines : List Line) → HasLast says lines
last-or says [] = inl (refl, λ j l e. absurd (cc e))
last-or {X} says (l ∷ lines) =
    ⊎_elim
    (λ still. go (says l) refl still.0 still.1)
    (λ found. inr (found.0, ap (λ o. option_or o (says l)) found.1, later found.0 found.2))
    (last-or says lines)
  where
    later : (x : X) → LastOf says lines x → LastOf says (l ∷ lines) x
    later x f = record { at = suc f.at; line = f.line; there = f.there; is = f.is; none = behind }
      where
        behind : (j : ℕ) (m : Line) → suc f.at < j → slice_get (l ∷ lines) j ≡ Some m → says m ≡ None
        behind zero m low e = absurd (omega (arith, low))
        behind (suc j) m low e = f.none j m (omega (arith, low)) e

    go : (o : Option X) → says l ≡ o → last says lines ≡ None → SayNone says lines → HasLast says (l ∷ lines)
    go None is rest none = inl (ap (λ o. option_or o (says l)) rest ∙ is, all)
      where
        all : SayNone says (l ∷ lines)
        all zero m e = let same : l ≡ m = cc e in ap says (sym same) ∙ is
        all (suc j) m e = none j m e
    go (Some x) is rest none =
        inr (
          x,
          ap (λ o. option_or o (says l)) rest ∙ is,
          record { at = 0; line = l; there = refl; is = is; none = behind },
        )
      where
        behind : (j : ℕ) (m : Line) → 0 < j → slice_get (l ∷ lines) j ≡ Some m → says m ≡ None
        behind zero m low e = absurd (omega (arith, low))
        behind (suc j) m low e = none j m e

-- where one line says this, and no line anything else
pub last-only : {X : Type 0} (says : Line → Option X) (lines : List Line) (x : X) (i : ℕ) (line : Line)
    → slice_get lines i ≡ Some line → says line ≡ Some x
    → ((j : ℕ) (l : Line) (y : X) → slice_get lines j ≡ Some l → says l ≡ Some y → y ≡ x)
    → last says lines ≡ Some x
last-only {X} says lines x i line there is only =
    ⊎_elim
    (λ still. let both : ◌≡◌ {A = Option X} None (Some x) = sym (still.1 i line there) ∙ is in absurd (cc both))
    (λ found.
    let f : LastOf says lines found.0 = found.2 in
    found.1 ∙ ap (λ y. Some y) (only f.at f.line found.0 f.there f.is))
    (last-or says lines)

-- ---- Keys.

pub same_key-is : (a b : ℕ × ℕ) → same_key a b ≡ true → a ≡ b
same_key-is a b e =
    let first : a.0 ≡ b.0 = eqb-true a.0 b.0 (and-first (nat_eq a.0 b.0) (nat_eq a.1 b.1) e) in
    let second : a.1 ≡ b.1 = eqb-true a.1 b.1 (and-second (nat_eq a.0 b.0) (nat_eq a.1 b.1) e) in
    λ i. (first i, second i)

pub same_key-refl : (a : ℕ × ℕ) → same_key a a ≡ true
same_key-refl a =
    both_true (nat_eq a.0 a.0) (nat_eq a.1 a.1) (eq-eqb a.0 a.0 refl) (eq-eqb a.1 a.1 refl)

-- what is there and has this key
pub keyed-some : {X : Type 0} (key : X → ℕ × ℕ) (k : ℕ × ℕ) (o : Option X) (x : X) → keyed key k o ≡ Some x
    → (o ≡ Some x) × (key x ≡ k)
keyed-some key k None x e = absurd (cc e)
keyed-some {X} key k (Some y) x e = go (same_key (key y) k) refl e
  where
    go : (b : Bool) → same_key (key y) k ≡ b → (if b then Some y else None) ≡ Some x
        → (Some y ≡ Some x) × (key x ≡ k)
    go true test is =
        let same : y ≡ x = cc is in
        (is, ap key (sym same) ∙ same_key-is (key y) k test)
    go false test is = absurd (cc is)

pub keyed-own : {X : Type 0} (key : X → ℕ × ℕ) (k : ℕ × ℕ) (o : Option X) (x : X) → o ≡ Some x → key x ≡ k
    → keyed key k o ≡ Some x
keyed-own key k o x is own =
    ap (keyed key k) is
    ∙ ap (λ b. if b then Some x else None) (ap (same_key (key x)) (sym own) ∙ same_key-refl (key x))

-- nothing else has it
pub keyed-none : {X : Type 0} (key : X → ℕ × ℕ) (k : ℕ × ℕ) (o : Option X)
    → ((x : X) → o ≡ Some x → key x ≡ k → ⊥) → keyed key k o ≡ None
keyed-none key k None other = refl
keyed-none {X} key k (Some y) other = go (same_key (key y) k) refl
  where
    go : (b : Bool) → same_key (key y) k ≡ b → (if b then Some y else None) ≡ None
    go true test = absurd (other y refl (same_key-is (key y) k test))
    go false test = refl
