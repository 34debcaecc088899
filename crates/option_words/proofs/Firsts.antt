-- What all words give, from what the first of them give.
use Rattle.std.proofs.Common.{◌≡◌, ℕ, ◌<◌, List, [], ◌∷◌, length, refl, true, false, Bool, arith, Some, None, ap}
use Rattle.std.specs.Prelude.{◌&&◌, Option, if◌then◌else◌, option_map, option_and_then}
use Rattle.std.proofs.lemmas.Option.{none-some}
use Rattle.option_words.specs.Options.{before, first_given, given_alone, givens_in, is_whole, with_given}

-- one option in front of all others
abbrev pub with_all : {G : Type 0} → G → Option (List G) → Option (List G)
with_all {G} g others = option_map (λ (gs : List G). g ∷ gs) others

-- what all of them ask for, from what the first of them asks for
pub asked_first : {G A : Type 0} (asked_from : A → List G → Option A) (asked : A) (g : G) (gs : Option (List G))
    (first : Option A)
    → ((rest : List G) → asked_from asked (g ∷ rest) ≡ option_and_then (λ (a : A). asked_from a rest) first)
    → option_and_then (asked_from asked) (with_all g gs)
    ≡ option_and_then (λ (a : A). option_and_then (asked_from a) gs) first
asked_first asked_from asked g None None step = refl
asked_first asked_from asked g None (Some a) step = refl
asked_first asked_from asked g (Some gs) first step = step gs

-- what passed two tests
pub kept : {X : Type 0} (a b : Bool) (m n : X) → (if a && b then Some m else None) ≡ Some n
    → (a ≡ true) × (b ≡ true) × (m ≡ n)
kept true true m n e = (refl, refl, cc)
kept true false m n e = absurd (none-some n e)
kept false b m n e = absurd (none-some n e)

module _ {G : Type 0} (flag : List ℕ → Option G) (valued : List ℕ → List ℕ → Option G) where
  never : (g : G) (rest : List (List ℕ)) (x : Option (G × List (List ℕ))) → x ≡ None → x ≡ Some (g, rest) → ⊥
  never g rest x e f = cc

  prepended : (x : Option G) (others : List (List ℕ)) (g : G) (rest : List (List ℕ)) → before others x ≡ Some (g, rest)
      → with_given x (givens_in flag valued others) ≡ with_all g (givens_in flag valued rest)
  prepended None others g rest e = absurd (never g rest None refl e)
  prepended (Some h) others g rest e =
      let here : G × List (List ℕ) = (h, others) in
      let there : G × List (List ℕ) = (g, rest) in
      let same : here ≡ there = cc in
      ap (λ (p : G × List (List ℕ)). with_all p.0 (givens_in flag valued p.1)) same

  not_prepended : (x : Option G) (others : List (List ℕ)) (gs : Option (List G)) → before others x ≡ None
      → with_given x gs ≡ None
  not_prepended None others gs e = refl
  not_prepended (Some h) others gs e = absurd (never h others (Some (h, others)) e refl)

  -- the first words give one option, and those behind them the others
  pub givens_from : (words : List (List ℕ)) (g : G) (rest : List (List ℕ))
      → first_given flag valued words ≡ Some (g, rest)
      → givens_in flag valued words ≡ with_all g (givens_in flag valued rest)
  givens_from [] g rest e = absurd (never g rest None refl e)
  givens_from (word ∷ []) g rest e =
      elim (is_whole flag valued word) as (λ (b : Bool).
      (if b then before [] (given_alone flag valued word) else None) ≡ Some (g, rest)
      → (if b then with_given (given_alone flag valued word) (Some []) else None)
      ≡ with_all g (givens_in flag valued rest)) [
        | true ↦ λ f. prepended (given_alone flag valued word) [] g rest f
        | false ↦ λ f. absurd (never g rest None refl f)
      ] e
  givens_from (word ∷ next ∷ words) g rest e =
      elim (is_whole flag valued word) as (λ (b : Bool).
      (if b then before (next ∷ words) (given_alone flag valued word) else before words (valued word next))
      ≡ Some (g, rest)
      → (if b then with_given (given_alone flag valued word) (givens_in flag valued (next ∷ words))
      else with_given (valued word next) (givens_in flag valued words)) ≡ with_all g (givens_in flag valued rest)) [
        | true ↦ λ f. prepended (given_alone flag valued word) (next ∷ words) g rest f
        | false ↦ λ f. prepended (valued word next) words g rest f
      ] e

  -- where the first words give nothing, all of them don't
  pub no_givens : (words : List (List ℕ)) → 0 < length words → first_given flag valued words ≡ None
      → givens_in flag valued words ≡ None
  no_givens [] some e = absurd (omega (arith, some))
  no_givens (word ∷ []) some e =
      elim (is_whole flag valued word) as (λ (b : Bool).
      (if b then before [] (given_alone flag valued word) else None) ≡ None
      → (if b then with_given (given_alone flag valued word) (Some []) else None) ≡ None) [
        | true ↦ λ f. not_prepended (given_alone flag valued word) [] (Some []) f
        | false ↦ λ f. refl
      ] e
  no_givens (word ∷ next ∷ words) some e =
      elim (is_whole flag valued word) as (λ (b : Bool).
      (if b then before (next ∷ words) (given_alone flag valued word) else before words (valued word next)) ≡ None
      → (if b then with_given (given_alone flag valued word) (givens_in flag valued (next ∷ words))
      else with_given (valued word next) (givens_in flag valued words)) ≡ None) [
        | true ↦ λ f. not_prepended (given_alone flag valued word) (next ∷ words) (givens_in flag valued
            (next ∷ words)) f
        | false ↦ λ f. not_prepended (valued word next) words (givens_in flag valued words) f
      ] e
