-- What the words give and ask for, from the first word on.
use Rattle.std.proofs.Common.{◌≡◌, ℕ, ◌<◌, ◌≤◌, ◌∙◌, List, [], ◌∷◌, length, refl, true, Bool, arith, Some, None, sym, ap}
use Rattle.std.specs.Prelude.{Option, if◌then◌else◌, option_and_then}
use Rattle.std.proofs.lemmas.Bool.Decides.{nat_tests}
use Rattle.std.proofs.lemmas.Option.{none-some}
use Rattle.run_words.specs.declared.settings.Setting.{Setting}
use Rattle.run_words.specs.declared.asked.Given.{Given}
use Rattle.run_words.specs.declared.asked.Asked.{Asked}
use Rattle.run_words.specs.Settings.{RowData, is_within, number_for, row_of}
use Rattle.option_words.specs.Options.{first_given}
use Rattle.option_words.proofs.Firsts.{asked_first, givens_from, kept, no_givens}
use Rattle.run_words.specs.declared.words.RunOptions.{RunOptions}
use Rattle.run_words.specs.Pools.{is_within_memory}
use Rattle.run_words.specs.Words.{IsInRange, asked_by, asked_from, asked_with, flag_given, given_by, givens_in, nothing, options_for, options_given, options_of, within_memory}

-- what is asked for with all words that are left
abbrev pub asked_in : Asked → List (List ℕ) → Option Asked
asked_in asked words = option_and_then (asked_from asked) (givens_in words)

-- ---- one more of the words

-- no word is left
pub asked_done : (asked : Asked) (words : List (List ℕ)) → length words ≡ 0 → asked_in asked words ≡ Some asked
asked_done asked [] none = refl
asked_done asked (word ∷ words) none = absurd (omega arith)

-- the first words give nothing
pub asked_none : (asked : Asked) (words : List (List ℕ)) → 0 < length words
    → first_given flag_given given_by words ≡ None
    → asked_in asked words ≡ None
asked_none asked words some first = rw (no_givens flag_given given_by words some first) refl

-- the first words give one more
pub asked_next : (asked : Asked) (words : List (List ℕ)) (g : Given) (rest : List (List ℕ))
    → first_given flag_given given_by words ≡ Some (g, rest)
    → asked_in asked words ≡ option_and_then (λ b. asked_in b rest) (asked_with asked g)
asked_next asked words g rest first =
    rw (givens_from flag_given given_by words g rest first)
    (asked_first asked_from asked g (givens_in rest) (asked_with asked g) (λ gs. refl))

-- ---- numbers in their range

pub inside : (r : RowData) (n : ℕ) → is_within r n ≡ true → (r.least ≤ n) × (n ≤ r.greatest)
inside r n h = (grind (arith, nat_tests), grind (arith, nat_tests))

pub in_range : (s : Setting) (text : List ℕ) (n : ℕ) → number_for s text ≡ Some n → IsInRange s n
unfolding number_for
in_range s text n e =
    let h = kept _ _ _ _ e in
    let within : is_within (row_of s) n ≡ true = rw (sym h.2) h.1 in
    let both = inside (row_of s) n within in
    record { least = both.0; greatest = both.1 }

-- ---- options from what is asked for

given_twice : (x : Option (List Given)) (a : Asked) → Some a ≡ option_and_then (asked_from nothing) x
    → option_and_then options_given x ≡ option_and_then within_memory (options_for a)
given_twice None a e = absurd (none-some a (sym e))
given_twice (Some gs) a e = ap (option_and_then (λ b. option_and_then within_memory (options_for b))) (sym e)

-- what is asked for comes to these options, within their bounds
pub options_read : (words : List (List ℕ)) (a : Asked) (o : RunOptions) → Some a ≡ asked_by words
    → Some o ≡ options_for a → is_within_memory o.pool ≡ true → Some o ≡ options_of words
unfolding options_of
options_read words a o asked is within =
    sym (given_twice (givens_in words) a asked
    ∙ (ap (option_and_then within_memory) (sym is) ∙ ap (λ (b : Bool). if b then Some o else None) within))
