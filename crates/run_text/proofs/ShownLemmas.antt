-- Texts that are shown: lines of them, and their words.
use Rattle.std.proofs.Common.{◌≡◌, ℕ, ◌+◌, ◌<◌, ◌^◌, ◌%◌, ◌/◌, Bool, true, false, List, [], ◌∷◌, ◌++◌, refl, sym, ap, ◌∙◌, arith, append_assoc, decimal, nat_lt}
use Rattle.std.specs.Prelude.{◌&&◌, if◌then◌else◌}
use Rattle.std.proofs.lemmas.Bool.Decides.{nat_tests}
use Rattle.std.proofs.lemmas.Fmt.{decimal_by_steps}
use Rattle.std.proofs.lemmas.List.Folds.{list_all-append}
use Rattle.pool_law.specs.Text.{Text, hex, hex_digit, shown_bytes, spaced, line}
use Rattle.run_text.specs.Starting.{AreShown, is_shown, unlines}

pub unlines-append : (a b : List Text) → unlines (a ++ b) ≡ unlines a ++ unlines b
unlines-append [] b = refl
unlines-append (t ∷ a) b =
    ap (λ (rest : Text). t ++ 10 ∷ rest) (unlines-append a b) ∙ sym (append_assoc t (10 ∷ unlines a) (unlines b))

-- a line of words before others
pub line_first : (words : List Text) (rest : Text) → line words ++ rest ≡ spaced words ++ 10 ∷ rest
line_first words rest = append_assoc (spaced words) (10 ∷ []) rest

pub AreShown-append : (a b : List Text) → AreShown a → AreShown b → AreShown (a ++ b)
AreShown-append [] b h k = k
AreShown-append (t ∷ a) b h k = (h.0, AreShown-append a b h.1 k)

-- ---- What is shown.

pub shown-append : (a b : Text) → is_shown a ≡ true → is_shown b ≡ true → is_shown (a ++ b) ≡ true
shown-append a b h k =
    list_all-append (λ b. nat_lt 31 b) a b
    ∙ ap (λ (t : Bool). t && is_shown b) h
    ∙ k

pub shown-cons : (x : ℕ) (b : Text) → nat_lt 31 x ≡ true → is_shown b ≡ true → is_shown (x ∷ b) ≡ true
shown-cons x b h k = ap (λ (t : Bool). t && is_shown b) h ∙ k

high : (b : ℕ) → 31 < b → nat_lt 31 b ≡ true
high b h = grind (arith, nat_tests)

pub shown-decimal : (n : ℕ) → n < 2 ^ 64 → is_shown (decimal n) ≡ true
shown-decimal n small =
    decimal_by_steps (λ m ds. is_shown ds ≡ true) (λ m few. last m)
    (λ m ds many before. shown-append ds ((48 + m % 10) ∷ []) before (last (m % 10))) n small
  where
    last : (d : ℕ) → is_shown ((48 + d) ∷ []) ≡ true
    last d = shown-cons (48 + d) [] (high (48 + d) (omega arith)) refl

pub small : (n : ℕ) → n < 2 ^ 32 → is_shown (decimal n) ≡ true
small n low = shown-decimal n (omega (arith, low))

shown-digit : (d : ℕ) (rest : Text) → is_shown rest ≡ true → is_shown (hex_digit d ∷ rest) ≡ true
shown-digit d rest h = shown-cons (hex_digit d) rest (each (nat_lt d 10)) h
  where
    each : (t : Bool) → nat_lt 31 (if t then 48 + d else 87 + d) ≡ true
    each true = high (48 + d) (omega arith)
    each false = high (87 + d) (omega arith)

pub shown-hex : (bytes : List ℕ) → is_shown (hex bytes) ≡ true
shown-hex [] = refl
shown-hex (b ∷ bytes) = shown-digit (b / 16) (hex_digit (b % 16) ∷ hex bytes)
    (shown-digit (b % 16) (hex bytes) (shown-hex bytes))

pub shown-bytes : (bytes : List ℕ) → is_shown (shown_bytes bytes) ≡ true
shown-bytes [] = refl
shown-bytes (b ∷ bytes) = shown-hex (b ∷ bytes)

-- words with spaces between them
pub shown-spaced : (words : List Text) → AreShown words → is_shown (spaced words) ≡ true
shown-spaced [] shown = refl
shown-spaced (w ∷ []) shown = shown.0
shown-spaced (w ∷ v ∷ words) shown =
    shown-append w (32 ∷ spaced (v ∷ words)) shown.0
    (shown-cons 32 (spaced (v ∷ words)) refl (shown-spaced (v ∷ words) shown.1))
