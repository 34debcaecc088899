-- Words, one after another, make a line.
use Rattle.std.proofs.Common.{◌≡◌, ℕ, List, [], ◌∷◌, ◌++◌, refl, sym, ap, ◌∙◌}
use Rattle.std.proofs.lemmas.List.{append_assoc, append-nil}
use Rattle.pool_law.specs.Text.{Text, line, spaced}
use Rattle.run_report.specs.Words.{after_spaces}

-- the first word has no space before it
spaced_is : (first : Text) (rest : List Text) → spaced (first ∷ rest) ≡ first ++ after_spaces rest
spaced_is first [] = sym (append-nil first)
spaced_is first (word ∷ rest) = ap (λ (t : Text). first ++ (32 ∷ t)) (spaced_is word rest)

-- a line is its first word, the others after spaces, and a line feed
pub line_is : (first : Text) (rest : List Text) → line (first ∷ rest) ≡ first ++ (after_spaces rest ++ 10 ∷ [])
line_is first rest =
    ap (λ (t : Text). t ++ 10 ∷ []) (spaced_is first rest) ∙ append_assoc first (after_spaces rest) (10 ∷ [])

-- what a line needs that was appended word by word
pub ruleset words = (append_assoc, line_is)
