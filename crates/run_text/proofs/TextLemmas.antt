-- The lines of a text that is lines, each with its end.
use Rattle.std.proofs.Common.{◌≡◌, ℕ, ◌-◌, ◌<◌, ◌==◌, Bool, true, false, List, [], ◌∷◌, ◌++◌, length, get_or, take, refl, ap, ◌∙◌, arith, nat_lt}
use Rattle.std.specs.Prelude.{if◌then◌else◌, slice_index}
use Rattle.std.specs.List.{slice_split}
use Rattle.std.specs.Str.Lines.{lines, lines_of_parts, strip_carriage_return}
use Rattle.std.proofs.lemmas.Bool.{ne_eqb}
use Rattle.std.proofs.lemmas.Bool.Decides.{nat_tests}
use Rattle.std.proofs.lemmas.List.Sums.{AllPass-from_list_all}
use Rattle.std.proofs.lemmas.List.Splits.{slice_split_at}
use Rattle.pool_law.specs.Text.{Text}
use Rattle.run_text.specs.Starting.{AreShown, is_shown, unlines}

-- ---- A text without marks that end lines.

shown_at : (text : Text) → is_shown text ≡ true → (i : ℕ) → i < length text → (d : ℕ) → nat_lt 31 (get_or text i d)
    ≡ true
shown_at text h i low d = AllPass-from_list_all (λ b. nat_lt 31 b) text h i d low

above : (b n : ℕ) → n < 32 → nat_lt 31 b ≡ true → (b == n) ≡ false
above b n low h = ne_eqb b n (λ e. absurd (grind (arith, nat_tests)))

-- the parts between the ends of such lines
parts_are : (texts : List Text) → AreShown texts → slice_split (λ b. b == 10) (unlines texts) ≡ texts ++ [] ∷ []
parts_are [] shown = refl
parts_are (t ∷ texts) shown =
    slice_split_at (λ b. b == 10) t 10 (unlines texts)
    (λ i d low. above (get_or t i d) 10 (omega arith) (shown_at t shown.0 i low d)) refl
    ∙ ap (λ (parts : List Text). t ∷ parts) (parts_are texts shown.1)

-- each of which is a line
keeps : (text : Text) → is_shown text ≡ true → strip_carriage_return text ≡ text
keeps [] h = refl
keeps (b ∷ text) h =
    let l : Text = b ∷ text in
    let n : ℕ = length l - 1 in
    ap (λ (t : Bool). if t then take n l else l)
    (above (slice_index l n) 13 (omega arith) (shown_at l h n (omega arith) 0))

lines_are : (texts : List Text) → AreShown texts → lines_of_parts (texts ++ [] ∷ []) ≡ texts
lines_are [] shown = refl
lines_are (t ∷ []) shown = ap (λ (first : Text). first ∷ []) (keeps t shown.0)
lines_are (t ∷ u ∷ texts) shown =
    (λ i. keeps t shown.0 i ∷ lines_are (u ∷ texts) shown.1 i)

pub lines_back : (texts : List Text) → AreShown texts → lines (unlines texts) ≡ texts
lines_back texts shown = ap lines_of_parts (parts_are texts shown) ∙ lines_are texts shown
