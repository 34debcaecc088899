-- A store of free runs: what a change at one page makes of it.
use Rattle.std.proofs.Common.{◌≡◌, ◌⊎◌, ℕ, ◌+◌, ◌*◌, ◌/◌, ◌%◌, ◌^◌, ◌<◌, ◌≤◌, List, [], ◌∷◌, Option, Some, None, length, get_or, refl, sym, ap, ◌∙◌, subst, arith, w64}
use Rattle.std.specs.Prelude.{◌-◌, min, MatchOption}
use Rattle.std.specs.Int.{bit_at, bit_not}
use Rattle.std.specs.Int.RustNames.{bit_or}
use lib.Bits.{bit_and}
use Rattle.std.proofs.lemmas.Nat.Bits.{bit_at_clear_same, bit_at_clear_other}
use Rattle.std.proofs.Math.ListN.{set, take, drop}
use Rattle.bit_words.specs.Words.{bit_of, AreAll, IsLowestSet, ChangesBit}
use Rattle.std.proofs.Math.Nat.{mul-add, le-mul_of_pos_right}
use Rattle.std.proofs.lemmas.List.{get_or-take, get_or-drop, length-take, length-drop}
use Rattle.bit_words.proofs.WordLaws.{sets}
use Rattle.run_map.specs.Stored.{IsUnmarked, IsLowestMarked, IsNotedAnew}
use Rattle.run_map.specs.declared.store.Store.{Store}
use Rattle.std.proofs.lemmas.Bool.{cases_lt}
use Rattle.size_classes.specs.PageCounts.{page_count_at, IsLastAtMost}
use Rattle.size_classes.proofs.CountLaws.{count-mono}
use mathlib.Core.Logic.{inl, inr}

-- the runs of a chunk stand under the first forty page classes
pub few-classes : (n i : ℕ) → n ≤ 2048 → i < 124 → IsLastAtMost n i → i < 40
few-classes n i le few last = by (cases_lt i 40)
  where
    top : page_count_at 40 ≡ 2560
    top = refl

    by : (i < 40) ⊎ (40 ≤ i) → i < 40
    by (inl less) = less
    by (inr more) =
        let rises = count-mono 40 i more (omega (arith, few)) in
        absurd (omega (arith, rises, top, last.holds, le))

-- ---- which page classes are noted

-- a page class that is noted now
pub notes-class : (w i : ℕ) → i < 40 → ChangesBit i 1 (w ∷ []) (bit_or w (1 * 2 ^ i % 2 ^ 64) ∷ [])
notes-class w i few =
    let first : i / 64 ≡ 0 = omega (arith, few) in
    let low : i % 64 ≡ i = omega (arith, few) in
    let old : List ℕ = w ∷ [] in
    subst (λ (p : ℕ). ChangesBit i 1 old (set old p (bit_or (get_or old p 0) (1 * 2 ^ i % 2 ^ 64)))) first
    (subst (λ (k : ℕ). ChangesBit i 1 old (set old (i / 64) (bit_or (get_or old (i / 64) 0) (1 * 2 ^ k % 2 ^ 64)))) low
    (sets old i (omega (arith, few))))

-- one that is noted no more, since no free run stands under it
pub notes-none : (s : Store) (w i : ℕ) → i < 40 → IsUnmarked s i →
    IsNotedAnew i w (record s { noted = bit_and w (bit_not w64 (1 * 2 ^ i % 2 ^ 64)) })
notes-none s w i few none =
    let within : i < 64 = omega (arith, few) in
    record {
      none = λ _. bit_at_clear_same w64 w i within;
      some = λ first less one. absurd (omega (arith, one, none first less));
      others = λ j ne low. bit_at_clear_other w64 w i within j low ne;
    }

-- ---- the words of a page class

part-bit : (ws : List ℕ) (from w i : ℕ) → i < 64 * w →
    bit_of (take (from + w - from) (drop from ws)) i ≡ bit_of ws (64 * from + i)
part-bit ws from w i few =
    let whole : (64 * from + i) / 64 ≡ from + i / 64 = omega arith in
    let rest : (64 * from + i) % 64 ≡ i % 64 = omega arith in
    ap (λ (v : ℕ). bit_at v (i % 64))
    (get_or-take (from + w - from) (drop from ws) (i / 64) 0 (omega (arith, few)) ∙ get_or-drop from ws (i / 64) 0)
    ∙ sym (ap (λ (k : ℕ). bit_at (get_or ws k 0) ((64 * from + i) % 64)) whole
    ∙ ap (λ (m : ℕ). bit_at (get_or ws (from + i / 64) 0) m) rest)

-- the words of a page class, of those of all
abbrev pub class_words : ℕ → ℕ → List ℕ → List ℕ
class_words from width ws = take (from + width - from) (drop from ws)

pub class-long : (ws : List ℕ) (width class : ℕ) → length ws ≡ width * 40 → class < 40 →
    length (class_words (width * class) width ws) ≡ width
class-long ws width class long few =
    let from : ℕ = width * class in
    let parts : width * (class + (40 - class)) ≡ from + width * (40 - class) = mul-add width class (40 - class) in
    let all : class + (40 - class) ≡ 40 = omega (arith, few) in
    let sum : width * 40 ≡ from + width * (40 - class) = sym (ap (λ (k : ℕ). width * k) all) ∙ parts in
    let one : width ≤ width * (40 - class) = le-mul_of_pos_right width (omega (arith, few)) in
    length-take (from + width - from) (drop from ws)
    ∙ ap (min (from + width - from)) (length-drop from ws)
    ∙ omega (arith, long, sum, one)

pub lowest-under : (s : Store) (class : ℕ) (ws : List ℕ) (o : Option ℕ) → ws ≡ s.firsts.items →
    length s.firsts.items ≡ s.width * 40 → class < 40 →
    MatchOption o (AreAll 0 (class_words (s.width * class) s.width ws))
    (IsLowestSet (class_words (s.width * class) s.width ws)) →
    MatchOption o (IsUnmarked s class) (IsLowestMarked s class)
lowest-under s class ws o are long few h =
    by o (subst (λ (l : List ℕ). MatchOption o (AreAll 0 (class_words (s.width * class) s.width l))
    (IsLowestSet (class_words (s.width * class) s.width l))) are h)
  where
    words : List ℕ
    words = class_words (s.width * class) s.width s.firsts.items

    wide : length words ≡ s.width
    wide = class-long s.firsts.items s.width class long few

    by : (o : Option ℕ) → MatchOption o (AreAll 0 words) (IsLowestSet words) →
        MatchOption o (IsUnmarked s class) (IsLowestMarked s class)
    by None h = λ i less.
        sym (part-bit s.firsts.items (s.width * class) s.width i less) ∙ h i (omega (arith, less, wide))
    by (Some i) h =
        let there : i < 64 * s.width = omega (arith, h.there, wide) in
        let same = part-bit s.firsts.items (s.width * class) s.width in
        record {
          there = there;
          set = sym (same i there) ∙ h.set;
          below = λ k less. sym (same k (omega (arith, less, there))) ∙ h.below k less;
        }
