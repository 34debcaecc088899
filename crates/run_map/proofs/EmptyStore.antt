-- A store that has no run.
use Rattle.std.proofs.Common.{◌≡◌, ◌⊎◌, ℕ, zero, suc, ◌+◌, ◌*◌, ◌/◌, ◌%◌, ◌^◌, ◌<◌, ◌≤◌, List, [], ◌∷◌, ◌++◌, Option, None, length, get_or, refl, sym, ap, ◌∙◌, subst, arith}
use Rattle.std.specs.Prelude.{replicate}
use Rattle.std.specs.Int.{bit_at, div_ceil}
use Rattle.std.proofs.lemmas.Bool.{cases_lt}
use Rattle.std.proofs.lemmas.List.{get_or_past, length-replicate}
use Rattle.std.proofs.lemmas.Nat.Bits.{bit_at-zero}
use Rattle.ground.specs.Ground.{Segment}
use Rattle.size_classes.specs.Spans.{AreSpacedFrom}
use Rattle.run_map.specs.Lengths.{spans_from, beginning, ending}
use Rattle.run_map.specs.Stored.{stored, pages_at, is_marked, mark_of, IsHeld, IsStore}
use Rattle.run_map.specs.declared.runs.RunLayout.{RunLayout}
use Rattle.run_map.specs.declared.store.Store.{Store}
use Rattle.run_map.proofs.StoreChanges.{begins-at}
use mathlib.Core.Logic.{inl, inr}

-- ---- lists of zeros, and of nothing

zero-at : (n i : ℕ) → ◌≡◌ {A = ℕ} (get_or (replicate n 0) i 0) 0
zero-at zero i = refl
zero-at (suc n) zero = refl
zero-at (suc n) (suc i) = zero-at n i

none-stand : (at n : ℕ) → spans_from at (replicate n 0) ≡ []
none-stand at zero = refl
none-stand at (suc n) = none-stand (at + 1) n

pub none-appended : (ps : List (Option Segment)) → ((i : ℕ) → get_or ps i None ≡ None) →
    (i : ℕ) → get_or (ps ++ None ∷ []) i None ≡ None
none-appended [] h zero = refl
none-appended [] h (suc i) = refl
none-appended (p ∷ ps) h zero = h 0
none-appended (p ∷ ps) h (suc i) = none-appended ps (λ j. h (suc j)) i

-- ---- what a store has that is made

pub record IsBlank (l : RunLayout) (s : Store) : Type 0 where
  pub begins : (s.begins.items ≡ replicate l.pages 0) × (s.begins.len ≡ l.pages)
  pub ends : (s.ends.items ≡ replicate (l.pages + 1) 0) × (s.ends.len ≡ l.pages + 1)
  pub none : (i : ℕ) → get_or s.pieces.items i None ≡ None
  pub pieces : (length s.pieces.items ≡ l.pages) × (s.pieces.len ≡ l.pages)
  pub width : s.width ≡ div_ceil l.pages 64
  pub firsts : s.firsts.items ≡ replicate (s.width * 40) 0
  pub noted : s.noted ≡ 0

module _ (l : RunLayout) (s : Store) (few : l.pages ≤ 2 ^ 11) (h : IsBlank l s) where
  pub no-runs : stored s ≡ []
  no-runs = ap (spans_from 0) h.begins.0 ∙ none-stand 0 l.pages

  no-pages : (q : ℕ) → pages_at s q ≡ 0
  no-pages q = ap (λ (ns : List ℕ). get_or ns q 0) h.begins.0 ∙ zero-at l.pages q

  no-marks : (a q : ℕ) → is_marked s a q ≡ 0
  no-marks a q =
      let at : ℕ = mark_of s a q in
      ap (λ (ws : List ℕ). bit_at (get_or ws (at / 64) 0) (at % 64)) h.firsts
      ∙ ap (λ (w : ℕ). bit_at w (at % 64)) (zero-at (s.width * 40) (at / 64))
      ∙ bit_at-zero (at % 64)

  pub blank-store : IsStore l s
  blank-store = record {
    long = record {
      few = few;
      begins = ap length h.begins.0 ∙ length-replicate l.pages 0;
      ends = ap length h.ends.0 ∙ length-replicate (l.pages + 1) 0;
      pieces = h.pieces.0;
      width = (omega (arith, h.width), omega (arith, h.width, few));
      firsts = ap length h.firsts ∙ length-replicate (s.width * 40) 0;
      lens = (h.begins.1, h.ends.1, h.pieces.1);
    };
    spaced = subst (AreSpacedFrom 0) (sym no-runs) tt;
    within = λ q less. omega (arith, no-pages q, less);
    ends = λ q le.
        ap (λ (ns : List ℕ). get_or ns q 0) h.ends.0 ∙ zero-at (l.pages + 1) q ∙ sym (ap (ending q) no-runs);
    held = λ q less. subst (λ (n : ℕ). IsHeld l q n (get_or s.pieces.items q None)) (sym (no-pages q)) (h.none q);
    marked = record {
      set = λ a q small less at. absurd (omega (arith, at.0, no-pages q));
      clear = λ a q small less not. no-marks a q;
    };
    noted = record {
      one = λ a q small mark less. absurd (omega (arith, mark, no-marks a q));
      none = λ a small none. ap (λ (w : ℕ). bit_at w a) h.noted ∙ bit_at-zero a;
    };
  }

-- ---- what a store has that is spent

pub no-memory : (l : RunLayout) (s : Store) → IsStore l s → stored s ≡ [] → (i : ℕ) → get_or s.pieces.items i None ≡
    None
no-memory l s is empty i = by (cases_lt i l.pages)
  where
    none : pages_at s i ≡ 0
    none = sym (begins-at s i) ∙ ap (beginning i) empty

    by : (i < l.pages) ⊎ (l.pages ≤ i) → get_or s.pieces.items i None ≡ None
    by (inl less) = subst (λ (n : ℕ). IsHeld l i n (get_or s.pieces.items i None)) none (is.held i less)
    by (inr past) = get_or_past s.pieces.items i None (omega (arith, past, is.long.pieces))
