-- A store once a run goes, and once one comes.
use Rattle.std.proofs.Common.{◌≡◌, ◌⊎◌, ℕ, zero, suc, ◌+◌, ◌*◌, ◌<◌, ◌≤◌, List, [], ◌∷◌, Option, Some, None, length, get_or, refl, sym, ap, ◌∙◌, subst, arith, length-set, get_or-set_same, get_or-set_other}
use Rattle.std.specs.Prelude.{◌≢◌, slice_set}
use Rattle.std.proofs.lemmas.Bool.{cases_eq}
use Rattle.std.proofs.lemmas.List.{get_or_default}
use Rattle.bit_words.specs.Words.{ChangesBit}
use Rattle.ground.specs.Ground.{Segment}
use Rattle.size_classes.specs.PageCounts.{IsLastAtMost}
use Rattle.size_classes.specs.Spans.{Span, placed_in, AreSpacedFrom}
use Rattle.run_map.specs.Lengths.{spans_from, without, beginning, ending}
use Rattle.run_map.specs.Spaced.{IsPart, IsRun, span_of_run}
use Rattle.run_map.specs.Stored.{stored, pages_at, IsHeld, AreLong, IsNotedAnew, IsStore}
use Rattle.run_map.specs.declared.runs.FreeRun.{FreeRun}
use Rattle.run_map.specs.declared.runs.RunLayout.{RunLayout}
use Rattle.run_map.specs.declared.store.Store.{Store}
use Rattle.run_map.proofs.LengthLaws.{spans-put}
use Rattle.run_map.proofs.StoreSteps.{beginning-at, begins-there, pulled}
use Rattle.run_map.proofs.SpanEnds.{without-spaced, ending-gone, ending-kept, placed-alone, ending-placed}
use Rattle.run_map.proofs.BitChanges.{ChangesMark, pulled-marked, pulled-noted, put-marked, put-noted}
use mathlib.Core.Logic.{inl, inr}

-- the pages of the run that begins at a page stand there
pub begins-at : (s : Store) (i : ℕ) → beginning i (stored s) ≡ pages_at s i
begins-at s i =
    let from : 0 + i ≡ i = omega arith in
    subst (λ (k : ℕ). beginning k (stored s) ≡ pages_at s i) from (beginning-at 0 i s.begins.items)

-- one entry of each list changes, and one bit
pub record Changes (s t : Store) (class first end pages bit : ℕ) (piece : Option Segment) : Type 0 where
  pub begins : t.begins.items ≡ slice_set s.begins.items first pages
  pub ends : t.ends.items ≡ slice_set s.ends.items end pages
  pub pieces : t.pieces.items ≡ slice_set s.pieces.items first piece
  pub mark : ChangesMark s t class first bit
  pub lens : (t.begins.len ≡ s.begins.len) × (t.ends.len ≡ s.ends.len) × (t.pieces.len ≡ s.pieces.len)

module _ (l : RunLayout) (s t : Store) (class first end pages bit : ℕ) (piece : Option Segment)
    (h : Changes s t class first end pages bit piece) (long : AreLong l s) (there : first < l.pages)
    (close : end ≤ l.pages) where
  long-kept : AreLong l t
  long-kept = record {
    few = long.few;
    begins = ap length h.begins ∙ length-set s.begins.items first pages ∙ long.begins;
    ends = ap length h.ends ∙ length-set s.ends.items end pages ∙ long.ends;
    pieces = ap length h.pieces ∙ length-set s.pieces.items first piece ∙ long.pieces;
    width =
        (omega (arith, long.width.0, ap (λ (w : ℕ). 64 * w) h.mark.width), omega (arith, long.width.1, h.mark.width));
    firsts = h.mark.firsts.length ∙ long.firsts ∙ sym (ap (λ (w : ℕ). w * 40) h.mark.width);
    lens = (h.lens.0 ∙ long.lens.0, h.lens.1 ∙ long.lens.1, h.lens.2 ∙ long.lens.2);
  }

  pages-here : pages_at t first ≡ pages
  pages-here =
      ap (λ (ns : List ℕ). get_or ns first 0) h.begins
      ∙ get_or-set_same s.begins.items first pages 0 (omega (arith, there, long.begins))

  pages-other : (q : ℕ) → q ≢ first → pages_at t q ≡ pages_at s q
  pages-other q ne =
      ap (λ (ns : List ℕ). get_or ns q 0) h.begins ∙ get_or-set_other s.begins.items first q pages 0 ne

  within-kept : first + pages ≤ l.pages → ((q : ℕ) → q < l.pages → q + pages_at s q ≤ l.pages) →
      (q : ℕ) → q < l.pages → q + pages_at t q ≤ l.pages
  within-kept new old q less = by (cases_eq q first)
    where
      by : (q ≡ first) ⊎ (q ≡ first → ⊥) → q + pages_at t q ≤ l.pages
      by (inl e) = omega (arith, e, ap (pages_at t) e, pages-here, new)
      by (inr ne) = omega (arith, pages-other q ne, old q less)

  held-kept : IsHeld l first pages piece →
      ((q : ℕ) → q < l.pages → IsHeld l q (pages_at s q) (get_or s.pieces.items q None)) →
      (q : ℕ) → q < l.pages → IsHeld l q (pages_at t q) (get_or t.pieces.items q None)
  held-kept new old q less = by (cases_eq q first)
    where
      at : get_or t.pieces.items q None ≡ get_or (slice_set s.pieces.items first piece) q None
      at = ap (λ (ps : List (Option Segment)). get_or ps q None) h.pieces

      by : (q ≡ first) ⊎ (q ≡ first → ⊥) → IsHeld l q (pages_at t q) (get_or t.pieces.items q None)
      by (inl e) =
          let new-here : IsHeld l q pages piece = subst (λ (k : ℕ). IsHeld l k pages piece) (sym e) new in
          let count : pages_at t q ≡ pages = ap (pages_at t) e ∙ pages-here in
          let memory : get_or t.pieces.items q None ≡ piece =
          at ∙ ap (λ (k : ℕ). get_or (slice_set s.pieces.items first piece) k None) e
          ∙ get_or-set_same s.pieces.items first piece None (omega (arith, there, long.pieces)) in
          subst (λ (k : ℕ). IsHeld l q k (get_or t.pieces.items q None)) (sym count)
          (subst (λ (o : Option Segment). IsHeld l q pages o) (sym memory) new-here)
      by (inr ne) =
          subst (λ (k : ℕ). IsHeld l q k (get_or t.pieces.items q None)) (sym (pages-other q ne))
          (subst (λ (o : Option Segment). IsHeld l q (pages_at s q) o)
          (sym (at ∙ get_or-set_other s.pieces.items first q piece None ne)) (old q less))

  ends-kept : ending end (stored t) ≡ pages → ((q : ℕ) → q ≢ end → ending q (stored t) ≡ ending q (stored s)) →
      ((q : ℕ) → q ≤ l.pages → get_or s.ends.items q 0 ≡ ending q (stored s)) →
      (q : ℕ) → q ≤ l.pages → get_or t.ends.items q 0 ≡ ending q (stored t)
  ends-kept here others old q le = by (cases_eq q end)
    where
      at : get_or t.ends.items q 0 ≡ get_or (slice_set s.ends.items end pages) q 0
      at = ap (λ (ns : List ℕ). get_or ns q 0) h.ends

      by : (q ≡ end) ⊎ (q ≡ end → ⊥) → get_or t.ends.items q 0 ≡ ending q (stored t)
      by (inl e) =
          at ∙ ap (λ (k : ℕ). get_or (slice_set s.ends.items end pages) k 0) e
          ∙ get_or-set_same s.ends.items end pages 0 (omega (arith, close, long.ends))
          ∙ sym here ∙ ap (λ (k : ℕ). ending k (stored t)) (sym e)
      by (inr ne) = at ∙ get_or-set_other s.ends.items end q pages 0 ne ∙ old q le ∙ sym (others q ne)

-- ---- one goes

pub pulled-store : (l : RunLayout) (s t : Store) (class first n : ℕ) → IsStore l s → n ≡ beginning first (stored s) →
    0 < n →
    class < 40 → IsLastAtMost n class → Changes s t class first (first + n) 0 0 None → IsNotedAnew class s.noted t →
    IsStore l t
pulled-store l s t class first n is size some few last h noted =
    let there : first < l.pages =
    omega (arith, begins-there s.begins.items first (omega (arith, size, some)), is.long.begins) in
    let stood : pages_at s first ≡ n = sym (size ∙ begins-at s first) in
    let close : first + n ≤ l.pages = omega (arith, is.within first there, stood) in
    let marked : first < 64 * s.width = omega (arith, there, is.long.width.0) in
    let more : 0 < beginning first (stored s) = omega (arith, size, some) in
    let runs : stored t ≡ without first (stored s) = ap (spans_from 0) h.begins ∙ pulled s.begins.items first more in
    let gone = pages-here l s t class first (first + n) 0 0 None h is.long there close in
    let rest = pages-other l s t class first (first + n) 0 0 None h is.long there close in
    record {
      long = long-kept l s t class first (first + n) 0 0 None h is.long there close;
      spaced = subst (AreSpacedFrom 0) (sym runs) (without-spaced 0 first (stored s) is.spaced);
      within =
          within-kept l s t class first (first + n) 0 0 None h is.long there close (omega (arith, there)) is.within;
      ends = ends-kept l s t class first (first + n) 0 0 None h is.long there close
          (ap (ending (first + n)) runs
          ∙ ending-gone 0 first (first + n) (stored s) is.spaced more (ap (λ (k : ℕ). first + k) size))
          (λ q ne. ap (ending q) runs
          ∙ ending-kept 0 first q (stored s) is.spaced more (λ e. ne (e ∙ ap (λ (k : ℕ). first + k) (sym size))))
          is.ends;
      held = held-kept l s t class first (first + n) 0 0 None h is.long there close refl is.held;
      marked = pulled-marked l s t class first n h.mark marked few stood last gone rest is.marked is.long.width.0;
      noted = pulled-noted s t class first h.mark marked few is.noted noted;
    }

-- ---- one comes

held-some : (l : RunLayout) (first n : ℕ) (piece : Segment) → 0 < n → IsPart l first n piece →
    IsHeld l first n (Some piece)
held-some l first zero piece some part = absurd (omega (arith, some))
held-some l first (suc n) piece some part = part

-- no run begins yet where one comes
pub none-yet : (s : Store) (r : Span) → AreSpacedFrom 0 (placed_in r (stored s)) → pages_at s r.0 ≡ 0
none-yet s r spaced = sym (begins-at s r.0) ∙ (placed-alone 0 r (stored s) spaced).0

-- what a put makes of the runs
pub put-runs : (l : RunLayout) (s t : Store) (first n : ℕ) → IsStore l s → first < l.pages → 0 < n →
    AreSpacedFrom 0 (placed_in (first, n) (stored s)) → t.begins.items ≡ slice_set s.begins.items first n →
    stored t ≡ placed_in (first, n) (stored s)
put-runs l s t first n is there some spaced begins =
    let from : 0 + first ≡ first = omega arith in
    ap (spans_from 0) begins
    ∙ spans-put 0 first n s.begins.items (omega (arith, there, is.long.begins)) (none-yet s (first, n) spaced) some
    ∙ ap (λ (k : ℕ). placed_in (k, n) (stored s)) from

pub put-store : (l : RunLayout) (s t : Store) (class : ℕ) (r : FreeRun) → IsStore l s → IsRun l r →
    AreSpacedFrom 0 (placed_in (span_of_run r) (stored s)) → class < 40 → IsLastAtMost r.pages class →
    Changes s t class r.first (r.first + r.pages) r.pages 1 (Some r.piece) →
    ChangesBit class 1 (s.noted ∷ []) (t.noted ∷ []) → IsStore l t
put-store l s t class r is run spaced few last h noted =
    let first : ℕ = r.first in
    let n : ℕ = r.pages in
    let there : first < l.pages = omega (arith, run.within, run.some) in
    let marked : first < 64 * s.width = omega (arith, there, is.long.width.0) in
    let none = none-yet s (span_of_run r) spaced in
    let runs : stored t ≡ placed_in (first, n) (stored s) = put-runs l s t first n is there run.some spaced h.begins in
    let come = pages-here l s t class first (first + n) n 1 (Some r.piece) h is.long there run.within in
    let rest = pages-other l s t class first (first + n) n 1 (Some r.piece) h is.long there run.within in
    record {
      long = long-kept l s t class first (first + n) n 1 (Some r.piece) h is.long there run.within;
      spaced = subst (AreSpacedFrom 0) (sym runs) spaced;
      within =
          within-kept l s t class first (first + n) n 1 (Some r.piece) h is.long there run.within run.within is.within;
      ends = ends-kept l s t class first (first + n) n 1 (Some r.piece) h is.long there run.within
          (ap (ending (first + n)) runs ∙ (placed-alone 0 (first, n) (stored s) spaced).1)
          (λ q ne. ap (ending q) runs ∙ ending-placed q (first, n) (stored s) ne) is.ends;
      held = held-kept l s t class first (first + n) n 1 (Some r.piece) h is.long there run.within
          (held-some l first n r.piece run.some run.part) is.held;
      marked = put-marked l s t class first n h.mark marked few none last run.some come rest is.marked is.long.width.0;
      noted = put-noted s t class first h.mark marked few is.noted noted;
    }

-- and none has its memory there
pub none-held : (l : RunLayout) (s : Store) (r : Span) (ps : List (Option Segment)) (x result : Option Segment) →
    IsStore l s →
    AreSpacedFrom 0 (placed_in r (stored s)) → r.0 < l.pages → ps ≡ s.pieces.items → x ≡ get_or ps r.0 x → result ≡ x →
    result ≡ None
none-held l s r ps x result is spaced there e read same =
    let at : IsHeld l r.0 0 (get_or s.pieces.items r.0 None) =
    subst (λ (n : ℕ). IsHeld l r.0 n (get_or s.pieces.items r.0 None)) (none-yet s r spaced) (is.held r.0 there) in
    same ∙ read ∙ ap (λ (qs : List (Option Segment)). get_or qs r.0 x) e
    ∙ get_or_default s.pieces.items r.0 x None (omega (arith, there, is.long.pieces)) ∙ at
