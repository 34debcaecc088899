-- A map that is made: the layout of its chunk, and the one run that it has.
use Rattle.std.proofs.Common.{◌≡◌, ℕ, ◌*◌, ◌/◌, ◌^◌, ◌<◌, ◌≤◌, List, [], ◌∷◌, length, sym, ap, ap₂, ◌∙◌, subst, arith, lit<}
use Rattle.std.proofs.lemmas.Nat.{shr_split, pow_pos}
use Rattle.ground.specs.Ground.{Origin, Segment}
use Rattle.size_classes.specs.Sizes.{IsPage}
use Rattle.size_classes.specs.Spans.{Span, placed_in, AreSpacedFrom}
use Rattle.size_classes.proofs.Geometries.{by_page}
use Rattle.run_map.specs.FreeRuns.{FreeRuns, IsPagesGround, all_free}
use Rattle.run_map.specs.Spaced.{IsRunLayout, IsRun}
use Rattle.run_map.specs.declared.runs.RunLayout.{RunLayout}
use Rattle.run_map.proofs.Totals.{pages_in, total-one}

-- what is known of the layout of a chunk, and of its memory
pub record IsLaidOut (l : RunLayout) (order : ℕ) (s : Segment) : Type 0 where
  pub page : l.page ≡ s.origin.size / 2 ^ order
  pub whole : length s.bytes ≡ l.pages * l.page
  pub layout : IsRunLayout l
  pub size : s.origin.size ≡ l.pages * l.page
  pub is : IsPage l.page

pub laid-out : (l : RunLayout) (order : ℕ) (s : Segment) → IsPagesGround order s → l.pages ≡ 2 ^ order →
    l.page ≡ length s.bytes / l.pages → s.origin.size ≤ 2 ^ 24 → IsLaidOut l order s
laid-out l order s h many page small =
    let same : l.page ≡ s.origin.size / 2 ^ order = page ∙ ap₂ (λ (a b : ℕ). a / b) h.whole.1 many in
    let split = shr_split s.origin.size order in
    let product : l.pages * l.page ≡ 2 ^ order * (s.origin.size / 2 ^ order) = ap₂ (λ (a b : ℕ). a * b) many same in
    let size : s.origin.size ≡ l.pages * l.page = omega (arith, split, product, h.pages) in
    let is : IsPage l.page = subst IsPage (sym same) h.page in
    record {
      page = same;
      whole = h.whole.1 ∙ size;
      layout = record {
        page = by_page (λ (p : ℕ). 0 < p) (lit< tt) (lit< tt) (lit< tt) (lit< tt) l.page is;
        size = omega (arith, size, small);
      };
      size = size;
      is = is;
    }

pub whole-run : (l : RunLayout) (order : ℕ) (s : Segment) → IsPagesGround order s → l.pages ≡ 2 ^ order →
    l.site.origin ≡ s.origin →
    IsLaidOut l order s → IsRun l (record { first = 0; pages = l.pages; piece = s })
whole-run l order s h many site laid = record {
  part = record { origin = sym site; start = omega (arith, h.whole.0); size = laid.whole };
  some = omega (arith, many, pow_pos order);
  within = omega arith;
}

-- it is the only one
pub one-spaced : (pages : ℕ) (runs : List Span) → 0 < pages → runs ≡ [] → AreSpacedFrom 0 (placed_in (0, pages) runs)
one-spaced pages runs some none =
    subst (λ (l : List Span). AreSpacedFrom 0 (placed_in (0, pages) l)) (sym none) (omega arith, some, tt)

pub one-run : (pages : ℕ) (old new : List Span) → new ≡ placed_in (0, pages) old → old ≡ [] → new ≡ (0, pages) ∷ []
one-run pages old new come none = come ∙ ap (placed_in (0, pages)) none

pub one-total : (pages : ℕ) (old new : List Span) → new ≡ placed_in (0, pages) old → old ≡ [] → pages ≡ pages_in new
one-total pages old new come none = sym (ap pages_in (one-run pages old new come none) ∙ total-one (0, pages))

-- so all of the chunk is free
pub all-free : (l : RunLayout) (order : ℕ) (s : Segment) (runs : List Span) → l.site.origin ≡ s.origin →
    l.page ≡ s.origin.size / 2 ^ order →
    runs ≡ (0, l.pages) ∷ [] → l.pages ≡ 2 ^ order →
    ◌≡◌ {A = FreeRuns} (record { origin = l.site.origin; page = l.page; order = order; runs = runs }) (all_free order s)
all-free l order s runs site page one many =
    ap (λ (o : Origin). record { origin = o; page = l.page; order = order; runs = runs }) site
    ∙ ap (λ (n : ℕ). record { origin = s.origin; page = n; order = order; runs = runs }) page
    ∙ ap (λ (rs : List Span). record { origin = s.origin; page = s.origin.size / 2 ^ order; order = order; runs = rs })
    (one ∙ ap (λ (n : ℕ). (0, n) ∷ []) many)
