-- A front has room for a subpage that is not in it: its subpages differ, and each has a page of a chunk.
use Rattle.std.proofs.Common.{◌≡◌, ℕ, ◌+◌, ◌*◌, ◌<◌, List, [], ◌∷◌, length, refl, sym, ap, ◌∙◌, Bool, true, false, arith, eqb-true, eq-eqb, inl, inr}
use Rattle.std.specs.Prelude.{◌⊎◌, map, ◌==◌, ◌&&◌, ◌||◌}
use Rattle.std.proofs.lemmas.List.{length-map}
use Rattle.std.proofs.lemmas.Bool.{or_parts, or_right, and_from}
use Rattle.arena_laws.proofs.SlotLemmas.{three}
use Rattle.arena_laws.proofs.FrontSteps.{spot-first}
use Rattle.pool_law.specs.ChunkLists.{has}
use Rattle.arena_laws.specs.Orderly.{has_subpage, SubpagesDiffer}
use Rattle.chunk_list.specs.Kept.{AreDifferent, AreBelow}
use Rattle.chunk_list.proofs.MemberLemmas.{has_room}

-- a page of a chunk as a number
abbrev pub code : ℕ → ℕ × ℕ → ℕ
code pages s = s.0 * pages + s.1

-- each lies in so many chunks of so many pages
abbrev pub AreWithin : ℕ → ℕ → List (ℕ × ℕ) → Type 0
AreWithin chunks pages [] = Unit {0}
AreWithin chunks pages (s ∷ subpages) = ((s.0 < chunks) × (s.1 < pages)) × AreWithin chunks pages subpages

code-below : (chunks pages : ℕ) (s : ℕ × ℕ) → s.0 < chunks → s.1 < pages → code pages s < chunks * pages
code-below chunks pages s less page = grind arith

one-chunk : (pages c d p q : ℕ) → p < pages → q < pages → c * pages + p ≡ d * pages + q → (c < d → ⊥) × (d < c → ⊥)
one-chunk pages c d p q less more same = ((λ lt. below c d p q less same lt), (λ lt. below d c q p more (sym same) lt))
  where
    below : (c d p q : ℕ) → p < pages → c * pages + p ≡ d * pages + q → c < d → ⊥
    below c d p q less same lt = grind arith

same-code : (chunks pages : ℕ) (s t : ℕ × ℕ) → s.1 < pages → t.1 < pages → code pages s ≡ code pages t
    → (s.0 ≡ t.0) × (s.1 ≡ t.1)
same-code chunks pages s t less more same =
    let neither = one-chunk pages s.0 t.0 s.1 t.1 less more same in
    let chunk : s.0 ≡ t.0 = by (three s.0 t.0) neither.0 neither.1 in
    (chunk, omega (arith, same, ap (λ (n : ℕ). n * pages) chunk))
  where
    by : {a b : ℕ} → (a < b) ⊎ ((a ≡ b) ⊎ (b < a)) → (a < b → ⊥) → (b < a → ⊥) → a ≡ b
    by (inl lt) before after = absurd (before lt)
    by (inr (inl e)) before after = e
    by (inr (inr gt)) before after = absurd (after gt)

-- a subpage that is not there has another number than each that is
has-code : (chunks pages : ℕ) (t : ℕ × ℕ) (subpages : List (ℕ × ℕ)) → t.1 < pages → AreWithin chunks pages subpages
    → has_subpage t.0 t.1 subpages ≡ false
    → has (code pages t) (map (code pages) subpages) ≡ false
has-code chunks pages t [] page within none = refl
has-code chunks pages t (s ∷ subpages) page within none =
    ap (λ (b : Bool). b || has (code pages t) (map (code pages) subpages)) first
    ∙ has-code chunks pages t subpages page within.1
    (or_parts ((s.0 == t.0) && (s.1 == t.1)) (has_subpage t.0 t.1 subpages) none).1
  where
    differ : (b : Bool) → (code pages s == code pages t) ≡ b → (code pages s == code pages t) ≡ false
    differ false e = e
    differ true same =
        let e = same-code chunks pages s t within.0.1 page (eqb-true (code pages s) (code pages t) same) in
        absurd (cc (
          (or_parts ((s.0 == t.0) && (s.1 == t.1)) (has_subpage t.0 t.1 subpages) none).0,
          and_from (s.0 == t.0)
              (s.1 == t.1) (eq-eqb s.0 t.0 e.0) (eq-eqb s.1 t.1 e.1),
        ))

    first : (code pages s == code pages t) ≡ false
    first = differ (code pages s == code pages t) refl

codes-differ : (chunks pages : ℕ) (subpages : List (ℕ × ℕ)) → AreWithin chunks pages subpages → SubpagesDiffer subpages
    → AreDifferent (map (code pages) subpages)
codes-differ chunks pages [] within differ = tt
codes-differ chunks pages (s ∷ subpages) within differ = (
  has-code chunks pages s subpages within.0.1 within.1 differ.0,
  codes-differ chunks pages subpages within.1 differ.1,
)

codes-below : (chunks pages : ℕ) (subpages : List (ℕ × ℕ)) → AreWithin chunks pages subpages
    → AreBelow (chunks * pages) (map (code pages) subpages)
codes-below chunks pages [] within = tt
codes-below chunks pages (s ∷ subpages) within =
    (code-below chunks pages s within.0.0 within.0.1, codes-below chunks pages subpages within.1)

-- so there is room for one more
pub room-for : (chunks pages : ℕ) (t : ℕ × ℕ) (subpages : List (ℕ × ℕ)) → t.0 < chunks → t.1 < pages
    → AreWithin chunks pages subpages → SubpagesDiffer subpages
    → has_subpage t.0 t.1 subpages ≡ false → length subpages < chunks * pages
room-for chunks pages t subpages chunk page within differ none =
    omega (
      arith,
      length-map subpages (code pages),
      has_room (chunks * pages) (code pages t) (map (code pages) subpages)
          (codes-differ chunks pages subpages within differ)
          (codes-below chunks pages subpages within)
          (code-below chunks pages t chunk page) (has-code chunks pages t subpages page within none),
    )

-- where each that is there lies in a chunk, all do
pub within-of : (chunks pages : ℕ) (subpages : List (ℕ × ℕ))
    → ((c p : ℕ) → has_subpage c p subpages ≡ true → (c < chunks) × (p < pages)) → AreWithin chunks pages subpages
within-of chunks pages [] each = tt
within-of chunks pages (s ∷ subpages) each = (
  each s.0 s.1 (spot-first s.0 s.1 subpages),
  within-of chunks pages subpages (λ c p there. each c p
      (ap (λ (b : Bool). ((s.0 == c) && (s.1 == p)) || b) there ∙ or_right ((s.0 == c) && (s.1 == p)) true refl)),
)
