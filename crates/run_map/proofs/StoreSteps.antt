-- A take and a give by the steps of a store: a run that is pulled, and one that is put.
use Rattle.std.proofs.Common.{◌≡◌, ◌≢◌, ◌⊎◌, ℕ, zero, suc, ◌+◌, ◌-◌, ◌<◌, ◌≤◌, List, [], ◌∷◌, ◌++◌, length, get_or, refl, sym, ap, ◌∙◌, subst, arith, eq-eqb, ne_eqb, eqb-true}
use Rattle.std.specs.Prelude.{slice_set, ◌==◌}
use Rattle.std.proofs.lemmas.Bool.{cond_both, cases_eq, eqb-false}
use Rattle.std.proofs.lemmas.Grind.{get_or_default_zero}
use Rattle.size_classes.specs.Spans.{Span, rest_of, taken_from, placed_in, AreSpacedFrom}
use Rattle.size_classes.proofs.OutLaws.{IsAmong, among-later}
use Rattle.run_map.specs.Lengths.{spans_from, without, beginning}
use Rattle.run_map.proofs.LengthLaws.{spans-clear}
use Rattle.run_map.proofs.SpanSteps.{with_rest, taken-steps}
use Rattle.std.proofs.Common.{Option, None}
use Rattle.std.specs.Prelude.{MatchOption}
use Rattle.std.proofs.lemmas.List.{get_or_default}
use Rattle.ground.specs.Ground.{Segment}
use Rattle.run_map.specs.Spaced.{IsPart}
use Rattle.run_map.specs.Stored.{stored, IsStore, IsHeld}
use Rattle.run_map.specs.declared.runs.RunLayout.{RunLayout}
use Rattle.run_map.specs.declared.store.Store.{Store}
use mathlib.Core.Logic.{inl, inr}

-- the run that begins at a page is among them
pub among-beginning : (at : ℕ) (runs : List Span) → 0 < beginning at runs → IsAmong (at, beginning at runs) runs
among-beginning at [] some = absurd (omega (arith, some))
among-beginning at (r ∷ runs) some = by (among-beginning at runs) some (cases_eq r.0 at)
  where
    by : (0 < beginning at runs → IsAmong (at, beginning at runs) runs) → 0 < beginning at (r ∷ runs) →
        (r.0 ≡ at) ⊎ (r.0 ≡ at → ⊥) → IsAmong (at, beginning at (r ∷ runs)) (r ∷ runs)
    by ih some (inl e) = rw (eq-eqb r.0 at e) (inl (ap (λ (k : ℕ). (k, r.1)) e))
    by ih some (inr ne) =
        let past : beginning at (r ∷ runs) ≡ beginning at runs = rw (ne_eqb r.0 at ne) refl in
        subst (λ (n : ℕ). IsAmong (at, n) (r ∷ runs)) (sym past) (inr (ih (omega (arith, past, some))))

-- what is in order from a page on is so from an earlier one
pub spaced-lower : (low high : ℕ) (runs : List Span) → low ≤ high → AreSpacedFrom high runs → AreSpacedFrom low runs
spaced-lower low high [] le h = tt
spaced-lower low high (r ∷ runs) le h = (omega (arith, le, h.0), h.1, h.2)

-- what a take leaves is in order
pub taken-spaced : (low at long pages : ℕ) (runs : List Span) → AreSpacedFrom low runs → IsAmong (at, long) runs →
    0 < pages → pages ≤ long → AreSpacedFrom low (taken_from at pages runs)
taken-spaced low at long pages [] h is some le = absurd is
taken-spaced low at long pages (r ∷ runs) h is some le =
    cond_both (r.0 == at) (rest_of pages r ++ runs) (r ∷ taken_from at pages runs) (AreSpacedFrom low)
    (λ e. here (eqb-true r.0 at e) (fits (eqb-true r.0 at e) is))
    (λ ne. later (λ is. taken-spaced (r.0 + r.1 + 1) at long pages runs h.2 is some le) (eqb-false r.0 at ne) is)
  where
    fits : r.0 ≡ at → IsAmong (at, long) (r ∷ runs) → pages ≤ r.1
    fits e (inl same) = omega (arith, ap (λ (s : Span). s.1) same, le)
    fits e (inr is) = absurd (omega (arith, e, among-later (r.0 + r.1 + 1) (at, long) runs h.2 is))

    here : r.0 ≡ at → pages ≤ r.1 → AreSpacedFrom low (rest_of pages r ++ runs)
    here e few = cond_both (r.1 == pages) [] ((r.0 + pages, r.1 - pages) ∷ []) (λ l. AreSpacedFrom low (l ++ runs))
        (λ _. spaced-lower low (r.0 + r.1 + 1) runs (omega (arith, h.0)) h.2)
        (λ part. (
          omega (arith, h.0),
          omega (arith, few, eqb-false r.1 pages part),
          spaced-lower (r.0 + pages + (r.1 - pages) + 1) (r.0 + r.1 + 1) runs (omega (arith, few)) h.2,
        ))

    later : (IsAmong (at, long) runs → AreSpacedFrom (r.0 + r.1 + 1) (taken_from at pages runs)) → r.0 ≢ at →
        IsAmong (at, long) (r ∷ runs) → AreSpacedFrom low (r ∷ taken_from at pages runs)
    later ih ne (inl same) = absurd (ne (ap (λ (s : Span). s.0) same))
    later ih ne (inr is) = (h.0, h.1, ih is)

-- a take, where the run has been pulled
taking : (at long pages : ℕ) (old new : List Span) → AreSpacedFrom 0 old → new ≡ without at old →
    long ≡ beginning at old →
    0 < pages → pages ≤ beginning at old → taken_from at pages old ≡ with_rest at pages long new
taking at long pages old new h gone size some le =
    taken-steps 0 at (beginning at old) pages old h (among-beginning at old (omega (arith, some, le))) some le
    ∙ ap (λ (n : ℕ). with_rest at pages n (without at old)) (sym size)
    ∙ ap (λ (l : List Span). with_rest at pages long l) (sym gone)

pub taking-whole : (at long pages : ℕ) (old new : List Span) → AreSpacedFrom 0 old → new ≡ without at old →
    long ≡ beginning at old →
    0 < pages → pages ≤ beginning at old → long ≡ pages → taken_from at pages old ≡ new
taking-whole at long pages old new h gone size some le all =
    taking at long pages old new h gone size some le ∙ (rw (eq-eqb long pages all) refl)

pub taking-part : (at long pages : ℕ) (old new : List Span) → AreSpacedFrom 0 old → new ≡ without at old →
    long ≡ beginning at old →
    0 < pages → pages ≤ beginning at old → long ≢ pages →
    taken_from at pages old ≡ placed_in (at + pages, long - pages) new
taking-part at long pages old new h gone size some le part =
    taking at long pages old new h gone size some le ∙ (rw (ne_eqb long pages part) refl)

-- ---- the lengths by page

beginning-before : (low at : ℕ) (ns : List ℕ) → low < at → beginning low (spans_from at ns) ≡ 0
beginning-before low at [] less = refl
beginning-before low at (m ∷ ns) less =
    let ih = beginning-before low (at + 1) ns (omega (arith, less)) in
    cond_both (m == 0) (spans_from (at + 1) ns) ((at, m) ∷ spans_from (at + 1) ns) (λ runs. beginning low runs ≡ 0)
    (λ _. ih)
    (λ _. rw (ne_eqb at low (λ e. omega (arith, e, less))) ih)

-- the run that begins at a page has the length that stands there
pub beginning-at : (at i : ℕ) (ns : List ℕ) → beginning (at + i) (spans_from at ns) ≡ get_or ns i 0
beginning-at at i [] = refl
beginning-at at zero (m ∷ ns) =
    let same : at + 0 ≡ at = omega arith in
    rw same
    (cond_both (m == 0) (spans_from (at + 1) ns) ((at, m) ∷ spans_from (at + 1) ns) (λ runs. beginning at runs ≡ m)
    (λ none. beginning-before at (at + 1) ns (omega arith) ∙ sym (eqb-true m 0 none))
    (λ _. rw (eq-eqb at at refl) refl))
beginning-at at (suc i) (m ∷ ns) =
    let same : at + 1 + i ≡ at + suc i = omega arith in
    let ih : beginning (at + suc i) (spans_from (at + 1) ns) ≡ get_or ns i 0 =
    subst (λ (k : ℕ). beginning k (spans_from (at + 1) ns) ≡ get_or ns i 0) same (beginning-at (at + 1) i ns) in
    cond_both (m == 0) (spans_from (at + 1) ns) ((at, m) ∷ spans_from (at + 1) ns)
    (λ runs. beginning (at + suc i) runs ≡ get_or ns i 0)
    (λ _. ih)
    (λ _. rw (ne_eqb at (at + suc i) (λ e. omega (arith, e))) ih)

-- a page past the end has none
pub there-begins : (ns : List ℕ) (i : ℕ) → 0 < get_or ns i 0 → i < length ns
there-begins [] i some = absurd (omega (arith, some))
there-begins (m ∷ ns) zero some = omega arith
there-begins (m ∷ ns) (suc i) some = omega (arith, there-begins ns i some)

pub begins-there : (ns : List ℕ) (i : ℕ) → 0 < beginning i (spans_from 0 ns) → i < length ns
begins-there ns i some =
    let from : 0 + i ≡ i = omega arith in
    there-begins ns i (omega (arith, some, ap (λ (k : ℕ). beginning k (spans_from 0 ns)) from, beginning-at 0 i ns))

-- what a pull leaves
pub pulled : (ns : List ℕ) (i : ℕ) → 0 < beginning i (spans_from 0 ns) →
    spans_from 0 (slice_set ns i 0) ≡ without i (spans_from 0 ns)
pulled ns i some =
    let from : 0 + i ≡ i = omega arith in
    spans-clear 0 i ns (begins-there ns i some) ∙ ap (λ (k : ℕ). without k (spans_from 0 ns)) from

-- the length that is read at a page
pub begins-value : (ns : List ℕ) (i x : ℕ) → i < length ns → x ≡ get_or ns i x → x ≡ beginning i (spans_from 0 ns)
begins-value ns i x there read =
    let from : 0 + i ≡ i = omega arith in
    read ∙ get_or_default_zero ns i x there
    ∙ sym (subst (λ (k : ℕ). beginning k (spans_from 0 ns) ≡ get_or ns i 0) from (beginning-at 0 i ns))

-- what is read at the page where a run begins
pub at-page : (l : RunLayout) (s : Store) (i x result : ℕ) → IsStore l s → 0 < beginning i (stored s) →
    x ≡ get_or s.begins.items i x → result ≡ x → (0 < result) × (i + result ≤ l.pages) × (i < l.pages)
at-page l s i x result is some read same =
    let there = begins-there s.begins.items i some in
    let value = begins-value s.begins.items i x there read in
    let stands : x ≡ get_or s.begins.items i 0 = read ∙ get_or_default_zero s.begins.items i x there in
    let within : i < l.pages = omega (arith, there, is.long.begins) in
    (omega (arith, some, value, same), omega (arith, is.within i within, stands, same), within)

held-piece : (l : RunLayout) (first n : ℕ) (piece : Option Segment) → 0 < n → IsHeld l first n piece →
    MatchOption piece ⊥ (IsPart l first n)
held-piece l first zero piece some h = absurd (omega (arith, some))
held-piece l first (suc n) piece some h = h

-- the memory that is read at the page where a run begins
pub piece-at : (l : RunLayout) (s : Store) (i : ℕ) (ps : List (Option Segment)) (x result : Option Segment) → IsStore l
    s →
    0 < beginning i (stored s) → ps ≡ s.pieces.items → x ≡ get_or ps i x → result ≡ x →
    MatchOption result ⊥ (IsPart l i (beginning i (stored s)))
piece-at l s i ps x result is some e read same =
    let n : ℕ = get_or s.begins.items i 0 in
    let from : 0 + i ≡ i = omega arith in
    let stands : beginning i (stored s) ≡ n =
    subst (λ (k : ℕ). beginning k (stored s) ≡ n) from (beginning-at 0 i s.begins.items) in
    let within : i < l.pages = omega (arith, begins-there s.begins.items i some, is.long.begins) in
    let found : result ≡ get_or s.pieces.items i None =
    same ∙ read ∙ ap (λ (qs : List (Option Segment)). get_or qs i x) e
    ∙ get_or_default s.pieces.items i x None (omega (arith, within, is.long.pieces)) in
    subst (λ (m : ℕ). MatchOption result ⊥ (IsPart l i m)) (sym stands)
    (subst (λ (o : Option Segment). MatchOption o ⊥ (IsPart l i n)) (sym found)
    (held-piece l i n (get_or s.pieces.items i None) (omega (arith, some, stands)) (is.held i within)))
