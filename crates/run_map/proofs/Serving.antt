-- The run that serves a request, by the bits of a store: it is the one that the rule chooses.
use Rattle.std.proofs.Common.{◌≡◌, ◌⊎◌, ℕ, ◌+◌, ◌-◌, ◌*◌, ◌/◌, ◌%◌, ◌^◌, ◌<◌, ◌≤◌, Bool, true, false, List, Some, refl, sym, ap, ap₂, ◌∙◌, subst, arith, w64, eq-eqb, ne_eqb}
use Rattle.std.specs.Prelude.{nat_le, ◌==◌, ◌&&◌}
use Rattle.std.specs.Int.{bit_at, trailing_zeros}
use Rattle.std.proofs.lemmas.Bool.{cases_lt, le-leb}
use Rattle.std.proofs.lemmas.Nat.{shr-shr, shr_le}
use Rattle.std.proofs.lemmas.Nat.Bits.{bit_at-zero, bit_at-trailing_zeros}
use Rattle.size_classes.specs.Sizes.{Geometry, IsGeometry, IsPageClass, page_class_under}
use Rattle.size_classes.specs.PageCounts.{page_count_at, IsLastAtMost}
use Rattle.size_classes.specs.Pages.{least_class, chosen}
use Rattle.size_classes.specs.Spans.{Span, AreShorter}
use Rattle.size_classes.proofs.OutLaws.{IsAmong, all-of}
use Rattle.size_classes.proofs.CountLaws.{count-mono}
use Rattle.run_map.specs.Stored.{stored, pages_at, is_marked, StandsAt, IsStore, IsUnmarked, AreUnnoted, IsUnserved, IsServing}
use Rattle.run_map.specs.declared.runs.RunLayout.{RunLayout}
use Rattle.run_map.specs.declared.store.Store.{Store}
use Rattle.run_map.proofs.Choosing.{stands-under, class-rises, same-class, class-under-is, class-pages, least-found, find-first}
use Rattle.run_map.proofs.LengthLaws.{spans-among}
use Rattle.run_map.proofs.StoredRuns.{each-among, among-stored}
use mathlib.Core.Logic.{inl, inr}

-- ---- the least class that is noted

bit-later : (w from i : ℕ) → bit_at (w / 2 ^ from) i ≡ bit_at w (from + i)
bit-later w from i = ap (λ (n : ℕ). n % 2) (shr-shr w from i)

pub none-noted : (s : Store) (from : ℕ) → s.noted / 2 ^ from ≡ 0 → AreUnnoted s from 40
none-noted s from none class later few =
    let at : from + (class - from) ≡ class = omega (arith, later) in
    ap (bit_at s.noted) (sym at) ∙ sym (bit-later s.noted from (class - from))
    ∙ ap (λ (n : ℕ). bit_at n (class - from)) none ∙ bit_at-zero (class - from)

-- the lowest bit of the word from the class on
pub lowest-noted : (s : Store) (from : ℕ) → 0 < s.noted / 2 ^ from → s.noted < 2 ^ 64 →
    (bit_at s.noted (from + trailing_zeros w64 (s.noted / 2 ^ from)) ≡ 1)
    × AreUnnoted s from (from + trailing_zeros w64 (s.noted / 2 ^ from))
lowest-noted s from some fits =
    let word : ℕ = s.noted / 2 ^ from in
    let zeros = bit_at-trailing_zeros w64 word some (omega (arith, shr_le s.noted from, fits)) in (
      sym (bit-later s.noted from (trailing_zeros w64 word)) ∙ zeros.1,
      λ class later less.
          let at : from + (class - from) ≡ class = omega (arith, later) in
          ap (bit_at s.noted) (sym at) ∙ sym (bit-later s.noted from (class - from))
          ∙ zeros.2 (class - from) (omega (arith, later, less)),
    )

-- ---- what the bits say of the runs

module _ (l : RunLayout) (s : Store) (is : IsStore l s) where
  -- a page that is marked is the first of a run that stands under the class
  marked-stands : (class first : ℕ) → class < 40 → first < 64 * s.width → is_marked s class first ≡ 1 →
      StandsAt s class first
  marked-stands class first few there mark =
      by (cases_lt 0 n) (cases_lt n (page_count_at class)) (cases_lt n (page_count_at (class + 1)))
    where
      n : ℕ
      n = pages_at s first

      not : (StandsAt s class first → ⊥) → ⊥
      not none = omega (arith, mark, is.marked.clear class first few there none)

      by : (0 < n) ⊎ (n ≤ 0) → (n < page_count_at class) ⊎ (page_count_at class ≤ n) →
          (n < page_count_at (class + 1)) ⊎ (page_count_at (class + 1) ≤ n) → StandsAt s class first
      by (inr none) _ _ = absurd (not (λ at. omega (arith, at.0, none)))
      by (inl some) (inl less) _ = absurd (not (λ at. omega (arith, at.1.holds, less)))
      by (inl some) (inr le) (inr more) = absurd (not (λ at. omega (arith, at.1.next, more)))
      by (inl some) (inr le) (inl less) = (some, record { holds = le; next = less })

  -- a run is marked and its class noted
  run-marked : (x : Span) → IsAmong x (stored s) → (class : ℕ) → class < 40 → IsLastAtMost x.1 class →
      is_marked s class x.0 ≡ 1
  run-marked x among class few last =
      let at = among-stored l s x is among in
      let size : x.1 ≡ pages_at s x.0 = sym at.1 in
      is.marked.set class x.0 few at.0 (omega (arith, size, at.2), subst (λ (n : ℕ). IsLastAtMost n class) size last)

  run-noted : (x : Span) → IsAmong x (stored s) → (class : ℕ) → class < 40 → IsLastAtMost x.1 class →
      bit_at s.noted class ≡ 1
  run-noted x among class few last =
      is.noted.one class x.0 few (run-marked x among class few last)
      (omega (arith, (among-stored l s x is among).0, is.long.width.0))

  -- a class that is noted has a run
  pub noted-some : (class : ℕ) → class < 40 → bit_at s.noted class ≡ 1 → IsUnmarked s class → ⊥
  noted-some class few one none = omega (arith, one, is.noted.none class few none)

  run-fits : (x : Span) → IsAmong x (stored s) → (0 < x.1) × (x.1 ≤ l.pages)
  run-fits x among =
      let at = among-stored l s x is among in
      (at.2, omega (arith, is.within x.0 at.0, at.1))

  pub serving-none : (pages : ℕ) → IsUnserved s pages → AreShorter pages (stored s)
  serving-none pages none =
      all-of (λ r. r.1 < pages) (stored s)
      (each-among (λ r. r.1 < pages) (stored s) (λ x among. by x among (cases_lt x.1 pages)))
    where
      by : (x : Span) → IsAmong x (stored s) → (x.1 < pages) ⊎ (pages ≤ x.1) → x.1 < pages
      by x among (inl less) = less
      by x among (inr le) =
          let fits = run-fits x among in
          let u = stands-under x.1 fits.0 (omega (arith, fits.1, is.long.few)) in
          let later = class-rises pages x.1 none.from u.class none.few none.own u.last le in
          absurd (omega (arith, none.none u.class later u.few, run-noted x among u.class u.few u.last))

-- the run is long enough, and the rule chooses it
pub record IsServed (g : Geometry) (s : Store) (pages first : ℕ) : Type 0 where
  pub long : pages ≤ pages_at s first
  pub among : IsAmong (first, pages_at s first) (stored s)
  pub run : chosen g pages (stored s) ≡ Some (first, pages_at s first)

both : (a b : Bool) → a ≡ true → b ≡ true → (a && b) ≡ true
both a b e f = ap₂ (λ (x y : Bool). x && y) e f

not-second : (a b : Bool) → b ≡ false → (a && b) ≡ false
not-second true b e = e
not-second false b e = refl

module _ (l : RunLayout) (s : Store) (is : IsStore l s) (g : Geometry) (h : IsGeometry g) (many : l.pages ≡ 2 ^ g.order)
    (pages first : ℕ) (own : IsPageClass g pages) (serves : IsServing s pages first) where
  abbrev runs : List Span
  runs = stored s

  abbrev class : ℕ
  class = serves.class

  few : class < 40
  few = serves.least.few

  at : StandsAt s class first
  at = marked-stands l s is class first few serves.lowest.there serves.lowest.set

  abbrev n : ℕ
  n = pages_at s first

  abbrev m : ℕ
  m = page_count_at class

  among : IsAmong (first, n) runs
  among =
      let from : 0 + first ≡ first = omega arith in
      subst (λ (k : ℕ). IsAmong (k, n) runs) from (spans-among 0 first n s.begins.items refl at.0)

  -- the pages of the class of the request
  wants : page_count_at serves.from ≡ pages
  wants = class-pages g h pages serves.from own (omega (arith, serves.least.later, few)) serves.own

  long : pages ≤ n
  long = omega (arith, wants, count-mono serves.from class serves.least.later (omega (arith, few)), at.1.holds)

  under : (x : Span) → IsAmong x runs → (c : ℕ) → c < 40 → IsLastAtMost x.1 c → page_class_under g x.1 ≡ page_count_at c
  under x there c small last =
      class-under-is g h x.1 c (omega (arith, (run-fits l s is x there).1, many)) small last

  -- each that is long enough stands under that class or a later one
  later : (x : Span) → IsAmong x runs → pages ≤ x.1 → (c : ℕ) → c < 40 → IsLastAtMost x.1 c → class ≤ c
  later x there le c small last = by (cases_lt c class)
    where
      by : (c < class) ⊎ (class ≤ c) → class ≤ c
      by (inl less) =
          let from = class-rises pages x.1 serves.from c (omega (arith, serves.least.later, few)) serves.own last le in
          absurd (omega (arith, serves.least.below c from less, run-noted l s is x there c small last))
      by (inr more) = more

  least : least_class g pages runs ≡ m
  least =
      least-found pages m (λ run. page_class_under g run.1) 0 runs (first, n)
      (omega (arith, count-mono 0 class (omega arith) (omega (arith, few))))
      (each-among (λ r. pages ≤ r.1 → m ≤ page_class_under g r.1) runs each) among long
      (under (first, n) among class few at.1)
      (inl refl)
    where
      each : (x : Span) → IsAmong x runs → pages ≤ x.1 → m ≤ page_class_under g x.1
      each x there le =
          let fits = run-fits l s is x there in
          let u = stands-under x.1 fits.0 (omega (arith, fits.1, is.long.few)) in
          let rises = count-mono class u.class (later x there le u.class u.few u.last) (omega (arith, u.few)) in
          omega (arith, under x there u.class u.few u.last, rises)

  -- none that begins before it is long enough and stands under the class
  before : (x : Span) → IsAmong x runs → x.0 < first →
      (nat_le pages x.1 && (page_class_under g x.1 == least_class g pages runs)) ≡ false
  before x there less =
      let fits = run-fits l s is x there in
      let u = stands-under x.1 fits.0 (omega (arith, fits.1, is.long.few)) in
      let mark = run-marked l s is x there u.class u.few u.last in
      let differs : page_class_under g x.1 ≡ least_class g pages runs → ⊥ = λ e.
      let same : u.class ≡ class =
      same-class u.class class u.few few (sym (under x there u.class u.few u.last) ∙ e ∙ least) in
      omega (arith, mark, ap (λ (c : ℕ). is_marked s c x.0) same, serves.lowest.below x.0 less) in
      not-second (nat_le pages x.1) (page_class_under g x.1 == least_class g pages runs)
      (ne_eqb (page_class_under g x.1) (least_class g pages runs) differs)

  pub serving-chosen : IsServed g s pages first
  serving-chosen = record {
    long = long;
    among = among;
    run =
        find-first (λ run. nat_le pages run.1 && (page_class_under g run.1 == least_class g pages runs)) 0 runs
        (first, n)
        is.spaced among
        (both (nat_le pages n) (page_class_under g n == least_class g pages runs) (le-leb pages n long)
        (eq-eqb (page_class_under g n) (least_class g pages runs) (under (first, n) among class few at.1 ∙ sym least)))
        before;
  }
