-- A map as contracts see it: its sizes, and that what is out stays out.
use Rattle.std.proofs.Common.{◌≡◌, ℕ, ◌+◌, ◌-◌, ◌*◌, ◌/◌, ◌%◌, ◌^◌, ◌<◌, ◌≤◌, List, length, sym, ap, ap₂, ◌∙◌, subst, arith, Some}
use Rattle.std.proofs.lemmas.Nat.{div-mul-add, mod-mul-add}
use Rattle.ground.specs.Ground.{Segment}
use Rattle.size_classes.specs.Sizes.{IsGeometry, IsPageClass, of_pages}
use Rattle.size_classes.specs.Pages.{chosen}
use Rattle.size_classes.specs.Spans.{Span, taken_from, given_back, AreApart, AreSpacedFrom, IsOut}
use Rattle.size_classes.proofs.PageClasses.{page_class-within}
use Rattle.size_classes.proofs.Runs.{EachPair, IfThere, chosen-one}
use Rattle.size_classes.proofs.OutLaws.{each-of, all-of, taken-apart, taken-fits, taken-out, given-apart}
use Rattle.size_classes.proofs.ChosenLaws.{chosen-among}
use Rattle.run_map.specs.declared.map.RunMap.TheInside.{Inside}
use Rattle.run_map.specs.FreeRuns.{FreeRuns, geometry_in, with_runs, span_of, IsTaken, ArePagesOut, KeepsOut, KeepsOutBut}
use Rattle.run_map.specs.Held.{free_runs, IsRunMap}
use Rattle.run_map.specs.Stored.{stored, IsServing}
use Rattle.run_map.proofs.StoredRuns.{stored-within}
use Rattle.run_map.proofs.Totals.{pages_in, few-pages}
use Rattle.run_map.proofs.Parts.{product_parts}
use Rattle.std.proofs.Math.Nat.{mul-le-mul_right, mod-eq-sub-div-mul, div-mul-le_self}
use Rattle.run_map.proofs.Serving.{IsServed, serving-chosen}

-- the sizes of the chunk are inside the limits
pub geometry-is : (m : Inside) → IsRunMap m → IsGeometry (of_pages m.order m.layout.page)
geometry-is m h = record {
  least = h.order.0;
  most = h.order.1;
  page = h.page;
  chunk = omega (arith, ap (λ (n : ℕ). n * m.layout.page) h.pages, h.layout.size);
}

-- no more bytes are free than the largest chunk has
pub few-free : (m : Inside) → IsRunMap m → m.total ≤ 2 ^ 24
few-free m h =
    let few = few-pages m.layout.pages (stored m.store) h.store.spaced (stored-within m.layout m.store h.store) in
    let product = mul-le-mul_right {m = pages_in (stored m.store)} {n = m.layout.pages} m.layout.page few in
    omega (arith, h.total, product, h.layout.size)

-- what a take leaves of the free bytes
pub total-less : (m : Inside) (runs : List Span) (pages bytes : ℕ) → IsRunMap m →
    pages_in runs + pages ≡ pages_in (stored m.store) →
    bytes ≡ pages * m.layout.page → (bytes ≤ m.total) × (m.total - bytes ≡ pages_in runs * m.layout.page)
total-less m runs pages bytes h left size =
    let product = product_parts (pages_in runs) pages m.layout.page (pages_in (stored m.store)) left in
    (omega (arith, h.total, product, size), omega (arith, h.total, product, size))

-- and what a give makes of them
pub total-more : (m : Inside) (runs : List Span) (bytes : ℕ) → IsRunMap m →
    pages_in runs ≡ pages_in (stored m.store) + bytes / m.layout.page → bytes % m.layout.page ≡ 0 →
    m.total + bytes ≡ pages_in runs * m.layout.page
total-more m runs bytes h more whole =
    let parts =
    product_parts (pages_in (stored m.store)) (bytes / m.layout.page) m.layout.page (pages_in runs) (sym more) in
    omega (arith, h.total, parts, whole, mod-eq-sub-div-mul bytes m.layout.page, div-mul-le_self bytes m.layout.page)

-- a page class of the map as contracts see it
pub class-in : (m : Inside) (v : FreeRuns) (pages : ℕ) → free_runs m ≡ v → IsPageClass (geometry_in v) pages →
    IsPageClass (of_pages m.order m.layout.page) pages
class-in m v pages is class = subst (λ (x : FreeRuns). IsPageClass (geometry_in x) pages) (sym is) class

-- a page class is no more than the largest chunk
pub few-pages-of : (m : Inside) (v : FreeRuns) (pages : ℕ) → IsRunMap m → free_runs m ≡ v →
    IsPageClass (geometry_in v) pages →
    (0 < pages) × (pages ≤ 2 ^ 11)
few-pages-of m v pages h is class =
    let within =
    page_class-within (of_pages m.order m.layout.page) (geometry-is m h) pages (class-in m v pages is class) in
    (within.0, omega (arith, within.1, h.pages, h.store.long.few))

-- the run that serves a request
pub served : (m : Inside) (v : FreeRuns) (pages first : ℕ) → IsRunMap m → free_runs m ≡ v →
    IsPageClass (geometry_in v) pages →
    IsServing m.store pages first → IsServed (of_pages m.order m.layout.page) m.store pages first
served m v pages first h is class serves =
    serving-chosen m.layout m.store h.store (of_pages m.order m.layout.page) (geometry-is m h) h.pages pages first
    (class-in m v pages is class) serves

-- what is known of the free runs that contracts see
record AreRuns (v : FreeRuns) : Type 0 where
  page : 0 < v.page
  spaced : AreSpacedFrom 0 v.runs
  within : EachPair (λ r. r.0 + r.1 ≤ 2 ^ v.order) v.runs

are-runs : (m : Inside) (v : FreeRuns) → IsRunMap m → free_runs m ≡ v → AreRuns v
are-runs m v h is =
    subst AreRuns is (record {
      page = h.layout.page;
      spaced = h.store.spaced;
      within =
          subst (λ (n : ℕ). EachPair (λ r. r.0 + r.1 ≤ n) (stored m.store)) h.pages
          (stored-within m.layout m.store h.store);
    })

-- the span of so many whole pages
span-is : (page first pages : ℕ) (s : Segment) → 0 < page → s.start ≡ first * page → length s.bytes ≡ pages * page →
    span_of page s ≡ (first, pages)
span-is page first pages s some start size =
    ap₂ (λ (a b : ℕ). (a, b))
    (ap (λ (n : ℕ). n / page) (start ∙ omega arith) ∙ div-mul-add first page 0 some)
    (ap (λ (n : ℕ). n / page) (size ∙ omega arith) ∙ div-mul-add pages page 0 some)

-- the run that is chosen is one of them, and holds the pages
chosen-holds : (v : FreeRuns) (pages at long : ℕ) → AreRuns v → chosen (geometry_in v) pages v.runs ≡ Some (at, long) →
    (at + long ≤ 2 ^ v.order) × (pages ≤ long)
chosen-holds v pages at long a e =
    subst (IfThere (λ x. (x.0 + x.1 ≤ 2 ^ v.order) × (pages ≤ x.1))) e
    (chosen-one (geometry_in v) (λ x. x.0 + x.1 ≤ 2 ^ v.order) pages v.runs a.within)

-- what is taken is out
pub taken-is-out : (m : Inside) (v n : FreeRuns) (pages : ℕ) (s : Segment) (offset : ℕ) → IsRunMap m → free_runs m ≡ v →
    0 < pages → IsTaken v n pages s offset → ArePagesOut n s
taken-is-out m v n pages s offset h is some taken =
    let a = are-runs m v h is in
    let held = chosen-holds v pages offset taken.long a taken.run in
    let among = chosen-among (geometry_in v) pages v.runs (offset, taken.long) taken.run in
    let span = span-is v.page offset pages s a.page taken.piece.start taken.piece.size in
    let left = taken_from offset pages v.runs in
    let apart =
    all-of (AreApart (offset, pages)) left (taken-out 0 offset taken.long pages v.runs a.spaced among held.1) in
    subst (λ (x : FreeRuns). ArePagesOut x s) (sym taken.rest) (record {
      pages = record {
        origin = taken.piece.origin;
        start = ap (λ (k : ℕ). k % v.page) (taken.piece.start ∙ omega arith) ∙ mod-mul-add offset v.page 0 a.page;
        size = ap (λ (k : ℕ). k % v.page) (taken.piece.size ∙ omega arith) ∙ mod-mul-add pages v.page 0 a.page;
      };
      out = subst (λ (q : Span). IsOut (2 ^ v.order) left q) (sym span) (some, omega (arith, held.0, held.1), apart);
    })

-- and what else is out stays out
pub taken-keeps : (m : Inside) (v n : FreeRuns) (pages : ℕ) (s : Segment) (offset : ℕ) → IsRunMap m → free_runs m ≡ v →
    IsTaken v n pages s offset → KeepsOut v n
taken-keeps m v n pages s offset h is taken q out =
    let a = are-runs m v h is in
    let held = chosen-holds v pages offset taken.long a taken.run in
    let among = chosen-among (geometry_in v) pages v.runs (offset, taken.long) taken.run in
    let r = span_of v.page q in
    let fits = taken-fits 0 offset taken.long pages v.runs a.spaced among held.1 in
    let apart = taken-apart r offset pages v.runs fits (each-of (AreApart r) v.runs out.out.2) in
    subst (λ (x : FreeRuns). ArePagesOut x q) (sym taken.rest) (record {
      pages = record { origin = out.pages.origin; start = out.pages.start; size = out.pages.size };
      out = (out.out.0, out.out.1, all-of (AreApart r) (taken_from offset pages v.runs) apart);
    })

-- also when pages are given back
pub given-keeps : (v n : FreeRuns) (s : Segment) → n ≡ with_runs v (given_back (span_of v.page s) v.runs) →
    KeepsOutBut (span_of v.page s) v n
given-keeps v n s back q apart out =
    let r = span_of v.page q in
    let t = span_of v.page s in
    subst (λ (x : FreeRuns). ArePagesOut x q) (sym back) (record {
      pages = record { origin = out.pages.origin; start = out.pages.start; size = out.pages.size };
      out = (
        out.out.0,
        out.out.1,
        all-of (AreApart r) (given_back t v.runs)
            (given-apart r t v.runs out.out.0 apart (each-of (AreApart r) v.runs out.out.2)),
      );
    })
