-- The page calls: which page class they answer, and that pages asked for are page classes.
use Rattle.std.proofs.Common.{◌≡◌, ◌⊎◌, ℕ, zero, suc, ◌+◌, ◌-◌, ◌*◌, ◌/◌, ◌%◌, ◌^◌, ◌<◌, ◌≤◌, true, false, List, [], ◌∷◌, length, get_or, refl, sym, ap, ◌∙◌, subst, arith, eqb-true, Option, Some}
use Rattle.std.specs.Prelude.{nat_lt, nat_le, ◌==◌, position, count_by, unwrap_or, Contains, filter, map}
use Rattle.std.proofs.lemmas.Bool.{cond_both, cases_lt, le-leb, lt-leb, lt-ltb, le-ltb, agree_below_at}
use Rattle.size_classes.specs.Sizes.{Geometry, IsGeometry, IsPageClass, chunk_pages, whole_pages, page_class_up, page_classes_up_to}
use Rattle.size_classes.specs.PageCounts.{page_count_at, page_counts, page_class_count, IsFirstAtLeast, IsLastAtMost}
use Rattle.size_classes.proofs.Searches.{position-at, position-none, count-up_to}
use Rattle.size_classes.proofs.CountLaws.{before-first, up_to_last, count-mono, length-counts, counts-at}
use Rattle.size_classes.proofs.Tables.{page_classes_counted, last_page_count, page_counts-past, page_counts-rise}
use mathlib.Core.Logic.{inl, inr}

-- ---- up

-- the first class that holds pages of a chunk is one of the chunk's
first-there : (order pages k : ℕ) → 3 ≤ order → order ≤ 11 → pages ≤ 2 ^ order → k ≤ 256 → IsFirstAtLeast pages k →
    k < 4 * order - 4
first-there order pages k least most fits few first = go (cases_lt k (4 * order - 4))
  where
    go : (k < 4 * order - 4) ⊎ (4 * order - 4 ≤ k) → k < 4 * order - 4
    go (inl less) = less
    go (inr more) =
        absurd (omega (
          arith,
          before-first pages k (4 * order - 5) few first (omega (arith, least, more)),
          last_page_count order least most,
          fits,
        ))

-- and that is what the search finds
pub page_class_up-is : (g : Geometry) → IsGeometry g → (pages k : ℕ) → pages ≤ chunk_pages g → k ≤ 256 →
    IsFirstAtLeast pages k → page_class_up g pages ≡ Some k
page_class_up-is g h pages k fits few first =
    let n = page_class_count g.order in
    let there : k < n = first-there g.order pages k h.least h.most fits few first in
    ap (position (λ class. nat_le pages class)) (page_classes_counted g h)
    ∙ position-at (λ class. nat_le pages class) (page_counts g.order) k (omega (arith, there, length-counts n))
    (rw (counts-at n k 0 there) (le-leb pages (page_count_at k) first.holds))
    (λ j less. rw (counts-at n j 0 (omega (arith, less, there)))
    (lt-leb pages (page_count_at j) (before-first pages k j few first less)))

-- ---- down

-- the last class that pages of a chunk hold is one of the chunk's
pub last-there : (order pages k : ℕ) → 3 ≤ order → order ≤ 11 → pages ≤ 2 ^ order → k ≤ 256 → IsLastAtMost pages k →
    k < 4 * order - 4
last-there order pages k least most fits few last = go (cases_lt k (4 * order - 4))
  where
    go : (k < 4 * order - 4) ⊎ (4 * order - 4 ≤ k) → k < 4 * order - 4
    go (inl less) = less
    go (inr more) =
        absurd (omega (
          arith,
          count-mono (4 * order - 4) k more few,
          last.holds,
          page_counts-past order least most,
          last_page_count order least most,
          fits,
        ))

-- so the classes up to it are those that have at most so many pages
pub page_classes_up_to-is : (g : Geometry) → IsGeometry g → (pages k : ℕ) → pages ≤ chunk_pages g → k ≤ 250 →
    IsLastAtMost pages k → k + 1 ≡ page_classes_up_to g pages
page_classes_up_to-is g h pages k fits few last =
    sym (ap (count_by (λ class. nat_le class pages)) (page_classes_counted g h)
    ∙ count-up_to pages (page_counts g.order) (page_counts-rise g.order h.least h.most)
    ∙ go (cases_lt (k + 1) n))
  where
    n : ℕ
    n = page_class_count g.order

    there : k < n
    there = last-there g.order pages k h.least h.most fits (omega (arith, few)) last

    within : (j : ℕ) → j ≤ k → nat_lt pages (get_or (page_counts g.order) j 0) ≡ false
    within j le =
        rw (counts-at n j 0 (omega (arith, le, there)))
        (le-ltb pages (page_count_at j) (up_to_last pages k j (omega (arith, few)) last le))

    go : (k + 1 < n) ⊎ (n ≤ k + 1) →
        unwrap_or (position (λ class. nat_lt pages class) (page_counts g.order)) (length (page_counts g.order)) ≡ k + 1
    go (inl less) =
        ap (λ (o : Option ℕ). unwrap_or o (length (page_counts g.order)))
        (position-at (λ class. nat_lt pages class) (page_counts g.order) (k + 1) (omega (arith, less, length-counts n))
        (rw (counts-at n (k + 1) 0 less) (lt-ltb pages (page_count_at (k + 1)) last.next))
        (λ j below. within j (omega (arith, below))))
    go (inr more) =
        ap (λ (o : Option ℕ). unwrap_or o (length (page_counts g.order)))
        (position-none (λ class. nat_lt pages class) (page_counts g.order)
        (λ j below. within j (omega (arith, below, length-counts n, more))))
        ∙ omega (arith, length-counts n, more, there)

-- ---- page classes

-- the first seven counts are all numbers up to seven, and each chunk has them
pub few-are-classes : (g : Geometry) → IsGeometry g → (pages : ℕ) → 1 ≤ pages → pages ≤ 7 → IsPageClass g pages
few-are-classes g h pages some few =
    let n = page_class_count g.order in
    let same : page_count_at (pages - 1) ≡ pages =
    eqb-true (page_count_at (pages - 1)) (pages + (1 - pages))
    (agree_below_at (λ p. page_count_at (p - 1) == p + (1 - p)) (λ _. true) 8 pages refl (omega (arith, few)))
    ∙ omega (arith, some) in
    let there : pages - 1 < n = omega (arith, some, few, h.least) in
    subst (λ (xs : List ℕ). Contains xs pages) (sym (page_classes_counted g h))
    (pages - 1, omega (arith, there, length-counts n), counts-at n (pages - 1) pages there ∙ same)

-- a size that is whole pages is one of the page classes
pub Contains-whole_pages : (page size k : ℕ) (xs : List ℕ) → k < length xs → get_or xs k size ≡ size →
    (size % page == 0) ≡ true → Contains (whole_pages page xs) (size / page)
Contains-whole_pages page size k [] there e whole = absurd (omega (arith, there))
Contains-whole_pages page size zero (x ∷ xs) there e whole =
    let first : (x % page == 0) ≡ true = ap (λ (s : ℕ). s % page == 0) e ∙ whole in
    rw first (0, omega arith, ap (λ (s : ℕ). s / page) e)
Contains-whole_pages page size (suc k) (x ∷ xs) there e whole =
    let ih = Contains-whole_pages page size k xs (omega (arith, there)) e whole in
    cond_both (x % page == 0) (x ∷ filter (λ size. size % page == 0) xs) (filter (λ size. size % page == 0) xs)
    (λ (l : List ℕ). Contains (map (λ size. size / page) l) (size / page))
    (λ _. (suc ih.0, omega (arith, ih.1), ih.2))
    (λ _. ih)

-- a page class has a page at least, and no more than the chunk
pub page_class-within : (g : Geometry) → IsGeometry g → (pages : ℕ) → IsPageClass g pages →
    (1 ≤ pages) × (pages ≤ chunk_pages g)
page_class-within g h pages is =
    let n = page_class_count g.order in
    let C : List ℕ → Type 0 = λ xs. Contains xs pages in
    let among = subst C (page_classes_counted g h) is in
    let there : among.0 < n = omega (arith, among.1, length-counts n) in
    let same : page_count_at among.0 ≡ pages = sym (counts-at n among.0 pages there) ∙ among.2 in
    let most = count-mono among.0 (4 * g.order - 5) (omega (arith, there)) (omega (arith, h.most)) in (
      omega (arith, same, count-mono 0 among.0 (omega arith) (omega (arith, there, h.most))),
      omega (arith, same, most, last_page_count g.order h.least h.most),
    )
