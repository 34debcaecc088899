-- Page classes under which runs stand, the least of them, and the first run that passes a test.
use Rattle.std.proofs.Common.{◌≡◌, ◌⊎◌, ℕ, zero, suc, ◌+◌, ◌^◌, ◌<◌, ◌≤◌, Bool, true, false, List, [], ◌∷◌, ◌++◌, Some, refl, sym, ap, ◌∙◌, subst, arith, lit<, add-one, eq-eqb, ne_eqb}
use Rattle.std.specs.Prelude.{nat_le, if◌then◌else◌, map, filter, fold, find, max, Contains}
use Rattle.std.proofs.lemmas.Bool.{cond_both, cases_lt, leb-true, le-leb, lt-leb}
use Rattle.std.proofs.lemmas.List.Elements.{filter-append}
use Rattle.std.proofs.lemmas.List.Sums.{fold-append}
use Rattle.size_classes.specs.Sizes.{Geometry, IsGeometry, IsPageClass, page_class_under, greatest_at_most}
use Rattle.size_classes.specs.PageCounts.{page_count_at, first_page_counts, page_class_count, IsLastAtMost}
use Rattle.size_classes.specs.Pages.{lower}
use Rattle.size_classes.specs.Spans.{Span, AreSpacedFrom}
use Rattle.size_classes.proofs.Runs.{EachPair}
use Rattle.size_classes.proofs.OutLaws.{IsAmong, among-later}
use Rattle.size_classes.proofs.CountLaws.{count-rises, count-mono, past_last, length-counts, counts-at}
use Rattle.size_classes.proofs.PageClasses.{last-there}
use Rattle.size_classes.proofs.Tables.{page_classes_counted}
use mathlib.Core.Logic.{inl, inr}

-- ---- the class under which a run stands

-- it is one of the first forty
pub record StandsUnder (n : ℕ) : Type 0 where
  pub class : ℕ
  pub few : class < 40
  pub last : IsLastAtMost n class

stands-below : (k n : ℕ) → 0 < n → k < 40 → n < page_count_at (k + 1) → StandsUnder n
stands-below zero n some few less =
    record { class = 0; few = few; last = record { holds = omega (arith, some); next = less } }
stands-below (suc k) n some few less =
    by (cases_lt n (page_count_at (suc k)))
    (λ fewer. stands-below k n some (omega (arith, few))
    (subst (λ (j : ℕ). n < page_count_at j) (sym (add-one k)) fewer))
  where
    by : (n < page_count_at (suc k)) ⊎ (page_count_at (suc k) ≤ n) → (n < page_count_at (suc k) → StandsUnder n) →
        StandsUnder n
    by (inl fewer) ih = ih fewer
    by (inr le) ih = record { class = suc k; few = few; last = record { holds = le; next = less } }

pub stands-under : (n : ℕ) → 0 < n → n ≤ 2 ^ 11 → StandsUnder n
stands-under n some few =
    let top : page_count_at (39 + 1) ≡ 2560 = refl in
    stands-below 39 n some (lit< tt) (omega (arith, few, top))

-- more pages stand under a class that isn't lower
pub class-rises : (n m i j : ℕ) → i < 40 → IsLastAtMost n i → IsLastAtMost m j → n ≤ m → i ≤ j
class-rises n m i j few first second le = by (cases_lt j i)
  where
    by : (j < i) ⊎ (i ≤ j) → i ≤ j
    by (inl less) = absurd (omega (arith, past_last m j i (omega (arith, few)) second less, first.holds, le))
    by (inr more) = more

-- classes of as many pages are the same
pub same-class : (i j : ℕ) → i < 40 → j < 40 → page_count_at i ≡ page_count_at j → i ≡ j
same-class i j few small e = by (cases_lt i j) (cases_lt j i)
  where
    apart : (a b : ℕ) → b < 40 → a < b → page_count_at a < page_count_at b
    apart a b less below =
        omega (
          arith,
          count-rises a (omega (arith, less, below)),
          count-mono (a + 1) b (omega (arith, below))
              (omega (arith, less)),
        )

    by : (i < j) ⊎ (j ≤ i) → (j < i) ⊎ (i ≤ j) → i ≡ j
    by (inl less) _ = absurd (omega (arith, apart i j small less, e))
    by (inr le) (inl less) = absurd (omega (arith, apart j i few less, e))
    by (inr le) (inr more) = omega (arith, le, more)

-- ---- and its pages

greatest-more : (n y : ℕ) (xs : List ℕ) →
    greatest_at_most n (xs ++ y ∷ []) ≡ (if nat_le y n then max (greatest_at_most n xs) y else greatest_at_most n xs)
greatest-more n y xs =
    ap (fold max 0) (filter-append (λ class. nat_le class n) xs (y ∷ []))
    ∙ fold-append max 0 (filter (λ class. nat_le class n) xs) (filter (λ class. nat_le class n) (y ∷ []))
    ∙ by (nat_le y n) (greatest_at_most n xs)
  where
    by : (b : Bool) (a : ℕ) → fold max a (if b then y ∷ [] else []) ≡ (if b then max a y else a)
    by true a = refl
    by false a = refl

greatest-up : (n k : ℕ) → page_count_at k ≤ n → k ≤ 255 →
    greatest_at_most n (first_page_counts (suc k)) ≡ page_count_at k
greatest-up n zero le few =
    greatest-more n (page_count_at 0) []
    ∙ ap (λ (b : Bool). if b then max 0 (page_count_at 0) else 0) (le-leb (page_count_at 0) n le)
greatest-up n (suc k) le few =
    let rises : page_count_at k ≤ page_count_at (suc k) = count-mono k (suc k) (omega arith) (omega (arith, few)) in
    let ih = greatest-up n k (omega (arith, le, rises)) (omega (arith, few)) in
    let g : ℕ = greatest_at_most n (first_page_counts (suc k)) in
    greatest-more n (page_count_at (suc k)) (first_page_counts (suc k))
    ∙ ap (λ (b : Bool). if b then max g (page_count_at (suc k)) else g) (le-leb (page_count_at (suc k)) n le)
    ∙ ap (λ (a : ℕ). max a (page_count_at (suc k))) ih
    ∙ omega (arith, rises)

greatest-is : (n i k : ℕ) → i < k → k ≤ 255 → IsLastAtMost n i →
    greatest_at_most n (first_page_counts k) ≡ page_count_at i
greatest-is n i zero less few last = absurd (omega (arith, less))
greatest-is n i (suc k) less few last = by (cases_lt i k) (λ more. greatest-is n i k more (omega (arith, few)) last)
  where
    g : ℕ
    g = greatest_at_most n (first_page_counts k)

    by : (i < k) ⊎ (k ≤ i) → (i < k → greatest_at_most n (first_page_counts k) ≡ page_count_at i) →
        greatest_at_most n (first_page_counts (suc k)) ≡ page_count_at i
    by (inl more) ih =
        greatest-more n (page_count_at k) (first_page_counts k)
        ∙ ap (λ (b : Bool). if b then max g (page_count_at k) else g)
        (lt-leb (page_count_at k) n (past_last n i k (omega (arith, few)) last more))
        ∙ ih more
    by (inr le) ih =
        let same : i ≡ k = omega (arith, le, less) in
        subst (λ (j : ℕ). greatest_at_most n (first_page_counts (suc j)) ≡ page_count_at i) same
        (greatest-up n i last.holds (omega (arith, less, few)))

pub class-under-is : (g : Geometry) → IsGeometry g → (n i : ℕ) → n ≤ 2 ^ g.order → i < 40 → IsLastAtMost n i →
    page_class_under g n ≡ page_count_at i
class-under-is g h n i fits few last =
    ap (greatest_at_most n) (page_classes_counted g h)
    ∙ greatest-is n i (page_class_count g.order) (last-there g.order n i h.least h.most fits (omega (arith, few)) last)
    (omega (arith, h.most)) last

-- a page class has its own pages
pub class-pages : (g : Geometry) → IsGeometry g → (pages i : ℕ) → IsPageClass g pages → i < 40 → IsLastAtMost pages i →
    page_count_at i ≡ pages
class-pages g h pages i is few last = by (cases_lt i k)
  where
    among : Contains (first_page_counts (page_class_count g.order)) pages
    among = subst (λ (xs : List ℕ). Contains xs pages) (page_classes_counted g h) is

    k : ℕ
    k = among.0

    there : k < page_class_count g.order
    there = omega (arith, among.1, length-counts (page_class_count g.order))

    same : page_count_at k ≡ pages
    same = sym (counts-at (page_class_count g.order) k pages there) ∙ among.2

    by : (i < k) ⊎ (k ≤ i) → page_count_at i ≡ pages
    by (inl less) = absurd (omega (arith, past_last pages i k (omega (arith, there, h.most)) last less, same))
    by (inr le) = omega (arith, count-mono k i le (omega (arith, few)), same, last.holds)

-- ---- the least of some

lower-keeps : (a m : ℕ) → (a ≡ 0) ⊎ (m ≤ a) → 0 < m → lower a m ≡ m
lower-keeps a m (inl e) some = rw (eq-eqb a 0 e) refl
lower-keeps a m (inr le) some = rw (ne_eqb a 0 (λ e. omega (arith, e, le, some))) (omega (arith, le))

lower-first : (m n : ℕ) → 0 < m → m ≤ n → lower m n ≡ m
lower-first m n some le = rw (ne_eqb m 0 (λ e. omega (arith, e, some))) (omega (arith, le))

lower-more : (a m n : ℕ) → (a ≡ 0) ⊎ (m ≤ a) → 0 < m → m ≤ n → m ≤ lower a n
lower-more a m n (inl e) some le = rw (eq-eqb a 0 e) le
lower-more a m n (inr more) some le = rw (ne_eqb a 0 (λ e. omega (arith, e, more, some))) (omega (arith, more, le))

-- those of at least so many pages
abbrev long_enough : ℕ → List Span → List Span
long_enough p runs = filter (λ run. nat_le p run.1) runs

least-stays : (p m : ℕ) (f : Span → ℕ) (runs : List Span) → 0 < m → EachPair (λ r. p ≤ r.1 → m ≤ f r) runs →
    fold lower m (map f (long_enough p runs)) ≡ m
least-stays p m f [] some h = refl
least-stays p m f (r ∷ runs) some h =
    let ih = least-stays p m f runs some h.1 in
    cond_both (nat_le p r.1) (r ∷ long_enough p runs) (long_enough p runs) (λ l. fold lower m (map f l) ≡ m)
    (λ holds. ap (λ (a : ℕ). fold lower a (map f (long_enough p runs)))
    (lower-first m (f r) some (h.0 (leb-true p r.1 holds))) ∙ ih)
    (λ _. ih)

pub least-found : (p m : ℕ) (f : Span → ℕ) (a : ℕ) (runs : List Span) (x : Span) → 0 < m →
    EachPair (λ r. p ≤ r.1 → m ≤ f r) runs → IsAmong x runs → p ≤ x.1 → f x ≡ m → (a ≡ 0) ⊎ (m ≤ a) →
    fold lower a (map f (long_enough p runs)) ≡ m
least-found p m f a [] x some h is le e from = absurd is
least-found p m f a (r ∷ runs) x some h (inl same) le e from =
    let holds : nat_le p r.1 ≡ true = le-leb p r.1 (subst (λ (s : Span). p ≤ s.1) (sym same) le) in
    let first : lower a (f r) ≡ m = ap (lower a) (ap f same ∙ e) ∙ lower-keeps a m from some in
    ap (λ (b : Bool). fold lower a (map f (if b then r ∷ long_enough p runs else long_enough p runs))) holds
    ∙ ap (λ (k : ℕ). fold lower k (map f (long_enough p runs))) first
    ∙ least-stays p m f runs some h.1
least-found p m f a (r ∷ runs) x some h (inr is) le e from =
    cond_both (nat_le p r.1) (r ∷ long_enough p runs) (long_enough p runs) (λ l. fold lower a (map f l) ≡ m)
    (λ holds. least-found p m f (lower a (f r)) runs x some h.1 is le e
    (inr (lower-more a m (f r) from some (h.0 (leb-true p r.1 holds)))))
    (λ _. least-found p m f a runs x some h.1 is le e from)

-- ---- the first that passes

pub find-first : (test : Span → Bool) (low : ℕ) (runs : List Span) (x : Span) → AreSpacedFrom low runs →
    IsAmong x runs →
    test x ≡ true → ((r : Span) → IsAmong r runs → r.0 < x.0 → test r ≡ false) → find test runs ≡ Some x
find-first test low [] x h is passes before = absurd is
find-first test low (r ∷ runs) x h (inl e) passes before =
    ap (λ (b : Bool). if b then Some r else find test runs) (ap test e ∙ passes) ∙ ap (λ (s : Span). Some s) e
find-first test low (r ∷ runs) x h (inr is) passes before =
    let far = among-later (r.0 + r.1 + 1) x runs h.2 is in
    ap (λ (b : Bool). if b then Some r else find test runs) (before r (inl refl) (omega (arith, far)))
    ∙ find-first test (r.0 + r.1 + 1) runs x h.2 is passes (λ s among. before s (inr among))
