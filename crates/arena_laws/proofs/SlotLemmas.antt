-- Two slots of one chunk that begin at different bytes have no byte in common.
use Rattle.std.proofs.Common.{⊎_elim, ◌≡◌, ◌≢◌, inl, inr, ℕ, ◌+◌, ◌*◌, ◌<◌, ◌≤◌, length, refl, subst, arith, true}
use Rattle.std.specs.Prelude.{◌⊎◌}
use Rattle.std.proofs.Math.Nat.{mul-add, mul-le-mul_left}
use Rattle.size_classes.specs.Sizes.{Geometry, page_of, size_at}
use Rattle.size_classes.specs.Pages.{Used}
use Rattle.size_classes.specs.Runs.{Begins}
use Rattle.size_classes.proofs.Runs.{Begins-apart, Begins-one, EachRun-Begins}
use Rattle.pool_law.specs.declared.id.RegionId.{RegionId}
use Rattle.pool_law.specs.Chunks.{Chunk, Use, Whole, Sub}
use Rattle.arena_laws.specs.Slots.{IsWholeRun, IsElement, IsSlot, ElementsFit, IsSound, AreApart}
use Rattle.pool_law.proofs.ListLemmas.{slice_get-below}

-- the end of one element is no later than the beginning of a later one
pub times-next : (k n s : ℕ) → k < n → k * s + s ≤ n * s
times-next k n s h = grind arith

-- the bytes of pages that end before others do
pub pages-below : (size p m q : ℕ) → p + m ≤ q → size * p + size * m ≤ size * q
pages-below size p m q le = subst (λ (n : ℕ). n ≤ size * q) (mul-add size p m) (mul-le-mul_left size le)

-- which of two different numbers is the lesser
pub lesser : (a b : ℕ) → a ≢ b → (a < b) ⊎ (b < a)
lesser a b ne = grind arith

module _ (g : Geometry) (chunk : Chunk) (sound : IsSound g chunk) where
  -- the end of an element lies in the pages of its subpage
  pub element-inside : (r : RegionId) → (s : IsElement g chunk r)
      → s.at * size_at r.class + size_at r.class ≤ page_of g * s.pages
  element-inside r s =
      let fits : length s.elements.out * size_at r.class ≤ page_of g * s.pages =
      (EachRun-Begins (ElementsFit g) chunk s.page (Used s.pages (Sub r.class s.elements)) sound.elements_fit
      s.begins).0 in
      let below : s.at < length s.elements.out = slice_get-below s.elements.out s.at true s.out in
      let next : s.at * size_at r.class + size_at r.class ≤ length s.elements.out * size_at r.class =
      times-next s.at (length s.elements.out) (size_at r.class) below in
      omega arith

  -- slots in two runs, of which one begins before the other
  pub runs-apart : (p m q n : ℕ) (v w : Use) → Begins p (Used m v) chunk → Begins q (Used n w) chunk → p < q
      → page_of g * p + page_of g * m ≤ page_of g * q
  runs-apart p m q n v w b c h = let le : p + m ≤ q = Begins-apart chunk p q (Used m v) (Used n w) b c h in
      pages-below (page_of g) p m q le

  -- one page, one run
  pub one-run : (p m n : ℕ) (v w : Use) → Begins p (Used m v) chunk → Begins p (Used n w) chunk → Used m v ≡ Used n w
  one-run p m n v w b c = Begins-one chunk p (Used m v) (Used n w) sound.none_empty b c

pub three : (a b : ℕ) → (a < b) ⊎ ((a ≡ b) ⊎ (b < a))
three a b = grind arith

-- where a slot lies in its run
pub record Lies (g : Geometry) (chunk : Chunk) (r : RegionId) : Type 0 where
  pub page : ℕ
  pub pages : ℕ
  pub what : Use
  pub from : ℕ
  pub starts : r.place.offset ≡ page_of g * page + from
  pub ends : from + r.place.len ≤ page_of g * pages
  pub begins : Begins page (Used pages what) chunk

module _ (g : Geometry) (chunk : Chunk) (sound : IsSound g chunk) where
  abbrev pub whole-lies : (r : RegionId) → IsWholeRun g chunk r → Lies g chunk r
  whole-lies r s =
      record {
        page = s.page;
        pages = s.pages;
        what = Whole;
        from = 0;
        starts = omega (arith, s.starts);
        ends = omega (arith, s.ends);
        begins = s.begins;
      }

  abbrev pub element-lies : (r : RegionId) → IsElement g chunk r → Lies g chunk r
  element-lies r s =
      record {
        page = s.page;
        pages = s.pages;
        what = Sub r.class s.elements;
        from = s.at * size_at r.class;
        starts = s.starts;
        ends = omega (arith, s.ends, element-inside g chunk sound r s);
        begins = s.begins;
      }

  abbrev pub lies : (r : RegionId) → IsSlot g chunk r → Lies g chunk r
  lies r (inl s) = whole-lies r s
  lies r (inr s) = element-lies r s

  pub apart-by-page : (r s : RegionId) → (a : Lies g chunk r) → (b : Lies g chunk s) → a.page < b.page
      → r.place.offset + r.place.len ≤ s.place.offset
  apart-by-page r s a b h =
      let le : page_of g * a.page + page_of g * a.pages ≤ page_of g * b.page =
      runs-apart g chunk sound a.page a.pages b.page b.pages a.what b.what a.begins b.begins h in
      omega (arith, a.starts, a.ends, b.starts)

  -- elements of one subpage
  pub elements-apart : (r s : RegionId) → (a : IsElement g chunk r) → (b : IsElement g chunk s) → a.page ≡ b.page
      → r.class ≡ s.class → r.place.offset ≢ s.place.offset → AreApart r.place s.place
  elements-apart r s a b page class ne =
      ⊎_elim
      (λ lt. let next : a.at * size_at r.class + size_at r.class ≤ b.at * size_at r.class =
      times-next a.at b.at (size_at r.class) lt in
      inl (rw (a.starts, a.ends, b.starts, ← page, ← class) (omega (arith, next))))
      (λ gt. let next : b.at * size_at r.class + size_at r.class ≤ a.at * size_at r.class =
      times-next b.at a.at (size_at r.class) gt in
      inr (rw (a.starts, b.ends, b.starts, ← page, ← class) (omega (arith, next))))
      (lesser a.at b.at (λ e. ne (rw (a.starts, b.starts, page, class, e) refl)))

  pub same-page : (r s : RegionId) → (x : IsSlot g chunk r) → (y : IsSlot g chunk s) → (lies r x).page ≡ (lies s y).page
      → r.place.offset ≢ s.place.offset → AreApart r.place s.place
  same-page r s (inl a) (inl b) page ne = absurd (ne (rw (a.starts, b.starts, page) refl))
  same-page r s (inl a) (inr b) page ne =
      absurd (cc (one-run g chunk sound b.page a.pages b.pages Whole (Sub s.class b.elements)
      (subst (λ p. Begins p (Used a.pages Whole) chunk) page a.begins) b.begins))
  same-page r s (inr a) (inl b) page ne =
      absurd (cc (one-run g chunk sound b.page a.pages b.pages (Sub r.class a.elements) Whole
      (subst (λ p. Begins p (Used a.pages (Sub r.class a.elements)) chunk) page a.begins) b.begins))
  same-page r s (inr a) (inr b) page ne =
      elements-apart r s a b page (cc
      (one-run g chunk sound b.page a.pages b.pages (Sub r.class a.elements) (Sub s.class b.elements)
      (subst (λ p. Begins p (Used a.pages (Sub r.class a.elements)) chunk) page a.begins) b.begins)) ne

  -- two slots that begin at different bytes have no byte in common
  pub slots-apart : (r s : RegionId) → IsSlot g chunk r → IsSlot g chunk s → r.place.offset ≢ s.place.offset
      → AreApart r.place s.place
  slots-apart r s x y ne =
      ⊎_elim
      (λ lt. inl (apart-by-page r s (lies r x) (lies s y) lt))
      (λ rest. ⊎_elim (λ eq. same-page r s x y eq ne) (λ gt. inr (apart-by-page s r (lies s y) (lies r x) gt)) rest)
      (three (lies r x).page (lies s y).page)
