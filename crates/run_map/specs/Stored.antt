-- Free runs by the page where they begin, as a `Store` has them.
-- No public clause cites this module.
use Rattle.std.specs.Prelude.{◌≡◌, ◌≢◌, ℕ, zero, suc, ◌+◌, ◌*◌, ◌^◌, ◌<◌, ◌≤◌, List, length, slice_index, slice_index_or, Option, None, MatchOption}
use Rattle.std.specs.Int.{bit_at}
use Rattle.ground.specs.Ground.{Segment}
use Rattle.bit_words.specs.Words.{bit_of}
use Rattle.size_classes.specs.PageCounts.{IsLastAtMost}
use Rattle.size_classes.specs.Spans.{Span, AreSpacedFrom}
use Rattle.run_map.specs.Lengths.{spans_from, ending}
use Rattle.run_map.specs.Spaced.{IsPart}
use Rattle.run_map.specs.declared.runs.RunLayout.{RunLayout}
use Rattle.run_map.specs.declared.store.Store.{Store}

-- the free runs
abbrev pub stored : Store → List Span
stored s = spans_from 0 s.begins.items

-- the pages of the free run that begins at a page, or 0
abbrev pub pages_at : Store → ℕ → ℕ
pages_at s first = slice_index s.begins.items first

-- the memory of a run of so many pages from a page on, or none where there is no run
abbrev pub IsHeld : RunLayout → ℕ → ℕ → Option Segment → Type 0
IsHeld l first zero piece = piece ≡ None
IsHeld l first (suc n) piece = MatchOption piece ⊥ (IsPart l first (suc n))

-- the place of a page in the bits of a page class
abbrev pub mark_of : Store → ℕ → ℕ → ℕ
mark_of s class first = 64 * (s.width * class) + first

-- the bit of a page in those of a page class
abbrev pub is_marked : Store → ℕ → ℕ → ℕ
is_marked s class first = bit_of s.firsts.items (mark_of s class first)

-- a free run begins at a page and stands under a page class
abbrev pub StandsAt : Store → ℕ → ℕ → Type 0
StandsAt s class first = (0 < pages_at s first) × IsLastAtMost (pages_at s first) class

-- how long the lists are
pub record AreLong (l : RunLayout) (s : Store) : Type 0 where
  pub few : l.pages ≤ 2 ^ 11
  pub begins : length s.begins.items ≡ l.pages
  pub ends : length s.ends.items ≡ l.pages + 1
  pub pieces : length s.pieces.items ≡ l.pages
  pub width : (l.pages ≤ 64 * s.width) × (s.width ≤ 32)
  pub firsts : length s.firsts.items ≡ s.width * 40
  pub lens : (s.begins.len ≡ l.pages) × (s.ends.len ≡ l.pages + 1) × (s.pieces.len ≡ l.pages)

-- which bits are set: the first page of each free run, under its page class alone
pub record AreMarked (l : RunLayout) (s : Store) : Type 0 where
  pub set : (class first : ℕ) → class < 40 → first < l.pages → StandsAt s class first →
      is_marked s class first ≡ 1
  pub clear : (class first : ℕ) → class < 40 → first < 64 * s.width → (StandsAt s class first → ⊥) →
      is_marked s class first ≡ 0

-- no free run stands under a page class
abbrev pub IsUnmarked : Store → ℕ → Type 0
IsUnmarked s class = (first : ℕ) → first < 64 * s.width → is_marked s class first ≡ 0

-- which page classes are noted as those that have a free run
pub record AreNoted (s : Store) : Type 0 where
  pub one : (class first : ℕ) → class < 40 → is_marked s class first ≡ 1 → first < 64 * s.width →
      bit_at s.noted class ≡ 1
  pub none : (class : ℕ) → class < 40 → IsUnmarked s class → bit_at s.noted class ≡ 0

-- the lowest free run that stands under a page class begins at a page
pub record IsLowestMarked (s : Store) (class first : ℕ) : Type 0 where
  pub there : first < 64 * s.width
  pub set : is_marked s class first ≡ 1
  pub below : (page : ℕ) → page < first → is_marked s class page ≡ 0

-- a page class is noted as before where a free run stands under it, and else no more; the others
-- are as they were
pub record IsNotedAnew (class old : ℕ) (s : Store) : Type 0 where
  pub none : IsUnmarked s class → bit_at s.noted class ≡ 0
  pub some : (first : ℕ) → first < 64 * s.width → is_marked s class first ≡ 1 →
      bit_at s.noted class ≡ bit_at old class
  pub others : (other : ℕ) → other ≢ class → other < 64 → bit_at s.noted other ≡ bit_at old other

-- no page class from one on and before another is noted
abbrev pub AreUnnoted : Store → ℕ → ℕ → Type 0
AreUnnoted s from to = (class : ℕ) → from ≤ class → class < to → bit_at s.noted class ≡ 0

-- the least page class from one on that is noted
pub record IsLeastNoted (s : Store) (from class : ℕ) : Type 0 where
  pub later : from ≤ class
  pub few : class < 40
  pub set : bit_at s.noted class ≡ 1
  pub below : AreUnnoted s from class

-- no page class from that of so many pages on has a free run
pub record IsUnserved (s : Store) (pages : ℕ) : Type 0 where
  pub from : ℕ
  pub own : IsLastAtMost pages from
  pub few : from < 40
  pub none : AreUnnoted s from 40

-- the lowest run of the least page class that has one, from that of so many pages on,
-- begins at a page
pub record IsServing (s : Store) (pages first : ℕ) : Type 0 where
  pub from : ℕ
  pub own : IsLastAtMost pages from
  pub class : ℕ
  pub least : IsLeastNoted s from class
  pub lowest : IsLowestMarked s class first

-- the free runs of a chunk, which no two of them meet
pub record IsStore (l : RunLayout) (s : Store) : Type 0 where
  pub long : AreLong l s
  pub spaced : AreSpacedFrom 0 (stored s)
  pub within : (first : ℕ) → first < l.pages → first + pages_at s first ≤ l.pages
  pub ends : (page : ℕ) → page ≤ l.pages → slice_index s.ends.items page ≡ ending page (stored s)
  pub held : (first : ℕ) → first < l.pages →
      IsHeld l first (pages_at s first) (slice_index_or s.pieces.items first None)
  pub marked : AreMarked l s
  pub noted : AreNoted s
