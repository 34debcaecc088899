-- How often a lane gets, uses, ends, sheds, keeps and gives a region.
use Rattle.std.specs.Prelude.{◌≡◌, ℕ, ◌+◌, ◌≤◌, [], ◌∷◌, Option, Some, None}
use Rattle.pool_law.specs.declared.id.RegionId.{RegionId}
use Rattle.pool_law.specs.declared.note.Did.{Did}
use Rattle.pool_law.specs.declared.note.Did.TheVariants.{Take, Give, Hit, Kept, Shed, Birth, Grow, End}
use Rattle.pool_law.specs.Same.{same_region}
use Rattle.run_laws.specs.CacheCounts.{one_of}
use Rattle.run_laws.specs.Hands.{did_of}
use Rattle.pool_law.specs.Readers.{ToldNotes}
use Rattle.pool_law.specs.Patterns.{one_more}

-- a number for what was done, with the region that an end takes out, or that a growth leaves
abbrev pub Tally : Type 0
Tally = Option RegionId → Did → ℕ

abbrev pub tally_if : Tally → Option RegionId → Option Did → ℕ
tally_if f taken None = 0
tally_if f taken (Some did) = f taken did

abbrev pub tally : Tally → ToldNotes → ℕ
tally f [] = 0
tally f (e ∷ es) = tally_if f e.region (did_of e.note) + tally f es

abbrev pub one_same : RegionId → Option RegionId → ℕ
one_same r None = 0
one_same r (Some x) = one_of (same_region r x)

abbrev pub got_by : RegionId → Tally
got_by r taken (Take class x) = one_of (same_region r x)
got_by r taken (Hit x) = one_of (same_region r x)
got_by r taken _ = 0

-- a birth and a growth use a region that has one use less
abbrev pub used_by : RegionId → Tally
used_by r taken (Birth root x) = one_of (same_region (one_more r) x)
used_by r taken (Grow capacity x) = one_of (same_region (one_more r) x)
used_by r taken _ = 0

abbrev pub ended_by : RegionId → Tally
ended_by r taken (End root) = one_same r taken
ended_by r taken (Grow capacity x) = one_same r taken
ended_by r taken _ = 0

abbrev pub shed_by : RegionId → Tally
shed_by r taken (Shed x) = one_of (same_region r x)
shed_by r taken _ = 0

abbrev pub kept_by : RegionId → Tally
kept_by r taken (Kept x) = one_of (same_region r x)
kept_by r taken _ = 0

abbrev pub given_by : RegionId → Tally
given_by r taken (Give x) = one_of (same_region r x)
given_by r taken _ = 0

-- in a lane's log: what is got, ends or is shed is used, kept or given once
pub record HandsBalance (r : RegionId) (es : ToldNotes) : Type 0 where
  pub through : tally (got_by r) es + (tally (ended_by r) es + tally (shed_by r) es)
      ≡ tally (used_by r) es + (tally (kept_by r) es + tally (given_by r) es)
  -- what is used was got
  pub got : tally (used_by r) es ≤ tally (got_by r) es
  -- what is shed is given
  pub given : tally (shed_by r) es ≤ tally (given_by r) es
