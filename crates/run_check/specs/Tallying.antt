-- How often logs note each root, as the program sums it.
use Rattle.std.specs.Prelude.{◌≡◌, ◌↔◌, ℕ, ◌+◌, ◌-◌, ◌<◌, ◌≤◌, ◌==◌, Bool, true, if◌then◌else◌, List, [], ◌∷◌, unwrap_or}
use Rattle.std.specs.BTreeMap.{get}
use Rattle.pool_law.specs.declared.id.RootId.{RootId}
use Rattle.pool_law.specs.declared.note.Note.{Note}
use Rattle.pool_law.specs.declared.note.RefDid.{RefDid}
use Rattle.pool_law.specs.declared.run.LaneLog.{LaneLog}
use Rattle.pool_law.specs.Counts.{is_birth, names_root, is_born, is_retain, is_release, ends_root}
use Rattle.pool_law.specs.Legal.{one_if}
use Rattle.lane_reader.specs.Counting.{key_cmp, key_of}
use Rattle.run_check.specs.declared.tally.Sums.{Sums}
use Rattle.run_check.specs.declared.tally.Totals.{Totals}
use Rattle.run_check.specs.declared.tally.Tally.{Tally}

-- nothing is noted
abbrev pub no_sums : Sums
no_sums = record { births = 0; borns = 0; retains = 0; releases = 0; ends = 0 }

-- one more birth
abbrev pub more_births : Sums → Sums
more_births s = record s { births = s.births + 1 }

-- the sums after a note on the count
abbrev pub sums_step : Sums → RefDid → Sums
sums_step s RefDid.Born = record s { borns = s.borns + 1 }
sums_step s RefDid.Retain = record s { retains = s.retains + 1 }
sums_step s RefDid.Kept = record s { releases = s.releases + 1 }
sums_step s RefDid.Ended = record s { releases = s.releases + 1; ends = s.ends + 1 }
sums_step s RefDid.Vacated = s
sums_step s (RefDid.Look found) = s

-- none of them is greater
pub record AreAtMost (most : ℕ) (s : Sums) : Type 0 where
  pub births : s.births ≤ most
  pub borns : s.borns ≤ most
  pub retains : s.retains ≤ most
  pub releases : s.releases ≤ most
  pub ends : s.ends ≤ most

-- nothing is noted in any log
abbrev pub no_totals : Totals
no_totals = record { births = 0; borns = 0; retains = 0; releases = 0; ends = 0 }

-- the sums of a log together with the totals of others
abbrev pub plus : Sums → Totals → Totals
plus a b =
    record {
      births = a.births + b.births;
      borns = a.borns + b.borns;
      retains = a.retains + b.retains;
      releases = a.releases + b.releases;
      ends = a.ends + b.ends;
    }

-- none of the totals is greater
pub record TotalsAtMost (most : ℕ) (t : Totals) : Type 0 where
  pub births : t.births ≤ most
  pub borns : t.borns ≤ most
  pub retains : t.retains ≤ most
  pub releases : t.releases ≤ most
  pub ends : t.ends ≤ most

-- the sums of a root
abbrev pub sums_in : Tally → RootId → Sums
sums_in tally root = unwrap_or (get key_cmp tally.map (key_of root)) no_sums

-- the sums of a root after a note
abbrev pub sums_after : RootId → Sums → Note → Sums
sums_after root s n =
    record {
      births = s.births + one_if (is_birth root n);
      borns = s.borns + one_if (is_born root n);
      retains = s.retains + one_if (is_retain root n);
      releases = s.releases + one_if (is_release root n);
      ends = s.ends + one_if (ends_root root n);
    }

-- the sums of a root after notes
abbrev pub sums_from : RootId → Sums → List Note → Sums
sums_from root s [] = s
sums_from root s (n ∷ ns) = sums_from root (sums_after root s n) ns

-- these are the sums of a log
abbrev pub IsTally : Tally → LaneLog → Type 0
IsTally tally log = (root : RootId) → sums_in tally root ≡ sums_from root no_sums log.notes

-- the sums of a root over all logs
abbrev pub total_sums : List Tally → RootId → Totals
total_sums [] root = no_totals
total_sums (t ∷ rest) root = plus (sums_in t root) (total_sums rest root)

-- the retains of a root in the logs other than this lane's
abbrev pub others_sum : RootId → ℕ → ℕ → List Tally → ℕ
others_sum root lane at [] = 0
others_sum root lane at (t ∷ rest) =
    (if at == lane then 0 else (sums_in t root).retains) + others_sum root lane (at + 1) rest

-- these are the sums of a root that was born
pub record AreTotals (s : Totals) : Type 0 where
  pub never_below : s.releases ≤ 1 + s.retains
  pub born_once : s.borns ≡ 1
  pub ends_once : s.ends ≤ 1
  pub ends_at_zero : (s.ends ≡ 1) ↔ ((1 + s.retains) - s.releases ≡ 0)

-- what is asked of a root holds of each that passes a test with one of these notes
abbrev pub EachHolds : (RootId → Note → Bool) → (RootId → Type 0) → List Note → Type 0
EachHolds test Right [] = Unit {0}
EachHolds test Right (n ∷ ns) =
    ((root : RootId) → test root n ≡ true → Right root) × EachHolds test Right ns

-- the totals of the roots that these notes let be born are right
abbrev pub BirthsHold : List Tally → List Note → Type 0
BirthsHold tallies ns = EachHolds is_birth (λ root. AreTotals (total_sums tallies root)) ns

-- the roots that these notes name were born
abbrev pub NamesHold : List Tally → List Note → Type 0
NamesHold tallies ns = EachHolds names_root (λ root. 0 < (total_sums tallies root).births) ns
