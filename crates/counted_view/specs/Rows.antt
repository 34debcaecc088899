-- How a nest keeps its views. No public clause cites this module.
use Rattle.std.specs.Prelude.{◌≡◌, ℕ, ◌+◌, ◌<◌, ◌≤◌, Bool, ◌&&◌, ◌||◌, not, nat_lt, ◌==◌, if◌then◌else◌, List, length, map, count_by, Option, Some, None, is_some, slice_get}
use Rattle.counted_view.specs.Nests.{NestedView, made_from}
use Rattle.counted_view.specs.declared.rows.Row.{Row}

-- what a row tells of its view
abbrev pub shown : Row → NestedView
shown r = record { parent = r.parent; at = r.view.at; holds = r.holds }

-- a row says that its view is live
abbrev pub row_live : Row → Bool
row_live r = nat_lt 0 r.holds || nat_lt 0 r.live

-- how many rows say so, of views made from what passes the test
abbrev pub live_rows : (Option ℕ → Bool) → List Row → ℕ
live_rows test rows = count_by (λ (r : Row). test r.parent && row_live r) rows

-- the root was made from no view, and any other from one before it
abbrev pub IsBelow : ℕ → Option ℕ → Type 0
IsBelow number None = number ≡ 0
IsBelow number (Some parent) = parent < number

-- a row, and how many of the views made from it its view counts as live
pub record IsCounted (number parts : ℕ) (r : Row) : Type 0 where
  pub below : IsBelow number r.parent
  pub holds : r.holds ≤ 65535
  pub live : r.live ≡ parts

-- each row counts those that are live
abbrev pub AreCounted : List Row → Type 0
AreCounted rows =
    (number : ℕ) (r : Row) → slice_get rows number ≡ Some r →
    IsCounted number (live_rows (made_from number) rows) r

-- ---- On the way upwards.

-- the view that an ended view was made from
abbrev pub ended_parent : Row → Option ℕ
ended_parent r = if row_live r then None else r.parent

-- 1 for an ended view that was made from what passes the test
abbrev pub owed : (Option ℕ → Bool) → Option Row → ℕ
owed test None = 0
owed test (Some r) = if test r.parent && not (row_live r) then 1 else 0

-- the root's own holds, and the live views that it counts
abbrev pub root_sum : Option Row → ℕ
root_sum None = 0
root_sum (Some r) = r.holds + r.live

-- each row counts those that are live, and the view that ended last besides
pub record IsOwing (rows : List Row) (at : ℕ) : Type 0 where
  pub row : Row
  pub here : slice_get rows at ≡ Some row
  pub each : (number : ℕ) (r : Row) → slice_get rows number ≡ Some r →
      IsCounted number
      (live_rows (made_from number) rows + owed (made_from number) (slice_get rows at)) r
  pub few : length rows ≤ 4097

-- what the way upwards from a view has come to at another
pub record HasClimbed (old new : List Row) (start at ended : ℕ) : Type 0 where
  pub shown_is : map shown new ≡ map shown old
  pub slices :
      ended + live_rows is_some new + owed is_some (slice_get new at)
      ≡ live_rows is_some old + owed is_some (slice_get old start)
  pub root :
      root_sum (slice_get new 0) + (if at == 0 then 1 else 0)
      ≡ root_sum (slice_get old 0) + (if start == 0 then 1 else 0)
