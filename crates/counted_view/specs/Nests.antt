-- The views of a nest: what accepted calls make of them, which are live, and what is refused.
use Rattle.std.specs.Prelude.{ℕ, ◌+◌, ◌-◌, Bool, true, false, ◌==◌, ◌&&◌, ◌||◌, nat_lt, if◌then◌else◌, List, [], ◌∷◌, ◌++◌, length, Option, Some, None, is_some, option_map, unwrap_or, slice_get, slice_set, fold}
use Rattle.pool_law.specs.declared.id.RootId.{RootId}
use Rattle.pool_law.specs.declared.id.ViewData.{ViewData}
use Rattle.pool_law.specs.Views.{view_of, slice_of, in_range}
use Rattle.counted_view.specs.declared.calls.NestCall.{NestCall}
use Rattle.counted_view.specs.declared.calls.NestCall.TheVariants.{Slice, Retain, Release}
use Rattle.counted_view.specs.declared.calls.NestNo.{NestNo}
use Rattle.counted_view.specs.declared.calls.NestNo.TheVariants.{Gone, Range, Full}

-- ---- The views that were made.

-- a view: the one that it was made from, where it lies in the root, and its own holds
pub record NestedView : Type 0 where
  pub parent : Option ℕ
  pub at : ViewData
  pub holds : ℕ

-- a nest: its root, how many slices may be made, and its views by number
pub record NestState : Type 0 where
  pub root : RootId
  pub bound : ℕ
  pub views : List NestedView

-- a new nest has the root alone, held once
abbrev pub new_nest : RootId → ℕ → NestState
new_nest root bound =
    record {
      root = root;
      bound = bound;
      views = record { parent = None; at = view_of root; holds = 1 } ∷ [];
    }

-- a part of a view as a view of its own, held once
abbrev pub part_of : ℕ → NestedView → ℕ → ℕ → NestedView
part_of number x start len =
    record { parent = Some number; at = slice_of x.at start len; holds = 1 }

-- the views with one more, a part of that of this number
abbrev pub with_slice : Option NestedView → List NestedView → ℕ → ℕ → ℕ → List NestedView
with_slice None views number start len = views
with_slice (Some x) views number start len = views ++ part_of number x start len ∷ []

-- the views with other holds of that of this number
abbrev pub with_holds : (ℕ → ℕ) → Option NestedView → List NestedView → ℕ → List NestedView
with_holds change None views number = views
with_holds change (Some x) views number =
    slice_set views number (record x { holds = change x.holds })

-- what an accepted call makes of the views
abbrev pub views_after : List NestedView → NestCall → List NestedView
views_after views (Slice number start len) =
    with_slice (slice_get views number) views number start len
views_after views (Retain number) =
    with_holds (λ holds. holds + 1) (slice_get views number) views number
views_after views (Release number) =
    with_holds (λ holds. holds - 1) (slice_get views number) views number

-- what it makes of the nest
abbrev pub after_call : NestState → NestCall → NestState
after_call s call = record s { views = views_after s.views call }

-- a nest after its accepted calls, in order
abbrev pub nest_after : RootId → ℕ → List NestCall → NestState
nest_after root bound calls = fold after_call (new_nest root bound) calls

-- ---- Which views are live.

-- a view from which so many live views were made is live where it is held or one of those is
abbrev pub is_live : NestedView → ℕ → Bool
is_live x parts = nat_lt 0 x.holds || nat_lt 0 parts

-- what a view was made from is the view of this number
abbrev pub made_from : ℕ → Option ℕ → Bool
made_from number None = false
made_from number (Some parent) = parent == number

-- how many of these views are live, and were made from what passes the test; the first has this
-- number, and what was made from a view comes after it
abbrev pub live_from : (Option ℕ → Bool) → ℕ → List NestedView → ℕ
live_from test number [] = 0
live_from test number (x ∷ xs) =
    (if test x.parent && is_live x (live_from (made_from number) (number + 1) xs) then 1 else 0)
    + live_from test (number + 1) xs

-- the live views
abbrev pub live_views : NestState → ℕ
live_views s = live_from (λ parent. true) 0 s.views

-- those that were made from another: all but view 0
abbrev pub live_slices : NestState → ℕ
live_slices s = live_from is_some 0 s.views

-- those made from the view of this number
abbrev pub live_parts : NestState → ℕ → ℕ
live_parts s number = live_from (made_from number) 0 s.views

-- the own holds of a view: none, where there is no view of that number
abbrev pub holds_of : NestState → ℕ → ℕ
holds_of s number =
    unwrap_or (option_map (λ (x : NestedView). x.holds) (slice_get s.views number)) 0

-- how often the nest counts its root: the root's own holds, and the live views made from it
abbrev pub root_counts : NestState → ℕ
root_counts s = holds_of s 0 + live_parts s 0

-- ---- What is refused, and ranges.

-- the view of a number, if it is held
abbrev pub if_held : Option NestedView → Option NestedView
if_held None = None
if_held (Some x) = if nat_lt 0 x.holds then Some x else None

abbrev pub held_view : NestState → ℕ → Option NestedView
held_view s number = if_held (slice_get s.views number)

-- why a range of a view is refused
abbrev pub range_no : Option NestedView → ℕ → ℕ → Option NestNo
range_no None start len = Some Gone
range_no (Some x) start len = if in_range x.at start len then None else Some Range

-- so many slices were made as may be
abbrev pub has_all : NestState → Bool
has_all s = length s.views == s.bound + 1

-- why a slice is refused
abbrev pub slice_no : Bool → Option NestedView → ℕ → ℕ → Option NestNo
slice_no full None start len = Some Gone
slice_no full (Some x) start len =
    if in_range x.at start len then (if full then Some Full else None) else Some Range

-- the most holds of its own that a view may have
abbrev pub most_holds : ℕ
most_holds = 65535

-- why a retain is refused
abbrev pub retain_no : Option NestedView → Option NestNo
retain_no None = Some Gone
retain_no (Some x) = if x.holds == most_holds then Some Full else None

-- why a release is refused
abbrev pub release_no : Option NestedView → Option NestNo
release_no None = Some Gone
release_no (Some x) = None
