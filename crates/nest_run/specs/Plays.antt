-- What calls on the views of a nest come to, one after another: replies, and what is live.
use Rattle.std.specs.Prelude.{ℕ, ◌-◌, Bool, ◌==◌, ◌||◌, nat_lt, if◌then◌else◌, List, [], ◌∷◌, length, replicate, Option, Some, None}
use Rattle.pool_law.specs.declared.id.RootId.{RootId}
use Rattle.pool_law.specs.Roots.{laid_over, bytes_at}
use Rattle.pool_law.specs.Views.{root_index, in_range}
use Rattle.counted_view.specs.declared.calls.NestCall.TheVariants as accepted
use Rattle.counted_view.specs.Nests.{NestedView, NestState, new_nest, after_call, held_view, live_slices, live_views, root_counts}
use Rattle.nest_run.specs.declared.calls.Call.{Call}
use Rattle.nest_run.specs.declared.calls.Call.TheVariants.{Slice, Retain, Release, Set, Get}
use Rattle.nest_run.specs.declared.calls.Input.{Input}
use Rattle.nest_run.specs.declared.replies.Reply.{Reply}
use Rattle.nest_run.specs.declared.replies.Reply.TheVariants as replies
use Rattle.nest_run.specs.Inputs.{call_limit}

-- a nest, and the bytes of its root
pub record Stage : Type 0 where
  pub nest : NestState
  pub bytes : List ℕ

-- a new root of so many bytes, all 0, with no view made from it. It is the first of its pool
abbrev pub first_root : ℕ → RootId
first_root capacity = record { place = 0; generation = 1; capacity = capacity }

abbrev pub first_stage : ℕ → Stage
first_stage capacity =
    record {
      nest = new_nest (first_root capacity) call_limit;
      bytes = replicate capacity 0;
    }

-- a reply, and the stage from then on
abbrev pub Step : Type 0
Step = Reply × Stage

-- on a view that is held; where there is none, nothing changes
abbrev pub on_view : Stage → Option NestedView → (NestedView → Step) → Step
on_view s None step = (replies.Gone, s)
on_view s (Some x) step = step x

-- on a range of a view that is held; where it leaves the view, nothing changes
abbrev pub on_range : Stage → Option NestedView → ℕ → ℕ → (NestedView → Step) → Step
on_range s view at len step =
    on_view s view (λ x. if in_range x.at at len then step x else (replies.Range, s))

-- what a release that ended so many views but the root, and the root or not, is answered
abbrev pub let_go : ℕ → Bool → Reply
let_go ended root = if nat_lt 0 ended || root then replies.Freed ended root else replies.Kept

-- what it is answered by the nests before and after: the root has ended where nothing counts it
abbrev pub released : NestState → NestState → Reply
released old new = let_go (live_slices old - live_slices new) (root_counts new == 0)

-- what a call comes to. Views are numbered in the order in which they are made
abbrev pub step : Stage → Call → Step
step s (Slice of at len) =
    on_range s (held_view s.nest of) at len (λ x. (
      replies.Sliced (length s.nest.views),
      record s { nest = after_call s.nest (accepted.Slice of at len) },
    ))
step s (Retain of) =
    on_view s (held_view s.nest of) (λ x. (
      replies.Done,
      record s { nest = after_call s.nest (accepted.Retain of) },
    ))
step s (Release of) =
    on_view s (held_view s.nest of) (λ x. (
      released s.nest (after_call s.nest (accepted.Release of)),
      record s { nest = after_call s.nest (accepted.Release of) },
    ))
step s (Set of at bytes) =
    on_range s (held_view s.nest of) at (length bytes) (λ x. (
      replies.Done,
      record s { bytes = laid_over s.bytes (root_index x.at at) bytes },
    ))
step s (Get of at len) =
    on_range s (held_view s.nest of) at len (λ x. (
      replies.Read (bytes_at s.bytes (root_index x.at at) len),
      s,
    ))

-- the stage after calls, and their replies
abbrev pub stage_after : Stage → List Call → Stage
stage_after s [] = s
stage_after s (c ∷ cs) = stage_after (step s c).1 cs

abbrev pub replies_from : Stage → List Call → List Reply
replies_from s [] = []
replies_from s (c ∷ cs) = (step s c).0 ∷ replies_from (step s c).1 cs

-- what an input's calls are answered, and how many views are live after them, the root among them
abbrev pub replies_to : Input → List Reply
replies_to input = replies_from (first_stage input.capacity) input.calls

abbrev pub live_after : Input → ℕ
live_after input = live_views (stage_after (first_stage input.capacity) input.calls).nest
