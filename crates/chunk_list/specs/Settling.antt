-- Where a chunk settles.
use Rattle.std.specs.Prelude.{ℕ, ◌<◌, ◌≤◌, Bool, false, nat_le, if◌then◌else◌, Option, Some, None}
use Rattle.pool_law.specs.declared.report.ListName.{ListName}
use Rattle.pool_law.specs.declared.report.ListName.TheVariants.{QInit}
use Rattle.pool_law.specs.ChunkLists.{Lists, entered, list_of, greatest, least, lists_above, risen, settled_up, down_to, settled_down}
use Rattle.chunk_list.specs.declared.lists.Settled.{Settled}
use Rattle.chunk_list.specs.declared.lists.Settled.TheVariants.{At, Destroyed}

-- whether a chunk of this usage goes up: it does from the greatest usage of its list on
abbrev pub rises : ℕ → Option ListName → Bool
rises percent None = false
rises percent (Some here) = nat_le (greatest here) percent

-- where it stops, going up or else down; none where it is in no list, or goes below the second
abbrev pub goes_to : ℕ → Option ListName → Option ListName
goes_to percent None = None
goes_to percent (Some here) =
    if rises percent (Some here)
    then Some (risen percent here (lists_above here))
    else down_to percent (Some here)

-- the usage is one with which a chunk stays in the list
abbrev pub IsWithin : ℕ → ListName → Type 0
IsWithin percent name = (least name ≤ percent) × (percent < greatest name)

-- the lists once a chunk of this usage has settled, up or else down
abbrev pub settled : Lists → ℕ → ℕ → Lists
settled l c percent =
    let here = list_of l c in
    if rises percent here
    then settled_up l c percent here
    else settled_down l c here (down_to percent here)

-- the lists once a chunk of this usage has entered the first and settled
abbrev pub added : Lists → ℕ → ℕ → Lists
added l c percent = settled_up (entered l QInit c) c percent (list_of (entered l QInit c) c)

-- what is answered of a chunk that is then in this list, or in none
abbrev pub answer_of : Option ListName → Settled
answer_of None = Destroyed
answer_of (Some name) = At name

-- it holds of the list that is answered
abbrev pub IfAt : Settled → (ListName → Type 0) → Type 0
IfAt Destroyed P = Unit {0}
IfAt (At name) P = P name
