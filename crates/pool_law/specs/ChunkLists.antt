-- The six lists of an arena's chunks.
use Rattle.std.specs.Prelude.{ℕ, Bool, true, false, ◌==◌, not, nat_lt, nat_le, if◌then◌else◌, List, [], ◌∷◌, ◌++◌, filter, Option, Some, None}
use Rattle.std.specs.List.{list_any}
use Rattle.pool_law.specs.declared.report.ListName.{ListName}
use Rattle.pool_law.specs.declared.report.ListName.TheVariants.{QInit, Q000, Q025, Q050, Q075, Q100}

-- the numbers of the chunks in each list, from its head
pub record Lists : Type 0 where
  pub init : List ℕ
  pub q000 : List ℕ
  pub q025 : List ℕ
  pub q050 : List ℕ
  pub q075 : List ℕ
  pub q100 : List ℕ

-- no chunk is in a list
abbrev pub no_chunks : Lists
no_chunks = record { init = []; q000 = []; q025 = []; q050 = []; q075 = []; q100 = [] }

-- the list of that name
abbrev pub list_named : Lists → ListName → List ℕ
list_named l QInit = l.init
list_named l Q000 = l.q000
list_named l Q025 = l.q025
list_named l Q050 = l.q050
list_named l Q075 = l.q075
list_named l Q100 = l.q100

-- a chunk enters a list at its head
abbrev pub entered : Lists → ListName → ℕ → Lists
entered l QInit c = record l { init = c ∷ l.init }
entered l Q000 c = record l { q000 = c ∷ l.q000 }
entered l Q025 c = record l { q025 = c ∷ l.q025 }
entered l Q050 c = record l { q050 = c ∷ l.q050 }
entered l Q075 c = record l { q075 = c ∷ l.q075 }
entered l Q100 c = record l { q100 = c ∷ l.q100 }

-- a list without a chunk
abbrev pub without : ℕ → List ℕ → List ℕ
without c xs = filter (λ x. not (x == c)) xs

-- a chunk leaves the lists
abbrev pub left : Lists → ℕ → Lists
left l c =
    record {
      init = without c l.init;
      q000 = without c l.q000;
      q025 = without c l.q025;
      q050 = without c l.q050;
      q075 = without c l.q075;
      q100 = without c l.q100;
    }

-- a chunk is in a list
abbrev pub has : ℕ → List ℕ → Bool
has c xs = list_any (λ x. x == c) xs

-- the list in which a chunk is
abbrev pub list_of : Lists → ℕ → Option ListName
list_of l c =
    if has c l.init then Some QInit
    else if has c l.q000 then Some Q000
    else if has c l.q025 then Some Q025
    else if has c l.q050 then Some Q050
    else if has c l.q075 then Some Q075
    else if has c l.q100 then Some Q100
    else None

-- the chunks in the order in which they are asked for a run; the last list is not asked
abbrev pub walk : Lists → List ℕ
walk l = l.q050 ++ (l.q025 ++ (l.q000 ++ (l.init ++ l.q075)))

-- from this usage on a chunk goes to the next list; no usage is so great that it leaves the last
abbrev pub greatest : ListName → ℕ
greatest QInit = 25
greatest Q000 = 50
greatest Q025 = 75
greatest Q050 = 100
greatest Q075 = 100
greatest Q100 = 101

-- below this usage a chunk goes to the list before; from the first it never does
abbrev pub least : ListName → ℕ
least QInit = 0
least Q000 = 1
least Q025 = 25
least Q050 = 50
least Q075 = 75
least Q100 = 100

-- the lists above a list, the next first
abbrev pub lists_above : ListName → List ListName
lists_above QInit = Q000 ∷ Q025 ∷ Q050 ∷ Q075 ∷ Q100 ∷ []
lists_above Q000 = Q025 ∷ Q050 ∷ Q075 ∷ Q100 ∷ []
lists_above Q025 = Q050 ∷ Q075 ∷ Q100 ∷ []
lists_above Q050 = Q075 ∷ Q100 ∷ []
lists_above Q075 = Q100 ∷ []
lists_above Q100 = []

-- the lists below a list, the next first; below the second there is none
abbrev pub lists_below : ListName → List ListName
lists_below QInit = []
lists_below Q000 = []
lists_below Q025 = Q000 ∷ []
lists_below Q050 = Q025 ∷ Q000 ∷ []
lists_below Q075 = Q050 ∷ Q025 ∷ Q000 ∷ []
lists_below Q100 = Q075 ∷ Q050 ∷ Q025 ∷ Q000 ∷ []

-- where a chunk of this usage stops, going up
abbrev pub risen : ℕ → ListName → List ListName → ListName
risen percent here [] = here
risen percent here (next ∷ rest) =
    if nat_le (greatest here) percent then risen percent next rest else here

-- where it stops, going down; none where it goes below the last
abbrev pub sunk : ℕ → ListName → List ListName → Option ListName
sunk percent here [] = if nat_lt percent (least here) then None else Some here
sunk percent here (next ∷ rest) =
    if nat_lt percent (least here) then sunk percent next rest else Some here

-- two names are one list
abbrev pub same_list : ListName → ListName → Bool
same_list QInit QInit = true
same_list Q000 Q000 = true
same_list Q025 Q025 = true
same_list Q050 Q050 = true
same_list Q075 Q075 = true
same_list Q100 Q100 = true
same_list _ _ = false

-- a chunk goes to a list, and keeps its place if it is there already
abbrev pub moved_to : Lists → ℕ → ListName → ListName → Lists
moved_to l c here there = if same_list here there then l else entered (left l c) there c

-- the lists after an allocation of a run from a chunk, which then has this usage
abbrev pub settled_up : Lists → ℕ → ℕ → Option ListName → Lists
settled_up l c percent None = l
settled_up l c percent (Some here) = moved_to l c here (risen percent here (lists_above here))

-- where a chunk is to go after a run of it was given back
abbrev pub down_to : ℕ → Option ListName → Option ListName
down_to percent None = None
down_to percent (Some here) = sunk percent here (lists_below here)

-- the lists after that: the chunk is in the list given, or destroyed
abbrev pub settled_down : Lists → ℕ → Option ListName → Option ListName → Lists
settled_down l c None there = l
settled_down l c (Some here) None = left l c
settled_down l c (Some here) (Some there) = moved_to l c here there
