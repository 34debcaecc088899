-- Each root that an entry names was born as it names it.
use Rattle.std.specs.Prelude.{◌≡◌, ◌<◌, List, Option, Some, None, option_map, All, sum_by}
use Rattle.pool_law.specs.declared.id.RootId.{RootId}
use Rattle.pool_law.specs.declared.note.Did.{Did}
use Rattle.pool_law.specs.declared.note.Did.TheVariants.{Post, Fetch, End}
use Rattle.pool_table.specs.declared.views.Entry.{Entry}
use Rattle.pool_table.specs.declared.views.Entry.TheVariants.{At, Ref, Busy}
use Rattle.pool_table.specs.declared.views.Part.{Part}
use Rattle.pool_table.specs.declared.views.SeatView.{SeatView}
use Rattle.pool_table.specs.Views.{parts_of}
use Rattle.pool_table.specs.Counts.{weigh}
use Rattle.pool_table.specs.Hands.{at_birth_as}

-- the root of the view in a parcel that a note posts or fetches, and the root that it ends
abbrev pub carried : Did → Option RootId
carried (Post q) = option_map (λ w. w.root) q.view
carried (Fetch q) = option_map (λ w. w.root) q.view
carried (End r) = Some r
carried d = None

-- the root that an entry names, besides births
abbrev pub root_named : Entry → Option RootId
root_named (At o k n) = carried n.did
root_named (Ref r d) = Some r
root_named (Busy b) = None

-- the birth of the root was noted, with its generation and its capacity
abbrev pub IsBorn : List SeatView → RootId → Type 0
IsBorn views r = 0 < sum_by (weigh (at_birth_as r.place r.generation r.capacity)) views

abbrev pub NamesBorn : List SeatView → Entry → Type 0
NamesBorn views e = (r : RootId) → root_named e ≡ Some r → IsBorn views r

-- each entry of each part names a root that was born so
abbrev pub AreBorn : List SeatView → Type 0
AreBorn views =
    All (λ (v : SeatView). All (λ (q : Part). All (NamesBorn views) q.notes) (parts_of v)) views
