-- That each root is named as it was born, after each kind of change of the views.
use Rattle.std.proofs.Common.{◌≡◌, ℕ, List, [], ◌∷◌, set, arith}
use Rattle.std.specs.Prelude.{All, sum_by}
use mathlib.Core.Option.{some}
use lib.ListN.{get_elem?}
use Rattle.pool_law.specs.declared.id.RootId.{RootId}
use Rattle.pool_table.specs.declared.views.Entry.{Entry}
use Rattle.pool_table.specs.declared.views.Part.{Part}
use Rattle.pool_table.specs.declared.views.SeatView.{SeatView}
use Rattle.pool_table.specs.Views.{parts_of}
use Rattle.pool_table.specs.Counts.{weigh}
use Rattle.pool_table.specs.Hands.{at_birth_as}
use Rattle.pool_table.specs.Births.{IsBorn, NamesBorn, AreBorn}
use Rattle.pool_table.proofs.Order.{longer, HasNone}
use Rattle.pool_table.proofs.Lasting.{Grows, entry_grows, told_same, told_entry, told_regroups, told_opens}

still_born : (views after : List SeatView) → Grows views after → (r : RootId) → IsBorn views r → IsBorn after r
still_born views after grows r born =
    let a = grows (at_birth_as r.place r.generation r.capacity) in omega (arith, a, born)

lasts : (views after : List SeatView) → Grows views after → (e : Entry) → NamesBorn views e → NamesBorn after e
lasts views after grows e born r is = still_born views after grows r (born r is)

-- a view with the same parts
pub born_same : (views : List SeatView) (id : ℕ) (v w : SeatView) → get_elem? views id ≡ some v
    → parts_of w ≡ parts_of v → AreBorn views → AreBorn (set views id w)
born_same views id v w at same all = told_same NamesBorn lasts views id v w at same all

-- a view whose own part has one entry more
pub born_entry : (views : List SeatView) (id : ℕ) (v w : SeatView) (e : Entry) → get_elem? views id ≡ some v
    → parts_of w ≡ longer v.own e ∷ v.others → NamesBorn views e → AreBorn views → AreBorn (set views id w)
born_entry views id v w e at longer_by named all =
    told_entry NamesBorn lasts views id v w e at longer_by
    (lasts views (set views id w) (entry_grows views id v w e at longer_by) e named) all

-- views among which the parts are put anew, with parts without notes
pub born_regroups : (views after : List SeatView) → ((f : Entry → ℕ) → sum_by (weigh f) after ≡ sum_by (weigh f) views)
    →
    ((P : Part → Type 0) → ((q : Part) → q.notes ≡ [] → P q) → All (λ (u : SeatView). All P (parts_of u)) views
    → All (λ (u : SeatView). All P (parts_of u)) after) →
    AreBorn views → AreBorn after
born_regroups views after same regroups all = told_regroups NamesBorn lasts views after same regroups all

pub born_opens : (v : SeatView) → HasNone v → AreBorn (v ∷ [])
born_opens v none_of = told_opens NamesBorn lasts v none_of
