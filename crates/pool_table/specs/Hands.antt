-- What a view has in its hands: root places, and the regions of takings.
use Rattle.std.specs.Prelude.{◌≡◌, ℕ, ◌+◌, ◌<◌, ◌≤◌, ◌⊎◌, ⊤, IfSome}
use Rattle.pool_law.specs.declared.id.RootId.{RootId}
use Rattle.pool_law.specs.declared.id.ViewData.{ViewData}
use Rattle.pool_law.specs.declared.id.RegionId.{RegionId}
use Rattle.pool_law.specs.declared.note.Did.{Did}
use Rattle.pool_law.specs.declared.note.Did.TheVariants.{Give, Kept, Home, Post, Birth, Grow, End}
use Rattle.pool_law.specs.declared.note.Noted.{Noted}
use Rattle.pool_law.specs.declared.note.Object.{Object}
use Rattle.pool_law.specs.declared.note.Object.TheVariants.{Root}
use Rattle.history_laws.specs.NoteCounts.{did_handle, did_home, did_birth, did_birth_of, did_birth_as, did_end, did_end_of, is_taking, uses_in, arena_out, arena_in, cache_out, cache_in, place_out, place_in}
use Rattle.pool_table.specs.declared.views.Entry.{Entry}
use Rattle.pool_table.specs.declared.views.SeatView.{SeatView}
use Rattle.pool_table.specs.Views.{noted_weight}
use Rattle.pool_table.specs.Counts.{weigh, on_root, on_place, on_exact, on_this, ref_born, ref_ended, ref_vacated, HasCount, HasToken}

-- the place p is taken out of its bin, and comes home
abbrev pub at_in : ℕ → Entry → ℕ
at_in p e = noted_weight (λ (n : Noted). did_handle p n.did) e

abbrev pub at_out : ℕ → Entry → ℕ
at_out p e = noted_weight (λ (n : Noted). did_home p n.did) e

-- how often a view took the place into its hands, and put it down
abbrev pub taken : ℕ → SeatView → ℕ
taken p v = weigh (at_in p) v + weigh (on_place ref_vacated p) v

abbrev pub put_down : ℕ → SeatView → ℕ
put_down p v = weigh (at_out p) v + weigh (on_place ref_born p) v

abbrev pub InHand : ℕ → SeatView → Type 0
InHand p v = put_down p v < taken p v

-- births noted at the place p, and ends of the root (p, g)
abbrev pub at_birth : ℕ → Entry → ℕ
at_birth p e = noted_weight (λ (n : Noted). did_birth p n.did) e

abbrev pub at_birth_of : ℕ → ℕ → Entry → ℕ
at_birth_of p g e = noted_weight (λ (n : Noted). did_birth_of p g n.did) e

abbrev pub at_birth_as : ℕ → ℕ → ℕ → Entry → ℕ
at_birth_as p g c e = noted_weight (λ (n : Noted). did_birth_as p g c n.did) e

abbrev pub at_end : ℕ → ℕ → Entry → ℕ
at_end p g e = noted_weight (λ (n : Noted). did_end p g n.did) e

-- a view has noted a birth at the place, and not yet made the step on its word
abbrev pub IsBearing : ℕ → SeatView → Type 0
IsBearing p v = weigh (on_place ref_born p) v < weigh (at_birth p) v

-- the birth of this root is the one that it has noted and not made
pub record Waits (r : RootId) (v : SeatView) : Type 0 where
  pub place : IsBearing r.place v
  pub generation :
      weigh (on_root ref_born r.place r.generation) v < weigh (at_birth_of r.place r.generation) v
  pub capacity : 0 < weigh (at_birth_as r.place r.generation r.capacity) v

-- the birth that it has noted and not made is at this place, of this capacity, and its generation
-- fits the word
abbrev pub IsAwaited : ℕ → ℕ → SeatView → Type 0
IsAwaited p c v =
    (r : RootId) × (r.place ≡ p) × (r.capacity ≡ c) × Waits r v × (r.generation < 4294967296)

abbrev pub NoneWaits : ℕ → SeatView → Type 0
NoneWaits p v = weigh (at_birth p) v ≤ weigh (on_place ref_born p) v

-- a view has noted the end of the root, and not yet vacated its place
abbrev pub ends : RootId → Entry → ℕ
ends r e = noted_weight (λ (n : Noted). did_end_of r n.did) e

abbrev pub HasNoEnd : RootId → SeatView → Type 0
HasNoEnd r v = weigh (ends r) v ≡ 0

abbrev pub HasEnded : RootId → SeatView → Type 0
HasEnded r v = weigh (on_this ref_vacated r) v < weigh (ends r) v

-- by a weight of regions: what an entry takes out of an arena, a cache, a root place, and puts
-- there
abbrev pub from_arena : (RegionId → ℕ) → Entry → ℕ
from_arena w e = noted_weight (λ (n : Noted). arena_out w n.did) e

abbrev pub to_arena : (RegionId → ℕ) → Entry → ℕ
to_arena w e = noted_weight (λ (n : Noted). arena_in w n.did) e

abbrev pub from_cache : (RegionId → ℕ) → Entry → ℕ
from_cache w e = noted_weight (λ (n : Noted). cache_out w n.did) e

abbrev pub to_cache : (RegionId → ℕ) → Entry → ℕ
to_cache w e = noted_weight (λ (n : Noted). cache_in w n.did) e

abbrev pub from_place : (RegionId → ℕ) → Entry → ℕ
from_place w e = noted_weight (place_out w) e

abbrev pub to_place : (RegionId → ℕ) → Entry → ℕ
to_place w e = noted_weight (λ (n : Noted). place_in w n.did) e

-- what a view took into its hands, and put down
abbrev pub weight_taken : (RegionId → ℕ) → SeatView → ℕ
weight_taken w v = weigh (from_arena w) v + (weigh (from_cache w) v + weigh (from_place w) v)

abbrev pub weight_put_down : (RegionId → ℕ) → SeatView → ℕ
weight_put_down w v = weigh (to_arena w) v + (weigh (to_cache w) v + weigh (to_place w) v)

-- the taking of q is in the view's hands
abbrev pub HasTaking : RegionId → SeatView → Type 0
HasTaking q v = weight_put_down (is_taking q) v < weight_taken (is_taking q) v

-- the uses with which it came into the hands, with one more for each birth or growth of theirs, and
-- those with which it left them
abbrev pub uses_come : RegionId → SeatView → ℕ
uses_come q v = weight_taken (uses_in q) v + weigh (to_place (is_taking q)) v

abbrev pub uses_gone : RegionId → SeatView → ℕ
uses_gone q v = weight_put_down (uses_in q) v

-- the region is in the view's hands: its taking, with these uses
pub record HasRegion (r : RegionId) (v : SeatView) : Type 0 where
  pub taking : HasTaking r v
  pub uses : uses_gone r v + r.uses ≡ uses_come r v

-- the taking of q isn't in the view's hands
pub record IsPutDown (q : RegionId) (v : SeatView) : Type 0 where
  pub taking : weight_put_down (is_taking q) v ≡ weight_taken (is_taking q) v
  pub uses : uses_gone q v ≡ uses_come q v

-- no taking is put down that isn't in hand, and with it all its uses are
pub record IsHeldRight (q : RegionId) (v : SeatView) : Type 0 where
  pub holds : weight_put_down (is_taking q) v ≤ weight_taken (is_taking q) v
  pub used : uses_gone q v ≤ uses_come q v
  pub emptied : weight_put_down (is_taking q) v ≡ weight_taken (is_taking q) v → uses_gone q v ≡ uses_come q v

-- what a note puts down is in the view's hands, and what it tells of a root is the view's to tell:
-- a place comes home where no birth waits; a birth has its place, and its region with one use less,
-- and so has a growth its region; an end has its token; a root that is posted is counted
abbrev pub PutsDown : SeatView → Did → Type 0
PutsDown v (Home p) = InHand p v × NoneWaits p v
PutsDown v (Give r) = HasRegion r v
PutsDown v (Kept r) = HasRegion r v
PutsDown v (Birth root r) =
    InHand root.place v
    × ((z : RegionId) × HasRegion z v × (r ≡ record z { uses = z.uses + 1 }))
PutsDown v (Grow capacity r) =
    (z : RegionId) × HasRegion z v × (r ≡ record z { uses = z.uses + 1 })
PutsDown v (End root) = HasToken root v
PutsDown v (Post q) = IfSome q.view (λ (w : ViewData). HasCount w.root v)
PutsDown v d = ⊤

-- a view notes a birth before the step that makes it, with the place in hand, and an end between
-- the two steps of its root; it lays no taking down that it hasn't in hand
pub record IsOrderly (v : SeatView) : Type 0 where
  -- no more births are made at a place than were noted, and at most as many more are noted as the
  -- place is in hand
  pub borne : (p : ℕ) → weigh (on_place ref_born p) v ≤ weigh (at_birth p) v
  pub bears : (p : ℕ) →
      weigh (at_birth p) v + put_down p v ≤ weigh (on_place ref_born p) v + taken p v
  -- the note of an end stands between the step that ends the root and the one that vacates its
  -- place
  pub ending : (p g : ℕ) → weigh (at_end p g) v ≤ weigh (on_root ref_ended p g) v
  pub over : (p g : ℕ) → weigh (on_root ref_vacated p g) v ≤ weigh (at_end p g) v
  -- what is made is of the generation and the capacity that were noted
  pub borne_of : (p g : ℕ) → weigh (on_root ref_born p g) v ≤ weigh (at_birth_of p g) v
  pub borne_as : (p g c : ℕ) → weigh (on_exact ref_born p g c) v ≤ weigh (at_birth_as p g c) v
  -- no taking is put down that isn't in hand
  pub held : (q : RegionId) → IsHeldRight q v

-- its section may end with no note: that of a root place in hand where no birth waits
abbrev pub MayLeave : SeatView → Object → Type 0
MayLeave v (Root p) = InHand p v × NoneWaits p v
MayLeave v o = ⊥

-- a view may be in the section of a root place: it counts its root, has its end token, or has the
-- place in hand
abbrev pub MayEnter : ℕ → SeatView → Type 0
MayEnter p v = ((r : RootId) × (r.place ≡ p) × (HasCount r v ⊎ HasToken r v)) ⊎ InHand p v
