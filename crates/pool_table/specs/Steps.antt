-- What each kind of step tells its seat.
use Rattle.step_law.specs.Settings.{Setting}
use Rattle.std.specs.Prelude.{◌≡◌, ℕ, zero, suc, ◌+◌, ◌-◌, ◌*◌, ◌/◌, ◌%◌, ◌<◌, ◌≢◌, List, [], ◌∷◌, length, Option, Some, None, IfSome}
use Rattle.atomic_table.specs.Table.{Me, Step, rest}
use Rattle.pool_law.specs.declared.run.Level.TheVariants.{Disabled}
use Rattle.pool_law.specs.declared.note.Noted.{Noted}
use Rattle.pool_law.specs.declared.note.Object.{Object}
use Rattle.pool_law.specs.declared.note.Object.TheVariants.{Arena}
use Rattle.pool_table.specs.Slots.{slot_of}
use Rattle.pool_law.specs.Naming.{noted_by}
use Rattle.pool_table.specs.declared.views.Entry.TheVariants.{At, Busy}
use Rattle.pool_table.specs.declared.views.Layout.{Layout}
use Rattle.pool_table.specs.declared.views.Part.{Part}
use Rattle.pool_table.specs.declared.views.Inside.{Inside}
use Rattle.pool_table.specs.declared.views.SeatView.{SeatView}
use Rattle.pool_table.specs.Views.{empty_part, blank, entered, after_leaving, with_entry}
use Rattle.pool_law.specs.declared.id.RootId.{RootId}
use Rattle.pool_law.specs.declared.id.Parcel.{Parcel}
use Rattle.pool_law.specs.declared.note.RefDid.TheVariants.{Born, Retain, Kept, Ended, Vacated, Look}
use Rattle.pool_table.specs.Counts.{with_ref, HasCount, HasToken, CountsOne}
use Rattle.pool_table.specs.Hands.{Waits, InHand, HasNoEnd}
use Rattle.pool_table.specs.Letters.{next_letter, letter_view, sends, receives_first}
use Rattle.pool_table.specs.Learned.{Enters, KnowsCounts}
use Rattle.pool_table.specs.Sound.{WasHeld}

-- what a step tells: the step, what the seat had, the word that was found, what the seat has then
abbrev pub StepRelation : Type 0 → Type 1
StepRelation H = Step (Option H) → Me (Option H) SeatView → ℕ → Me (Option H) SeatView → Type 0

abbrev pub no_object : Object
no_object = Arena 0

abbrev pub no_root : RootId
no_root = record { place = 0; generation = 0; capacity = 0 }

abbrev pub no_parcel : Parcel
no_parcel = record { view = None }

abbrev pub no_layout : Layout
no_layout =
    record {
      shape =
          record {
            page = 0;
            order = 0;
            arenas = 0;
            chunks = 0;
            handles = 0;
            lanes = 0;
            level = Disabled;
            interval = 0;
          };
      moves = 0;
      turns = 0;
    }

-- an empty part for each of so many lanes, from the lane i on
abbrev pub lane_parts : ℕ → ℕ → List Part
lane_parts i zero = []
lane_parts i (suc n) = empty_part (Some i) ∷ lane_parts (suc i) n

-- the opening view, of which the first seats are cut
abbrev pub first_view : Layout → Setting → SeatView
first_view l g =
    record {
      own = empty_part None;
      others = lane_parts 0 l.shape.lanes;
      inside = None;
      letters = [];
      moves = l.shape.lanes * l.moves;
      turns = l.shape.lanes * l.turns;
      setting = Some g;
    }

-- what is left of the opening view, with n lanes from the lane i on
abbrev pub rest_view : Layout → ℕ → ℕ → Setting → SeatView
rest_view l i n g =
    record {
      own = empty_part None;
      others = lane_parts i n;
      inside = None;
      letters = [];
      moves = n * l.moves;
      turns = n * l.turns;
      setting = Some g;
    }

-- the view of the first seat of lane i
abbrev pub lane_view : Layout → ℕ → Setting → SeatView
lane_view l i g =
    record {
      own = empty_part (Some i);
      others = [];
      inside = None;
      letters = [];
      moves = l.moves;
      turns = l.turns;
      setting = Some g;
    }

abbrev pub first_of : List Part → Part
first_of [] = empty_part None
first_of (p ∷ ps) = p

abbrev pub others_of : List Part → List Part
others_of [] = []
others_of (p ∷ ps) = ps

-- an equal share for each of the parts
abbrev pub share : ℕ → List Part → ℕ
share n [] = 0
share n (p ∷ ps) = n / (length ps + 1)

-- the first of the other parts, with its share
abbrev pub first_lane : SeatView → SeatView
first_lane v =
    record {
      own = first_of v.others;
      others = [];
      inside = None;
      letters = [];
      moves = share v.moves v.others;
      turns = share v.turns v.others;
      setting = v.setting;
    }

abbrev pub rest_of_lanes : SeatView → SeatView
rest_of_lanes v =
    record v {
      others = others_of v.others;
      moves = v.moves - share v.moves v.others;
      turns = v.turns - share v.turns v.others;
    }

abbrev pub blank_beside : SeatView → SeatView
blank_beside v = blank v.setting

-- so many moves are passed on, to a seat without anything else
abbrev pub share_left : ℕ → SeatView → SeatView
share_left n v = record v { moves = v.moves - n }

abbrev pub share_of : ℕ → SeatView → SeatView
share_of n v = record (blank v.setting) { moves = n }

-- the view of such a seat: moves, and nothing else
abbrev pub IsShare : SeatView → Type 0
IsShare v = v ≡ share_of v.moves v

-- so many moves come to a view
abbrev pub share_added : ℕ → SeatView → SeatView
share_added n v = record v { moves = v.moves + n }

-- the view of the seat that a letter is sent with
abbrev pub letter_beside : ℕ → Parcel → SeatView → SeatView
letter_beside to parcel v = letter_view v.setting (next_letter to parcel v)

-- the letter is sent
abbrev pub sends_next : ℕ → Parcel → SeatView → SeatView
sends_next to parcel v = sends v (next_letter to parcel v)

-- the letter that comes with a seat is received
abbrev pub receives_with : SeatView → SeatView → SeatView
receives_with v w = receives_first v w.letters

-- a seat in no section, which holds no home value
abbrev pub IsFree : {H : Type 0} → Me (Option H) SeatView → Type 0
IsFree me = (me.0.inside ≡ None) × (me.1 ≡ [])

module _ {H : Type 0} (stands : List ℕ → Setting → List Noted → H → Type 0)
    (l : Layout) (o : Object) where
  -- it got in
  abbrev pub GotIn : ℕ → Me (Option H) SeatView → ℕ → Me (Option H) SeatView → Type 0
  GotIn slot me found after =
      (h : List Noted) × (x : H) × (found ≡ 2 * length h) × (after.0 ≡ entered me.0 o h (length h))
      × (after.1 ≡ (slot, Some x) ∷ me.1) × Enters stands l o me.0 h x

  -- it got in where the word was even, and else another view was in the section
  abbrev pub claims : StepRelation H
  claims s me found after =
      (found % 2 ≡ 0 → GotIn (slot_of l.shape o) me found after)
      × (found % 2 ≡ 1 → (after.0 ≡ me.0) × (after.1 ≡ me.1) × WasHeld stands l o (found / 2) me.0)

  -- the same, with a busy mark
  abbrev pub marks_claims : StepRelation H
  marks_claims s me found after =
      (found % 2 ≡ 0 → GotIn (slot_of l.shape o) me found after)
      × (found % 2 ≡ 1 →
      (after.0 ≡ with_entry me.0 (Busy (record { object = o; number = found / 2 })) me.0.turns)
      × (after.1 ≡ me.1) × WasHeld stands l o (found / 2) me.0)

module _ {H : Type 0} where
  -- the same, and the view that the seat has then counts at most one root of each place
  abbrev pub counts_one : StepRelation H → StepRelation H
  counts_one told s me found after = told s me found after × CountsOne after.0

  -- the note that is named, by this seat, at the next number of the section's object
  abbrev pub dones : Noted → StepRelation H
  dones note s me found after =
      IfSome me.0.inside (λ (x : Inside).
      (found ≡ 2 * x.number + 1)
      × (after.0
      ≡ with_entry me.0
      (At x.object (x.number + 1) (noted_by me.0.own.number note)) (me.0.turns - 1))
      × (after.1 ≡ rest me.1))

  abbrev pub idles : StepRelation H
  idles s me found after =
      IfSome me.0.inside (λ (x : Inside).
      (found ≡ 2 * x.number + 1) × (after.0 ≡ after_leaving me.0) × (after.1 ≡ rest me.1))

  -- nothing changes, and the seat learns of its counts
  abbrev pub stays : Layout → StepRelation H
  stays l s me found after = (after ≡ me) × KnowsCounts l me.0

  -- steps on the word of a root
  abbrev pub retains : RootId → StepRelation H
  retains r s me found after = after ≡ (with_ref me.0 r Retain (me.0.moves - 1), me.1)

  abbrev pub looks : RootId → StepRelation H
  looks r s me found after =
      after ≡ (with_ref me.0 r (Look (found % 4294967296 / 2)) me.0.moves, me.1)

  -- the release that found the raw count 2 ends it, and another gives back a move
  abbrev pub releases : RootId → StepRelation H
  releases r s me found after =
      (found % 4294967296 ≡ 2 →
      (after ≡ (with_ref me.0 r Ended me.0.moves, me.1))
      × HasToken r (with_ref me.0 r Ended me.0.moves)
      × HasNoEnd r (with_ref me.0 r Ended me.0.moves))
      × (found % 4294967296 ≢ 2 → after ≡ (with_ref me.0 r Kept (me.0.moves + 1), me.1))

  abbrev pub vacates : RootId → StepRelation H
  vacates r s me found after =
      (after ≡ (with_ref me.0 r Vacated me.0.moves, me.1))
      × InHand r.place (with_ref me.0 r Vacated me.0.moves)

  -- the birth of the next root at a vacant place
  abbrev pub births : RootId → StepRelation H
  births r s me found after =
      let root : RootId =
      record { place = r.place; generation = found / 4294967296 + 1; capacity = r.capacity } in
      (found / 4294967296 + 1 < 4294967296) × (after ≡ (with_ref me.0 root Born me.0.moves, me.1))
      × HasCount root (with_ref me.0 root Born me.0.moves)
      × ((q : RootId) → q.place ≡ r.place → q.capacity ≡ r.capacity → Waits q me.0 → root ≡ q)
