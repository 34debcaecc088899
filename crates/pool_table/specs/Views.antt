-- What is read off a view.
use Rattle.step_law.specs.Settings.{Setting}
use Rattle.std.specs.Prelude.{ℕ, ◌+◌, ◌==◌, Bool, true, false, cond, List, [], ◌∷◌, ◌++◌, map, Option, Some, None, filter, sum_by, count_by}
use Rattle.pool_law.specs.declared.run.Shape.{Shape}
use Rattle.pool_law.specs.declared.note.Noted.{Noted}
use Rattle.pool_law.specs.declared.note.Object.{Object}
use Rattle.pool_law.specs.Homes.{home_of}
use Rattle.pool_law.specs.Kinds.{Passing, Stays, Goes, Comes, passing}
use Rattle.pool_law.specs.Logs.{has_history}
use Rattle.pool_table.specs.declared.views.Entry.{Entry}
use Rattle.pool_table.specs.declared.views.Entry.TheVariants.{At, Ref, Busy}
use Rattle.pool_table.specs.declared.views.Part.{Part}
use Rattle.pool_table.specs.declared.views.Inside.{Inside}
use Rattle.pool_table.specs.declared.views.SeatView.{SeatView}

abbrev pub parts_of : SeatView → List Part
parts_of v = v.own ∷ v.others

-- the entry is a note of an object
abbrev pub is_at : Entry → Bool
is_at (At o k n) = true
is_at (Ref r d) = false
is_at (Busy b) = false

abbrev pub is_numbered : ℕ → Entry → Bool
is_numbered j (At o k n) = k == j
is_numbered j (Ref r d) = false
is_numbered j (Busy b) = false

abbrev pub noted_of : Entry → Option Noted
noted_of (At o k n) = Some n
noted_of (Ref r d) = None
noted_of (Busy b) = None

abbrev pub is_lane : ℕ → Option ℕ → Bool
is_lane m (Some k) = k == m
is_lane m None = false

-- a view as the object with the home i sees it: of each part the entries on that object, and the
-- section if it is on that object
pub record ObjectView : Type 0 where
  pub parts : List Part
  pub inside : Option Inside

abbrev pub is_about : Shape → ℕ → Entry → Bool
is_about s i (At o k n) = home_of s o == i
is_about s i (Ref r d) = false
is_about s i (Busy b) = home_of s b.object == i

abbrev pub object_part : Shape → ℕ → Part → Part
object_part s i p = record { number = p.number; notes = filter (is_about s i) p.notes }

abbrev pub inside_at : Shape → ℕ → Option Inside → Option Inside
inside_at s i (Some x) = cond (home_of s x.object == i) (Some x) None
inside_at s i None = None

abbrev pub object_view : Shape → ℕ → SeatView → ObjectView
object_view s i v = record { parts = map (object_part s i) (parts_of v); inside = inside_at s i v.inside }

-- 1 for a view in the section, 0 for another
abbrev pub one_if : {A : Type 0} → Option A → ℕ
one_if (Some x) = 1
one_if None = 0

abbrev pub is_in : ObjectView → ℕ
is_in f = one_if f.inside

-- how many views are in the section
abbrev pub inside_total : List ObjectView → ℕ
inside_total object_views = sum_by is_in object_views

-- how many entries of all parts pass the test
abbrev pub in_object_view : (Entry → Bool) → ObjectView → ℕ
in_object_view test f = sum_by (λ (p : Part). count_by test p.notes) f.parts

abbrev pub total : (Entry → Bool) → List ObjectView → ℕ
total test object_views = sum_by (in_object_view test) object_views

-- the notes of all parts, weighed
abbrev pub noted_weight : (Noted → ℕ) → Entry → ℕ
noted_weight f (At o k n) = f n
noted_weight f (Ref r d) = 0
noted_weight f (Busy b) = 0

abbrev pub noted_in : (Noted → ℕ) → ObjectView → ℕ
noted_in f x = sum_by (λ (p : Part). sum_by (noted_weight f) p.notes) x.parts

abbrev pub noted_total : (Noted → ℕ) → List ObjectView → ℕ
noted_total f object_views = sum_by (noted_in f) object_views

-- how many parts of a view have the number m
abbrev pub numbered : ℕ → SeatView → ℕ
numbered m v = count_by (λ (p : Part). is_lane m p.number) (parts_of v)

-- a note took a turn: each but the posts and the fetches of mails
abbrev pub is_turn : Object → Passing → Bool
is_turn o Stays = true
is_turn o (Goes parcel) = has_history o
is_turn o (Comes parcel) = has_history o

abbrev pub took_turn : Entry → Bool
took_turn (At o k n) = is_turn o (passing n.did)
took_turn (Ref r d) = false
took_turn (Busy b) = false

-- the notes that a `done` made and the turns left
abbrev pub spent : SeatView → ℕ
spent v = sum_by (λ (p : Part). count_by took_turn p.notes) (parts_of v) + v.turns

-- the views of a table's life
abbrev pub empty_part : Option ℕ → Part
empty_part n = record { number = n; notes = [] }

abbrev pub blank : Option Setting → SeatView
blank setting =
    record {
      own = empty_part None;
      others = [];
      inside = None;
      letters = [];
      moves = 0;
      turns = 0;
      setting = setting;
    }

abbrev pub entered : SeatView → Object → List Noted → ℕ → SeatView
entered v o h n = record v { inside = Some (record { object = o; number = n; history = h }) }

abbrev pub after_leaving : SeatView → SeatView
after_leaving v = record v { inside = None }

-- the view with one entry more
abbrev pub with_entry : SeatView → Entry → ℕ → SeatView
with_entry v e turns =
    record v {
      own = record { number = v.own.number; notes = v.own.notes ++ e ∷ [] };
      inside = None;
      turns = turns;
    }

abbrev pub joined : SeatView → SeatView → SeatView
joined v w =
    record v {
      others = v.others ++ parts_of w;
      letters = v.letters ++ w.letters;
      moves = v.moves + w.moves;
      turns = v.turns + w.turns;
    }
