-- The table's rule: what holds of its words, its home values and the views of all seats between any
-- two steps.
use Rattle.step_law.specs.Settings.{Setting}
use Rattle.std.specs.Prelude.{◌≡◌, ℕ, ◌+◌, ◌-◌, ◌*◌, ◌<◌, ◌≤◌, ◌≢◌, List, [], ◌++◌, map, length, Option, Some, None, IfSome, filter, filter_map, sum_by, All, AllPairs, slice_get, slice_index, ⊤}
use mathlib.Core.Option.{some, none}
use mathlib.Core.Option as maybe
use lib.ListN.{get_elem?}
use Rattle.atomic_table.specs.Table.{State}
use Rattle.pool_law.specs.declared.run.Shape.{Shape}
use Rattle.pool_law.specs.declared.id.RootId.{RootId}
use Rattle.pool_law.specs.NotedHistories.{MayNote}
use Rattle.pool_law.specs.declared.note.Noted.{Noted}
use Rattle.pool_law.specs.declared.note.Object.{Object}
use Rattle.pool_law.specs.declared.note.Object.TheVariants.{Arena, Cache, Bin, Mail, Root}
use Rattle.pool_law.specs.Homes.{home_of, objects_of, IsObjectOf}
use Rattle.history_laws.specs.Measures.{measures_of}
use Rattle.pool_table.specs.Words.{words_of, word_of, count_word_of}
use Rattle.pool_table.specs.Slots.{slot_at, slots_of, slot_of}
use Rattle.history_laws.specs.Histories.{IsLawful, root_after}
use Rattle.history_laws.specs.Standing.{IsInPlace}
use Rattle.pool_table.specs.declared.views.Entry.{Entry}
use Rattle.pool_table.specs.declared.views.Entry.TheVariants.{At, Ref, Busy}
use Rattle.pool_table.specs.declared.views.Part.{Part}
use Rattle.pool_table.specs.declared.views.Inside.{Inside}
use Rattle.pool_table.specs.declared.views.SeatView.{SeatView}
use Rattle.pool_table.specs.declared.views.Layout.{Layout}
use Rattle.pool_table.specs.Counts.{IsCounted, gained, lost, gained_beside, lost_beside, reached, returned, weigh, on_root, ref_ended, ref_vacated}
use Rattle.pool_table.specs.Hands.{put_down, taken, MayEnter, IsOrderly}
use Rattle.pool_table.specs.Births.{AreBorn}
use Rattle.pool_table.specs.Capacities.{AreKnown}
use Rattle.pool_table.specs.Lone.{AreLone}
use Rattle.pool_table.specs.Letters.{AreMailed}
use Rattle.pool_table.specs.Looks.{AreLooksRight}
use Rattle.pool_table.specs.Order.{AreInOrder}
use Rattle.pool_table.specs.Sequence.{AreInOneOrder}
use Rattle.pool_table.specs.Numbers.{IsNotBelow}
use Rattle.pool_table.specs.Views.{ObjectView, parts_of, is_at, is_numbered, noted_of, is_lane, object_view, is_in, inside_total, total, noted_total, numbered, spent}

-- of two entries of one part on one object, the first and the second: numbers rise, and the note
-- after a busy mark is another part's
abbrev pub Before : Entry → Entry → Type 0
Before (At o j m) (At p k n) = j < k
Before (At o j m) (Busy b) = j ≤ b.number
Before (Busy a) (At p k n) = a.number + 1 < k
Before (Busy a) (Busy b) = a.number ≤ b.number
Before (At o j m) (Ref r d) = ⊤
Before (Busy a) (Ref r d) = ⊤
Before (Ref r d) y = ⊤

-- busy marks are kept of caches and root places alone
abbrev pub IsMarked : Object → Type 0
IsMarked (Cache l c) = ⊤
IsMarked (Root p) = ⊤
IsMarked o = ⊥

-- after n of the notes of a root place a root was present there
abbrev pub WasPresent : Object → List Noted → ℕ → Type 0
WasPresent (Root p) h n =
    (early : List Noted) × (late : List Noted) × (h ≡ early ++ late) × (length early ≡ n)
    × (root_after p early ≢ None)
WasPresent o h n = ⊤

-- a note is the one that the history has at its number, by this part's seat; a mark is below the
-- limit, and was made where a root was present
abbrev pub Tells : Object → List Noted → ℕ → Option ℕ → Entry → Type 0
Tells o h limit lane (At p k n) = (0 < k) × (slice_get h (k - 1) ≡ Some n) × (n.lane ≡ lane)
Tells o h limit lane (Busy b) = (b.number < limit) × IsMarked o × WasPresent o h b.number
Tells o h limit lane (Ref r d) = ⊤

-- what a part's entries on one object are to the object's history
pub record IsTold (o : Object) (h : List Noted) (limit : ℕ) (p : Part) : Type 0 where
  -- they come in the order of their numbers
  pub ordered : AllPairs Before p.notes
  -- each note is the history's at its number, and after each mark a note of another part stands, or
  -- another view is in the section
  pub told : All (Tells o h limit p.number) p.notes
  -- a numbered part has all notes of the history that have its number
  pub own : (m : ℕ) → p.number ≡ Some m →
      filter_map noted_of p.notes ≡ filter (λ (n : Noted). is_lane m n.lane) h

-- a view in the section knows the history
abbrev pub Knows : List Noted → ObjectView → Type 0
Knows h f = IfSome f.inside (λ (x : Inside). (x.history ≡ h) × (x.number ≡ length h))

-- what the word and the home of one object are to what all views show of it
pub record IsKept {H : Type 0}
    (stands : List ℕ → Setting → List Noted → H → Type 0)
    (shape : Shape) (setting : Setting) (o : Object)
    (object_views : List ObjectView) (word : ℕ) (home : maybe.Option (maybe.Option (Option H))) : Type 0 where
  pub history : List Noted
  pub accepted : IsLawful shape o history
  -- the word is twice the number of notes, and odd where a view is in the section
  pub word_is : word ≡ 2 * length history + inside_total object_views
  -- no two views are
  pub alone : inside_total object_views ≤ 1
  -- that view knows the history
  pub knows : All (Knows history) object_views
  -- the entries of each part are told by the history; a mark is below the number of notes, or of
  -- one more where another view is in the section
  pub told :
      All (λ (f : ObjectView).
      All (IsTold o history (length history + (inside_total object_views - is_in f))) f.parts) object_views
  -- the notes in all parts are those of the history, each once
  pub once : (k : ℕ) → k < length history → total (is_numbered (k + 1)) object_views ≡ 1
  pub as_many : total is_at object_views ≡ length history
  pub weights : (f : Noted → ℕ) → noted_total f object_views ≡ sum_by f history
  -- where no view is in the section the home value is in its slot, and stands for the history
  pub home_is : inside_total object_views ≡ 0 →
      (x : H) × (home ≡ some (some (Some x))) × stands (measures_of shape o) setting history x

-- the object is one of the shape, or a mail of two of its lanes
abbrev pub IsKnown : Shape → Object → Type 0
IsKnown s (Arena a) = IsObjectOf s (Arena a)
IsKnown s (Cache lane class) = IsObjectOf s (Cache lane class)
IsKnown s (Bin lane) = IsObjectOf s (Bin lane)
IsKnown s (Mail a b) = (a < s.lanes) × (b < s.lanes)
IsKnown s (Root p) = IsObjectOf s (Root p)

-- a note at a root place tells of roots of that place alone, and another note of no root and no
-- region
abbrev pub IsPlain : Object → Noted → Type 0
IsPlain (Arena a) n = (n.root ≡ None) × (n.region ≡ None)
IsPlain (Cache lane class) n = (n.root ≡ None) × (n.region ≡ None)
IsPlain (Bin lane) n = (n.root ≡ None) × (n.region ≡ None)
IsPlain (Mail a b) n = (n.root ≡ None) × (n.region ≡ None)
IsPlain (Root p) n = (r : RootId) → n.root ≡ Some r → r.place ≡ p

-- a note stands on such an object, in the log of a lane that may note it, where it may move what it
-- moves
pub record NoteStands (s : Shape) (lane : Option ℕ) (o : Object) (n : Noted) : Type 0 where
  pub object : IsKnown s o
  pub plain : IsPlain o n
  pub lane_may : MayNote s lane o n.did
  pub in_place : IsInPlace s o n

abbrev pub Stands : Shape → Option ℕ → Entry → Type 0
Stands s lane (At o k n) = NoteStands s lane o n
Stands s lane (Ref r d) = r.place < s.lanes * s.handles
Stands s lane (Busy b) = IsObjectOf s b.object × IsMarked b.object

-- a view with nothing but empty parts, and moves
pub record IsIdle (v : SeatView) : Type 0 where
  pub notes : All (λ (p : Part). p.notes ≡ []) (parts_of v)
  pub inside : v.inside ≡ None
  pub turns : v.turns ≡ 0

-- what holds of one view
pub record IsView (s : Shape) (setting : Setting) (v : SeatView) : Type 0 where
  -- all views have the same setting, as far as they know them
  pub setting_is : IfSome v.setting (λ (g : Setting). g ≡ setting)
  -- a view without a numbered part has nothing but moves
  pub unnumbered : All (λ (p : Part). p.number ≡ None) (parts_of v) → IsIdle v
  -- its section is on an object of the shape
  pub inside : IfSome v.inside (λ (x : Inside). IsObjectOf s x.object)
  -- each entry may stand where it stands
  pub notes : All (λ (p : Part). All (Stands s p.number) p.notes) (parts_of v)
  -- no count of a root falls below 0, over all parts and over those beside the seat's own
  pub counted : (p g : ℕ) → lost p g v ≤ gained p g v
  pub beside : (p g : ℕ) → lost_beside p g v ≤ gained_beside p g v
  -- no place is put down that isn't in hand, and no root place is vacated without its end token
  pub handy : (p : ℕ) → put_down p v ≤ taken p v
  pub settled : (p g : ℕ) → weigh (on_root ref_vacated p g) v ≤ weigh (on_root ref_ended p g) v
  -- births and ends come in order, and no taking is put down that isn't in hand
  pub roots : IsOrderly v
  -- in the section of a root place it counts the root, has its end token, or has the place in hand
  pub enters : (x : Inside) (p : ℕ) → v.inside ≡ Some x → x.object ≡ Root p → MayEnter p v

-- the limits of a shape, as far as the table needs them
pub record IsTableShape (s : Shape) : Type 0 where
  pub arenas : s.arenas ≤ 8
  pub some_lane : 0 < s.lanes
  pub lanes : s.lanes ≤ 16
  pub some_handle : 0 < s.handles
  pub handles : s.handles ≤ 4096

-- once for each number below n, and else never
abbrev pub OnceBelow : ℕ → ℕ → ℕ → Type 0
OnceBelow n m times = (m < n → times ≡ 1) × (n ≤ m → times ≡ 0)

-- the table is sound: this holds between any two steps, whatever the threads do
--
-- Read it as what a lock protects, said for all locks at once. `s.words` are the atomic words,
-- `s.homes` the values in their slots, and `s.views` what the seats know: all that was noted so
-- far, split over the seats that noted it.
pub record IsSound {H : Type 0}
    (stands : List ℕ → Setting → List Noted → H → Type 0)
    (l : Layout) (s : State (Option H) SeatView) :
    Type 0 where
  -- one setting, which never changes
  pub setting : Setting
  pub words : length s.words ≡ words_of l.shape
  pub homes : length s.homes ≡ slots_of l.shape
  -- what lies between the slot of one object and the next is empty
  pub between : (i k : ℕ) → i < objects_of l.shape →
      slot_at l.shape i < k → k < slot_at l.shape (i + 1) → get_elem? s.homes k ≡ some (some None)
  -- each view by itself
  pub views : All (IsView l.shape setting) s.views
  -- each lane's number is that of one part
  pub lanes : (m : ℕ) → OnceBelow l.shape.lanes m (sum_by (numbered m) s.views)
  -- each object, with its word and its home
  pub objects : (o : Object) → IsObjectOf l.shape o →
      IsKept stands l.shape setting o
      (map (object_view l.shape (home_of l.shape o)) s.views)
      (slice_index s.words (word_of l.shape o))
      (get_elem? s.homes (slot_of l.shape o))
  -- each root place, with the word of its count
  pub counts : (p : ℕ) → p < l.shape.lanes * l.shape.handles →
      IsCounted p s.views (slice_index s.words (count_word_of l.shape p))
  -- each root that a step, a parcel or an end token names was born with this capacity
  pub born : AreBorn s.views
  -- each capacity that a note tells was given to its root, and the view in a letter reaches no
  -- further
  pub known : AreKnown s.views
  -- who bore a root and posted it to nobody is the only one to name it
  pub lone : AreLone s.views
  -- each look told the truth, and notes that follow an earlier note have the higher numbers
  pub looks : AreLooksRight s.views
  pub order : AreInOrder s.views
  -- all steps made so far stand in one order, in which each fits those before it
  pub one_order : AreInOneOrder l.shape s.views
  -- each letter that was sent was received, or lies in one view, and all are numbered in turn
  pub mailed : AreMailed s.views
  -- the notes made and the turns left are within what was given, and so are the moves left with the
  -- retains that no release took back; so no word overflows
  pub room : l.shape.lanes * l.turns < 4611686018427387904
  pub budget : sum_by spent s.views ≤ l.shape.lanes * l.turns
  pub few : l.shape.lanes * l.moves < 1073741824
  pub moved : sum_by reached s.views ≤ l.shape.lanes * l.moves + sum_by returned s.views

-- at one moment, in this table, a seat had the view v while another was in the section of o after n
-- notes
pub record WasHeld {H : Type 0}
    (stands : List ℕ → Setting → List Noted → H → Type 0)
    (l : Layout) (o : Object) (n : ℕ) (v : SeatView) :
    Type 0 where
  pub moment : State (Option H) SeatView
  pub sound : IsSound stands l moment
  pub seat : ℕ
  pub view : get_elem? moment.views seat ≡ some v
  pub other : ℕ
  pub apart : other ≢ seat
  pub holder : SeatView
  pub section : Inside
  pub holds : get_elem? moment.views other ≡ some holder
  pub inside : holder.inside ≡ Some section
  pub object : section.object ≡ o
  pub number : section.number ≡ n
  -- so all that the view had noted of the object was up to then
  pub seen : IsNotBelow o n v.own.notes
