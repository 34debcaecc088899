-- The board's rule: what holds of its words, of the cores at home and of the views of all seats between
-- any two steps.
use Rattle.std.specs.Prelude.{◌≡◌, ◌≢◌, ℕ, ◌+◌, ◌*◌, ◌^◌, ◌<◌, ◌≤◌, List, length, Option, Some, None, IfSome, All, sum_by, slice_index}
use mathlib.Core.Option.{some}
use mathlib.Core.Option as maybe
use lib.ListN.{get_elem?}
use Rattle.atomic_table.specs.Table.{State}
use Rattle.board_table.specs.declared.views.Stake.{Stake}
use Rattle.board_table.specs.declared.views.Inside.{Inside}
use Rattle.board_table.specs.declared.views.BoardView.{BoardView}
use Rattle.board_table.specs.declared.views.Opening.{Opening}
use Rattle.board_table.specs.Names.{named}
use Rattle.board_table.specs.Views.{stake_of, inside_total, total, turns_left, spent, moved}

-- the words of different composites lie 16 words apart, so that no two of them share a cache line
abbrev pub section_word : ℕ → ℕ
section_word k = 16 * k

abbrev pub count_word : ℕ → ℕ
count_word k = 16 * k + 1

-- how many turns a core's own seat has left, while all views have so many turns of the board
abbrev pub reserve : ℕ → ℕ
reserve turns = 25 * turns + 100

-- the home value stands for composite k of what the table was made from
abbrev pub StandsIn : {H T : Type 0} → (T → ℕ → H → Type 0) → Option T → ℕ → H → Type 0
StandsIn stands None k x = ⊥
StandsIn stands (Some origin) k x = stands origin k x

-- what the words and the home of one composite are to what all views together have of it
pub record IsComposite {H : Type 0}
    (Stands : H → Type 0) (left : H → ℕ) (least : ℕ)
    (all : Stake) (inside section count : ℕ) (home : maybe.Option (maybe.Option (Option H))) :
    Type 0 where
  -- the section word is twice the sections made, and odd exactly where one view is in one
  pub section_is : section ≡ 2 * all.sections + inside
  pub alone : inside ≤ 1
  -- the count word is the sum of all views' counts, which are one and the retains at most
  pub count_is : count ≡ all.counts
  pub few : all.counts ≤ 1 + all.retained
  -- at 0 one view has the mark, or the core was taken; it is taken only there
  pub ended : all.counts ≡ 0 → all.marks + all.taken ≡ 1
  pub counted : 0 < all.counts → all.marks + all.taken ≡ 0
  -- where no view is in the section and the core wasn't taken, it is at home, with what it was made
  -- from, and its seat has so many turns left
  pub home_is : inside ≡ 0 → all.taken ≡ 0 →
      (x : H) × (home ≡ some (some (Some x))) × Stands x × (least ≤ left x)
  -- where it was taken its slot is empty
  pub empty : inside ≡ 0 → 0 < all.taken → home ≡ some (some None)

-- what holds of one view
pub record IsView (v : BoardView) : Type 0 where
  -- in a section it counts the composite or has its mark, and has a turn left
  pub inside : IfSome v.inside (λ (x : Inside).
      (0 < (stake_of x.composite v).counts + (stake_of x.composite v).marks) × (0 < v.turns))
  -- each taking was a section
  pub taken : (k : ℕ) → (stake_of k v).taken ≤ (stake_of k v).sections

-- a view in a section knows how many were made of that composite, and that all views have no more
-- turns left than when its section began
abbrev pub Knows : List BoardView → BoardView → Type 0
Knows views v =
    IfSome v.inside (λ (x : Inside).
    (x.number ≡ (total x.composite views).sections) × (turns_left views ≤ x.turns))

-- the board is sound: this holds between any two steps, whatever the threads do
--
-- `s.words` are the atomic words, `s.homes` the cores in their slots, and `s.views` what the seats know:
-- all counts, marks and turns, split over the seats that have them.
pub record IsSound {H T : Type 0}
    (stands : T → ℕ → H → Type 0) (left : H → ℕ) (o : Opening T)
    (s : State (Option H) BoardView) : Type 0 where
  pub words : length s.words ≡ 16 * o.composites
  pub homes : length s.homes ≡ o.composites
  -- each view by itself, and by what it knows of all
  pub views : All IsView s.views
  pub knows : All (Knows s.views) s.views
  -- each composite, with its words and its home
  pub composites : (k : ℕ) → k < o.composites →
      IsComposite (StandsIn stands (named o.origin) k) left (reserve (turns_left s.views))
      (total k s.views) (inside_total k s.views)
      (slice_index s.words (section_word k)) (slice_index s.words (count_word k))
      (get_elem? s.homes k)
  -- retains and moves left are together what was given, and so are sections and turns left; so no
  -- word overflows
  pub moves : sum_by moved s.views ≡ o.moves
  pub few : o.moves < 2 ^ 30
  pub sections : sum_by spent s.views ≡ o.turns
  pub room : o.turns < 2 ^ 50

-- at one moment, on this board, a seat had the view v while another was in the section of composite k
-- after n sections
pub record WasHeld
    {H : Type 0} (holds : State (Option H) BoardView → Type 0) (k n : ℕ) (v : BoardView) :
    Type 0 where
  pub moment : State (Option H) BoardView
  pub sound : holds moment
  pub seat : ℕ
  pub view : get_elem? moment.views seat ≡ some v
  pub other : ℕ
  pub apart : other ≢ seat
  pub holder : BoardView
  pub holds_it : get_elem? moment.views other ≡ some holder
  pub section : Inside
  pub inside : holder.inside ≡ Some section
  pub composite : section.composite ≡ k
  pub number : section.number ≡ n

-- at one moment, on this board, a seat had the view v while no view was in the section of composite k,
-- after n sections, and its core was at home, as home tells
pub record WasFree
    {H : Type 0} (holds : State (Option H) BoardView → Type 0) (k n : ℕ) (home : H)
    (v : BoardView) : Type 0 where
  pub moment : State (Option H) BoardView
  pub sound : holds moment
  pub seat : ℕ
  pub view : get_elem? moment.views seat ≡ some v
  pub free : inside_total k moment.views ≡ 0
  pub number : (total k moment.views).sections ≡ n
  pub home_is : get_elem? moment.homes k ≡ some (some (Some home))

-- at one moment, on this board, a seat had the view v while the count word of composite k was n
pub record WasCounted
    {H : Type 0} (holds : State (Option H) BoardView → Type 0) (k n : ℕ) (v : BoardView) :
    Type 0 where
  pub moment : State (Option H) BoardView
  pub sound : holds moment
  pub seat : ℕ
  pub view : get_elem? moment.views seat ≡ some v
  pub count : slice_index moment.words (count_word k) ≡ n
