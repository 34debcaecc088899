-- What the last seat knows when the table is closed: the logs are the parts of its view.
use Rattle.step_law.specs.Settings.{Setting}
use Rattle.std.specs.Prelude.{◌≡◌, ℕ, ◌+◌, ◌*◌, ◌<◌, ◌≤◌, List, [], ◌∷◌, length, Option, Some, IfSome, All, slice_index}
use mathlib.Core.Option.{some}
use lib.ListN.{get_elem?}
use Rattle.pool_law.specs.declared.run.Shape.{Shape}
use Rattle.pool_law.specs.declared.note.Noted.{Noted}
use Rattle.pool_law.specs.declared.id.RootId.{RootId}
use Rattle.pool_law.specs.declared.id.RegionId.{RegionId}
use Rattle.pool_law.specs.Arenas.{Arena as ArenaState}
use Rattle.pool_law.specs.Caches.{Cache as CacheState}
use Rattle.pool_law.specs.Roots.{RootPlace}
use Rattle.pool_table.specs.Holders.{AreStates, IsInOneHold}
use Rattle.pool_law.specs.declared.note.Object.{Object}
use Rattle.pool_law.specs.Homes.{home_of, objects_of, IsObjectOf}
use Rattle.history_laws.specs.Histories.{IsLawful}
use Rattle.history_laws.specs.Measures.{measures_of}
use Rattle.pool_table.specs.declared.views.Layout.{Layout}
use Rattle.pool_table.specs.declared.views.SeatView.{SeatView}
use Rattle.pool_table.specs.Views.{is_at, is_numbered, object_view, in_object_view, numbered}
use Rattle.pool_table.specs.Counts.{IsCounted}
use Rattle.pool_table.specs.Births.{IsBorn, AreBorn}
use Rattle.pool_table.specs.Letters.{LettersKept}
use Rattle.pool_table.specs.Looks.{AreLooksRight}
use Rattle.pool_table.specs.Order.{AreInOrder}
use Rattle.pool_table.specs.Sequence.{AreInOneOrder}
use Rattle.pool_table.specs.Sound.{IsTold, IsView}
use Rattle.pool_table.specs.Words.{listed_of}

-- the view has a part of each lane
abbrev pub HasAllLanes : Layout → SeatView → Type 0
HasAllLanes l v = (m : ℕ) → m < l.shape.lanes → numbered m v ≡ 1

-- the history of one object, whole in the parts of the view, and what its home value stands for
pub record IsWhole {H : Type 0}
    (stands : List ℕ → Setting → List Noted → H → Type 0) (shape : Shape)
    (v : SeatView) (o : Object) (word : ℕ) (homes : List (Option H)) : Type 0 where
  pub history : List Noted
  pub accepted : IsLawful shape o history
  pub word_is : word ≡ 2 * length history
  pub told : All (IsTold o history (length history)) (object_view shape (home_of shape o) v).parts
  pub once : (k : ℕ) → k < length history →
      in_object_view (is_numbered (k + 1)) (object_view shape (home_of shape o) v) ≡ 1
  pub as_many : in_object_view is_at (object_view shape (home_of shape o) v) ≡ length history
  pub home_is :
      (x : H) × (get_elem? homes (home_of shape o) ≡ some (Some x))
      × IfSome v.setting (λ (g : Setting). stands (measures_of shape o) g history x)

-- home values and words as the table is closed, by the view that has the parts of all lanes
pub record IsClosed {H : Type 0}
    (stands : List ℕ → Setting → List Noted → H → Type 0) (l : Layout)
    (v : SeatView) (homes : List (Option H)) (words : List ℕ) : Type 0 where
  pub word_count : length words ≡ listed_of l.shape
  pub home_count : length homes ≡ objects_of l.shape
  -- the view by itself
  pub setting : Setting
  pub view : IsView l.shape setting v
  pub objects : (o : Object) → IsObjectOf l.shape o →
      IsWhole stands l.shape v o (slice_index words (home_of l.shape o)) homes
  pub counts : (p : ℕ) → p < l.shape.lanes * l.shape.handles →
      IsCounted p (v ∷ []) (slice_index words (objects_of l.shape + p))
  -- the counts are few, so that each word tells its count
  pub few : (p : ℕ) → p < l.shape.lanes * l.shape.handles →
      (k : IsCounted p (v ∷ []) (slice_index words (objects_of l.shape + p))) →
      k.count ≤ 1073741824
  -- each taking that is out is in the view's hands, in a cache or at a root place
  pub takings : (q : RegionId) (fits : q.place.arena < l.shape.arenas)
      (arena : ArenaState) (caches : ℕ → ℕ → CacheState) (places : ℕ → RootPlace) →
      AreStates l.shape (λ o fits. (objects o fits).history)
      q.place.arena fits arena caches places →
      IsInOneHold l.shape (v ∷ []) q arena caches places
  -- each root that they name was born so, and no other of its place and generation was
  pub born : AreBorn (v ∷ [])
  pub alone : (q r : RootId) → IsBorn (v ∷ []) q → IsBorn (v ∷ []) r →
      r.place ≡ q.place → r.generation ≡ q.generation → r ≡ q
  -- each look told the truth, and the notes are in order
  pub looks : AreLooksRight (v ∷ [])
  pub order : AreInOrder (v ∷ [])
  -- all steps stand in one order, in which each fits those before it
  pub one_order : AreInOneOrder l.shape (v ∷ [])
  -- each letter that was sent was received, or lies unfetched in a view
  pub holders : List SeatView
  pub mailed : LettersKept (v ∷ []) holders
