-- A birth and an end as the calls make them, of a section that a claim of the place got.
use Rattle.std.proofs.Common.{◌≡◌, ℕ, ◌+◌, ◌-◌, ◌/◌, ◌<◌, ◌≤◌, [], ◌∷◌, ◌++◌, refl, sym, subst}
use Rattle.std.specs.Prelude.{Option, Some, IfSome}
use Rattle.step_law.specs.Settings.{Setting}
use Rattle.step_law.specs.declared.Told.{Ghosts}
use Rattle.size_classes.specs.Sizes.{class_count}
use Rattle.pool_law.specs.declared.id.RootId.{RootId}
use Rattle.pool_law.specs.declared.id.Region.{Region}
use Rattle.pool_law.specs.declared.id.RegionId.{RegionId}
use Rattle.pool_law.specs.declared.note.Noted.{Noted}
use Rattle.pool_law.specs.declared.note.RefDid.TheVariants.{Born}
use Rattle.pool_law.specs.declared.note.Object.TheVariants.{Root as RootOf}
use Rattle.pool_law.specs.declared.report.Watch.{Watch}
use Rattle.pool_law.specs.Limits.{geometry_of}
use Rattle.pool_law.specs.Naming.{noted_by}
use Rattle.pool_law.specs.Places.{IsInPlace}
use Rattle.pool_law.specs.Roots.{RootPlace}
use Rattle.history_laws.specs.Histories.{IsLawful, IsPlaceAfter}
use Rattle.history_laws.specs.Measures.{measures_of}
use Rattle.handle_bin.specs.Bins.{HandleValue}
use Rattle.pool_table.specs.declared.views.Entry.TheVariants.{At}
use Rattle.pool_table.specs.declared.views.Layout.{Layout}
use Rattle.pool_table.specs.declared.views.SeatView.{SeatView}
use Rattle.pool_table.specs.declared.table.PoolSeat.{PoolSeat as TableSeat}
use Rattle.pool_table.specs.declared.table.Section.{Section}
use Rattle.pool_table.specs.Numbers.{IsAbove}
use Rattle.pool_table.specs.Views.{with_entry}
use Rattle.pool_table.specs.Counts.{with_ref}
use Rattle.pool_table.specs.Hands.{InHand, NoneWaits}
use Rattle.pool_table.specs.Seats.{view_of, HasView}
use Rattle.pool_table.specs.Sections.{GotSection}
use Rattle.shared_pool.specs.RootNotes.{birth, IsNotedWith}
use Rattle.shared_pool.specs.RootPlaces.{last_generation, law_place, PlaceStandsFor}
use Rattle.shared_pool.specs.PlaceSteps.{MayBear, born_root, with_born}
use Rattle.shared_pool.specs.declared.home.Home.{Home}
use Rattle.shared_pool.specs.declared.home.Home.TheVariants.{Arena, Cache, Bin, Root}
use Rattle.shared_pool.specs.declared.pool.SharedPool.{SharedPool}
use Rattle.shared_pool.specs.declared.seat.PoolSeat.{PoolSeat}
use Rattle.shared_pool.specs.Standing.{HomeStands, HasClassLength, IsPlace, IfPlace}
use Rattle.shared_pool.specs.Seats.{IsNoted}
use Rattle.shared_pool.proofs.PlaceHomes.{is_place, place_at, place_follows}
use Rattle.shared_pool.proofs.PlaceBirths.{may_bear, home_born}
use Rattle.shared_pool.proofs.Endings.{stood, IsNext}

module _ {G : Ghosts Home Noted} (l : Layout) (p : ℕ) (old new : TableSeat Home G) (section : Section Home)
    (got : GotSection HomeStands l (RootOf p) old new section) (setting : Setting)
    (known : (view_of old).setting ≡ Some setting) where
  stands_here : HomeStands (measures_of l.shape (RootOf p)) setting got.history section.home
  stands_here = stood l (RootOf p) old new section got setting known

  pub place_here : IsPlace section.home
  place_here =
      is_place setting got.history p l.shape.handles l.shape.lanes l.shape.order l.shape.page section.home stands_here

  -- a place in hand that isn't worn out may bear a root
  pub bears_here : InHand p (view_of old) → NoneWaits p (view_of old)
      → IfPlace section.home (λ y. y.generation < last_generation) → IfPlace section.home MayBear
  bears_here hand waits = go section.home (place_at l.shape setting p got.history section.home stands_here)
    where
      go : (home : Home) → IfPlace home (λ y. PlaceStandsFor setting.grounds p l.shape.handles got.history y)
          → IfPlace home (λ y. y.generation < last_generation) → IfPlace home MayBear
      go (Root y) at young =
          may_bear p got.history y.value at.told ((got.learned.root p refl).in_hand hand waits) young
      go (Arena a) at young = tt
      go (Cache q) at young = tt
      go (Bin b) at young = tt

  -- the place after its history, where it is worn out
  pub worn_here : IfPlace section.home (λ y. y.generation ≡ last_generation)
      → (x : RootPlace) × IsPlaceAfter p got.history x × (x.generation ≡ last_generation)
  worn_here =
      go section.home place_here (place_at l.shape setting p got.history section.home stands_here)
    where
      go : (home : Home) → IsPlace home
          → IfPlace home (λ y. PlaceStandsFor setting.grounds p l.shape.handles got.history y)
          → IfPlace home (λ y. y.generation ≡ last_generation)
          → (x : RootPlace) × IsPlaceAfter p got.history x × (x.generation ≡ last_generation)
      go (Root y) is at worn = (law_place y.value, at.told, worn)
      go (Arena a) is at worn = absurd is
      go (Cache q) is at worn = absurd is
      go (Bin b) is at worn = absurd is

  -- after a birth its note follows
  pub born_next : (after : Section Home) (root : RootId) (region : Region) (handle : HandleValue) (watch : Option Watch)
      → IfPlace section.home MayBear → after.object ≡ section.object → after.slot ≡ section.slot → IsPlace after.home
      → root.place ≡ p → IfPlace section.home (λ y. root.generation ≡ y.generation + 1)
      → root.capacity ≤ region.id.place.len →
      IfSome (view_of old).setting (λ t. IsInPlace t.grounds region.id.place region.piece)
      → region.id.owner < l.shape.lanes → region.id.class < class_count (geometry_of l.shape)
      → HasClassLength region.id → handle.place ≡ p → handle.lane ≡ p / l.shape.handles →
      IfPlace after.home (λ t. t ≡ with_born (born_root root region handle watch))
      → IsNext l (RootOf p) old new section got setting known after (birth root region.id watch)
  born_next after root region handle watch may same_object same_slot place root_place next fits in_place owner class
      len handle_place handle_lane made =
      let m : Noted = noted_by (view_of old).own.number (birth root region.id watch) in
      let stands = home_born l.shape setting p got.history m section.home after.home root region handle watch
      stands_here place_here place may root_place next fits
      (subst (λ (y : Option Setting). IfSome y (λ t. IsInPlace t.grounds region.id.place region.piece)) known
      in_place) owner class len handle_place handle_lane refl refl made in
      record {
        same_object = same_object;
        same_slot = same_slot;
        follows =
            place_follows l.shape setting p got.history m after.home got.learned.accepted place stands (refl, refl, tt);
        stands = stands;
      }

-- the note of a birth, and the step that makes it
pub born_noted : (pool : SharedPool) (old : PoolSeat) (last new : TableSeat Home _) (p number : ℕ)
    (root result : RootId) (region : RegionId) (watch : Option Watch)
    → IsNoted pool old (record old { seat = last }) (RootOf p) number (birth root region watch) → root.place ≡ p
    → result ≡ root →
    HasView new (with_ref (view_of last) result Born (view_of last).moves)
    → IsNotedWith pool old (record old { seat = new }) result number (birth result region watch) Born
    (view_of old.seat).moves
born_noted pool old last new p number root result region watch m place same has =
    let v = view_of old.seat in let n : Noted = noted_by v.own.number (birth root region watch) in
    let here : HasView new (with_ref (with_entry v (At (RootOf p) number n) (v.turns - 1)) root Born v.moves) =
    subst (λ (x : RootId × SeatView). HasView new (with_ref x.1 x.0 Born x.1.moves)) (λ i. (same i, (m.seat i).0))
    has in
    subst (λ (q : RootId). IsNotedWith pool old (record old { seat = new }) q number (birth q region watch) Born
    v.moves) (sym same)
    (record {
      history = m.history;
      number_is = m.number_is;
      accepted =
          subst (λ (x : ℕ). IsLawful pool.table.layout.shape (RootOf x) (m.history ++ n ∷ [])) (sym place) m.accepted;
      above = subst (λ (x : ℕ). IsAbove (RootOf x) number v.own.notes) (sym place) m.above;
      seat =
          subst (λ (x : ℕ). HasView new (with_ref (with_entry v (At (RootOf x) number n) (v.turns - 1)) root Born
          v.moves)) (sym place) here;
    })
