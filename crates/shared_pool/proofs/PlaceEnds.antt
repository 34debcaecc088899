-- An end as a call makes it, of a section that a claim by the end token got.
use Rattle.std.proofs.Common.{◌≡◌, ℕ, ◌+◌, ◌/◌, ◌<◌, ◌≤◌, Bool, cond, arith, List, [], ◌∷◌, ◌++◌, length, refl, sym, ap, ◌∙◌, subst}
use Rattle.std.specs.Prelude.{Option, Some, IfSome, option_map, option_and_then}
use Rattle.step_law.specs.Settings.{Setting}
use Rattle.step_law.specs.declared.Told.{Ghosts}
use Rattle.size_classes.specs.Sizes.{class_count}
use Rattle.pool_law.specs.declared.run.Shape.{Shape}
use Rattle.pool_law.specs.declared.id.RootId.{RootId}
use Rattle.pool_law.specs.declared.id.Region.{Region}
use Rattle.pool_law.specs.declared.id.RegionId.{RegionId}
use Rattle.pool_law.specs.declared.note.Did.{Did}
use Rattle.pool_law.specs.declared.note.Noted.{Noted}
use Rattle.pool_law.specs.declared.note.Object.TheVariants.{Root as RootOf}
use Rattle.pool_law.specs.Limits.{geometry_of}
use Rattle.pool_law.specs.Roots.{RootPlace, Present, new_place, place_step}
use Rattle.pool_law.specs.Logs.{present_in}
use Rattle.pool_law.specs.Naming.{noted_by}
use Rattle.pool_law.specs.NotedHistories.{IsRightAt}
use Rattle.pool_law.specs.Places.{IsInPlace}
use Rattle.pool_law.proofs.HistoryLemmas.{after-noted}
use Rattle.pool_law.proofs.PatternLemmas.{same_taking-refl}
use Rattle.history_laws.specs.Histories.{root_after}
use Rattle.history_laws.specs.Measures.{measures_of}
use Rattle.handle_bin.specs.Bins.{HandleValue}
use Rattle.pool_table.specs.declared.views.Layout.{Layout}
use Rattle.pool_table.specs.declared.table.PoolSeat.{PoolSeat}
use Rattle.pool_table.specs.declared.table.Section.{Section}
use Rattle.pool_table.specs.Seats.{view_of}
use Rattle.pool_table.specs.Learned.{did_take_up}
use Rattle.pool_table.specs.Sections.{GotSection}
use Rattle.shared_pool.specs.RootNotes.{end_of}
use Rattle.shared_pool.specs.RootPlaces.{RootState, PlaceState, law_root, law_place, IsRootAt, PlaceStandsFor}
use Rattle.shared_pool.specs.PlaceSteps.{MayEnd, vacated}
use Rattle.shared_pool.specs.PlaceStanding.{IfPlaces}
use Rattle.shared_pool.specs.declared.home.Home.{Home}
use Rattle.shared_pool.specs.declared.home.Home.TheVariants.{Arena, Cache, Bin, Root}
use Rattle.shared_pool.specs.Standing.{HomeStands, HasClassLength, IsPlaceAt, IsPlace, IfPlace}
use Rattle.shared_pool.proofs.PlaceLaws.{ends as law_ends}
use Rattle.shared_pool.proofs.PlaceHomes.{Fits, is_place, place_at, place_follows, present_root}
use Rattle.shared_pool.proofs.Endings.{stood, IsNext}

-- an end takes its region up
pub takes_up : (lane : Option ℕ) (root : RootId) (q : RegionId) → 0 < did_take_up q (noted_by lane (end_of root q))
takes_up lane root q = subst (λ (b : Bool). 0 < 0 + (0 + cond {A = ℕ} b 1 0)) (sym (same_taking-refl q)) (omega arith)

-- what an end takes out of the place
abbrev pub TakenOut : Region → HandleValue → RootState → Type 0
TakenOut region handle r = (region.id ≡ r.region) × (region.piece ≡ r.piece) × (handle ≡ r.handle)

-- what is known of the region and the handle that an end takes out
pub record IsTakenOut (setting : Setting) (s : Shape) (p : ℕ) (root : RootId) (h : List Noted) (region : Region)
    (handle : HandleValue) : Type 0 where
  pub right : IsRightAt (RootOf p) h (end_of root region.id)
  pub in_place : IsInPlace setting.grounds region.id.place region.piece
  pub owner : region.id.owner < s.lanes
  pub class : region.id.class < class_count (geometry_of s)
  pub len : HasClassLength region.id
  pub lane : handle.lane ≡ handle.place / s.handles
  pub place : handle.place ≡ p

taken_out : (s : Shape) (setting : Setting) (p : ℕ) (h : List Noted) (root : RootId) (y : PlaceState) (region : Region)
    (handle : HandleValue) → IsPlaceAt (measures_of s (RootOf p)) setting h y
    → PlaceStandsFor setting.grounds p s.handles h y → root_after p h ≡ Some root →
    IfSome y.present (TakenOut region handle) → IsTakenOut setting s p root h region handle
taken_out s setting p h root y region handle whole at is out =
    let there = present_root p h y root at.told is in let r : RootState = there.0 in
    let here : IsRootAt setting.grounds p s.handles h r =
    subst (λ (o : Option RootState). IfSome o (IsRootAt setting.grounds p s.handles h)) there.1 at.root in
    let got : TakenOut region handle r = subst (λ (o : Option RootState). IfSome o (TakenOut region handle)) there.1
    out in
    let lanes_is : whole.lanes ≡ s.lanes = cc whole.measured in let order_is : whole.order
    ≡ s.order = cc whole.measured in
    let page_is : whole.page ≡ s.page = cc whole.measured in
    let known : Fits s.lanes s.order s.page r =
    subst (λ (m : ℕ × ℕ × ℕ). Fits m.0 m.1 m.2 r) (λ i. (lanes_is i, order_is i, page_is i))
    (subst (λ (o : Option RootState). IfSome o (Fits whole.lanes whole.order whole.page)) there.1 whole.region) in
    record {
      right = (
        refl,
        ap Some got.0 ∙ sym (ap
            (λ (o : Option RootPlace). option_map (λ (q : Present). q.region) (present_in o)) at.told
            ∙ ap (λ (o : Option RootState). option_map (λ (q : Present). q.region) (option_map law_root o))
            there.1),
        refl,
      );
      in_place =
          subst (λ (x : RegionId × _). IsInPlace setting.grounds x.0.place x.1) (λ i. (sym got.0 i, sym got.1 i))
          here.in_place;
      owner = subst (λ (q : RegionId). q.owner < s.lanes) (sym got.0) known.0;
      class = subst (λ (q : RegionId). q.class < class_count (geometry_of s)) (sym got.0) known.1;
      len = subst HasClassLength (sym got.0) known.2;
      lane =
          subst (λ (q : HandleValue). q.lane ≡ q.place / s.handles) (sym got.2)
          (here.lane_is ∙ ap (λ (n : ℕ). n / s.handles) (sym here.place_is));
      place = ap (λ (q : HandleValue). q.place) got.2 ∙ here.place_is;
    }

pub home_out : (s : Shape) (setting : Setting) (p : ℕ) (h : List Noted) (root : RootId) (home : Home) (region : Region)
    (handle : HandleValue) → HomeStands (measures_of s (RootOf p)) setting h home → IsPlace home
    → root_after p h ≡ Some root →
    IfPlace home (λ y. IfSome y.present (TakenOut region handle)) → IsTakenOut setting s p root h region handle
home_out s setting p h root (Root y) region handle at po is out =
    taken_out s setting p h root y.value region handle at (place_at s setting p h (Root y) at) is out
home_out s setting p h root (Arena y) region handle at po is out = absurd po
home_out s setting p h root (Cache y) region handle at po is out = absurd po
home_out s setting p h root (Bin y) region handle at po is out = absurd po

-- a root that is present may end
pub home_ends : (s : Shape) (setting : Setting) (p : ℕ) (h : List Noted) (root : RootId) (home : Home)
    → HomeStands (measures_of s (RootOf p)) setting h home → root_after p h ≡ Some root → IfPlace home MayEnd
home_ends s setting p h root (Root y) at is =
    let stands = place_at s setting p h (Root y) at in let there = present_root p h y.value root stands.told is in
    let here : IsRootAt setting.grounds p s.handles h there.0 =
    subst (λ (o : Option RootState). IfSome o (IsRootAt setting.grounds p s.handles h)) there.1 stands.root in
    record { root = there.0; present = there.1; size = here.in_place.size }
home_ends s setting p h root (Arena y) at is = tt
home_ends s setting p h root (Cache y) at is = tt
home_ends s setting p h root (Bin y) at is = tt

-- after an end the place is vacant
pub home_vacated : (s : Shape) (setting : Setting) (p : ℕ) (h : List Noted) (n : Noted) (root : RootId) (old new : Home)
    → HomeStands (measures_of s (RootOf p)) setting h old → IsPlace old → IsPlace new → root_after p h ≡ Some root
    → n.did ≡ Did.End root → IfPlaces old new (λ y t. t ≡ vacated y) →
    HomeStands (measures_of s (RootOf p)) setting (h ++ n ∷ []) new
home_vacated s setting p h n root (Root y) (Root t) at po pn is did made =
    let stands = place_at s setting p h (Root y) at in let there = present_root p h y.value root stands.told is in
    let r : RootState = there.0 in
    let here : IsRootAt setting.grounds p s.handles h r =
    subst (λ (o : Option RootState). IfSome o (IsRootAt setting.grounds p s.handles h)) there.1 stands.root in
    let step : place_step p (law_place y.value) (Did.End r.root)
    ≡ Some (law_place (vacated y.value)) = law_ends y.value r there.1 (fitting r here) p in
    let told = after-noted (place_step p) new_place h n ∙ ap (option_and_then (λ t. place_step p t n.did)) stands.told
    ∙ ap (place_step p (law_place y.value)) (did ∙ ap Did.End (sym there.2)) ∙ step in
    subst (λ (z : PlaceState). IsPlaceAt (measures_of s (RootOf p)) setting (h ++ n ∷ []) z) (sym made)
    (record {
      place = p;
      handles = s.handles;
      lanes = s.lanes;
      order = s.order;
      page = s.page;
      measured = refl;
      stands =
          record { told = told; root = tt };
      region = tt;
    })
  where
    fitting : (r : RootState) → IsRootAt setting.grounds p s.handles h r → r.capacity ≤ length r.piece.bytes
    fitting r here = let a = here.fits in let b = here.in_place.size in omega (arith, a, b)
home_vacated s setting p h n root (Root y) (Arena t) at po pn is did made = absurd pn
home_vacated s setting p h n root (Root y) (Cache t) at po pn is did made = absurd pn
home_vacated s setting p h n root (Root y) (Bin t) at po pn is did made = absurd pn
home_vacated s setting p h n root (Arena y) new at po pn is did made = absurd po
home_vacated s setting p h n root (Cache y) new at po pn is did made = absurd po
home_vacated s setting p h n root (Bin y) new at po pn is did made = absurd po

module _ {G : Ghosts Home Noted} (l : Layout) (p : ℕ) (old new : PoolSeat Home G) (section : Section Home)
    (got : GotSection HomeStands l (RootOf p) old new section) (setting : Setting)
    (known : (view_of old).setting ≡ Some setting) (root : RootId) (is : root_after p got.history ≡ Some root) where
  stands_here : HomeStands (measures_of l.shape (RootOf p)) setting got.history section.home
  stands_here = stood l (RootOf p) old new section got setting known

  pub place_there : IsPlace section.home
  place_there =
      is_place setting got.history p l.shape.handles l.shape.lanes l.shape.order l.shape.page section.home stands_here

  pub ends_here : IfPlace section.home MayEnd
  ends_here = home_ends l.shape setting p got.history root section.home stands_here is

  pub out_here : (region : Region) (handle : HandleValue)
      → IfPlace section.home (λ y. IfSome y.present (TakenOut region handle))
      → IsTakenOut setting l.shape p root got.history region handle
  out_here region handle out =
      home_out l.shape setting p got.history root section.home region handle stands_here place_there is out

  -- after an end its note follows
  pub ended_next : (after : Section Home) (region : Region) (handle : HandleValue)
      → IfPlace section.home (λ y. IfSome y.present (TakenOut region handle)) → after.object ≡ section.object
      → after.slot ≡ section.slot → IsPlace after.home → IfPlaces section.home after.home (λ y t. t ≡ vacated y) →
      IsNext l (RootOf p) old new section got setting known after (end_of root region.id)
  ended_next after region handle out same_object same_slot place made =
      let m : Noted = noted_by (view_of old).own.number (end_of root region.id) in
      let stands = home_vacated l.shape setting p got.history m root section.home after.home stands_here place_there
      place is refl made in
      record {
        same_object = same_object;
        same_slot = same_slot;
        follows =
            place_follows l.shape setting p got.history m after.home got.learned.accepted place stands
            (out_here region handle out).right;
        stands = stands;
      }
