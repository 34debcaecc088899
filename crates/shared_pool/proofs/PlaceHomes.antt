-- The home value of a root place: which it is, what it tells of its root, and what it stands for after a call.
use Rattle.std.proofs.Common.{◌≡◌, ℕ, ◌+◌, ◌<◌, ◌≤◌, Bool, true, false, List, [], ◌∷◌, ◌++◌, length, take, refl, sym, ap, ◌∙◌, subst, arith}
use Rattle.std.specs.Prelude.{Option, Some, None, IfSome, IsTrue, is_some, unwrap_or, option_map, option_and_then, if◌then◌else◌}
use Rattle.std.proofs.lemmas.List.{length-take-le}
use Rattle.step_law.specs.Settings.{Setting}
use Rattle.step_law.specs.declared.Told.{Ghosts}
use Rattle.ground.specs.Grounds.{Grounds}
use Rattle.pool_law.specs.declared.run.Shape.{Shape}
use Rattle.pool_law.specs.declared.id.RootId.{RootId}
use Rattle.pool_law.specs.declared.note.Did.{Did}
use Rattle.pool_law.specs.declared.note.Noted.{Noted}
use Rattle.pool_law.specs.declared.note.Object.TheVariants.{Root as RootOf}
use Rattle.pool_law.specs.declared.report.Access.{Access}
use Rattle.pool_law.specs.Roots.{RootPlace, Present, new_place, place_step}
use Rattle.pool_law.specs.Histories.{after, place_after}
use Rattle.pool_law.specs.Leaks.{accesses}
use Rattle.pool_law.specs.Logs.{present_in, root_for, region_for}
use Rattle.pool_law.specs.Naming.{noted_by}
use Rattle.pool_law.specs.NotedHistories.{noted_dids, IsRightAt, IsRightWatch}
use Rattle.pool_law.proofs.HistoryLemmas.{after-noted}
use Rattle.pool_law.proofs.PatternLemmas.{same_root-refl}
use Rattle.history_laws.specs.Histories.{IsLawful, root_after}
use Rattle.history_laws.specs.Measures.{measures_of}
use Rattle.history_laws.proofs.Runs.{right_push}
use Rattle.leak_records.specs.Records.{Tracked, HasRecords, with_access, with_last, is_keeping}
use Rattle.leak_records.proofs.RecordLaws.{records_more, dropped-most}
use Rattle.size_classes.specs.Sizes.{of_pages, class_count}
use Rattle.pool_table.specs.declared.views.Layout.{Layout}
use Rattle.pool_table.specs.declared.table.PoolSeat.{PoolSeat}
use Rattle.pool_table.specs.declared.table.Section.{Section}
use Rattle.pool_table.specs.Seats.{view_of}
use Rattle.pool_table.specs.Capacities.{knows_of}
use Rattle.pool_table.specs.Counts.{HasCount}
use Rattle.shared_pool.specs.RootNotes.{access}
use Rattle.pool_table.specs.Sections.{GotSection}
use Rattle.shared_pool.specs.RootPlaces.{RootState, PlaceState, law_root, law_place, lane_dids, IsRootAt, PlaceStandsFor}
use Rattle.shared_pool.specs.PlaceSteps.{MayAccess, Accesses, accessed}
use Rattle.shared_pool.specs.PlaceStanding.{IsAccessed}
use Rattle.shared_pool.specs.declared.home.Home.{Home}
use Rattle.shared_pool.specs.declared.home.Home.TheVariants.{Arena, Cache, Bin, Root}
use Rattle.shared_pool.specs.Standing.{HomeStands, HasClassLength, IsPlaceAt, IsPlace, IfPlace}
use Rattle.shared_pool.proofs.PlaceRecords.{access_in, is_at, accesses_more, watch_same, short}
use Rattle.shared_pool.proofs.Endings.{stood, IsNext}

pub is_place : (setting : Setting) (h : List Noted) (place handles lanes order page : ℕ) (home : Home)
    → HomeStands (4 ∷ place ∷ handles ∷ lanes ∷ order ∷ page ∷ []) setting h home → IsPlace home
is_place setting h place handles lanes order page (Arena a) at = absurd (cc at.measured)
is_place setting h place handles lanes order page (Cache q) at = absurd (cc at.measured)
is_place setting h place handles lanes order page (Bin b) at = absurd (cc at.measured)
is_place setting h place handles lanes order page (Root s) at = tt

-- what a root place tells, by its measures
pub place_at : (s : Shape) (setting : Setting) (p : ℕ) (h : List Noted) (home : Home)
    → HomeStands (measures_of s (RootOf p)) setting h home →
    IfPlace home (λ y. PlaceStandsFor setting.grounds p s.handles h y)
place_at s setting p h (Root y) at =
    subst (λ (m : ℕ × ℕ). PlaceStandsFor setting.grounds m.0 m.1 h y.value) (λ i. (sym place_is i, sym handles_is i))
    at.stands
  where
    place_is : p ≡ at.place
    place_is = cc at.measured

    handles_is : s.handles ≡ at.handles
    handles_is = cc at.measured
place_at s setting p h (Arena a) at = tt
place_at s setting p h (Cache q) at = tt
place_at s setting p h (Bin b) at = tt

-- the history of a place has what the place has
present_told : (p : ℕ) (h : List Noted) (s : PlaceState) → place_after p (noted_dids h) ≡ Some (law_place s)
    → root_after p h ≡ option_map (λ (x : Present). x.root) (option_map law_root s.present)
present_told p h s told = ap (λ (o : Option RootPlace). option_map (λ (x : Present). x.root) (present_in o)) told

-- the root that is present
pub present_root : (p : ℕ) (h : List Noted) (s : PlaceState) (root : RootId)
    → place_after p (noted_dids h) ≡ Some (law_place s) → root_after p h ≡ Some root
    → (r : RootState) × (s.present ≡ Some r) × (r.root ≡ root)
present_root p h s root told is = go s.present refl (sym (present_told p h s told) ∙ is)
  where
    go : (o : Option RootState) → s.present ≡ o → option_map (λ (x : Present). x.root) (option_map law_root o)
        ≡ Some root → (r : RootState) × (s.present ≡ Some r) × (r.root ≡ root)
    go None here e = absurd (cc e)
    go (Some r) here e = (r, here, cc e)

-- a root that is counted may be accessed
pub may_access : (grounds : Grounds) (p handles : ℕ) (h : List Noted) (s : PlaceState) (root : RootId) (offset n : ℕ)
    → PlaceStandsFor grounds p handles h s → root_after p h ≡ Some root → length h < 4611686018427387904 →
    ((x : RootPlace) (q : Present) → place_after p (noted_dids h) ≡ Some x → x.present ≡ Some q
    → offset + n ≤ length q.bytes) → MayAccess offset n s
may_access grounds p handles h s root offset n at is short_h within =
    let there = present_root p h s root at.told is in let r : RootState = there.0 in
    let here : IsRootAt grounds p handles h r = subst
    (λ (o : Option RootState). IfSome o (IsRootAt grounds p handles h)) there.1 at.root in
    let few = dropped-most (accesses r.root false (lane_dids h)) r.handle.tracker here.records in let le =
    short r.root h in
    let size = here.in_place.size in let fits = here.fits in
    let low = within (law_place s) (law_root r) at.told (ap (option_map law_root) there.1) in
    let many : length (take r.capacity r.piece.bytes) ≡ r.capacity =
    length-take-le r.capacity r.piece.bytes (omega (arith, size, fits)) in
    record {
      root = r;
      present = there.1;
      range = omega (arith, low, many);
      fits = omega (arith, size, fits);
      few = omega (arith, few, le, short_h);
    }

-- a tracker's watch stays
watch_kept : (t : Tracked) (access : Access) → (with_access t access).watch ≡ t.watch
watch_kept t access = go (is_keeping t.watch)
  where
    go : (b : Bool) → (if b then with_last t (t.kept ++ access ∷ []) else t).watch ≡ t.watch
    go true = refl
    go false = refl

-- after an access the place stands for one note more
access_stands : (grounds : Grounds) (p handles : ℕ) (h : List Noted) (n : Noted) (access : Access)
    (old new : PlaceState) → PlaceStandsFor grounds p handles h old → Accesses old n.did access new →
    access_in true (unwrap_or n.lane 0) n.did ≡ access ∷ [] → PlaceStandsFor grounds p handles (h ++ n ∷ []) new
access_stands grounds p handles h n access old new at a is =
    let r : RootState = a.root in let longer_h : List Noted = h ++ n ∷ [] in let after_r : RootState =
    accessed r a.bytes access in
    let here : IsRootAt grounds p handles h r = subst
    (λ (o : Option RootState). IfSome o (IsRootAt grounds p handles h)) a.was at.root in
    let present : is_at r.root (law_place old).present
    ≡ true = ap (λ (o : Option RootState). is_at r.root (option_map law_root o)) a.was ∙ same_root-refl r.root in
    let more = accesses_more p r.root h (law_place old) n access at.told present is in
    let told : place_after p (noted_dids longer_h) ≡ Some (law_place new) = after-noted (place_step p) new_place h n
    ∙ ap (option_and_then (λ t. place_step p t n.did)) at.told ∙ a.step p in
    let there : IsRootAt grounds p handles longer_h after_r = record {
      in_place =
          record {
            on_ground = here.in_place.on_ground;
            start = here.in_place.start;
            size = a.size
                ∙ here.in_place.size;
          };
      fits = here.fits;
      place_is = here.place_is;
      lane_is = here.lane_is;
      watch = watch_kept r.handle.tracker access ∙ here.watch ∙ sym (watch_same None h n access is);
      records =
          subst (λ (all : List Access). HasRecords all (with_access r.handle.tracker access)) (sym more)
          (records_more (accesses r.root false (lane_dids h)) r.handle.tracker access here.records);
    } in
    record {
      told = told;
      root = subst (λ (y : PlaceState). IfSome y.present (IsRootAt grounds p handles longer_h))
          (sym a.is) there;
    }

-- what a root place's measures tell of its region
abbrev pub Fits : ℕ → ℕ → ℕ → RootState → Type 0
Fits lanes order page r =
    (r.region.owner < lanes) × (r.region.class < class_count (of_pages order page)) × HasClassLength r.region

-- the same, of the home value
pub place_more : (measures : List ℕ) (setting : Setting) (h : List Noted) (n : Noted) (access : Access)
    (old new : PlaceState) → IsPlaceAt measures setting h old → Accesses old n.did access new →
    access_in true (unwrap_or n.lane 0) n.did ≡ access ∷ [] → IsPlaceAt measures setting (h ++ n ∷ []) new
place_more measures setting h n access old new at a is =
    record {
      place = at.place;
      handles = at.handles;
      lanes = at.lanes;
      order = at.order;
      page = at.page;
      measured = at.measured;
      stands = access_stands setting.grounds at.place at.handles h n access old new at.stands a is;
      region =
          subst (λ (y : PlaceState). IfSome y.present (Fits at.lanes at.order at.page)) (sym a.is)
          (subst (λ (o : Option RootState). IfSome o (Fits at.lanes at.order at.page)) a.was at.region);
    }

pub home_more : (measures : List ℕ) (setting : Setting) (h : List Noted) (n : Noted) (access : Access) (old new : Home)
    → IsPlace old → IsPlace new → IsAccessed old n.did access new →
    access_in true (unwrap_or n.lane 0) n.did ≡ access ∷ [] → HomeStands measures setting h old
    → HomeStands measures setting (h ++ n ∷ []) new
home_more measures setting h n access (Root s) (Root t) po pn a is at =
    place_more measures setting h n access s.value t.value at a is
home_more measures setting h n access (Root s) (Arena t) po pn a is at = absurd pn
home_more measures setting h n access (Root s) (Cache t) po pn a is at = absurd pn
home_more measures setting h n access (Root s) (Bin t) po pn a is at = absurd pn
home_more measures setting h n access (Arena s) new po pn a is at = absurd po
home_more measures setting h n access (Cache s) new po pn a is at = absurd po
home_more measures setting h n access (Bin s) new po pn a is at = absurd po

pub place_follows : (s : Shape) (setting : Setting) (p : ℕ) (h : List Noted) (n : Noted) (home : Home)
    → IsLawful s (RootOf p) h → IsPlace home →
    HomeStands (measures_of s (RootOf p)) setting (h ++ n ∷ []) home → IsRightAt (RootOf p) h n
    → IsLawful s (RootOf p) (h ++ n ∷ [])
place_follows s setting p h n (Root y) t is at right =
    record {
      accepted = subst (λ (o : Option RootPlace). IsTrue (is_some o))
          (sym (place_at s setting p (h ++ n ∷ []) (Root y) at).told) refl;
      right =
          right_push (RootOf p) h n t.right right;
    }
place_follows s setting p h n (Arena a) t is at right = absurd is
place_follows s setting p h n (Cache q) t is at right = absurd is
place_follows s setting p h n (Bin b) t is at right = absurd is

-- a section of a root place whose root the seat counts
module _ {G : Ghosts Home Noted} (l : Layout) (root : RootId) (old new : PoolSeat Home G) (section : Section Home)
    (got : GotSection HomeStands l (RootOf root.place) old new section) (setting : Setting)
    (known : (view_of old).setting ≡ Some setting) (counted : root_after root.place got.history ≡ Some root) where
  pub here : IsPlace section.home
  here =
      is_place setting got.history root.place l.shape.handles l.shape.lanes l.shape.order l.shape.page section.home
      (stood l (RootOf root.place) old new section got setting known)

  -- it may be accessed as far as the seat knows of its capacity
  pub accessible : HasCount root (view_of old) → (offset n : ℕ) → offset + n ≤ knows_of root (view_of old)
      → IfPlace section.home (MayAccess offset n)
  accessible has offset n within =
      go section.home (place_at l.shape setting root.place got.history section.home
      (stood l (RootOf root.place) old new section got setting known))
    where
      go : (home : Home) → IfPlace home (λ y. PlaceStandsFor setting.grounds root.place l.shape.handles got.history y)
          → IfPlace home (MayAccess offset n)
      go (Root y) at =
          may_access setting.grounds root.place l.shape.handles got.history y.value root offset n at counted
          got.learned.short
          (λ x q after is. let k = (got.learned.root root.place refl).capacity root refl has x q after is in
          let c : ℕ = knows_of root (view_of old) in let k' : c ≤ length q.bytes = k in let w : offset + n ≤ c =
          within in
          omega (arith, k', w))
      go (Arena a) at = tt
      go (Cache q) at = tt
      go (Bin b) at = tt

  -- after an access its note follows, and the home value stands for it
  pub next : (after : Section Home) (n : Noted) (access : Access) → after.object ≡ section.object
      → after.slot ≡ section.slot → IsPlace after.home → IsAccessed section.home n.did access after.home →
      access_in true (unwrap_or (view_of old).own.number 0) n.did ≡ access ∷ []
      → IsRightAt (RootOf root.place) got.history n
      → IsNext l (RootOf root.place) old new section got setting known after n
  next after n access same_object same_slot place a is right =
      let m : Noted = noted_by (view_of old).own.number n in
      let stands = home_more (measures_of l.shape (RootOf root.place)) setting got.history m access section.home
      after.home here place a is (stood l (RootOf root.place) old new section got setting known) in
      record {
        same_object = same_object;
        same_slot = same_slot;
        follows =
            place_follows l.shape setting root.place got.history m after.home got.learned.accepted place stands right;
        stands = stands;
      }

-- what a claim by a seat that counts the root told
pub counts_root : {G : Ghosts Home Noted} (l : Layout) (root : RootId) (old new : PoolSeat Home G)
    (section : Section Home) (got : GotSection HomeStands l (RootOf root.place) old new section)
    → HasCount root (view_of old) → root_after root.place got.history ≡ Some root
counts_root l root old new section got has = (got.learned.root root.place refl).counted root refl has

-- the access by another lane
abbrev pub made_by : ℕ → Access → Access
made_by lane (Access.Set l offset len) = Access.Set lane offset len
made_by lane (Access.Get l offset len) = Access.Get lane offset len
made_by lane (Access.Touch l) = Access.Touch lane

-- an access by the seat's lane, and the note of it
pub accessing : {G : Ghosts Home Noted} (l : Layout) (root : RootId) (old new : PoolSeat Home G)
    (section after : Section Home) (got : GotSection HomeStands l (RootOf root.place) old new section)
    (setting : Setting) (known : (view_of old).setting ≡ Some setting) (lane : ℕ) (did : Did) (acc : Access) →
    HasCount root (view_of old) → (view_of old).own.number ≡ Some lane
    → ((k : ℕ) → access_in true k did ≡ made_by k acc ∷ []) → made_by lane acc ≡ acc
    → root_for did (present_in (place_after root.place (noted_dids got.history)))
    ≡ root_after root.place got.history → region_for did
    (present_in (place_after root.place (noted_dids got.history))) ≡ None → IsRightWatch did None →
    after.object ≡ section.object → after.slot ≡ section.slot → IsPlace after.home
    → IsAccessed section.home did acc after.home
    → IsNext l (RootOf root.place) old new section got setting known after (access root did)
accessing l root old new section after got setting known lane did acc has number is same for_root for_region watch
    same_object same_slot place a =
    next l root old new section got setting known (counts_root l root old new section got has) after (access root did)
    acc same_object same_slot place a
    (ap (λ (o : Option ℕ). access_in true (unwrap_or o 0) did) number ∙ is lane ∙ ap (λ (y : Access). y ∷ []) same)
    (sym (for_root ∙ counts_root l root old new section got has), sym for_region, watch)
