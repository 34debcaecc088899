-- An ask for capacity and a growth as the calls make them, of a section that a seat got that counts the root.
use Rattle.std.proofs.Common.{Box, Global, ◌≡◌, ℕ, ◌+◌, ◌<◌, ◌≤◌, Bool, cond, List, [], ◌∷◌, ◌++◌, length, take, max, refl, sym, ap, ◌∙◌, subst, arith}
use Rattle.std.specs.Prelude.{Option, Some, None, IfSome, option_map, if◌then◌else◌}
use Rattle.std.proofs.lemmas.List.{length-take-le}
use Rattle.step_law.specs.Settings.{Setting}
use Rattle.step_law.specs.declared.Told.{Ghosts}
use Rattle.ground.specs.Ground.{Segment}
use Rattle.size_classes.specs.Sizes.{IsGeometry, size_at, chunk_bytes}
use Rattle.size_classes.proofs.Requests.{size_at-within_chunk}
use Rattle.pool_law.specs.declared.id.Region.{Region}
use Rattle.pool_law.specs.declared.id.RegionId.{RegionId}
use Rattle.pool_law.specs.declared.id.RootId.{RootId}
use Rattle.pool_law.specs.declared.note.Did.{Did}
use Rattle.pool_law.specs.declared.note.Noted.{Noted}
use Rattle.pool_law.specs.declared.note.Object.{Object}
use Rattle.pool_law.specs.declared.note.Object.TheVariants.{Root as RootOf}
use Rattle.pool_law.specs.declared.note.Note.{Note}
use Rattle.pool_law.specs.Capacities.{told_by}
use Rattle.pool_law.specs.Histories.{place_after}
use Rattle.pool_law.specs.Limits.{IsShape, geometry_of}
use Rattle.pool_law.specs.Logs.{present_in}
use Rattle.pool_law.specs.Naming.{noted_by}
use Rattle.pool_law.specs.NotedHistories.{noted_dids, IsRightAt}
use Rattle.pool_law.specs.Places.{IsInPlace}
use Rattle.pool_law.specs.Same.{same_root}
use Rattle.pool_law.specs.Roots.{Present, RootPlace as LawPlace}
use Rattle.pool_law.proofs.PatternLemmas.{same_root-refl, same_taking-refl}
use Rattle.history_laws.specs.Histories.{IsLawful, root_after}
use Rattle.history_laws.specs.Measures.{measures_of}
use Rattle.pool_table.specs.declared.views.Entry.TheVariants.{At}
use Rattle.pool_table.specs.declared.views.Layout.{Layout}
use Rattle.pool_table.specs.declared.views.SeatView.{SeatView}
use Rattle.pool_table.specs.declared.table.PoolSeat.{PoolSeat as TableSeat}
use Rattle.pool_table.specs.declared.table.Section.{Section}
use Rattle.pool_table.specs.Capacities.{knows_of}
use Rattle.pool_table.specs.Counts.{HasCount}
use Rattle.pool_table.specs.Hands.{HasRegion, PutsDown}
use Rattle.pool_table.specs.Seats.{view_of}
use Rattle.pool_table.specs.Sections.{GotSection}
use Rattle.pool_table.specs.Views.{entered, with_entry}
use Rattle.pool_table.proofs.After.{after_growing, after_other}
use Rattle.shared_pool.specs.PlaceSteps.{used}
use Rattle.shared_pool.specs.PlaceStanding.{IfPlaces}
use Rattle.shared_pool.specs.RootNotes.{access}
use Rattle.shared_pool.specs.RootPlaces.{RootState, PlaceState, law_root, law_place, PlaceStandsFor}
use Rattle.shared_pool.specs.Standing.{HomeStands, IsPlaceAt, IsPlace, IfPlace}
use Rattle.shared_pool.specs.Regrowing.{room_did, room_capacity, grown_did, grown_note, grown_capacity, back_of, IsGrownFor, MayRegrow, Turns, Answers, IsGrown}
use Rattle.shared_pool.specs.declared.home.Home.{Home}
use Rattle.shared_pool.specs.declared.home.Home.TheVariants.{Arena, Cache, Bin, Root}
use Rattle.shared_pool.specs.declared.root_place.RootPlace.{RootPlace}
use Rattle.shared_pool.specs.declared.went.Room.{Room}
use Rattle.shared_pool.specs.declared.went.Room.TheVariants.{Enough, Extended, Short}
use Rattle.shared_pool.specs.declared.went.Grown.{Grown}
use Rattle.shared_pool.specs.declared.went.Grown.TheVariants as grown
use Rattle.shared_pool.proofs.Endings.{stood, IsNext}
use Rattle.shared_pool.proofs.Knowledge.{knows-more}
use Rattle.shared_pool.proofs.PlaceHomes.{Fits, is_place, place_at, place_follows, counts_root}
use Rattle.shared_pool.proofs.RegrowLaws.{enough}
use Rattle.shared_pool.proofs.RegrowHomes.{Became, IsPooled, may_regrow, root_here, room_state, room_more, grown_state, grown_more}

-- the home value of a root place
root_home : (home : Home) → IsPlace home → (y : Box RootPlace Global) × (home ≡ Root y)
root_home (Root y) is = (y, refl)
root_home (Arena a) is = absurd is
root_home (Cache q) is = absurd is
root_home (Bin b) is = absurd is

-- so much and no more is known
same_known : (known told has capacity : ℕ) → known ≤ has → has ≤ capacity → told ≡ capacity → max known told ≡ capacity
same_known known told has capacity low more is = omega (arith, low, more, is)

-- what a growth takes out of the seat's hands
pub grown_puts : (w v : SeatView) (o : Object) (h : List Noted) (asked : ℕ) (id : RegionId) (g : Grown)
    → w ≡ entered v o h (length h) → HasRegion id v → PutsDown w (grown_did asked (used id) g).0
grown_puts w v o h asked id g is has =
    subst (λ (x : SeatView). PutsDown x (grown_did asked (used id) g).0) (sym is) (by g)
  where
    by : (g : Grown) → PutsDown (entered v o h (length h)) (grown_did asked (used id) g).0
    by (grown.Enough capacity region) = tt
    by (grown.Extended region) = tt
    by (grown.Replaced region) = (id, record { taking = has.taking; uses = has.uses }, refl)

-- its note
pub grown_is : (root : RootId) (asked : ℕ) (id : RegionId) (g : Grown) (x : Did × Option RegionId)
    → x ≡ grown_did asked (used id) g
    → record { did = x.0; lane = None; watch = None; root = Some root; region = x.1 } ≡ grown_note root asked id g
grown_is root asked id (grown.Enough capacity region) x is =
    λ i. record { did = (is i).0; lane = None; watch = None; root = Some root; region = (is i).1 }
grown_is root asked id (grown.Extended region) x is =
    λ i. record { did = (is i).0; lane = None; watch = None; root = Some root; region = (is i).1 }
grown_is root asked id (grown.Replaced region) x is =
    λ i. record { did = (is i).0; lane = None; watch = None; root = Some root; region = (is i).1 }

-- a shape's sizes
pub geometry : (s : _) → IsShape s → IsGeometry (geometry_of s)
geometry s shape = record { least = shape.order_least; most = shape.order_most; page = shape.page; chunk = shape.chunk }

module _ {G : Ghosts Home Noted} (l : Layout) (root : RootId) (old new : TableSeat Home G) (section : Section Home)
    (got : GotSection HomeStands l (RootOf root.place) old new section) (setting : Setting)
    (known : (view_of old).setting ≡ Some setting) (has : HasCount root (view_of old)) where
  abbrev measures : List ℕ
  measures = measures_of l.shape (RootOf root.place)

  counted : root_after root.place got.history ≡ Some root
  counted = counts_root l root old new section got has

  stands_here : HomeStands measures setting got.history section.home
  stands_here = stood l (RootOf root.place) old new section got setting known

  place_here : IsPlace section.home
  place_here =
      is_place setting got.history root.place l.shape.handles l.shape.lanes l.shape.order l.shape.page section.home
      stands_here

  -- its root may be asked for capacity
  pub regrows_here : IfPlace section.home MayRegrow
  regrows_here = go section.home (place_at l.shape setting root.place got.history section.home stands_here)
    where
      go : (home : Home) → IfPlace home (λ y. PlaceStandsFor setting.grounds root.place l.shape.handles got.history y)
          → IfPlace home MayRegrow
      go (Root y) at = may_regrow setting.grounds root.place l.shape.handles got.history y.value root at counted
      go (Arena a) at = tt
      go (Cache q) at = tt
      go (Bin b) at = tt

  -- the place that the section has
  home_is : section.home ≡ Root (root_home section.home place_here).0
  home_is = (root_home section.home place_here).1

  at : IsPlaceAt measures setting got.history (root_home section.home place_here).0.value
  at = subst (HomeStands measures setting got.history) home_is stands_here

  abbrev here_now : PlaceState
  here_now = (root_home section.home place_here).0.value

  stands : PlaceStandsFor setting.grounds root.place l.shape.handles got.history here_now
  stands =
      subst (λ (m : ℕ × ℕ). PlaceStandsFor setting.grounds m.0 m.1 got.history here_now)
      (λ i. (sym place_is i, sym handles_is i)) at.stands
    where
      place_is : root.place ≡ at.place
      place_is = cc at.measured

      handles_is : l.shape.handles ≡ at.handles
      handles_is = cc at.measured

  lanes_is : at.lanes ≡ l.shape.lanes
  lanes_is = cc at.measured

  order_is : at.order ≡ l.shape.order
  order_is = cc at.measured

  page_is : at.page ≡ l.shape.page
  page_is = cc at.measured

  -- what the seat knew is at most what the root has
  known_here : (r : RootState) → here_now.present ≡ Some r → knows_of root (view_of old) ≤ r.capacity
  known_here r was =
      let low = (got.learned.root root.place refl).capacity root refl has (law_place here_now) (law_root r) stands.told
      (ap (option_map law_root) was) in
      let here = root_here measures setting got.history here_now at r was in
      let size : length r.piece.bytes ≡ r.region.place.len = here.0.in_place.size in let fits = here.0.fits in
      let many : length (take r.capacity r.piece.bytes) ≡ r.capacity =
      length-take-le r.capacity r.piece.bytes (omega (arith, size, fits)) in
      bound (knows_of root (view_of old)) (length (take r.capacity r.piece.bytes)) r.capacity low many
    where
      bound : (a b c : ℕ) → a ≤ b → b ≡ c → a ≤ c
      bound a b c low is = omega (arith, low, is)

  -- the region of the root is one of the pool
  fits_here : (r : RootState) → here_now.present ≡ Some r → Fits l.shape.lanes l.shape.order l.shape.page r
  fits_here r was =
      subst (λ (m : ℕ × ℕ × ℕ). Fits m.0 m.1 m.2 r) (λ i. (lanes_is i, order_is i, page_is i))
      (root_here measures setting got.history here_now at r was).1

  -- a later state of the root has no more than a chunk
  within_chunk : IsShape l.shape → (r s : RootState) → Became setting.grounds at.lanes at.order at.page r s
      → s.capacity ≤ chunk_bytes (geometry_of l.shape)
  within_chunk shape r s became =
      let fits : Fits l.shape.lanes l.shape.order l.shape.page s =
      subst (λ (m : ℕ × ℕ × ℕ). Fits m.0 m.1 m.2 s) (λ i. (lanes_is i, order_is i, page_is i)) became.region in
      chain s.capacity s.region.place.len (size_at s.region.class) (chunk_bytes (geometry_of l.shape)) became.fits
      fits.2
      (size_at-within_chunk (geometry_of l.shape) (geometry l.shape shape) s.region.class fits.1)
    where
      chain : (a b c d : ℕ) → a ≤ b → b ≡ c → c ≤ d → a ≤ d
      chain a b c d low is high = omega (arith, low, is, high)

  -- what the history gives goes with the note
  region_here : (r : RootState) → here_now.present ≡ Some r
      → option_map (λ (q : Present). q.region) (present_in (place_after root.place (noted_dids got.history)))
      ≡ Some r.region
  region_here r was =
      ap (λ (o : Option LawPlace). option_map (λ (q : Present). q.region) (present_in o)) stands.told
      ∙ ap (λ (o : Option RootState). option_map (λ (q : Present). q.region) (option_map law_root o)) was

  -- ---- An ask.

  room_right : (asked : ℕ) (room : Room) → IsRightAt (RootOf root.place) got.history (access root (room_did asked room))
  room_right asked (Enough capacity) = (sym counted, refl, refl)
  room_right asked Extended = (sym counted, refl, refl)
  room_right asked (Short capacity) = (sym counted, refl, refl)

  -- the note of it tells what the root has
  pub room_told : (asked : ℕ) (room : Room) (number turns : ℕ) (lane : Option ℕ)
      → knows_of root (with_entry (view_of old)
      (At (RootOf root.place) number (noted_by lane (access root (room_did asked room)))) turns)
      ≡ max (knows_of root (view_of old)) (room_capacity asked room)
  room_told asked room number turns lane =
      knows-more root (view_of old) (At (RootOf root.place) number (noted_by lane (access root (room_did asked room))))
      turns
      ∙ by room
    where
      told : (n : ℕ) → (if same_root root root then n else 0) ≡ n
      told n = ap (λ (b : Bool). if b then n else 0) (same_root-refl root)

      by : (room : Room) → max (knows_of root (view_of old))
          (told_by root (Some root) (Note.At (RootOf root.place) number (room_did asked room)))
          ≡ max (knows_of root (view_of old)) (room_capacity asked room)
      by (Enough capacity) = ap (max (knows_of root (view_of old))) (told capacity)
      by Extended = ap (max (knows_of root (view_of old))) (told asked)
      by (Short capacity) = ap (max (knows_of root (view_of old))) (told capacity)

  module _ (after : Section Home) (same_object : after.object ≡ section.object) (same_slot : after.slot ≡ section.slot)
      (place : IsPlace after.home) (asked : ℕ) where
    abbrev there_now : PlaceState
    there_now = (root_home after.home place).0.value

    -- the states of the place, of the home values
    turned : (Next : RootState → RootState → Type 0) → IfPlaces section.home after.home (λ s t. Turns s Next t)
        → Turns here_now Next there_now
    turned Next did =
        subst (λ (x : Home × Home). IfPlaces x.0 x.1 (λ s t. Turns s Next t))
        (λ i. (home_is i, (root_home after.home place).1 i)) did

    follows_by : (n : Noted) → IsRightAt (RootOf root.place) got.history n
        → IsPlaceAt measures setting (got.history ++ noted_by (view_of old).own.number n ∷ []) there_now
        → IsNext l (RootOf root.place) old new section got setting known after n
    follows_by n right more =
        let m : Noted = noted_by (view_of old).own.number n in
        let stood_then : HomeStands measures setting (got.history ++ m ∷ []) after.home =
        subst (HomeStands measures setting (got.history ++ m ∷ [])) (sym (root_home after.home place).1) more in
        record {
          same_object = same_object;
          same_slot = same_slot;
          follows =
              place_follows l.shape setting root.place got.history m after.home got.learned.accepted place stood_then
              right;
          stands = stood_then;
        }

    module _ (room : Room) (did : IfPlaces section.home after.home (λ s t. Turns s (Answers asked room) t)) where
      pub room_next : IsNext l (RootOf root.place) old new section got setting known after
          (access root (room_did asked room))
      room_next =
          let n : Noted = access root (room_did asked room) in
          follows_by n (room_right asked room)
          (room_more measures setting got.history here_now there_now at asked room
          (noted_by (view_of old).own.number n) refl (turned (Answers asked room) did))

      pub room_knows : IsShape l.shape → (number turns : ℕ) (lane : Option ℕ)
          → (knows_of root (with_entry (view_of old)
          (At (RootOf root.place) number (noted_by lane (access root (room_did asked room)))) turns)
          ≡ room_capacity asked room)
          × (room_capacity asked room ≤ chunk_bytes (geometry_of l.shape))
      room_knows shape number turns lane =
          let t = turned (Answers asked room) did in
          let state = room_state measures setting got.history here_now there_now at asked room t in (
            room_told asked room number turns lane
                ∙ same_known (knows_of root (view_of old)) (room_capacity asked room) t.root.capacity
                (room_capacity asked room) (known_here t.root t.was) (by t state) refl,
            subst (λ (k : ℕ). k ≤ chunk_bytes (geometry_of l.shape)) state.1
                (within_chunk shape t.root t.next state.0),
          )
        where
          by : (t : Turns here_now (Answers asked room) there_now)
              → (Became setting.grounds at.lanes at.order at.page t.root t.next)
              × (t.next.capacity ≡ room_capacity asked room) → t.root.capacity ≤ room_capacity asked room
          by t state = let more = state.0.more in let is = state.1 in omega (arith, more, is)

    -- ---- A growth.

    module _ (given : Region) (long : asked ≤ given.id.place.len)
        (here : IfSome (view_of old).setting (λ t. IsInPlace t.grounds given.id.place given.piece))
        (fits : IsPooled l.shape.lanes l.shape.order l.shape.page given.id) (g : Grown)
        (did : IfPlaces section.home after.home (λ s t. Turns s (λ r q. IsGrown asked r given g q) t)) where
      abbrev Grows : Grown → Type 0
      Grows g = Turns here_now (λ r q. IsGrown asked r given g q) there_now

      abbrev note : Grown → Noted
      note g = noted_by (view_of old).own.number (grown_note root asked given.id g)

      abbrev then_seen : ℕ → ℕ → SeatView
      then_seen number turns = with_entry (view_of old) (At (RootOf root.place) number (note g)) turns

      in_place : IsInPlace setting.grounds given.id.place given.piece
      in_place =
          subst (λ (y : Option Setting). IfSome y (λ t. IsInPlace t.grounds given.id.place given.piece)) known here

      grew : Grows g
      grew = turned (λ r q. IsGrown asked r given g q) did

      fits_then : IsPooled at.lanes at.order at.page given.id
      fits_then =
          subst (λ (m : ℕ × ℕ × ℕ). IsPooled m.0 m.1 m.2 given.id)
          (λ i. (sym lanes_is i, sym order_is i, sym page_is i)) fits

      grown_right : (g : Grown) → Grows g → IsRightAt (RootOf root.place) got.history (grown_note root asked given.id g)
      grown_right (grown.Enough capacity region) t = (sym counted, refl, refl)
      grown_right (grown.Extended region) t = (sym counted, refl, refl)
      grown_right (grown.Replaced region) t =
          (sym counted, ap Some t.turned.1 ∙ sym (region_here t.root t.was), refl)

      pub grown_next : IsNext l (RootOf root.place) old new section got setting known after
          (grown_note root asked given.id g)
      grown_next =
          follows_by (grown_note root asked given.id g) (grown_right g grew)
          (grown_more measures setting got.history here_now there_now at asked given long in_place fits_then g root
          (note g) refl grew)

      -- what is answered fits what was asked and given
      pub grown_fits : IsGrownFor asked given g
      grown_fits = by g grew
        where
          by : (g : Grown) → Grows g → IsGrownFor asked given g
          by (grown.Enough capacity region) t = (enough asked t.root capacity t.turned.0, t.turned.1)
          by (grown.Extended region) t = t.turned.1
          by (grown.Replaced region) t = tt

      -- the note of it tells what the root has
      grown_told : (number turns : ℕ) → knows_of root (then_seen number turns)
          ≡ max (knows_of root (view_of old)) (grown_capacity asked g)
      grown_told number turns =
          knows-more root (view_of old) (At (RootOf root.place) number (note g)) turns ∙ by g
        where
          told : (n : ℕ) → (if same_root root root then n else 0) ≡ n
          told n = ap (λ (b : Bool). if b then n else 0) (same_root-refl root)

          by : (g : Grown) → max (knows_of root (view_of old))
              (told_by root (note g).root (Note.At (RootOf root.place) number (note g).did))
              ≡ max (knows_of root (view_of old)) (grown_capacity asked g)
          by (grown.Enough capacity region) = ap (max (knows_of root (view_of old))) (told capacity)
          by (grown.Extended region) = ap (max (knows_of root (view_of old))) (told asked)
          by (grown.Replaced region) = ap (max (knows_of root (view_of old))) (told asked)

      pub grown_knows : IsShape l.shape → (number turns : ℕ)
          → (knows_of root (then_seen number turns) ≡ grown_capacity asked g)
          × (grown_capacity asked g ≤ chunk_bytes (geometry_of l.shape))
      grown_knows shape number turns =
          let state = grown_state measures setting got.history here_now there_now at asked given long in_place
          fits_then g grew in (
            grown_told number turns
                ∙ same_known (knows_of root (view_of old)) (grown_capacity asked g) grew.root.capacity
                (grown_capacity asked g) (known_here grew.root grew.was) (by state) refl,
            subst (λ (k : ℕ). k ≤ chunk_bytes (geometry_of l.shape)) state.1
                (within_chunk shape grew.root grew.next state.0),
          )
        where
          by : (Became setting.grounds at.lanes at.order at.page grew.root grew.next)
              × (grew.next.capacity ≡ grown_capacity asked g) → grew.root.capacity ≤ grown_capacity asked g
          by state = let more = state.0.more in let is = state.1 in omega (arith, more, is)

      abbrev IsOurs : RegionId → Segment → Type 0
      IsOurs id piece =
          IsInPlace setting.grounds id.place piece × IsPooled l.shape.lanes l.shape.order l.shape.page id

      -- the region that comes out is one of the pool, with its memory
      pub grown_back : IsOurs (back_of g).id (back_of g).piece
      grown_back = by g grew
        where
          by : (g : Grown) → Grows g → IsOurs (back_of g).id (back_of g).piece
          by (grown.Enough capacity region) t =
              subst (λ (x : Region). IsOurs x.id x.piece) (sym t.turned.1) (in_place, fits)
          by (grown.Extended region) t =
              subst (λ (x : Region). IsOurs x.id x.piece) (sym t.turned.1) (in_place, fits)
          by (grown.Replaced region) t =
              subst (λ (x : RegionId × Segment). IsOurs x.0 x.1) (λ i. (sym t.turned.1 i, sym t.turned.2 i)) (
                (root_here measures setting got.history here_now at t.root t.was).0.in_place,
                fits_here t.root t.was,
              )

      -- and in the seat's hands
      pub grown_hand : HasRegion given.id (view_of old) → (number turns : ℕ)
          → HasRegion (back_of g).id (then_seen number turns)
      grown_hand hand number turns = by g grew grown_next.follows
        where
          by : (g : Grown) → Grows g → IsLawful l.shape (RootOf root.place) (got.history ++ note g ∷ [])
              → HasRegion (back_of g).id (with_entry (view_of old) (At (RootOf root.place) number (note g)) turns)
          by (grown.Enough capacity region) t follows =
              subst (λ (x : Region). HasRegion x.id (with_entry (view_of old)
              (At (RootOf root.place) number (note (grown.Enough capacity region))) turns)) (sym t.turned.1)
              (after_other (view_of old) (RootOf root.place) number (note (grown.Enough capacity region)) turns given.id
              (record { none_up = refl; unused_up = refl; none = refl; unused = refl }) hand)
          by (grown.Extended region) t follows =
              subst (λ (x : Region). HasRegion x.id (with_entry (view_of old)
              (At (RootOf root.place) number (note (grown.Extended region))) turns)) (sym t.turned.1)
              (after_other (view_of old) (RootOf root.place) number (note (grown.Extended region)) turns given.id
              (record { none_up = refl; unused_up = refl; none = refl; unused = refl }) hand)
          by (grown.Replaced region) t follows =
              after_growing (view_of old) (RootOf root.place) number (note (grown.Replaced region)) turns asked
              region.id given.id refl refl hand
              (got.learned.free region.id (note (grown.Replaced region)) follows
              (subst (λ (b : Bool). 0 < 0 + (0 + cond {A = ℕ} b 1 0)) (sym (same_taking-refl region.id)) (omega arith)))
