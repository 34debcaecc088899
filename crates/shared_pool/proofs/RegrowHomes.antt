-- What the home value of a root place stands for after an ask for capacity, and after a growth.
use Rattle.std.proofs.Common.{◌≡◌, ℕ, ◌<◌, ◌≤◌, Bool, true, false, List, [], ◌∷◌, ◌++◌, length, refl, sym, ap, ◌∙◌, subst, arith}
use Rattle.std.specs.Prelude.{Option, Some, None, IfSome, option_and_then, nat_le, if◌then◌else◌}
use Rattle.std.proofs.lemmas.Bool.{leb-true, leb-false}
use Rattle.step_law.specs.Settings.{Setting}
use Rattle.ground.specs.Grounds.{Grounds}
use Rattle.size_classes.specs.Sizes.{of_pages, class_count}
use Rattle.pool_law.specs.declared.id.Region.{Region}
use Rattle.pool_law.specs.declared.id.RegionId.{RegionId}
use Rattle.pool_law.specs.declared.id.RootId.{RootId}
use Rattle.pool_law.specs.declared.note.Noted.{Noted}
use Rattle.pool_law.specs.declared.report.Access.{Access}
use Rattle.pool_law.specs.Leaks.{accesses}
use Rattle.pool_law.specs.Places.{IsInPlace}
use Rattle.pool_law.specs.Roots.{new_place, place_step}
use Rattle.pool_law.proofs.HistoryLemmas.{after-noted}
use Rattle.history_laws.specs.Histories.{root_after}
use Rattle.handle_bin.specs.Bins.{HandleValue}
use Rattle.leak_records.specs.Records.{Tracked, HasRecords}
use Rattle.shared_pool.specs.RootPlaces.{RootState, PlaceState, law_place, lane_dids, IsRootAt, PlaceStandsFor}
use Rattle.shared_pool.specs.Standing.{HasClassLength, IsPlaceAt}
use Rattle.shared_pool.specs.Regrowing.{room_did, grown_note, grown_capacity, room_capacity, room_in, after_room, moved, MayRegrow, Turns, Answers, IsGrown}
use Rattle.shared_pool.specs.declared.went.Room.{Room}
use Rattle.shared_pool.specs.declared.went.Room.TheVariants.{Enough, Extended, Short}
use Rattle.shared_pool.specs.declared.went.Grown.{Grown}
use Rattle.shared_pool.specs.declared.went.Grown.TheVariants as grown
use Rattle.shared_pool.proofs.PlaceHomes.{Fits, present_root}
use Rattle.shared_pool.proofs.PlaceRecords.{is_regrow, accesses_same, watch_quiet}
use Rattle.shared_pool.proofs.RegrowLaws.{asks, grows, outgrown, zeroed-length, carried-length}

-- a region of the pool, as long as its class says
abbrev pub IsPooled : ℕ → ℕ → ℕ → RegionId → Type 0
IsPooled lanes order page x =
    (x.owner < lanes) × (x.class < class_count (of_pages order page)) × HasClassLength x

-- a root that is present has its region's memory
pub may_regrow : (grounds : Grounds) (p handles : ℕ) (h : List Noted) (s : PlaceState) (root : RootId)
    → PlaceStandsFor grounds p handles h s → root_after p h ≡ Some root → MayRegrow s
may_regrow grounds p handles h s root at is =
    let there = present_root p h s root at.told is in let r : RootState = there.0 in
    let here : IsRootAt grounds p handles h r = subst
    (λ (o : Option RootState). IfSome o (IsRootAt grounds p handles h)) there.1 at.root in
    let size = here.in_place.size in let fits = here.fits in
    record { root = r; present = there.1; fits = omega (arith, size, fits); size = size }

-- a later state of a root, which has at least its capacity, within a region of the pool
pub record Became (grounds : Grounds) (lanes order page : ℕ) (r s : RootState) : Type 0 where
  pub root : s.root ≡ r.root
  pub handle : s.handle ≡ r.handle
  pub more : r.capacity ≤ s.capacity
  pub fits : s.capacity ≤ s.region.place.len
  pub in_place : IsInPlace grounds s.region.place s.piece
  pub region : Fits lanes order page s

-- the place stands for one note more, where its root is another state of itself
regrown_stands : (grounds : Grounds) (lanes order page p handles : ℕ) (h : List Noted) (n : Noted)
    (old new : PlaceState) (r s : RootState) → PlaceStandsFor grounds p handles h old → old.present ≡ Some r
    → new ≡ record old { present = Some s } → is_regrow n.did ≡ true → Became grounds lanes order page r s
    → ((place : ℕ) → place_step place (law_place old) n.did ≡ Some (law_place (record old { present = Some s })))
    → PlaceStandsFor grounds p handles (h ++ n ∷ []) new
regrown_stands grounds lanes order page p handles h n old new r s at was is quiet became step =
    let here : IsRootAt grounds p handles h r = subst
    (λ (o : Option RootState). IfSome o (IsRootAt grounds p handles h)) was at.root in
    let handle : s.handle ≡ r.handle = became.handle in let root : s.root ≡ r.root = became.root in
    let there : IsRootAt grounds p handles (h ++ n ∷ []) s = record {
      in_place = became.in_place;
      fits = became.fits;
      place_is = ap (λ (x : HandleValue). x.place) handle ∙ here.place_is;
      lane_is = ap (λ (x : HandleValue). x.lane) handle ∙ here.lane_is;
      watch =
          ap (λ (x : HandleValue). x.tracker.watch) handle ∙ here.watch ∙ sym (watch_quiet None h n quiet);
      records =
          subst (λ (y : Tracked × List Access). HasRecords y.1 y.0)
          (λ i. (
            sym (ap (λ (x : HandleValue). x.tracker) handle) i,
            (sym (accesses_same r.root h n quiet)
                ∙ ap (λ (q : RootId). accesses q false (lane_dids (h ++ n ∷ []))) (sym root)) i,
          ))
          here.records;
    } in
    subst (PlaceStandsFor grounds p handles (h ++ n ∷ [])) (sym is)
    (record {
      told =
          after-noted (place_step p) new_place h n ∙ ap (option_and_then (λ t. place_step p t n.did)) at.told
          ∙ step p;
      root = there;
    })

-- what the measures of a place and its history tell of the root that is there
pub root_here : (measures : List ℕ) (setting : Setting) (h : List Noted) (y : PlaceState)
    (at : IsPlaceAt measures setting h y) (r : RootState) → y.present ≡ Some r
    → IsRootAt setting.grounds at.place at.handles h r × Fits at.lanes at.order at.page r
root_here measures setting h y at r was = (
  subst (λ (o : Option RootState). IfSome o (IsRootAt setting.grounds at.place at.handles h)) was at.stands.root,
  subst (λ (o : Option RootState). IfSome o (Fits at.lanes at.order at.page)) was at.region,
)

-- the same, of the home value
turned_more : (measures : List ℕ) (setting : Setting) (h : List Noted) (n : Noted) (old new : PlaceState)
    (r s : RootState) (at : IsPlaceAt measures setting h old) → old.present ≡ Some r
    → new ≡ record old { present = Some s } → is_regrow n.did ≡ true
    → Became setting.grounds at.lanes at.order at.page r s
    → ((place : ℕ) → place_step place (law_place old) n.did ≡ Some (law_place (record old { present = Some s })))
    → IsPlaceAt measures setting (h ++ n ∷ []) new
turned_more measures setting h n old new r s at was is quiet became step =
    record {
      place = at.place;
      handles = at.handles;
      lanes = at.lanes;
      order = at.order;
      page = at.page;
      measured = at.measured;
      stands =
          regrown_stands setting.grounds at.lanes at.order at.page at.place at.handles h n old new r s at.stands was
          is quiet became step;
      region =
          subst (λ (y : PlaceState). IfSome y.present (Fits at.lanes at.order at.page)) (sym is) became.region;
    }

-- ---- An ask.

module _ (grounds : Grounds) (p handles lanes order page : ℕ) (h : List Noted) (r : RootState)
    (here : IsRootAt grounds p handles h r) (fits : Fits lanes order page r) where
  -- the root as it was
  stays : Became grounds lanes order page r r
  stays =
      record {
        root = refl;
        handle = refl;
        more = omega arith;
        fits = here.fits;
        in_place = here.in_place;
        region = fits;
      }

  room_became : (asked : ℕ) → Became grounds lanes order page r (after_room asked r (room_in asked r))
  room_became asked = by (nat_le asked r.capacity) (nat_le asked r.region.place.len) refl refl
    where
      by : (a b : Bool) → nat_le asked r.capacity ≡ a → nat_le asked r.region.place.len ≡ b
          → Became grounds lanes order page r
          (after_room asked r (if a then Enough r.capacity else (if b then Extended else Short r.capacity)))
      by true b low long = stays
      by false false low long = stays
      by false true low long =
          let within = leb-true asked r.region.place.len long in let above = leb-false asked r.capacity low in
          let size : length r.piece.bytes ≡ r.region.place.len = here.in_place.size in
          record {
            root = refl;
            handle = refl;
            more = omega (arith, above);
            fits = within;
            in_place =
                record {
                  on_ground = here.in_place.on_ground;
                  start = here.in_place.start;
                  size =
                      zeroed-length r.piece.bytes r.capacity asked (omega (arith, above))
                      (omega (arith, within, size)) ∙ size;
                };
            region = fits;
          }

  -- it has then what it answered
  pub room_has : (asked : ℕ) → (after_room asked r (room_in asked r)).capacity ≡ room_capacity asked (room_in asked r)
  room_has asked = by (nat_le asked r.capacity) (nat_le asked r.region.place.len)
    where
      by : (a b : Bool)
          → (after_room asked r (if a then Enough r.capacity else (if b then Extended else Short r.capacity))).capacity
          ≡ room_capacity asked (if a then Enough r.capacity else (if b then Extended else Short r.capacity))
      by true b = refl
      by false false = refl
      by false true = refl

  -- the root in another region
  moved_became : (asked : ℕ) (into : Region) → room_in asked r ≡ Short r.capacity → asked ≤ into.id.place.len
      → IsInPlace grounds into.id.place into.piece → Fits lanes order page (moved asked r into)
      → Became grounds lanes order page r (moved asked r into)
  moved_became asked into short long in_place fits =
      let past = outgrown asked r short in let size : length r.piece.bytes ≡ r.region.place.len = here.in_place.size in
      let low = here.fits in let whole : length into.piece.bytes ≡ into.id.place.len = in_place.size in
      record {
        root = refl;
        handle = refl;
        more = omega (arith, past, low);
        fits = long;
        in_place =
            record {
              on_ground = in_place.on_ground;
              start = in_place.start;
              size =
                  carried-length asked r into.piece.bytes (omega (arith, size, low)) (omega (arith, past, low))
                  (omega (arith, long, whole)) ∙ whole;
            };
        region = fits;
      }

-- ---- What is noted.

is_quiet : (asked : ℕ) (room : Room) → is_regrow (room_did asked room) ≡ true
is_quiet asked (Enough capacity) = refl
is_quiet asked Extended = refl
is_quiet asked (Short capacity) = refl

module _ (measures : List ℕ) (setting : Setting) (h : List Noted) (old new : PlaceState)
    (at : IsPlaceAt measures setting h old) (asked : ℕ) where
  abbrev Later : RootState → RootState → Type 0
  Later r s = Became setting.grounds at.lanes at.order at.page r s

  -- what the root is after an ask
  pub room_state : (room : Room) (t : Turns old (Answers asked room) new)
      → Later t.root t.next × (t.next.capacity ≡ room_capacity asked room)
  room_state room t =
      let r : RootState = t.root in let known = root_here measures setting h old at r t.was in
      let is : room ≡ room_in asked r = t.turned.0 in
      let next : t.next ≡ after_room asked r (room_in asked r) = t.turned.1 ∙ ap (after_room asked r) is in (
        subst (Later r) (sym next)
            (room_became setting.grounds at.place at.handles at.lanes at.order at.page h r known.0 known.1 asked),
        ap (λ (s : RootState). s.capacity) next
            ∙ room_has setting.grounds at.place at.handles at.lanes at.order at.page h r known.0 known.1 asked
            ∙ ap (room_capacity asked) (sym is),
      )

  pub room_more : (room : Room) (n : Noted) → n.did ≡ room_did asked room → Turns old (Answers asked room) new
      → IsPlaceAt measures setting (h ++ n ∷ []) new
  room_more room n did t =
      let r : RootState = t.root in let known = root_here measures setting h old at r t.was in
      let size : length r.piece.bytes ≡ r.region.place.len = known.0.in_place.size in let low = known.0.fits in
      let is : room ≡ room_in asked r = t.turned.0 in
      let next : t.next ≡ after_room asked r (room_in asked r) = t.turned.1 ∙ ap (after_room asked r) is in
      turned_more measures setting h n old new r t.next at t.was t.is (ap is_regrow did ∙ is_quiet asked room)
      (room_state room t).0
      (λ place. ap (place_step place (law_place old)) (did ∙ ap (room_did asked) is)
      ∙ asks old r t.was (omega (arith, size, low)) size asked place
      ∙ (λ i. Some (law_place (record old { present = Some (sym next i) }))))

  module _ (given : Region) (long : asked ≤ given.id.place.len)
      (in_place : IsInPlace setting.grounds given.id.place given.piece)
      (fits : IsPooled at.lanes at.order at.page given.id) where
    abbrev Grows : Grown → Type 0
    Grows g = Turns old (λ r s. IsGrown asked r given g s) new

    moves : (region : Region) (t : Grows (grown.Replaced region)) → Later t.root t.next
    moves region t =
        let r : RootState = t.root in let known = root_here measures setting h old at r t.was in
        subst (Later r) (sym t.turned.3)
        (moved_became setting.grounds at.place at.handles at.lanes at.order at.page h r known.0 known.1 asked given
        t.turned.0 long in_place fits)

    -- what the root is after a growth
    pub grown_state : (g : Grown) (t : Grows g) → Later t.root t.next × (t.next.capacity ≡ grown_capacity asked g)
    grown_state (grown.Enough capacity region) t =
        room_state (Enough capacity) (record {
          root = t.root;
          next = t.next;
          was = t.was;
          turned = (sym t.turned.0, t.turned.2);
          is = t.is;
        })
    grown_state (grown.Extended region) t =
        room_state Extended (record {
          root = t.root;
          next = t.next;
          was = t.was;
          turned = (sym t.turned.0, t.turned.2);
          is = t.is;
        })
    grown_state (grown.Replaced region) t =
        (moves region t, ap (λ (s : RootState). s.capacity) t.turned.3)

    pub grown_more : (g : Grown) (root : RootId) (n : Noted) → n.did ≡ (grown_note root asked given.id g).did → Grows g
        → IsPlaceAt measures setting (h ++ n ∷ []) new
    grown_more (grown.Enough capacity region) root n did t =
        room_more (Enough capacity) n did (record {
          root = t.root;
          next = t.next;
          was = t.was;
          turned = (sym t.turned.0, t.turned.2);
          is = t.is;
        })
    grown_more (grown.Extended region) root n did t =
        room_more Extended n did (record {
          root = t.root;
          next = t.next;
          was = t.was;
          turned = (sym t.turned.0, t.turned.2);
          is = t.is;
        })
    grown_more (grown.Replaced region) root n did t =
        let r : RootState = t.root in let known = root_here measures setting h old at r t.was in
        let size : length r.piece.bytes ≡ r.region.place.len = known.0.in_place.size in let low = known.0.fits in
        turned_more measures setting h n old new r t.next at t.was t.is (ap is_regrow did) (moves region t)
        (λ place. ap (place_step place (law_place old)) did
        ∙ grows old r t.was (omega (arith, size, low)) size asked given t.turned.0 long in_place.size place
        ∙ (λ i. Some (law_place (record old { present = Some (sym t.turned.3 i) }))))
