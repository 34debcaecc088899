-- Births and ends at a root place: what the place stands for then, and what the seat has in its hands.
use Rattle.std.proofs.Common.{◌≡◌, ℕ, ◌+◌, ◌/◌, ◌<◌, ◌≤◌, true, cond, List, [], ◌∷◌, ◌++◌, length, drop, refl, sym, ap, ◌∙◌, subst, arith, eq-eqb, length-append}
use Rattle.std.specs.Prelude.{Option, Some, None, option_map, option_and_then, replicate, nat_le, ◌==◌, ◌&&◌, if◌then◌else◌}
use Rattle.std.proofs.lemmas.List.{length-drop, length-replicate, take_at}
use Rattle.std.proofs.lemmas.Bool.{le-leb}
use Rattle.step_law.specs.Settings.{Setting}
use Rattle.ground.specs.Grounds.{Grounds}
use Rattle.size_classes.specs.Sizes.{class_count}
use Rattle.pool_law.specs.declared.run.Shape.{Shape}
use Rattle.pool_law.specs.declared.id.RootId.{RootId}
use Rattle.pool_law.specs.declared.id.Region.{Region}
use Rattle.pool_law.specs.declared.id.RegionId.{RegionId}
use Rattle.pool_law.specs.declared.note.Did.{Did}
use Rattle.pool_law.specs.declared.note.Noted.{Noted}
use Rattle.pool_law.specs.declared.note.RefDid.TheVariants.{Vacated}
use Rattle.pool_law.specs.declared.note.Object.{Object}
use Rattle.pool_law.specs.declared.note.Object.TheVariants.{Root as RootOf}
use Rattle.pool_law.specs.declared.report.Watch.{Watch}
use Rattle.pool_law.specs.Limits.{geometry_of}
use Rattle.pool_law.specs.Roots.{RootPlace, Present, new_place, place_step, place_step_by, born}
use Rattle.pool_law.specs.Histories.{place_after}
use Rattle.pool_law.specs.Logs.{present_in}
use Rattle.pool_law.specs.Naming.{noted_by}
use Rattle.pool_law.specs.NotedHistories.{noted_dids}
use Rattle.pool_law.specs.Places.{IsInPlace}
use Rattle.pool_law.proofs.HistoryLemmas.{after-noted}
use Rattle.pool_law.proofs.PatternLemmas.{same_root-refl, same_taking-refl}
use Rattle.history_laws.specs.Histories.{root_after}
use Rattle.history_laws.specs.Measures.{measures_of}
use Rattle.history_laws.specs.NoteCounts.{is_taking, uses_in}
use Rattle.leak_records.specs.Records.{HasRecords, new_tracker}
use Rattle.leak_records.proofs.RecordLaws.{records_new}
use Rattle.handle_bin.specs.Bins.{HandleValue}
use Rattle.pool_table.specs.declared.views.Entry.{Entry}
use Rattle.pool_table.specs.declared.views.Entry.TheVariants.{At, Ref}
use Rattle.pool_table.specs.declared.views.SeatView.{SeatView}
use Rattle.pool_table.specs.Views.{with_entry}
use Rattle.pool_table.specs.Counts.{weigh, on_root, on_place, on_this, ref_born, ref_ended, ref_vacated, with_ref, HasToken}
use Rattle.pool_table.specs.Hands.{at_in, at_out, at_birth, at_birth_of, at_birth_as, ends, from_arena, to_arena, from_cache, to_cache, from_place, to_place, InHand, NoneWaits, Waits, HasEnded, HasRegion, IsPutDown, IsOrderly}
use Rattle.pool_table.proofs.Weights.{weigh_entry}
use Rattle.shared_pool.specs.RootNotes.{birth, end_of}
use Rattle.shared_pool.specs.RootPlaces.{RootState, PlaceState, last_generation, law_root, law_place, PlaceStandsFor}
use Rattle.shared_pool.specs.PlaceSteps.{MayBear, used, cleared, born_root, with_born}
use Rattle.shared_pool.specs.declared.home.Home.{Home}
use Rattle.shared_pool.specs.declared.home.Home.TheVariants.{Arena, Cache, Bin, Root}
use Rattle.shared_pool.specs.Standing.{HomeStands, HasClassLength, IsPlaceAt, IsPlace, IfPlace}
use Rattle.shared_pool.proofs.PlaceRecords.{unborn, watch_born}
use Rattle.shared_pool.proofs.PlaceHomes.{place_at}

-- ---- Births.

-- a vacant place of few roots may bear one
pub may_bear : (p : ℕ) (h : List Noted) (s : PlaceState) → place_after p (noted_dids h) ≡ Some (law_place s)
    → root_after p h ≡ None → s.generation < last_generation → MayBear s
may_bear p h s told is few =
    record {
      vacant = go s.present refl
          (sym (ap (λ (o : Option RootPlace). option_map (λ (x : Present). x.root) (present_in o)) told) ∙ is);
      few =
          few;
    }
  where
    go : (o : Option RootState) → s.present ≡ o → option_map (λ (x : Present). x.root) (option_map law_root o) ≡ None
        → s.present ≡ None
    go None here e = here
    go (Some r) here e = absurd (cc e)

cleared_size : (n : ℕ) (xs : List ℕ) → n ≤ length xs → length (cleared n xs) ≡ length xs
cleared_size n xs le =
    let a = length-append (replicate n 0) (drop n xs) in let b = length-replicate {A = ℕ} n 0 in let c =
    length-drop n xs in
    omega (arith, a, b, c, le)

-- the law's step of a birth
pub bears : (p : ℕ) (old : PlaceState) (root : RootId) (region : Region) (handle : HandleValue) (watch : Option Watch)
    → old.present ≡ None → root.place ≡ p → root.generation ≡ old.generation + 1 → root.capacity ≤ region.id.place.len →
    place_step p (law_place old) (Did.Birth root (used region.id))
    ≡ Some (law_place (with_born (born_root root region handle watch)))
bears p old root region handle watch vacant place next fits =
    let one : (root.place == p) ≡ true = eq-eqb root.place p place in
    let two : (root.generation == old.generation + 1) ≡ true = eq-eqb root.generation (old.generation + 1) next in
    let three : nat_le root.capacity region.id.place.len ≡ true = le-leb root.capacity region.id.place.len fits in
    ap (λ (o : Option RootState). place_step_by p (law_place old) (option_map law_root o)
    (Did.Birth root (used region.id))) vacant
    ∙ (λ i. if one i && (two i && three i) then Some (born root (used region.id)) else None)
    ∙ (λ i. Some (record {
      generation = root.generation;
      present =
          Some (record {
            root = root;
            region = used region.id;
            bytes =
                sym (take_at (replicate root.capacity 0) (drop root.capacity region.piece.bytes) root.capacity
                (length-replicate {A = ℕ} root.capacity 0)) i;
          });
    }))

-- after a birth the place stands for one note more
pub birth_stands : (grounds : Grounds) (p handles : ℕ) (h : List Noted) (n : Noted) (old : PlaceState) (root : RootId)
    (region : Region) (handle : HandleValue) (watch : Option Watch) → PlaceStandsFor grounds p handles h old
    → old.present ≡ None → root.place ≡ p → root.generation ≡ old.generation + 1
    → root.capacity ≤ region.id.place.len →
    IsInPlace grounds region.id.place region.piece → handle.place ≡ p → handle.lane ≡ p / handles
    → n.did ≡ Did.Birth root (used region.id) → n.watch ≡ watch
    → PlaceStandsFor grounds p handles (h ++ n ∷ []) (with_born (born_root root region handle watch))
birth_stands grounds p handles h n old root region handle watch at vacant place next fits in_place handle_place
    handle_lane is watch_is =
    let step = bears p old root region handle watch vacant place next fits in
    let size : length region.piece.bytes ≡ region.id.place.len = in_place.size in
    record {
      told =
          after-noted (place_step p) new_place h n ∙ ap (option_and_then (λ t. place_step p t n.did)) at.told
          ∙ ap (place_step p (law_place old)) is ∙ step;
      root = record {
        in_place =
            record {
              on_ground = in_place.on_ground;
              start = in_place.start;
              size =
                  cleared_size root.capacity region.piece.bytes (omega (arith, size, fits)) ∙ size;
            };
        fits = fits;
        place_is = handle_place;
        lane_is = handle_lane;
        watch = sym watch_is ∙ sym (watch_born None h n root (used region.id) is);
        records =
            subst (λ (all : List _). HasRecords all (new_tracker watch))
            (sym (unborn p root (used region.id) h (law_place old) n at.told (omega (arith, next)) is))
            (records_new watch);
      };
    }

-- the same, of the home value
pub home_born : (s : Shape) (setting : Setting) (p : ℕ) (h : List Noted) (n : Noted) (old new : Home) (root : RootId)
    (region : Region) (handle : HandleValue) (watch : Option Watch)
    → HomeStands (measures_of s (RootOf p)) setting h old → IsPlace old → IsPlace new → IfPlace old MayBear
    → root.place ≡ p → IfPlace old (λ y. root.generation ≡ y.generation + 1) → root.capacity ≤ region.id.place.len →
    IsInPlace setting.grounds region.id.place region.piece → region.id.owner < s.lanes
    → region.id.class < class_count (geometry_of s) → HasClassLength region.id → handle.place ≡ p
    → handle.lane ≡ p / s.handles → n.did ≡ Did.Birth root (used region.id) → n.watch ≡ watch →
    IfPlace new (λ t. t ≡ with_born (born_root root region handle watch))
    → HomeStands (measures_of s (RootOf p)) setting (h ++ n ∷ []) new
home_born s setting p h n (Root y) (Root t) root region handle watch at po pn may place next fits in_place owner class
    len handle_place handle_lane is watch_is made =
    let after_r : RootState = born_root root region handle watch in
    subst (λ (z : PlaceState). IsPlaceAt (measures_of s (RootOf p)) setting (h ++ n ∷ []) z) (sym made)
    (record {
      place = p;
      handles = s.handles;
      lanes = s.lanes;
      order = s.order;
      page = s.page;
      measured = refl;
      stands =
          birth_stands setting.grounds p s.handles h n y.value root region handle watch
          (place_at s setting p h (Root y) at) may.vacant place next fits in_place handle_place handle_lane is
          watch_is;
      region = (owner, class, len);
    })
home_born s setting p h n (Root y) (Arena t) root region handle watch at po pn may place next fits in_place owner class
    len handle_place handle_lane is watch_is made = absurd pn
home_born s setting p h n (Root y) (Cache t) root region handle watch at po pn may place next fits in_place owner class
    len handle_place handle_lane is watch_is made = absurd pn
home_born s setting p h n (Root y) (Bin t) root region handle watch at po pn may place next fits in_place owner class
    len handle_place handle_lane is watch_is made = absurd pn
home_born s setting p h n (Arena y) new root region handle watch at po pn may place next fits in_place owner class len
    handle_place handle_lane is watch_is made = absurd po
home_born s setting p h n (Cache y) new root region handle watch at po pn may place next fits in_place owner class len
    handle_place handle_lane is watch_is made = absurd po
home_born s setting p h n (Bin y) new root region handle watch at po pn may place next fits in_place owner class len
    handle_place handle_lane is watch_is made = absurd po

one : (n : ℕ) → (n == n) ≡ true
one n = eq-eqb n n refl

-- a view that noted a birth has the place in hand, and that birth waits
pub birth_waits : (v : SeatView) (o : Object) (k t : ℕ) (lane : Option ℕ) (root : RootId) (region : RegionId)
    (watch : Option Watch) → InHand root.place v → IsOrderly v →
    let w = with_entry v (At o k (noted_by lane (birth root region watch))) t in InHand root.place w × Waits root w
birth_waits v o k t lane root region watch hand fine =
    let p : ℕ = root.place in let g : ℕ = root.generation in let c : ℕ = root.capacity in
    let e : Entry = At o k (noted_by lane (birth root region watch)) in
    let a1 = weigh_entry (at_out p) v e t in let a2 = weigh_entry (on_place ref_born p) v e t in let a3 =
    weigh_entry (at_in p) v e t in let a4 = weigh_entry (on_place ref_vacated p) v e t in
    let b : at_birth p e ≡ 1 = (λ i. cond {A = ℕ} (one p i) 1 0) in let b1 = weigh_entry (at_birth p) v e t in let b2 =
    fine.borne p in
    let d : at_birth_of p g e ≡ 1 = (λ i. cond {A = ℕ} (one p i && one g i) 1 0) in let d1 =
    weigh_entry (at_birth_of p g) v e t in let d2 =
    fine.borne_of p g in let d3 = weigh_entry (on_root ref_born p g) v e t in
    let f : at_birth_as p g c e ≡ 1 = (λ i. cond {A = ℕ} ((one p i && one g i) && one c i) 1 0) in let f1 =
    weigh_entry (at_birth_as p g c) v e t in (
      omega (arith, hand, a1, a2, a3, a4),
      record {
        place = omega (arith, b, b1, b2, a2);
        generation = omega (arith, d, d1, d2, d3);
        capacity =
            omega (arith, f, f1);
      },
    )

-- ---- Ends.

-- a view that noted an end may vacate the place
pub end_waits : (v : SeatView) (k t : ℕ) (lane : Option ℕ) (root : RootId) (region : RegionId) → HasToken root v
    → weigh (on_this ref_vacated root) v ≤ weigh (ends root) v →
    let w = with_entry v (At (RootOf root.place) k (noted_by lane (end_of root region))) t in
    HasToken root w × HasEnded root w
end_waits v k t lane root region token over =
    let e : Entry = At (RootOf root.place) k (noted_by lane (end_of root region)) in
    let a = weigh_entry (on_this ref_ended root) v e t in let b = weigh_entry (on_this ref_vacated root) v e t in
    let c = weigh_entry (ends root) v e t in
    let d : ends root e ≡ 1 = (λ i. cond {A = ℕ} (same_root-refl root i) 1 0) in
    (omega (arith, token, a, b), omega (arith, over, b, c, d))

-- after both steps no birth waits at the place, and the region that was there is in hand
pub end_leaves : (v : SeatView) (k t m : ℕ) (lane : Option ℕ) (root : RootId) (region : RegionId)
    → NoneWaits root.place v → IsPutDown region v →
    let w = with_ref (with_entry v (At (RootOf root.place) k (noted_by lane (end_of root region))) t) root Vacated m in
    NoneWaits root.place w × HasRegion region w
end_leaves v k t m lane root region none down =
    let p : ℕ = root.place in
    let e : Entry = At (RootOf p) k (noted_by lane (end_of root region)) in let u : SeatView = with_entry v e t in
    let r : Entry = Ref root Vacated in
    let w : SeatView = with_ref u root Vacated m in
    let both : (f : Entry → ℕ) → weigh f w ≡ weigh f v + f e + f r =
    (λ f. let a = weigh_entry f v e t in let b : weigh f w
    ≡ weigh f u + f r = weigh_entry f u r t in omega (arith, a, b)) in
    let n1 = both (at_birth p) in let n2 = both (on_place ref_born p) in
    let i1 : from_place (is_taking region) e ≡ 1 = (λ i. cond {A = ℕ} (same_taking-refl region i) 1 0) in
    let i2 : from_place (uses_in region) e ≡ region.uses =
    (λ i. cond {A = ℕ} (same_taking-refl region i) region.uses 0) in
    let t1 = both (from_arena (is_taking region)) in let t2 = both (from_cache (is_taking region)) in let t3 =
    both (from_place (is_taking region)) in
    let t4 = both (to_arena (is_taking region)) in let t5 = both (to_cache (is_taking region)) in let t6 =
    both (to_place (is_taking region)) in
    let u1 = both (from_arena (uses_in region)) in let u2 = both (from_cache (uses_in region)) in let u3 =
    both (from_place (uses_in region)) in
    let u4 = both (to_arena (uses_in region)) in let u5 = both (to_cache (uses_in region)) in let u6 =
    both (to_place (uses_in region)) in
    let d1 = down.taking in let d2 = down.uses in (
      omega (arith, n1, n2, none),
      record {
        taking = omega (arith, t1, t2, t3, t4, t5, t6, i1, d1);
        uses =
            omega (arith, u1, u2, u3, u4, u5, u6, t6, i2, d2);
      },
    )
