-- The live roots that are told of a table's places.
use Rattle.std.proofs.Common.{◌≡◌, ◌≢◌, ℕ, zero, suc, ◌+◌, ◌-◌, ◌*◌, ◌<◌, ◌≤◌, List, [], ◌∷◌, length, true, false, sym, refl, ap, ◌∙◌, subst, arith, ⊎_elim, ne_eqb, Some, None}
use Rattle.std.specs.Prelude.{◌==◌, not, if◌then◌else◌, Option, IfSome, option_map, unwrap_or, slice_get, slice_index}
use Rattle.std.proofs.lemmas.List.{length-take-le}
use Rattle.std.proofs.lemmas.List.Elements.{All-cons, All-nil}
use Rattle.std.proofs.lemmas.Option.{slice_get-map}
use Rattle.step_law.specs.Settings.{Setting}
use Rattle.size_classes.specs.Sizes.{below}
use Rattle.pool_law.specs.declared.id.RootId.{RootId}
use Rattle.pool_law.specs.declared.note.Noted.{Noted}
use Rattle.pool_law.specs.declared.note.Object.TheVariants.{Root as RootOf}
use Rattle.pool_law.specs.declared.report.Watch.{Watch}
use Rattle.pool_law.specs.Arenas.{listed}
use Rattle.pool_law.specs.Counts.{total_of}
use Rattle.pool_law.specs.Histories.{place_after}
use Rattle.pool_law.specs.Homes.{home_of, objects_of, IsObjectOf}
use Rattle.pool_law.specs.Leaks.{accesses, accesses_to, kept_of, dropped_of, capacity_in, capacity_at_end, is_live}
use Rattle.pool_law.specs.Logs.{dids, history_of, present_in, entries_of}
use Rattle.pool_law.specs.NotedHistories.{noted_dids}
use Rattle.pool_law.specs.Roots.{Present, RootPlace, new_place}
use Rattle.history_laws.specs.Measures.{measures_of}
use Rattle.pool_table.specs.declared.views.Entry.{Entry}
use Rattle.pool_table.specs.declared.views.Entry.TheVariants.{At}
use Rattle.pool_table.specs.declared.views.Layout.{Layout}
use Rattle.pool_table.specs.declared.views.Part.{Part}
use Rattle.pool_table.specs.declared.views.SeatView.{SeatView}
use Rattle.pool_table.specs.Births.{IsBorn}
use Rattle.pool_table.specs.Closed.{IsClosed}
use Rattle.pool_table.specs.Views.{parts_of}
use Rattle.leak_records.specs.declared.live.LiveRoot.{LiveRoot}
use Rattle.leak_records.specs.Records.{is_keeping}
use Rattle.shared_pool.specs.Closing.{AreLanes, HasNoPlace, logs_in, entries_in}
use Rattle.shared_pool.specs.Ends.{count_in, told_with, told_of, told_here, told_from, first_place, IsPlaceHere, ArePlaces}
use Rattle.shared_pool.specs.Live.{IsLive, live_of, AreLiveRoots}
use Rattle.shared_pool.specs.RootPlaces.{RootState, PlaceState, law_root, law_place, lane_dids, watch_after, IsRootAt, PlaceStandsFor}
use Rattle.shared_pool.specs.Standing.{HomeStands}
use Rattle.shared_pool.specs.declared.home.Home.{Home}
use Rattle.shared_pool.specs.declared.home.Home.TheVariants.{Arena, Cache, Bin, Root}
use Rattle.shared_pool.proofs.ClosingEntries.{told_note, entries_hold}
use Rattle.shared_pool.proofs.ClosingLives.{standing, born_in, end_total, total_end, count_told}
use Rattle.shared_pool.proofs.ClosingWhole.{history_at, dids_at}
use Rattle.shared_pool.proofs.JoinedParts.{HasNoToken}
use Rattle.shared_pool.proofs.LastChunks.{stood}
use Rattle.shared_pool.proofs.PlaceHomes.{place_at}
use Rattle.shared_pool.proofs.PlaceLives.{WasBorn, HasEnd, Has}
use Rattle.shared_pool.proofs.PlaceRoots.{root_from, root_to, after_end}
use Rattle.shared_pool.proofs.LiveTold.{Named, ToldAt, ToldBelow, told_none, told_more, told_push, in_log, few_kept}

module _ (l : Layout) (v : SeatView) (homes : List (Option Home)) (words : List ℕ)
    (closed : IsClosed HomeStands l v homes words) (lanes : AreLanes l.shape (parts_of v)) (setting : Setting)
    (known : v.setting ≡ Some setting) (none : HasNoPlace v) (tokens : HasNoToken (parts_of v)) where
  abbrev parts : List Part
  parts = parts_of v

  abbrev History : (p : ℕ) → IsObjectOf l.shape (RootOf p) → List Noted
  History p fits = (closed.objects (RootOf p) fits).history

  -- the place stands for its history
  abbrev Stands : ℕ → PlaceState → Type 0
  Stands p s =
      (fits : IsObjectOf l.shape (RootOf p)) → PlaceStandsFor setting.grounds p l.shape.handles (History p fits) s

  total_is : (r : RootId) → total_of r (entries_of (logs_in parts)) ≡ total_of r (entries_in parts)
  total_is r = ap (total_of r) (entries_hold HomeStands l v homes words closed lanes)

  live_where : (r : RootId) → total_of r (entries_in parts) ≢ 0 → is_live (logs_in parts) r ≡ true
  live_where r ne = ap (λ (n : ℕ). not (n == 0)) (total_is r) ∙ ap not (ne_eqb (total_of r (entries_in parts)) 0 ne)

  not_live : (r : RootId) → total_of r (entries_in parts) ≡ 0 → is_live (logs_in parts) r ≡ true → ⊥
  not_live r z live =
      let dead : is_live (logs_in parts) r ≡ false = ap (λ (n : ℕ). not (n == 0)) (total_is r ∙ z) in
      let both : true ≡ false = sym live ∙ dead in absurd (cc both)

  -- what a root that is present at its own place tells
  record IsHere (r : RootId) (w : Watch) : Type 0 where
    pub fits : IsObjectOf l.shape (RootOf r.place)
    pub born : WasBorn r.place (History r.place fits) r (Some w)
    pub last : RootPlace
    pub told : (fits : IsObjectOf l.shape (RootOf r.place))
        → place_after r.place (noted_dids (History r.place fits)) ≡ Some last
    pub has : Has last r

  module _ (r : RootId) (w : Watch) (x : IsHere r w) where
    is_born : IsBorn (v ∷ []) r
    is_born =
        born_in HomeStands l v homes words closed lanes r x.fits x.born.at x.born.note x.born.region x.born.there
        x.born.did

    counted : total_of r (entries_in parts) ≢ 0
    counted z =
        let t = total_end HomeStands l v homes words closed lanes none r is_born tokens z in
        let past = after_end r.place (History r.place t.3) new_place x.last t.0 t.1 t.2 (x.told t.3)
        (λ q e. absurd (cc e)) t.4 t.5 in
        let above = past.above x.has.present x.has.here in let same = ap (λ (q : RootId). q.generation) x.has.root_is in
        let gen = t.6 in
        absurd (omega (arith, above, same, gen))

    lives : IsLive parts (r, w)
    lives =
        let s = standing HomeStands l v homes words closed lanes (RootOf r.place) x.fits x.born.at x.born.note
        x.born.there in
        record {
          watched = record {
            lane = s.lane;
            at = s.index;
            number = x.born.at + 1;
            region = x.born.region;
            noted = x.born.note;
            stands =
                ap (λ (o : Option (List Entry)). slice_get (unwrap_or o []) s.index)
                (slice_get-map (λ (p : Part). p.notes) parts s.lane
                ∙ ap (λ (o : Option Part). option_map (λ (p : Part). p.notes) o) s.there) ∙ s.stood;
            birth = x.born.did;
            given = sym x.born.given;
          };
          live = live_where r counted;
        }

    count_is : count_in (slice_index words (objects_of l.shape + r.place)) ≡ total_of r (entries_in parts)
    count_is = count_told HomeStands l v homes words closed lanes none r is_born counted

  module _ (p : ℕ) (s : PlaceState) (stands : Stands p s) where
    root_at : (fits : IsObjectOf l.shape (RootOf p)) (r : RootState) → s.present ≡ Some r
        → IsRootAt setting.grounds p l.shape.handles (History p fits) r
    root_at fits r is =
        subst (λ (o : Option RootState). IfSome o (IsRootAt setting.grounds p l.shape.handles (History p fits))) is
        (stands fits).root

    has_root : (r : RootState) → s.present ≡ Some r → Has (law_place s) r.root
    has_root r is = record { present = law_root r; here = ap (option_map law_root) is; root_is = refl }

    -- the root that is present is at its place
    present_at : (fits : IsObjectOf l.shape (RootOf p)) (r : RootState) (w : Watch) → s.present ≡ Some r
        → r.handle.tracker.watch ≡ Some w → (r.root.place ≡ p) × IsHere r.root w
    present_at fits r w is watch =
        let at = root_at fits r is in
        let born : WasBorn p (History p fits) r.root (Some w) = ⊎_elim
        (λ (b : WasBorn p (History p fits) r.root (watch_after None (History p fits))). subst
        (WasBorn p (History p fits) r.root) (sym at.watch ∙ watch) b)
        (λ (b : Has new_place r.root × (watch_after None (History p fits) ≡ None)). let e = b.0.here in absurd (cc e))
        (root_from p (History p fits) new_place (law_place s) None r.root (stands fits).told (has_root r is)) in
        let moved = subst (λ (q : ℕ). (fits : IsObjectOf l.shape (RootOf q))
        × WasBorn q (History q fits) r.root (Some w)
        × ((f : IsObjectOf l.shape (RootOf q)) → place_after q (noted_dids (History q f)) ≡ Some (law_place s)))
        (sym born.place) (fits, born, λ f. (stands f).told) in
        (born.place, record { fits = moved.0; born = moved.1; last = law_place s; told = moved.2; has = has_root r is })

    -- a live root of the place is the one that is present
    record IsThat (x : Named) : Type 0 where
      pub state : RootState
      pub here : s.present ≡ Some state
      pub root : state.root ≡ x.0
      pub watch : state.handle.tracker.watch ≡ Some x.1

    is_that : (x : Named) → IsLive parts x → x.0.place ≡ p → IsThat x
    is_that x live e =
        let w = live.watched in
        let q = in_log parts w.lane w.at (At (RootOf x.0.place) w.number w.noted) w.stands in
        let t = told_note HomeStands l v homes words closed lanes w.lane q.0 q.1 w.at (RootOf x.0.place) w.number
        w.noted q.2 refl in
        let moved : Stands x.0.place s = subst (λ (k : ℕ). Stands k s) (sym e) stands in
        let born = born_in HomeStands l v homes words closed lanes x.0 t.0 (w.number - 1) w.noted w.region t.1.1
        w.birth in
        ⊎_elim
        (λ (end : HasEnd (History x.0.place t.0) x.0). absurd
        (not_live x.0 (end_total HomeStands l v homes words closed lanes none x.0 born t.0 end) live.live))
        (λ (h : Has (law_place s) x.0 × (watch_after None (History x.0.place t.0) ≡ w.noted.watch)). by t.0 moved
        s.present refl h.0 (h.1 ∙ w.given))
        (root_to x.0.place (History x.0.place t.0) new_place (law_place s) None (w.number - 1) w.noted x.0 w.region
        (moved t.0).told t.1.1 w.birth)
      where
        by : (fits : IsObjectOf l.shape (RootOf x.0.place)) → Stands x.0.place s → (o : Option RootState)
            → s.present ≡ o → Has (law_place s) x.0 → watch_after None (History x.0.place fits) ≡ Some x.1 → IsThat x
        by fits moved None is h given =
            let both : None ≡ Some h.present = sym (ap (option_map law_root) is) ∙ h.here in absurd (cc both)
        by fits moved (Some r) is h given =
            let both : Some (law_root r) ≡ Some h.present = sym (ap (option_map law_root) is) ∙ h.here in
            let one : law_root r ≡ h.present = cc both in
            let at = subst (λ (o : Option RootState). IfSome o
            (IsRootAt setting.grounds x.0.place l.shape.handles (History x.0.place fits))) is (moved fits).root in
            record {
              state = r;
              here = is;
              root = ap (λ (y : Present). y.root) one ∙ h.root_is;
              watch = at.watch
                  ∙ given;
            }

    -- the capacity that it has at the end
    capacity_is : (fits : IsObjectOf l.shape (RootOf p)) (r : RootState) → s.present ≡ Some r → r.root.place ≡ p
        → capacity_at_end r.root (logs_in parts) ≡ r.capacity
    capacity_is fits r is here =
        let at = root_at fits r is in let a = at.fits in let b = at.in_place.size in
        let told : place_after p (dids (history_of (RootOf p) (logs_in parts))) ≡ Some (law_place s) =
        ap (place_after p) (dids_at HomeStands l v homes words closed lanes (RootOf p) fits) ∙ (stands fits).told in
        ap (λ (q : ℕ). capacity_in r.root
        (present_in (place_after q (dids (history_of (RootOf q) (logs_in parts)))))) here
        ∙ ap (λ (o : Option RootPlace). capacity_in r.root (present_in o)) told
        ∙ ap (λ (o : Option RootState). capacity_in r.root (option_map law_root o)) is
        ∙ length-take-le r.capacity r.piece.bytes (omega (arith, a, b))

    -- what is told of it
    told_as : (fits : IsObjectOf l.shape (RootOf p)) (r : RootState) (w : Watch) (is : s.present ≡ Some r)
        (watch : r.handle.tracker.watch ≡ Some w) (count : ℕ)
        → count ≡ count_in (slice_index words (objects_of l.shape + p)) →
        told_with count r w ≡ live_of parts r.root w
    told_as fits r w is watch count count_here =
        let here = present_at fits r w is watch in let at = root_at fits r is in
        let number : count ≡ total_of r.root (entries_in parts) = count_here
        ∙ ap (λ (q : ℕ). count_in (slice_index words (objects_of l.shape + q))) (sym here.0)
        ∙ count_is r.root w here.1 in
        let all : accesses r.root false (lane_dids (History p fits)) ≡ accesses_to r.root (logs_in parts) =
        ap (accesses r.root false) (sym (history_at HomeStands l v homes words closed lanes (RootOf p) fits))
        ∙ ap (λ (q : ℕ). accesses r.root false (history_of (RootOf q) (logs_in parts))) (sym here.0) in
        let keeps : is_keeping r.handle.tracker.watch ≡ w.keeps = ap is_keeping watch in
        let kept : r.handle.tracker.kept ≡ (if w.keeps then kept_of (accesses_to r.root (logs_in parts)) else []) =
        at.records.kept ∙ (λ i. if keeps i then kept_of (all i) else []) in
        let dropped : r.handle.tracker.dropped
        ≡ (if w.keeps then dropped_of (accesses_to r.root (logs_in parts)) else 0) =
        at.records.dropped ∙ (λ i. if keeps i then dropped_of (all i) else 0) in
        let capacity : r.capacity ≡ capacity_at_end r.root (logs_in parts) = sym (capacity_is fits r is here.0) in
        λ i. record { capacity = capacity i; count = number i; watch = w; records = kept i; dropped = dropped i }

    told_root : (fits : IsObjectOf l.shape (RootOf p)) (count : ℕ)
        → count ≡ count_in (slice_index words (objects_of l.shape + p)) → (o : Option RootState) → s.present ≡ o →
        (roots : List Named) × ToldAt parts p (unwrap_or (option_map (told_of count) o) []) roots
    told_root fits count count_here None is = (
      [],
      record {
        told = refl;
        each = All-nil (IsLive parts);
        all =
            λ x live e. let t =
            is_that x live e in let both : Some t.state ≡ None = sym t.here ∙ is in absurd (cc both);
        there = All-nil (λ (x : Named). x.0.place ≡ p);
        few = omega arith;
      },
    )
    told_root fits count count_here (Some r) is = by r.handle.tracker.watch refl
      where
        by : (o : Option Watch) → r.handle.tracker.watch ≡ o
            → (roots : List Named) × ToldAt parts p (listed o (told_with count r)) roots
        by None watch = (
          [],
          record {
            told = refl;
            each = All-nil (IsLive parts);
            all = λ x live e.
                let t = is_that x live e in let one : Some t.state ≡ Some r = sym t.here
                ∙ is in let same : t.state ≡ r = cc one in
                let both : Some x.1 ≡ None = sym t.watch ∙ ap (λ (y : RootState). y.handle.tracker.watch) same
                ∙ watch in
                absurd (cc both);
            there = All-nil (λ (x : Named). x.0.place ≡ p);
            few = omega arith;
          },
        )
        by (Some w) watch =
            let here = present_at fits r w is watch in (
              (r.root, w) ∷ [],
              record {
                told = ap (λ (y : LiveRoot). y ∷ []) (told_as fits r w is watch count count_here);
                each = All-cons (IsLive parts) (r.root, w) [] (lives r.root w here.1) (All-nil (IsLive parts));
                all = λ x live e.
                    let t = is_that x live e in let one : Some t.state ≡ Some r = sym t.here
                    ∙ is in let same : t.state ≡ r = cc one in
                    let root : r.root ≡ x.0 = ap (λ (y : RootState). y.root) (sym same) ∙ t.root in
                    let two : Some w ≡ Some x.1 = sym watch ∙ ap (λ (y : RootState). y.handle.tracker.watch) (sym same)
                    ∙ t.watch in let watch_is : w ≡ x.1 = cc two in
                    (zero, λ i. Some (root i, watch_is i));
                there =
                    All-cons (λ (x : Named). x.0.place ≡ p) (r.root, w) [] here.0
                    (All-nil (λ (x : Named). x.0.place ≡ p));
                few = omega arith;
              },
            )

  -- the home value of a place
  place_is : (p : ℕ) (x : Home) → slice_get homes (home_of l.shape (RootOf p)) ≡ Some (Some x)
      → (fits : IsObjectOf l.shape (RootOf p)) → HomeStands (measures_of l.shape (RootOf p)) setting (History p fits) x
  place_is p x here fits =
      let t = stood l v homes words closed lanes setting known (RootOf p) fits in
      let one : Some (Some t.value) ≡ Some (Some x) = sym t.here ∙ here in let same : t.value ≡ x = cc one in
      subst (HomeStands (measures_of l.shape (RootOf p)) setting (History p fits)) same t.stands

  told_place : (p : ℕ) (fits : IsObjectOf l.shape (RootOf p)) (x : Home)
      → ((f : IsObjectOf l.shape (RootOf p)) → HomeStands (measures_of l.shape (RootOf p)) setting (History p f) x) →
      (roots : List Named) × ToldAt parts p (told_here (Some x) (count_in (slice_index words (objects_of l.shape + p))))
      roots
  told_place p fits (Root y) stands =
      told_root p y.value (λ f. place_at l.shape setting p (History p f) (Root y) (stands f)) fits
      (count_in (slice_index words (objects_of l.shape + p))) refl y.value.present refl
  told_place p fits (Arena a) stands = let at = stands fits in absurd (cc at.measured)
  told_place p fits (Cache q) stands = let at = stands fits in absurd (cc at.measured)
  told_place p fits (Bin b) stands = let at = stands fits in absurd (cc at.measured)

  short_place : (p : ℕ) (fits : IsObjectOf l.shape (RootOf p)) (x : Home)
      → HomeStands (measures_of l.shape (RootOf p)) setting (History p fits) x → IsPlaceHere (Some x)
  short_place p fits (Root y) at = by y.value.present (place_at l.shape setting p (History p fits) (Root y) at).root
    where
      by : (o : Option RootState) → IfSome o (IsRootAt setting.grounds p l.shape.handles (History p fits))
          → IfSome o (λ r. length r.handle.tracker.kept ≤ 4)
      by None root = tt
      by (Some r) root = few_kept (accesses r.root false (lane_dids (History p fits))) r.handle.tracker root.records
  short_place p fits (Arena a) at = absurd (cc at.measured)
  short_place p fits (Cache q) at = absurd (cc at.measured)
  short_place p fits (Bin b) at = absurd (cc at.measured)

  pub places_here : ArePlaces l.shape homes
  places_here p fits =
      let t = stood l v homes words closed lanes setting known (RootOf p) fits in
      subst (λ (o : Option (Option Home)). IfSome o IsPlaceHere) (sym t.here) (short_place p fits t.value t.stands)

  told_below : (n : ℕ) → n ≤ l.shape.lanes * l.shape.handles
      → ToldBelow parts n (told_from l.shape homes words (below n))
  told_below zero le = told_none parts
  told_below (suc n) le =
      let fits : n < l.shape.lanes * l.shape.handles = omega (arith, le) in
      let t = stood l v homes words closed lanes setting known (RootOf n) fits in
      let one = told_place n fits t.value (place_is n t.value t.here) in
      let here : unwrap_or (slice_get homes (first_place l.shape + n)) None
      ≡ Some t.value = ap (λ (o : Option (Option Home)). unwrap_or o None) t.here in
      let count : ℕ = count_in (slice_index words (objects_of l.shape + n)) in
      subst (ToldBelow parts (suc n)) (sym (told_push l.shape homes words (below n) n))
      (told_more parts n (told_from l.shape homes words (below n))
      (told_here (unwrap_or (slice_get homes (first_place l.shape + n)) None) count) one.0
      (told_below n (omega (arith, le)))
      (subst (λ (o : Option Home). ToldAt parts n (told_here o count) one.0) (sym here) one.1))

  -- the live roots are told
  pub live_told : AreLiveRoots parts (told_from l.shape homes words (below (l.shape.lanes * l.shape.handles)))
  live_told =
      let t = told_below (l.shape.lanes * l.shape.handles) (omega arith) in record {
        roots = t.roots;
        told = t.told;
        each = t.each;
        all = λ x live.
            let w = live.watched in
            let q = in_log parts w.lane w.at (At (RootOf x.0.place) w.number w.noted) w.stands in
            t.all x live (told_note HomeStands l v homes words closed lanes w.lane q.0 q.1 w.at (RootOf x.0.place)
            w.number w.noted q.2 refl).0;
        by_place = t.by_place;
      }
