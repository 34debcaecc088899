-- A root that is counted was born exactly so.
use Rattle.step_law.specs.Settings.{Setting}
use Rattle.std.proofs.Common.{◌≡◌, ◌≢◌, ℕ, suc, ◌+◌, ◌*◌, ◌<◌, ◌≤◌, List, map, sym, ap, ◌∙◌, subst, arith, Some}
use Rattle.std.specs.Prelude.{Option, All, sum_by}
use Rattle.std.proofs.lemmas.List.Elements.{All-weaker}
use Rattle.std.proofs.lemmas.List.Sums.{sum_by-le-sum_by}
use mathlib.Core.Logic.{dite}
use native.Mathlib.Decide.{ℕ_discrete, dec_le}
use mathlib.Core.Option.{some}
use lib.ListN.{get_elem?}
use Rattle.atomic_table.specs.Table.{State}
use Rattle.step_law.proofs.Changes.{each_at, sum_at}
use Rattle.pool_law.specs.declared.id.RootId.{RootId}
use Rattle.pool_law.specs.declared.note.Did.{Did}
use Rattle.pool_law.specs.declared.note.Noted.{Noted}
use Rattle.pool_law.specs.declared.note.Object.TheVariants.{Root}
use Rattle.pool_law.specs.Homes.{home_of}
use Rattle.history_laws.specs.Histories.{root_after}
use Rattle.history_laws.specs.NoteCounts.{did_birth, did_birth_of, did_birth_as, did_end}
use Rattle.history_laws.proofs.Roots.{place_born, place_present, of_birth}
use Rattle.history_laws.proofs.Told.{place_there, root_is}
use Rattle.pool_table.specs.declared.views.Entry.{Entry}
use Rattle.pool_table.specs.declared.views.Layout.{Layout}
use Rattle.pool_table.specs.declared.views.Part.{Part}
use Rattle.pool_table.specs.declared.views.SeatView.{SeatView}
use Rattle.pool_table.specs.Views.{parts_of, object_view, noted_weight, noted_total}
use Rattle.pool_table.specs.Counts.{weigh, on_root, on_this, at_gain, at_loss, fetches, posts, ref_gain, ref_loss, ref_ended, ref_vacated, tally, gained_of, lost_of, HasCount, HasToken}
use Rattle.pool_table.specs.Hands.{at_birth_of, at_birth_as, at_end, ends, HasEnded}
use Rattle.pool_table.specs.Births.{root_named, IsBorn, NamesBorn}
use Rattle.pool_table.specs.Holders.{sum_to}
use Rattle.pool_table.specs.Sound.{IsSound, IsView, Stands}
use Rattle.pool_table.proofs.AtPlace.{CountsAt, TokenAt, EndedAt}
use Rattle.pool_table.proofs.Ledgers.{sum_add}
use Rattle.pool_table.proofs.Partition.{in_views, IsAmong}
use Rattle.pool_table.proofs.RootEntries.{among_root, none_among, two_births, Alone, steps_alone, fetches_alone, posts_alone, step_names, fetch_names, post_names, ends_alone, weigh_both, some_entry, as_birth}

module _ {H : Type 0} (stands : List ℕ → Setting → List Noted → H → Type 0) (l : Layout) where
  abbrev St : Type 0
  St = State (Option H) SeatView

  abbrev Among : ℕ → ℕ → (Noted → ℕ) → Type 0
  Among base n w = (lane : Option ℕ) (e : Entry) → Stands l.shape lane e → IsAmong l.shape base n w e

  all_among : (s : St) (r : IsSound stands l s) (base n : ℕ) (w : Noted → ℕ) → Among base n w
      → All (λ (v : SeatView). All (λ (q : Part). All (IsAmong l.shape base n w) q.notes) (parts_of v)) s.views
  all_among s r base n w among =
      All-weaker (IsView l.shape r.setting)
      (λ (v : SeatView). All (λ (q : Part). All (IsAmong l.shape base n w) q.notes) (parts_of v))
      (λ v fine. All-weaker (λ (q : Part). All (Stands l.shape q.number) q.notes)
      (λ (q : Part). All (IsAmong l.shape base n w) q.notes)
      (λ q st. All-weaker (Stands l.shape q.number) (IsAmong l.shape base n w) (among q.number) q.notes st) (parts_of v)
      fine.notes) s.views r.views

  -- the births and ends of a place in all views are those of its history
  pub root_notes : (s : St) (r : IsSound stands l s) (p : ℕ) (lt : p < l.shape.lanes * l.shape.handles) (w : Did → ℕ)
      → ((d : Did) → did_birth p d ≡ 0 → ((g : ℕ) → did_end p g d ≡ 0) → w d ≡ 0)
      → sum_by (weigh (noted_weight (λ (n : Noted). w n.did))) s.views
      ≡ sum_by (λ (n : Noted). w n.did) (r.objects (Root p) lt).history
  root_notes s r p lt w free =
      let b : ℕ = home_of l.shape (Root p) in
      let a = in_views l.shape b 1 (λ (x : Noted). w x.did) s.views
      (all_among s r b 1 (λ (x : Noted). w x.did) (among_root l.shape p w free)) in
      let k = (r.objects (Root p) lt).weights (λ (x : Noted). w x.did) in
      let z : b + 0 ≡ b = omega arith in
      let one : sum_to 1 (λ i. noted_total (λ (x : Noted). w x.did) (map (object_view l.shape (b + i)) s.views))
      ≡ noted_total (λ (x : Noted). w x.did) (map (object_view l.shape (b + 0)) s.views) = omega arith in
      let at0 : noted_total (λ (x : Noted). w x.did) (map (object_view l.shape (b + 0)) s.views)
      ≡ noted_total (λ (x : Noted). w x.did) (map (object_view l.shape b) s.views) =
      ap (λ (j : ℕ). noted_total (λ (x : Noted). w x.did) (map (object_view l.shape j) s.views)) z in
      sym a ∙ (one ∙ (at0 ∙ k))

  -- a root that was born has a place of the shape
  pub born_place : (s : St) (r : IsSound stands l s) (q : RootId) → IsBorn s.views q
      → q.place < l.shape.lanes * l.shape.handles
  born_place s r q born = dite (dec_le (suc q.place) (l.shape.lanes * l.shape.handles))
      (λ le. let n : ℕ = l.shape.lanes * l.shape.handles in let le' : suc q.place ≤ n = le in let g : q.place < n =
      omega (arith, le') in g)
      (λ gt. let n : ℕ = l.shape.lanes * l.shape.handles in
      let away : q.place < n → ⊥ = (λ lt. gt (let g : suc q.place ≤ n = omega (arith, lt) in g)) in
      let a : 0 ≡ sum_by (weigh (at_birth_as q.place q.generation q.capacity)) s.views =
      in_views l.shape 0 0 (λ (x : Noted). did_birth_as q.place q.generation q.capacity x.did) s.views
      (all_among s r 0 0 (λ (x : Noted). did_birth_as q.place q.generation q.capacity x.did)
      (none_among l.shape q.place q.generation q.capacity away)) in
      absurd (omega (arith, a, born)))

  -- two roots of one place and generation that were born are one
  pub one_born : (s : St) (r : IsSound stands l s) (q t : RootId) → IsBorn s.views q → IsBorn s.views t
      → t.place ≡ q.place → t.generation ≡ q.generation → t ≡ q
  one_born s r q t bq bt ep eg =
      let p : ℕ = q.place in let g : ℕ = q.generation in let lt = born_place s r q bq in
      let h = (r.objects (Root p) lt).history in let x = place_there l.shape p h (r.objects (Root p) lt).accepted in
      let once = (place_born l.shape p h x.0 (r.objects (Root p) lt).accepted x.1 g).0 in
      let all = root_notes s r p lt (did_birth_of p g) (λ d z y. of_birth p g d z) in
      let bt' : 0 < sum_by (weigh (at_birth_as p g t.capacity)) s.views =
      subst (λ (y : ℕ × ℕ). 0 < sum_by (weigh (at_birth_as y.0 y.1 t.capacity)) s.views) (λ i. (ep i, eg i)) bt in
      dite (ℕ_discrete t.capacity q.capacity)
      (λ same. λ i. record { place = ep i; generation = eg i; capacity = same i })
      (λ ne.
      let two = sum_by-le-sum_by (λ (v : SeatView). weigh (at_birth_as p g t.capacity) v + weigh
      (at_birth_as p g q.capacity) v) (weigh (at_birth_of p g)) s.views (λ v. in_view v ne) in
      let add = sum_add (weigh (at_birth_as p g t.capacity)) (weigh (at_birth_as p g q.capacity)) s.views in
      absurd (omega (arith, two, add, all, once, bq, bt')))
    where
      in_view : (v : SeatView) → t.capacity ≢ q.capacity
          → weigh (at_birth_as q.place q.generation t.capacity) v + weigh (at_birth_as q.place q.generation q.capacity)
          v ≤ weigh (at_birth_of q.place q.generation) v
      in_view v ne =
          let f : Entry → ℕ = at_birth_as q.place q.generation t.capacity in let g : Entry
          → ℕ = at_birth_as q.place q.generation q.capacity in
          let add = sum_add (λ (p : Part). sum_by f p.notes) (λ (p : Part). sum_by g p.notes) (parts_of v) in
          let le = sum_by-le-sum_by (λ (p : Part). sum_by f p.notes + sum_by g p.notes)
          (λ (p : Part). sum_by (at_birth_of q.place q.generation) p.notes) (parts_of v) (λ p.
          let a = sum_add f g p.notes in let b = sum_by-le-sum_by (λ (e : Entry). f e + g e)
          (at_birth_of q.place q.generation) p.notes (two_births q.place q.generation t.capacity q.capacity ne) in
          omega (arith, a, b)) in omega (arith, add, le)

  module _ (s : St) (r : IsSound stands l s) (id : ℕ) (v : SeatView) (at : get_elem? s.views id ≡ some v) where
    names : All (λ (q : Part). All (NamesBorn s.views) q.notes) (parts_of v)
    names =
        each_at (λ (u : SeatView). All (λ (q : Part). All (NamesBorn s.views) q.notes) (parts_of u)) s.views id v r.born
        at

    -- a view with an entry that names the root: it was born
    pub some_named : (f : Entry → ℕ) (q : RootId) → ((e : Entry) → 0 < f e → root_named e ≡ Some q) → 0 < weigh f v
        → IsBorn s.views q
    some_named f q says lt = some_entry (IsBorn s.views q) f (parts_of v)
        (All-weaker (λ (p : Part). All (NamesBorn s.views) p.notes)
        (λ (p : Part). All (λ (e : Entry). 0 < f e → IsBorn s.views q) p.notes)
        (λ p all. All-weaker (NamesBorn s.views) (λ (e : Entry). 0 < f e → IsBorn s.views q)
        (λ e born lt. born q (says e lt)) p.notes all) (parts_of v) names) lt

    -- of a root that was born, what the view has is what it has of its place and generation
    same_weight : (q : RootId) → IsBorn s.views q → (f g : Entry → ℕ) → ((e : Entry) → Alone q e → f e ≡ g e)
        → weigh f v ≡ weigh g v
    same_weight q born f g same = weigh_both f g (parts_of v)
        (All-weaker (λ (p : Part). All (NamesBorn s.views) p.notes)
        (λ (p : Part). All (λ (e : Entry). f e ≡ g e) p.notes)
        (λ p all. All-weaker (NamesBorn s.views) (λ (e : Entry). f e ≡ g e)
        (λ e names. same e (λ t is ep eg. one_born s r q t born (names t is) ep eg)) p.notes all) (parts_of v)
        names)

    pub count_born : (q : RootId) → HasCount q v → IsBorn s.views q
    count_born q has = dite (ℕ_discrete (weigh (on_this ref_gain q) v) 0)
        (λ z. some_named (fetches q) q (fetch_names q) (omega (arith, z, has)))
        (λ ne. some_named (on_this ref_gain q) q (step_names ref_gain q) (omega (arith, ne)))

    pub count_at : (q : RootId) → HasCount q v → CountsAt q.place q.generation v
    count_at q has =
        let born = count_born q has in
        let a = same_weight q born (on_this ref_gain q) (on_root ref_gain q.place q.generation)
        (steps_alone ref_gain q) in
        let b = same_weight q born (on_this ref_loss q) (on_root ref_loss q.place q.generation)
        (steps_alone ref_loss q) in
        let c = same_weight q born (fetches q) (at_gain q.place q.generation) (fetches_alone q) in
        let d = same_weight q born (posts q) (at_loss q.place q.generation) (posts_alone q) in
        omega (arith, a, b, c, d, has)

    pub token_born : (q : RootId) → HasToken q v → IsBorn s.views q
    token_born q has = some_named (on_this ref_ended q) q (step_names ref_ended q) (omega (arith, has))

    pub token_at : (q : RootId) → HasToken q v → TokenAt q.place q.generation v
    token_at q has =
        let born = token_born q has in
        let a = same_weight q born (on_this ref_ended q) (on_root ref_ended q.place q.generation)
        (steps_alone ref_ended q) in
        let b = same_weight q born (on_this ref_vacated q) (on_root ref_vacated q.place q.generation)
        (steps_alone ref_vacated q) in
        omega (arith, a, b, has)

    pub ends_at : (q : RootId) → HasToken q v → weigh (ends q) v ≡ weigh (at_end q.place q.generation) v
    ends_at q has = same_weight q (token_born q has) (ends q) (at_end q.place q.generation) (ends_alone q)

    pub ended_at : (q : RootId) → HasToken q v → HasEnded q v → EndedAt q.place q.generation v
    ended_at q has ended =
        let born = token_born q has in
        let a = same_weight q born (on_this ref_vacated q) (on_root ref_vacated q.place q.generation)
        (steps_alone ref_vacated q) in
        let b = ends_at q has in omega (arith, a, b, ended)

    -- no count of a root is below 0
    pub counted_of : (q : RootId) → lost_of q v ≤ gained_of q v
    counted_of q = dite (ℕ_discrete (weigh (on_this ref_loss q) v) 0)
        (λ z. dite (ℕ_discrete (weigh (posts q) v) 0)
        (λ y. omega (arith, z, y))
        (λ ne. if_born (some_named (posts q) q (post_names q) (omega (arith, ne)))))
        (λ ne. if_born (some_named (on_this ref_loss q) q (step_names ref_loss q) (omega (arith, ne))))
      where
        if_born : IsBorn s.views q → lost_of q v ≤ gained_of q v
        if_born born =
            let a = same_weight q born (on_this ref_gain q) (on_root ref_gain q.place q.generation)
            (steps_alone ref_gain q) in
            let b = same_weight q born (on_this ref_loss q) (on_root ref_loss q.place q.generation)
            (steps_alone ref_loss q) in
            let c = same_weight q born (fetches q) (at_gain q.place q.generation) (fetches_alone q) in
            let d = same_weight q born (posts q) (at_loss q.place q.generation) (posts_alone q) in
            let k = (each_at (IsView l.shape r.setting) s.views id v r.views at).counted q.place q.generation in
            omega (arith, a, b, c, d, k)

    -- none is vacated before its end is noted
    pub vacated_of : (q : RootId) → weigh (on_this ref_vacated q) v ≤ weigh (ends q) v
    vacated_of q = dite (ℕ_discrete (weigh (on_this ref_vacated q) v) 0)
        (λ z. omega (arith, z))
        (λ ne.
        let born = some_named (on_this ref_vacated q) q (step_names ref_vacated q) (omega (arith, ne)) in
        let a = same_weight q born (on_this ref_vacated q) (on_root ref_vacated q.place q.generation)
        (steps_alone ref_vacated q) in
        let b = same_weight q born (ends q) (at_end q.place q.generation) (ends_alone q) in
        let k = (each_at (IsView l.shape r.setting) s.views id v r.views at).roots.over q.place q.generation in
        omega (arith, a, b, k))

    -- nothing of a root that didn't end
    pub none_ended : (q : RootId) → IsBorn s.views q → tally ref_ended q.place q.generation s.views ≡ 0
        → (weigh (on_this ref_ended q) v ≡ 0) × (weigh (on_this ref_vacated q) v ≡ 0) × (weigh (ends q) v ≡ 0)
    none_ended q born z =
        let fine = each_at (IsView l.shape r.setting) s.views id v r.views at in
        let a = same_weight q born (on_this ref_ended q) (on_root ref_ended q.place q.generation)
        (steps_alone ref_ended q) in
        let b = same_weight q born (on_this ref_vacated q) (on_root ref_vacated q.place q.generation)
        (steps_alone ref_vacated q) in
        let c = same_weight q born (ends q) (at_end q.place q.generation) (ends_alone q) in
        let le = sum_at (weigh (on_root ref_ended q.place q.generation)) s.views id v at in
        let x = fine.settled q.place q.generation in let y = fine.roots.ending q.place q.generation in
        let t : ℕ = tally ref_ended q.place q.generation s.views in
        let le' : weigh (on_root ref_ended q.place q.generation) v ≤ t = le in
        (omega (arith, a, le', z), omega (arith, b, x, le', z), omega (arith, c, y, le', z))

  -- the root that is present was born
  pub present_born : (s : St) (r : IsSound stands l s) (p : ℕ) (lt : p < l.shape.lanes * l.shape.handles) (q : RootId)
      → root_after p (r.objects (Root p) lt).history ≡ Some q → q.place ≡ p → IsBorn s.views q
  present_born s r p lt q is here =
      let h = (r.objects (Root p) lt).history in let k = (r.objects (Root p) lt).accepted in let x =
      place_there l.shape p h k in
      let some = place_present l.shape p h x.0 q k x.1 (sym (root_is p h x.0 x.1) ∙ is) in
      let all = root_notes s r p lt (did_birth_as q.place q.generation q.capacity)
      (λ d z y. as_birth q.place q.generation q.capacity d (ap (λ (n : ℕ). did_birth n d) here ∙ z)) in
      omega (arith, some, all)
