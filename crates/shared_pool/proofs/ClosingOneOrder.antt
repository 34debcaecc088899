-- At the close all steps of all lanes stand in one order, in which each fits those before it.
use Rattle.step_law.specs.Settings.{Setting}
use Rattle.std.proofs.Common.{◌≡◌, ℕ, ◌+◌, ◌<◌, ◌≤◌, List, [], ◌∷◌, length, map, Bool, cond, sym, refl, ap, ◌∙◌, subst, arith, ⊎_elim, Some}
use Rattle.std.specs.Prelude.{◌==◌, Option, All, IsTrue, slice_get}
use Rattle.std.proofs.lemmas.List.Elements.{All-head, All-weaker}
use Rattle.pool_law.specs.declared.run.Shape.{Shape}
use Rattle.pool_law.specs.declared.id.RootId.{RootId}
use Rattle.pool_law.specs.declared.note.Note.{Note}
use Rattle.pool_law.specs.declared.note.Noted.{Noted}
use Rattle.pool_law.specs.declared.note.Object.{Object}
use Rattle.pool_law.specs.declared.note.Object.TheVariants.{Arena, Cache, Bin, Mail, Root}
use Rattle.pool_law.specs.declared.note.RefDid.{RefDid}
use Rattle.pool_law.specs.declared.note.RefDid.TheVariants.{Born, Retain, Kept, Ended, Vacated, Look}
use Rattle.pool_law.specs.Homes.{home_of, IsObjectOf}
use Rattle.pool_law.specs.Kinds.{passing}
use Rattle.pool_law.specs.NotedHistories.{MayNote}
use Rattle.pool_law.specs.Logs.{has_history}
use Rattle.pool_law.specs.Counts.{is_born, is_retain, is_release, ends_root}
use Rattle.history_laws.specs.NoteCounts.{is_root}
use Rattle.run_order.specs.Order.{Step, Fits, FitsCount, Leave, InOneOrder, is_at, is_alike, is_born_at, is_vacated_at, is_vacated, made as made_of}
use Rattle.pool_table.specs.declared.views.Entry.{Entry}
use Rattle.pool_table.specs.declared.views.Entry.TheVariants.{At, Ref, Busy}
use Rattle.pool_table.specs.declared.views.Layout.{Layout}
use Rattle.pool_table.specs.declared.views.Part.{Part}
use Rattle.pool_table.specs.declared.views.SeatView.{SeatView}
use Rattle.pool_table.specs.Views.{parts_of}
use Rattle.pool_table.specs.Counts.{on_root, on_place, ref_gain, ref_loss, ref_born, ref_retain, ref_ended, ref_vacated}
use Rattle.pool_table.specs.Births.{IsBorn, NamesBorn}
use Rattle.pool_table.specs.Sequence as table
use Rattle.pool_table.specs.Sequence.{Made, weigh_made, entries_by, on_object, HasItsOwn, AreInOneOrder}
use Rattle.pool_table.specs.Sound.{Stands}
use Rattle.pool_table.specs.Closed.{IsClosed}
use Rattle.pool_table.proofs.Lists.{at_cut, all_two}
use Rattle.pool_table.proofs.Looks.{sum_adds, gain_is}
use Rattle.pool_table.proofs.RootEntries.{Alone}
use Rattle.shared_pool.specs.Closing.{AreLanes, note_of, logs_in}
use Rattle.shared_pool.proofs.ClosingWhole.{at, there_or, log_at, log_past, stands_at}
use Rattle.shared_pool.proofs.ClosingSums.{law, sums_same, nothing, retains_alike, borns_alike, ends_alike, releases_alike, same_cond}
use Rattle.shared_pool.proofs.ClosingHistories.{same_about}
use Rattle.shared_pool.proofs.ClosingPosts.{alike_at, finds_none, mail_fits}
use Rattle.shared_pool.proofs.ClosingLooks.{names}
use Rattle.shared_pool.proofs.ClosingTotals.{one_is}
use Rattle.shared_pool.proofs.ClosingSteps.{IsOfLane, step_of, one, all_of_lanes, parts_have, of_all_steps, notes_alike, none_past, cut_steps, made_is, made_weighs}

-- ---- One entry, as the law tests it and as the table weighs it.

object_alike : (s : Shape) (o : Object) → IsObjectOf s o → (lane : Option ℕ) (e : Entry) → Stands s lane e
    → law (is_at o) e ≡ on_object s (home_of s o) e
object_alike s o fits lane (At p k n) stands =
    ap (λ (b : Bool). cond {A = ℕ} b 1 0) (same_about s o p fits stands.object)
object_alike s o fits lane (Ref r d) stands = refl
object_alike s o fits lane (Busy b) stands = refl

born_at_alike : (p : ℕ) (e : Entry) → law (is_born_at p) e ≡ on_place ref_born p e
born_at_alike p (At o k n) = refl
born_at_alike p (Busy b) = refl
born_at_alike p (Ref r Born) = refl
born_at_alike p (Ref r Retain) = nothing (r.place == p)
born_at_alike p (Ref r Kept) = nothing (r.place == p)
born_at_alike p (Ref r Ended) = nothing (r.place == p)
born_at_alike p (Ref r Vacated) = nothing (r.place == p)
born_at_alike p (Ref r (Look k)) = nothing (r.place == p)

vacated_at_alike : (p : ℕ) (e : Entry) → law (is_vacated_at p) e ≡ on_place ref_vacated p e
vacated_at_alike p (At o k n) = refl
vacated_at_alike p (Busy b) = refl
vacated_at_alike p (Ref r Vacated) = refl
vacated_at_alike p (Ref r Born) = nothing (r.place == p)
vacated_at_alike p (Ref r Retain) = nothing (r.place == p)
vacated_at_alike p (Ref r Kept) = nothing (r.place == p)
vacated_at_alike p (Ref r Ended) = nothing (r.place == p)
vacated_at_alike p (Ref r (Look k)) = nothing (r.place == p)

vacates_alike : (r : RootId) (e : Entry) → Alone r e
    → law (is_vacated r) e ≡ on_root ref_vacated r.place r.generation e
vacates_alike r (At o k n) alone = refl
vacates_alike r (Busy b) alone = refl
vacates_alike r (Ref q Vacated) alone = same_cond r q 1 (alone q refl)
vacates_alike r (Ref q Born) alone = nothing (is_root r.place r.generation q)
vacates_alike r (Ref q Retain) alone = nothing (is_root r.place r.generation q)
vacates_alike r (Ref q Kept) alone = nothing (is_root r.place r.generation q)
vacates_alike r (Ref q Ended) alone = nothing (is_root r.place r.generation q)
vacates_alike r (Ref q (Look k)) alone = nothing (is_root r.place r.generation q)

-- ---- The steps before one.

-- they count a root by the law as by the table, where they name no other root of its name
module _ (r : RootId) (xs : List Made) (alone : All (λ (x : Made). Alone r x.entry) xs) where
  alike : (test : Note → Bool) (f : Entry → ℕ) → ((e : Entry) → Alone r e → law test e ≡ f e)
      → made_of test (map step_of xs) ≡ weigh_made f xs
  alike test f same =
      made_is test f xs
      (All-weaker (λ (x : Made). Alone r x.entry) (λ (x : Made). law test x.entry ≡ f x.entry)
      (λ x one. same x.entry one) xs alone)

  leave_alike : (n : ℕ) → table.Leave xs r n → Leave (map step_of xs) r n
  leave_alike n left =
      let p : ℕ = r.place in let g : ℕ = r.generation in
      let a = alike (is_born r) (on_root ref_born p g) (borns_alike r) in
      let b = alike (is_retain r) (on_root ref_retain p g) (retains_alike r) in
      let c = alike (is_release r) (on_root ref_loss p g) (releases_alike r) in
      let d = sum_adds (λ (x : Made). on_root ref_gain p g x.entry) (λ (x : Made). on_root ref_born p g x.entry)
      (λ (x : Made). on_root ref_retain p g x.entry) (λ x. gain_is p g x.entry) xs in
      omega (arith, left, a, b, c, d)

  -- those on its place count as the table weighs them
  placed : (test : Note → Bool) (f : Entry → ℕ) → ((e : Entry) → law test e ≡ f e)
      → made_of test (map step_of xs) ≡ weigh_made f xs
  placed test f same = made_is test f xs (λ k d lt. same _)

  count_alike : (d : RefDid) → table.FitsCount xs r d → FitsCount (map step_of xs) r d
  count_alike Born fit =
      let next = fit.0 in let past = fit.1 in
      let a = placed (is_born_at r.place) (on_place ref_born r.place) (born_at_alike r.place) in
      let b = placed (is_vacated_at r.place) (on_place ref_vacated r.place) (vacated_at_alike r.place) in
      (omega (arith, next, a), omega (arith, past, a, b), leave_alike 0 fit.2)
  count_alike Retain fit = (fit.0, fit.1, leave_alike fit.0 fit.2)
  count_alike Kept fit = (fit.0, fit.1, leave_alike fit.0 fit.2)
  count_alike Ended fit = leave_alike 1 fit
  count_alike Vacated fit =
      let once = fit.0 in
      let a = alike (ends_root r) (on_root ref_ended r.place r.generation) (ends_alike r) in
      let b = alike (is_vacated r) (on_root ref_vacated r.place r.generation) (vacates_alike r) in
      (omega (arith, once, a, b), leave_alike 0 fit.1)
  count_alike (Look k) fit = (fit.0, leave_alike k fit.1)

module _ {H : Type 0} (stands : List ℕ → Setting → List Noted → H → Type 0) (l : Layout) (v : SeatView)
    (homes : List (Option H)) (words : List ℕ)
    (closed : IsClosed stands l v homes words) (lanes : AreLanes l.shape (parts_of v)) where
  abbrev order : AreInOneOrder l.shape (v ∷ [])
  order = closed.one_order

  abbrev many : ℕ
  many = length (parts_of v)

  -- each lane's part has the entries of its steps
  its_own : (lane : ℕ) (p : Part) → slice_get (parts_of v) lane ≡ Some p → p.notes ≡ entries_by lane order.made
  its_own lane p is =
      at (HasItsOwn order.made) (parts_of v) lane p
      (All-head (λ (u : SeatView). All (HasItsOwn order.made) (parts_of u)) v [] order.parts) is lane
      (lanes.numbers lane p is)

  laned : All (IsOfLane many) order.made
  laned =
      let a = order.each one in let b = one_is stands l v homes words closed one in
      let c = parts_have order.made 0 (parts_of v)
      (λ i p is. let e : i ≡ 0 + i = omega arith in its_own i p is ∙ ap (λ (m : ℕ). entries_by m order.made) e) in
      all_of_lanes many order.made (sym c ∙ (sym b ∙ a))

  -- an entry stands on objects of the shape, and names a root that was born
  record IsKnown (e : Entry) : Type 0 where
    pub lane : Option ℕ
    pub stood : Stands l.shape lane e
    pub named : NamesBorn (v ∷ []) e

  known_in : (m : ℕ) → m < many → All IsKnown (entries_by m order.made)
  known_in m lt = ⊎_elim
      (λ (t : (p : Part) × (slice_get (parts_of v) m ≡ Some p)).
      subst (All IsKnown) (its_own m t.0 t.1)
      (all_two (Stands l.shape t.0.number) (NamesBorn (v ∷ [])) IsKnown
      (λ e stood named. record { lane = t.0.number; stood = stood; named = named }) t.0.notes
      (stands_at stands l v homes words closed lanes m t.0 t.1)
      (at (λ (q : Part). All (NamesBorn (v ∷ [])) q.notes) (parts_of v) m t.0 (names stands l v homes words closed)
      t.1)))
      (λ (past : many ≤ m). absurd (let n : ℕ = many in let a : m < n = lt in let b : n ≤ m = past in
      omega (arith, a, b)))
      (there_or (parts_of v) m)

  known : All (λ (x : Made). IsKnown x.entry) order.made
  known = of_all_steps IsKnown many order.made known_in laned

  notes_at : (xs : List Made) → All (λ (x : Made). IsKnown x.entry) xs → (o : Object) → IsObjectOf l.shape o
      → made_of (is_at o) (map step_of xs) ≡ weigh_made (on_object l.shape (home_of l.shape o)) xs
  notes_at xs all o fits =
      made_is (is_at o) (on_object l.shape (home_of l.shape o)) xs
      (All-weaker (λ (x : Made). IsKnown x.entry)
      (λ (x : Made). law (is_at o) x.entry ≡ on_object l.shape (home_of l.shape o) x.entry)
      (λ x k. object_alike l.shape o fits k.lane x.entry k.stood) xs all)

  -- a note at an object of the shape
  note_fits : (xs : List Made) → All (λ (x : Made). IsKnown x.entry) xs → (o : Object) → IsObjectOf l.shape o
      → IsTrue (has_history o) → (k : ℕ) (n : Noted) → (lane : Option ℕ) → MayNote l.shape lane o n.did
      → k ≡ weigh_made (on_object l.shape (home_of l.shape o)) xs + 1 → Fits (map step_of xs) (Note.At o k n.did)
  note_fits xs all o fits has k n lane may fit =
      let a = notes_at xs all o fits in
      let b = made_weighs (is_alike o n.did) xs
      ∙ (sums_same (λ (x : Made). law (is_alike o n.did) x.entry) (λ (x : Made). law (is_at o) x.entry) xs
      (λ j d lt. alike_at o has n.did _) ∙ sym (made_weighs (is_at o) xs)) in
      (omega (arith, fit, a, b), finds_none l.shape o fits lane n.did may (map step_of xs) k)

  fits_alike : (xs : List Made) → All (λ (x : Made). IsKnown x.entry) xs → (e : Entry) → IsKnown e
      → table.Fits l.shape xs e → Fits (map step_of xs) (note_of e)
  fits_alike xs all (At (Mail a b) k n) is fit = mail_fits xs a b k n.did (passing n.did) refl fit
  fits_alike xs all (At (Arena a) k n) is fit =
      note_fits xs all (Arena a) is.stood.object refl k n is.lane is.stood.lane_may fit
  fits_alike xs all (At (Cache d c) k n) is fit =
      note_fits xs all (Cache d c) is.stood.object refl k n is.lane is.stood.lane_may fit
  fits_alike xs all (At (Bin b) k n) is fit =
      note_fits xs all (Bin b) is.stood.object refl k n is.lane is.stood.lane_may fit
  fits_alike xs all (At (Root p) k n) is fit =
      note_fits xs all (Root p) is.stood.object refl k n is.lane is.stood.lane_may fit
  fits_alike xs all (Busy b) is fit = let a = notes_at xs all b.object is.stood.0 in omega (arith, fit, a)
  fits_alike xs all (Ref r d) is fit =
      let born : IsBorn (v ∷ []) r = is.named r refl in
      count_alike r xs
      (All-weaker (λ (x : Made). IsKnown x.entry) (λ (x : Made). Alone r x.entry)
      (λ x k q named place generation. closed.alone r q born (k.named q named) place generation) xs all) d fit

  pub one_order_holds : InOneOrder (logs_in (parts_of v))
  one_order_holds = record {
    steps = map step_of order.made;
    whole = λ lane. notes_alike many lane order.made laned ∙ ⊎_elim
        (λ (t : (p : Part) × (slice_get (parts_of v) lane ≡ Some p)).
        ap (map note_of) (sym (its_own lane t.0 t.1)) ∙ sym (log_at (parts_of v) lane t.0 t.1))
        (λ (past : many ≤ lane). ap (map note_of) (none_past many lane order.made past laned)
        ∙ sym (log_past (parts_of v) lane past))
        (there_or (parts_of v) lane);
    fits = λ before after x is.
        let c = cut_steps order.made before after x is in
        let k = at_cut (λ (y : Made). IsKnown y.entry) c.front c.back c.here
        (subst (All (λ (y : Made). IsKnown y.entry)) c.cut known) in
        let fit = fits_alike c.front k.1 c.here.entry k.0 (order.fits c.front c.back c.here c.cut) in
        let fronts = c.fronts in let same = c.is in
        subst (λ (y : List Step × Step). Fits y.0 y.1.note) (λ i. (fronts i, same i)) fit;
  }
