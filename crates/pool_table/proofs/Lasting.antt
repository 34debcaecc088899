-- What each entry tells lasts where no sum over all entries falls: after each kind of change of the views.
use Rattle.std.proofs.Common.{◌≡◌, ℕ, ◌+◌, ◌≤◌, List, [], ◌∷◌, set, sym, ap, subst, arith}
use Rattle.std.specs.Prelude.{All, sum_by}
use Rattle.std.proofs.lemmas.List.Elements.{All-cons, All-head, All-tail, All-push, All-set, All-weaker, All-nil}
use Rattle.std.proofs.lemmas.List.Sums.{sum_by-cons, sum_by_push}
use mathlib.Core.Option.{some}
use lib.ListN.{get_elem?}
use Rattle.step_law.proofs.Changes.{each_at, sum_set}
use Rattle.pool_table.specs.declared.views.Entry.{Entry}
use Rattle.pool_table.specs.declared.views.Part.{Part}
use Rattle.pool_table.specs.declared.views.SeatView.{SeatView}
use Rattle.pool_table.specs.Views.{parts_of}
use Rattle.pool_table.specs.Counts.{weigh, weigh_in}
use Rattle.pool_table.proofs.Order.{longer, HasNone}

-- no sum falls
abbrev pub Grows : List SeatView → List SeatView → Type 0
Grows views after = (f : Entry → ℕ) → sum_by (weigh f) views ≤ sum_by (weigh f) after

-- no sum falls where a view has one entry more, and that entry is in all sums
module _ (views : List SeatView) (id : ℕ) (v w : SeatView) (e : Entry) (at : get_elem? views id ≡ some v)
    (longer_by : parts_of w ≡ longer v.own e ∷ v.others) where
  one_more : (f : Entry → ℕ) → sum_by (weigh f) (set views id w) ≡ sum_by (weigh f) views + f e
  one_more f =
      let h : Part → ℕ = λ (q : Part). sum_by f q.notes in
      let a = sum_set (weigh f) views id v w at in
      let b : weigh f w ≡ weigh_in f (longer v.own e ∷ v.others) = ap (λ (ps : List Part). weigh_in f ps) longer_by in
      let c = sum_by-cons h (longer v.own e) v.others in let d = sum_by-cons h v.own v.others in let s =
      sum_by_push f v.own.notes e in
      let x : ℕ = sum_by (weigh f) (set views id w) in let y : ℕ = sum_by (weigh f) views in let wv : ℕ = weigh f v in
      let ww : ℕ = weigh f w in
      let a' : x + wv ≡ y + ww = a in let g : x ≡ y + f e = omega (arith, a', b, c, d, s) in g

  pub entry_grows : Grows views (set views id w)
  entry_grows f = let a = one_more f in omega (arith, a)

  pub entry_counts : (f : Entry → ℕ) → f e ≤ sum_by (weigh f) (set views id w)
  entry_counts f = let a = one_more f in omega (arith, a)

-- a fact of entries that lasts
module _ (Told : List SeatView → Entry → Type 0)
    (lasts : (views after : List SeatView) → Grows views after → (e : Entry) → Told views e → Told after e) where
  abbrev InPart : List SeatView → Part → Type 0
  InPart views q = All (Told views) q.notes

  abbrev InView : List SeatView → SeatView → Type 0
  InView views v = All (InPart views) (parts_of v)

  abbrev pub AllTold : List SeatView → Type 0
  AllTold views = All (InView views) views

  in_part : (views after : List SeatView) → Grows views after → (q : Part) → InPart views q → InPart after q
  in_part views after grows q all = All-weaker (Told views) (Told after) (lasts views after grows) q.notes all

  in_view : (views after : List SeatView) → Grows views after → (v : SeatView) → InView views v → InView after v
  in_view views after grows v all =
      All-weaker (InPart views) (InPart after) (in_part views after grows) (parts_of v) all

  in_none : (views : List SeatView) (q : Part) → q.notes ≡ [] → InPart views q
  in_none views q none_of = subst (λ (es : List Entry). All (Told views) es) (sym none_of) (All-nil (Told views))

  -- a view with the same parts
  pub told_same : (views : List SeatView) (id : ℕ) (v w : SeatView) → get_elem? views id ≡ some v
      → parts_of w ≡ parts_of v → AllTold views → AllTold (set views id w)
  told_same views id v w at same all =
      let after : List SeatView = set views id w in
      let grows : Grows views after =
      (λ f. let a = sum_set (weigh f) views id v w at in let b : weigh f w
      ≡ weigh f v = ap (λ (ps : List Part). weigh_in f ps) same in omega (arith, a, b)) in
      All-set (InView after) views id w
      (subst (λ (ps : List Part). All (InPart after) ps) (sym same)
      (in_view views after grows v (each_at (InView views) views id v all at)))
      (All-weaker (InView views) (InView after) (in_view views after grows) views all)

  -- a view whose own part has one entry more
  pub told_entry : (views : List SeatView) (id : ℕ) (v w : SeatView) (e : Entry) → get_elem? views id ≡ some v
      → parts_of w ≡ longer v.own e ∷ v.others → Told (set views id w) e → AllTold views → AllTold (set views id w)
  told_entry views id v w e at longer_by now all =
      let after : List SeatView = set views id w in
      let grows : Grows views after = entry_grows views id v w e at longer_by in
      let here = in_view views after grows v (each_at (InView views) views id v all at) in
      All-set (InView after) views id w
      (subst (λ (ps : List Part). All (InPart after) ps) (sym longer_by)
      (All-cons (InPart after) (longer v.own e) v.others
      (All-push (Told after) v.own.notes e (All-head (InPart after) v.own v.others here) now)
      (All-tail (InPart after) v.own v.others here)))
      (All-weaker (InView views) (InView after) (in_view views after grows) views all)

  -- views among which the parts are put anew, with parts without notes
  pub told_regroups : (views after : List SeatView)
      → ((f : Entry → ℕ) → sum_by (weigh f) after ≡ sum_by (weigh f) views) →
      ((P : Part → Type 0) → ((q : Part) → q.notes ≡ [] → P q) → All (λ (u : SeatView). All P (parts_of u)) views
      → All (λ (u : SeatView). All P (parts_of u)) after) →
      AllTold views → AllTold after
  told_regroups views after same regroups all =
      let grows : Grows views after = (λ f. let a = same f in omega (arith, a)) in
      regroups (InPart after) (in_none after)
      (All-weaker (InView views) (InView after) (in_view views after grows) views all)

  pub told_opens : (v : SeatView) → HasNone v → AllTold (v ∷ [])
  told_opens v none_of =
      All-cons (InView (v ∷ [])) v []
      (All-weaker (λ (p : Part). p.notes ≡ []) (InPart (v ∷ [])) (in_none (v ∷ [])) (parts_of v) none_of)
      (All-nil (InView (v ∷ [])))
