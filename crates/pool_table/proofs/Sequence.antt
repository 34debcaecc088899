-- The one order of all steps, after each kind of change of the views.
use Rattle.std.proofs.Common.{◌≡◌, ◌≢◌, ⊎_elim, ℕ, ◌+◌, List, [], ◌∷◌, ◌++◌, set, Bool, true, false, cond, eqb, sym, refl, ap, ◌∙◌, subst, arith, append-nil, eq-eqb, true≢false}
use Rattle.std.specs.Prelude.{Option, Some, None, All, sum_by}
use Rattle.std.proofs.lemmas.Bool.Decides.{eqb_tells}
use Rattle.std.proofs.lemmas.List.Elements.{All-cons, All-head, All-tail, All-weaker, All-nil}
use Rattle.std.proofs.lemmas.List.Sums.{sum_by-cons, sum_by_push}
use mathlib.Core.Option.{some}
use lib.ListN.{get_elem?}
use Rattle.step_law.proofs.Changes.{each_at, each_set, sum_set}
use Rattle.pool_law.specs.declared.run.Shape.{Shape}
use Rattle.pool_table.specs.declared.views.Entry.{Entry}
use Rattle.pool_table.specs.declared.views.Part.{Part}
use Rattle.pool_table.specs.declared.views.SeatView.{SeatView}
use Rattle.pool_table.specs.Views.{parts_of, is_lane, empty_part}
use Rattle.pool_table.specs.Counts.{weigh}
use Rattle.pool_table.specs.Sequence.{Made, entries_by, Fits, AllFit, HasItsOwn, AreInOneOrder}
use Rattle.pool_table.proofs.Lists.{cut_last, none_cut, all_two}
use Rattle.pool_table.proofs.Order.{longer}

entries_push : (m : ℕ) (made : List Made) (x : Made)
    → entries_by m (made ++ x ∷ []) ≡ entries_by m made ++ cond (is_lane m x.lane) (x.entry ∷ []) []
entries_push m [] x = refl
entries_push m (y ∷ ys) x = one (is_lane m y.lane) (entries_push m ys x)
  where
    one : (b : Bool) → entries_by m (ys ++ x ∷ []) ≡ entries_by m ys ++ cond (is_lane m x.lane) (x.entry ∷ []) []
        → cond b (y.entry ∷ entries_by m (ys ++ x ∷ [])) (entries_by m (ys ++ x ∷ []))
        ≡ cond b (y.entry ∷ entries_by m ys) (entries_by m ys) ++ cond (is_lane m x.lane) (x.entry ∷ []) []
    one true e = ap (λ (l : List Entry). y.entry ∷ l) e
    one false e = e

-- a step of another part
entries_skip : (m : ℕ) (made : List Made) (x : Made) → is_lane m x.lane ≡ false
    → entries_by m (made ++ x ∷ []) ≡ entries_by m made
entries_skip m made x e =
    entries_push m made x ∙ (ap (λ (b : Bool). entries_by m made ++ cond b (x.entry ∷ []) []) e
    ∙ append-nil (entries_by m made))

-- a step of this part
entries_take : (m : ℕ) (made : List Made) (x : Made) → is_lane m x.lane ≡ true
    → entries_by m (made ++ x ∷ []) ≡ entries_by m made ++ x.entry ∷ []
entries_take m made x e = entries_push m made x ∙ ap (λ (b : Bool). entries_by m made ++ cond b (x.entry ∷ []) []) e

pub is_its : (m : ℕ) (l : Option ℕ) → l ≡ Some m → is_lane m l ≡ true
is_its m l e = subst (λ (x : Option ℕ). is_lane m x ≡ true) (sym e) (eq-eqb m m refl)

apart_from : (m : ℕ) (l r : Option ℕ) → (l ≡ Some m → is_lane m r ≡ false) → r ≡ Some m → is_lane m l ≡ false
apart_from m None r apart e = refl
apart_from m (Some k) r apart e = ⊎_elim
    (λ (t : (eqb k m ≡ true) × (k ≡ m)). absurd (true≢false (sym (is_its m r e) ∙ apart (ap Some t.1))))
    (λ (t : (eqb k m ≡ false) × (k ≢ m)). t.0)
    (eqb_tells k m)

-- a part with another number, and the part that made the step
pub keeps_own : (made : List Made) (lane : Option ℕ) (e : Entry) (q : Part)
    → ((m : ℕ) → lane ≡ Some m → is_lane m q.number ≡ false) → HasItsOwn made q
    → HasItsOwn (made ++ record { lane = lane; entry = e } ∷ []) q
keeps_own made lane e q apart has m is =
    has m is ∙ sym (entries_skip m made (record { lane = lane; entry = e }) (apart_from m lane q.number (apart m) is))

pub grows_own : (made : List Made) (e : Entry) (q : Part) → HasItsOwn made q
    → HasItsOwn (made ++ record { lane = q.number; entry = e } ∷ []) (longer q e)
grows_own made e q has m is =
    ap (λ (l : List Entry). l ++ e ∷ []) (has m is)
    ∙ sym (entries_take m made (record { lane = q.number; entry = e }) (is_its m q.number is))

-- one step more fits
pub fit_push : (s : Shape) (made : List Made) (x : Made) → AllFit s made → Fits s made x.entry
    → AllFit s (made ++ x ∷ [])
fit_push s made x all fit before after y is = ⊎_elim
    (λ (w : (made ≡ before) × (x ≡ y) × (after ≡ [])). subst (λ (z : List Made × Made). Fits s z.0 z.1.entry)
    (λ i. (w.0 i, w.1 i)) fit)
    (λ (w : (rest : List Made) × (after ≡ rest ++ x ∷ []) × (made ≡ before ++ y ∷ rest)). all before w.0 y w.2)
    (cut_last made before after x y is)

-- no other part has the number of the part that makes the step
abbrev pub IsAlone : List SeatView → ℕ → SeatView → Type 0
IsAlone views id v = (m : ℕ) → v.own.number ≡ Some m →
    All (λ (q : Part). is_lane m q.number ≡ false) v.others
    × ((j : ℕ) (u : SeatView) → j ≢ id → get_elem? views j ≡ some u
    → All (λ (q : Part). is_lane m q.number ≡ false) (parts_of u))

pub weigh_longer : (f : Entry → ℕ) (v w : SeatView) (e : Entry) → parts_of w ≡ longer v.own e ∷ v.others
    → weigh f w ≡ weigh f v + f e
weigh_longer f v w e grows =
    let g : Part → ℕ = λ (p : Part). sum_by f p.notes in
    let z : weigh f w ≡ sum_by g (longer v.own e ∷ v.others) = ap (λ (ps : List Part). sum_by g ps) grows in
    let a : sum_by g (longer v.own e ∷ v.others) ≡ g (longer v.own e) + sum_by g v.others =
    sum_by-cons g (longer v.own e) v.others in
    let b : weigh f v ≡ g v.own + sum_by g v.others = sum_by-cons g v.own v.others in
    let c : g (longer v.own e) ≡ g v.own + f e = sum_by_push f v.own.notes e in omega (arith, z, a, b, c)

-- the order with one step more, by the part of the view that has one entry more
unfoldable pub one_more : (s : Shape) (views : List SeatView) (id : ℕ) (v w : SeatView) (e : Entry)
    → get_elem? views id ≡ some v → parts_of w ≡ longer v.own e ∷ v.others → IsAlone views id v →
    (k : AreInOneOrder s views) → Fits s k.made e → AreInOneOrder s (set views id w)
one_more s views id v w e at grows alone k fit =
    let x : Made = record { lane = v.own.number; entry = e } in let after : List Made = k.made ++ x ∷ [] in
    let Q : SeatView → Type 0 = λ (u : SeatView). All (HasItsOwn k.made) (parts_of u) in
    let R : SeatView → Type 0 = λ (u : SeatView). All (HasItsOwn after) (parts_of u) in
    let here : Q v = each_at Q views id v k.parts at in
    let F : Part → Type 0 = λ (q : Part). (m : ℕ) → v.own.number ≡ Some m → is_lane m q.number ≡ false in
    let others : All F v.others = (λ i d lt m own. (alone m own).0 i d lt) in
    let mine : All (HasItsOwn after) v.others = all_two (HasItsOwn k.made) F (HasItsOwn after)
    (λ q has apart. keeps_own k.made v.own.number e q apart has) v.others
    (All-tail (HasItsOwn k.made) v.own v.others here) others in
    record {
      made = after;
      each =
          λ f. let a =
          sum_set (weigh f) views id v w at in let b =
          weigh_longer f v w e grows in let c =
          k.each f in let d = sum_by_push (λ (y : Made). f y.entry) k.made x in omega (arith, a, b, c, d);
      parts = each_set Q R views id w k.parts
          (λ j u ne there has. all_two (HasItsOwn k.made) F (HasItsOwn after)
          (λ q has apart. keeps_own k.made v.own.number e q apart has) (parts_of u) has
          (λ i d lt m own. (alone m own).1 j u ne there i d lt))
          (subst (λ (ps : List Part). All (HasItsOwn after) ps) (sym grows)
          (All-cons (HasItsOwn after) (longer v.own e) v.others
          (grows_own k.made e v.own (All-head (HasItsOwn k.made) v.own v.others here)) mine));
      fits = fit_push s k.made x k.fits fit;
    }

-- a view with the same parts
unfoldable pub one_same : (s : Shape) (views : List SeatView) (id : ℕ) (v w : SeatView) → get_elem? views id ≡ some v
    → parts_of w ≡ parts_of v → AreInOneOrder s views → AreInOneOrder s (set views id w)
one_same s views id v w at same k =
    let Q : SeatView → Type 0 = λ (u : SeatView). All (HasItsOwn k.made) (parts_of u) in record {
      made = k.made;
      each =
          λ f. let a =
          sum_set (weigh f) views id v w at in let b : weigh f w
          ≡ weigh f v =
          ap (λ (ps : List Part). sum_by (λ (p : Part). sum_by f p.notes) ps) same in let c =
          k.each f in omega (arith, a, b, c);
      parts =
          each_set Q Q views id w k.parts (λ j u ne there has. has)
          (subst (λ (ps : List Part). All (HasItsOwn k.made) ps) (sym same) (each_at Q views id v k.parts at));
      fits = k.fits;
    }

-- any change of views under which each part is one that was there, or is empty and has no number,
-- and nothing weighs more or less
unfoldable pub one_regroups : (s : Shape) (views after : List SeatView)
    → ((f : Entry → ℕ) → sum_by (weigh f) after ≡ sum_by (weigh f) views) →
    ((P : Part → Type 0) → P (empty_part None) → All (λ (u : SeatView). All P (parts_of u)) views
    → All (λ (u : SeatView). All P (parts_of u)) after) →
    AreInOneOrder s views → AreInOneOrder s after
one_regroups s views after same regroups k = record {
  made = k.made;
  each = λ f. same f ∙ k.each f;
  parts = regroups (HasItsOwn k.made) (λ m is. absurd (cc is)) k.parts;
  fits = k.fits;
}

-- the view of a table as it is made
unfoldable pub one_opens : (s : Shape) (v : SeatView) → ((f : Entry → ℕ) → sum_by (weigh f) (v ∷ []) ≡ 0)
    → All (λ (q : Part). q.notes ≡ []) (parts_of v) → AreInOneOrder s (v ∷ [])
one_opens s v none all = record {
  made = [];
  each = none;
  parts =
      All-cons (λ (u : SeatView). All (HasItsOwn []) (parts_of u)) v []
      (All-weaker (λ (q : Part). q.notes ≡ []) (HasItsOwn []) (λ q e m is. e) (parts_of v) all)
      (All-nil (λ (u : SeatView). All (HasItsOwn []) (parts_of u)));
  fits = λ before after x is. none_cut before after x is;
}
