-- The order of notes across parts, after each kind of change of a view.
use Rattle.std.proofs.Common.{◌≡◌, ⊎_elim, ℕ, ◌<◌, List, [], ◌∷◌, ◌++◌, set, sym, refl, ◌∙◌, subst, arith}
use Rattle.std.specs.Prelude.{All, IsTrue}
use Rattle.std.proofs.lemmas.List.Elements.{All-cons, All-head, All-tail, All-push, All-set, All-weaker, All-nil}
use mathlib.Core.Option.{some}
use lib.ListN.{get_elem?}
use Rattle.step_law.proofs.Changes.{each_at}
use Rattle.pool_law.specs.Logs.{has_history}
use Rattle.pool_table.specs.declared.views.Entry.{Entry}
use Rattle.pool_table.specs.declared.views.Entry.TheVariants.{At}
use Rattle.pool_table.specs.declared.views.Part.{Part}
use Rattle.pool_table.specs.declared.views.SeatView.{SeatView}
use Rattle.pool_table.specs.Views.{parts_of}
use Rattle.pool_table.specs.Order.{IsBelow, IsInOrder, IsInOrderWith, AreInOrder}
use Rattle.pool_table.proofs.Lists.{cut_last, none_cut, at_cut, all_two}

-- all notes of the part are below the entry
abbrev pub IsBelowAll : Entry → Part → Type 0
IsBelowAll e q = All (λ (y : Entry). IsBelow y e) q.notes

-- and those of all parts of all views
abbrev pub IsNewest : Entry → List SeatView → Type 0
IsNewest e views = All (λ (v : SeatView). All (IsBelowAll e) (parts_of v)) views

-- a part with one entry more
abbrev pub longer : Part → Entry → Part
longer q e = record { number = q.number; notes = q.notes ++ e ∷ [] }

-- a part is in order with a part that has one entry more, the newest
with_longer : (q p : Part) (e : Entry) → IsBelowAll e q → IsInOrder q p → IsInOrder q (longer p e)
with_longer q p e new old before after early late o j k m n has is where_is lt =
    ⊎_elim
    (λ (w : (p.notes ≡ early) × (e ≡ At o j m) × (late ≡ [])).
    let here = (at_cut (λ (y : Entry). IsBelow y e) before after (At o k n)
    (subst (λ (l : List Entry). All (λ (y : Entry). IsBelow y e) l) is new)).0 in
    let there : IsTrue (has_history o) → o ≡ o → k < j = subst (λ (x : Entry). IsBelow (At o k n) x) w.1 here in
    let more : k < j = there has refl in absurd (omega (arith, lt, more)))
    (λ (w : (rest : List Entry) × (late ≡ rest ++ e ∷ []) × (p.notes ≡ early ++ At o j m ∷ rest)).
    old before after early w.0 o j k m n has is w.2 lt)
    (cut_last p.notes early late e (At o j m) where_is)

-- a part with one entry more, the newest, is in order with a part
longer_with : (q p : Part) (e : Entry) →
    ((early late : List Entry) (x : Entry) → p.notes ≡ early ++ x ∷ late → All (λ (y : Entry). IsBelow y e) early)
    → IsInOrder q p → IsInOrder (longer q e) p
longer_with q p e new old before after early late o j k m n has is where_is lt =
    ⊎_elim
    (λ (w : (q.notes ≡ before) × (e ≡ At o k n) × (after ≡ [])).
    subst (λ (l : List Entry). All (λ (y : Entry). All (IsBelow y) l) early) (sym w.2) (nothing early))
    (λ (w : (rest : List Entry) × (after ≡ rest ++ e ∷ []) × (q.notes ≡ before ++ At o k n ∷ rest)).
    subst (λ (l : List Entry). All (λ (y : Entry). All (IsBelow y) l) early) (sym w.1)
    (all_two (λ (y : Entry). All (IsBelow y) w.0) (λ (y : Entry). IsBelow y e)
    (λ (y : Entry). All (IsBelow y) (w.0 ++ e ∷ []))
    (λ y all new. All-push (IsBelow y) w.0 e all new) early (old before w.0 early late o j k m n has w.2 where_is lt)
    (new early late (At o j m) where_is)))
    (cut_last q.notes before after e (At o k n) is)
  where
    nothing : (early : List Entry) → All (λ (y : Entry). All (IsBelow y) []) early
    nothing [] = All-nil (λ (y : Entry). All (IsBelow y) [])
    nothing (y ∷ ys) = All-cons (λ (y : Entry). All (IsBelow y) []) y ys (All-nil (IsBelow y)) (nothing ys)

-- before the last entry all is as it was
below_longer : (q : Part) (e : Entry) → IsBelowAll e q → (early late : List Entry) (x : Entry)
    → (longer q e).notes ≡ early ++ x ∷ late → All (λ (y : Entry). IsBelow y e) early
below_longer q e new early late x is =
    ⊎_elim
    (λ (w : (q.notes ≡ early) × (e ≡ x) × (late ≡ [])). subst (λ (l : List Entry). All (λ (y : Entry). IsBelow y e) l)
    w.0 new)
    (λ (w : (rest : List Entry) × (late ≡ rest ++ e ∷ []) × (q.notes ≡ early ++ x ∷ rest)).
    (at_cut (λ (y : Entry). IsBelow y e) early w.0 x
    (subst (λ (l : List Entry). All (λ (y : Entry). IsBelow y e) l) w.2 new)).1)
    (cut_last q.notes early late e x is)

below_part : (p : Part) (e : Entry) → IsBelowAll e p → (early late : List Entry) (x : Entry)
    → p.notes ≡ early ++ x ∷ late → All (λ (y : Entry). IsBelow y e) early
below_part p e new early late x is =
    (at_cut (λ (y : Entry). IsBelow y e) early late x
    (subst (λ (l : List Entry). All (λ (y : Entry). IsBelow y e) l) is new)).1

-- an entry that is no note is above all and below all
pub newest : (e : Entry) → ((y : Entry) → IsBelow y e) → (views : List SeatView) → IsNewest e views
newest e free views = each views
  where
    notes : (es : List Entry) → All (λ (y : Entry). IsBelow y e) es
    notes [] = All-nil (λ (y : Entry). IsBelow y e)
    notes (y ∷ ys) = All-cons (λ (y : Entry). IsBelow y e) y ys (free y) (notes ys)

    parts : (ps : List Part) → All (IsBelowAll e) ps
    parts [] = All-nil (IsBelowAll e)
    parts (p ∷ ps) = All-cons (IsBelowAll e) p ps (notes p.notes) (parts ps)

    each : (vs : List SeatView) → IsNewest e vs
    each [] = All-nil (λ (v : SeatView). All (IsBelowAll e) (parts_of v))
    each (v ∷ vs) = All-cons (λ (v : SeatView). All (IsBelowAll e) (parts_of v)) v vs (parts (parts_of v)) (each vs)

-- a view with the same parts
pub order_same : (views : List SeatView) (id : ℕ) (v w : SeatView) → get_elem? views id ≡ some v
    → parts_of w ≡ parts_of v → AreInOrder views → AreInOrder (set views id w)
order_same views id v w at same all =
    let here = each_at (λ (u : SeatView). All (IsInOrderWith views) (parts_of u)) views id v all at in
    let one : (q : Part) → IsInOrderWith views q → IsInOrderWith (set views id w) q = (λ q with_all.
    All-set (λ (u : SeatView). All (IsInOrder q) (parts_of u)) views id w
    (subst (λ (ps : List Part). All (IsInOrder q) ps) (sym same)
    (each_at (λ (u : SeatView). All (IsInOrder q) (parts_of u)) views id v with_all at)) with_all) in
    let each : (u : SeatView) → All (IsInOrderWith views) (parts_of u)
    → All (IsInOrderWith (set views id w)) (parts_of u) =
    (λ u. All-weaker (IsInOrderWith views) (IsInOrderWith (set views id w)) one (parts_of u)) in
    All-set (λ (u : SeatView). All (IsInOrderWith (set views id w)) (parts_of u)) views id w
    (subst (λ (ps : List Part). All (IsInOrderWith (set views id w)) ps) (sym same) (each v here))
    (All-weaker (λ (u : SeatView). All (IsInOrderWith views) (parts_of u))
    (λ (u : SeatView). All (IsInOrderWith (set views id w)) (parts_of u)) each views all)

-- a view whose own part has one entry more, the newest
pub order_entry : (views : List SeatView) (id : ℕ) (v w : SeatView) (e : Entry) → get_elem? views id ≡ some v
    → parts_of w ≡ longer v.own e ∷ v.others → IsNewest e views → AreInOrder views → AreInOrder (set views id w)
order_entry views id v w e at grows new all =
    let after : List SeatView = set views id w in
    let P : SeatView → Type 0 = λ (u : SeatView). All (IsInOrderWith views) (parts_of u) in
    let N : SeatView → Type 0 = λ (u : SeatView). All (IsBelowAll e) (parts_of u) in
    let here : P v = each_at P views id v all at in let fresh : N v = each_at N views id v new at in
    let own_all : IsInOrderWith views v.own = All-head (IsInOrderWith views) v.own v.others here in
    -- an old part with all new ones
    let one : (q : Part) → IsBelowAll e q → IsInOrderWith views q → IsInOrderWith after q = (λ q low with_all.
    let mine = each_at (λ (u : SeatView). All (IsInOrder q) (parts_of u)) views id v with_all at in
    All-set (λ (u : SeatView). All (IsInOrder q) (parts_of u)) views id w
    (subst (λ (ps : List Part). All (IsInOrder q) ps) (sym grows)
    (All-cons (IsInOrder q) (longer v.own e) v.others
    (with_longer q v.own e low (All-head (IsInOrder q) v.own v.others mine))
    (All-tail (IsInOrder q) v.own v.others mine)))
    with_all) in
    let each : (u : SeatView) → P u → N u → All (IsInOrderWith after) (parts_of u) = (λ u p n.
    all_two (IsInOrderWith views) (IsBelowAll e) (IsInOrderWith after) (λ q r low. one q low r) (parts_of u) p n) in
    -- the new part with all old ones
    let mine = each_at (λ (u : SeatView). All (IsInOrder v.own) (parts_of u)) views id v own_all at in
    let low : IsBelowAll e v.own = All-head (IsBelowAll e) v.own v.others fresh in
    let with_old : (u : SeatView) → All (IsInOrder v.own) (parts_of u) → N u
    → All (IsInOrder (longer v.own e)) (parts_of u) = (λ u p n.
    all_two (IsInOrder v.own) (IsBelowAll e) (IsInOrder (longer v.own e))
    (λ p r b. longer_with v.own p e (below_part p e b) r) (parts_of u) p n) in
    let new_all : IsInOrderWith after (longer v.own e) =
    All-set (λ (u : SeatView). All (IsInOrder (longer v.own e)) (parts_of u)) views id w
    (subst (λ (ps : List Part). All (IsInOrder (longer v.own e)) ps) (sym grows)
    (All-cons (IsInOrder (longer v.own e)) (longer v.own e) v.others
    (longer_with v.own (longer v.own e) e (below_longer v.own e low)
    (with_longer v.own v.own e low (All-head (IsInOrder v.own) v.own v.others mine)))
    (All-tail (IsInOrder (longer v.own e)) v.own v.others (with_old v mine fresh))))
    (all_two (λ (u : SeatView). All (IsInOrder v.own) (parts_of u)) N
    (λ (u : SeatView). All (IsInOrder (longer v.own e)) (parts_of u)) with_old views own_all new) in
    All-set (λ (u : SeatView). All (IsInOrderWith after) (parts_of u)) views id w
    (subst (λ (ps : List Part). All (IsInOrderWith after) ps) (sym grows)
    (All-cons (IsInOrderWith after) (longer v.own e) v.others new_all
    (All-tail (IsInOrderWith after) v.own v.others (each v here fresh))))
    (all_two P N (λ (u : SeatView). All (IsInOrderWith after) (parts_of u)) each views all new)

-- the empty part is in order with every part, and every part with it
empty_in : (q p : Part) → q.notes ≡ [] → IsInOrder q p
empty_in q p none_of before after early late o j k m n has is where_is lt =
    none_cut before after (At o k n) (sym none_of ∙ is)

in_empty : (q p : Part) → p.notes ≡ [] → IsInOrder q p
in_empty q p none_of before after early late o j k m n has is where_is lt =
    none_cut early late (At o j m) (sym none_of ∙ where_is)

abbrev pub HasNone : SeatView → Type 0
HasNone v = All (λ (p : Part). p.notes ≡ []) (parts_of v)

with_view : (q : Part) (ps : List Part) → q.notes ≡ [] → All (IsInOrder q) ps
with_view q [] e = All-nil (IsInOrder q)
with_view q (p ∷ ps) e = All-cons (IsInOrder q) p ps (empty_in q p e) (with_view q ps e)

with_views : (q : Part) (vs : List SeatView) → q.notes ≡ [] → IsInOrderWith vs q
with_views q [] e = All-nil (λ (v : SeatView). All (IsInOrder q) (parts_of v))
with_views q (v ∷ vs) e =
    All-cons (λ (v : SeatView). All (IsInOrder q) (parts_of v)) v vs (with_view q (parts_of v) e) (with_views q vs e)

-- views without notes
pub empty_with : (vs : List SeatView) (v : SeatView) → HasNone v → All (IsInOrderWith vs) (parts_of v)
empty_with vs v none_of =
    All-weaker (λ (p : Part). p.notes ≡ []) (IsInOrderWith vs) (λ p e. with_views p vs e) (parts_of v) none_of

pub order_opens : (v : SeatView) → HasNone v → AreInOrder (v ∷ [])
order_opens v none_of =
    All-cons (λ (u : SeatView). All (IsInOrderWith (v ∷ [])) (parts_of u)) v [] (empty_with (v ∷ []) v none_of)
    (All-nil (λ (u : SeatView). All (IsInOrderWith (v ∷ [])) (parts_of u)))

-- any change of views under which each part is one that was there, or has no notes
pub order_regroups : (views after : List SeatView)
    → ((P : Part → Type 0) → ((q : Part) → q.notes ≡ [] → P q) → All (λ (u : SeatView). All P (parts_of u)) views
    → All (λ (u : SeatView). All P (parts_of u)) after) →
    AreInOrder views → AreInOrder after
order_regroups views after regroups all =
    regroups (IsInOrderWith after) (λ q e. with_views q after e)
    (All-weaker (λ (u : SeatView). All (IsInOrderWith views) (parts_of u))
    (λ (u : SeatView). All (IsInOrderWith after) (parts_of u))
    (λ u. All-weaker (IsInOrderWith views) (IsInOrderWith after)
    (λ q r. regroups (IsInOrder q) (λ p e. in_empty q p e) r) (parts_of u)) views all)
