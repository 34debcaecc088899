-- That who bore a root and posted it to nobody is the only one to name it, after each kind of change of the views.
use Rattle.std.proofs.Common.{◌≡◌, ◌≢◌, ◌⊎◌, ℕ, zero, suc, ◌+◌, ◌<◌, ◌≤◌, Bool, true, false, cond, List, [], ◌∷◌, ◌++◌, set, sym, refl, ap, ◌∙◌, subst, inl, ⊎_elim, arith}
use Rattle.std.specs.Prelude.{sum_by}
use Rattle.std.proofs.lemmas.List.Elements.{All-cons, All-nil, All-push, All-set, All-weaker}
use Rattle.std.proofs.lemmas.List.Sums.{sum_by-cons, sum_by_push, sum_by-le-sum_by}
use mathlib.Core.Logic.{dite}
use native.Mathlib.Decide.{ℕ_discrete}
use mathlib.Core.Option.{some, some-injective, some-ne-none}
use lib.ListN.{get_elem?}
use Rattle.step_law.proofs.Changes.{each_at, each_set, sum_set, sum_same, sum_at, sum_two}
use Rattle.pool_law.specs.declared.id.RootId.{RootId}
use Rattle.pool_law.specs.declared.note.RefDid.{RefDid}
use Rattle.pool_law.specs.declared.note.RefDid.TheVariants.{Born, Retain, Kept, Ended, Vacated, Look}
use Rattle.pool_law.specs.Same.{same_root}
use Rattle.history_laws.specs.NoteCounts.{one_if_so}
use Rattle.pool_table.specs.declared.views.Entry.{Entry}
use Rattle.pool_table.specs.declared.views.Entry.TheVariants.{At, Ref, Busy}
use Rattle.pool_table.specs.declared.views.Part.{Part}
use Rattle.pool_table.specs.declared.views.SeatView.{SeatView}
use Rattle.pool_table.specs.Views.{parts_of}
use Rattle.pool_table.specs.Counts.{weigh, weigh_in, on_this, ref_gain, ref_ended, fetches, posts, lost_of, HasCount, HasToken}
use Rattle.pool_table.specs.Lone.{births, names, IsLone, NamesAlone, AreLone}
use Rattle.pool_table.proofs.Order.{longer}
use Rattle.pool_table.proofs.RootEntries.{named_this}

-- ---- Sums.

-- of two weights, what the lesser one lacks of one element is lacking of all
pub slack : {A : Type 0} (f g : A → ℕ) (l : List A) (i : ℕ) (v : A) → ((x : A) → f x ≤ g x) → get_elem? l i ≡ some v
    → sum_by f l + g v ≤ sum_by g l + f v
slack f g [] i v le e = absurd (some-ne-none v (sym e))
slack f g (x ∷ xs) zero v le e =
    let a = sum_by-le-sum_by f g xs le in let b = ap f (some-injective x v e) in let c = ap g (some-injective x v e) in
    let d = sum_by-cons f x xs in let h = sum_by-cons g x xs in omega (arith, a, b, c, d, h)
slack f g (x ∷ xs) (suc i) v le e =
    let a = slack f g xs i v le e in let b = le x in let d = sum_by-cons f x xs in let h = sum_by-cons g x xs in
    omega (arith, a, b, d, h)

pub weigh_le : (f g : Entry → ℕ) → ((e : Entry) → f e ≤ g e) → (v : SeatView) → weigh f v ≤ weigh g v
weigh_le f g le v =
    sum_by-le-sum_by (λ (q : Part). sum_by f q.notes) (λ (q : Part). sum_by g q.notes) (parts_of v)
    (λ q. sum_by-le-sum_by f g q.notes le)

pub own_le : (f : Entry → ℕ) (v : SeatView) → sum_by f v.own.notes ≤ weigh f v
own_le f v =
    let a = sum_by-cons (λ (q : Part). sum_by f q.notes) v.own v.others in let x : ℕ = weigh f v in
    let a' : x ≡ sum_by f v.own.notes + sum_by (λ (q : Part). sum_by f q.notes) v.others = a in omega (arith, a')

pub own_slack : (f g : Entry → ℕ) (views : List SeatView) (id : ℕ) (v : SeatView) → ((e : Entry) → f e ≤ g e)
    → get_elem? views id ≡ some v
    → sum_by (weigh f) views + sum_by g v.own.notes ≤ sum_by (weigh g) views + sum_by f v.own.notes
own_slack f g views id v le at =
    let a = slack (weigh f) (weigh g) views id v (weigh_le f g le) at in
    let b = sum_by-cons (λ (q : Part). sum_by f q.notes) v.own v.others in
    let c = sum_by-cons (λ (q : Part). sum_by g q.notes) v.own v.others in
    let d = sum_by-le-sum_by (λ (q : Part). sum_by f q.notes) (λ (q : Part). sum_by g q.notes) v.others
    (λ q. sum_by-le-sum_by f g q.notes le) in
    let x : ℕ = sum_by (weigh f) views in let y : ℕ = sum_by (weigh g) views in
    let fv : ℕ = weigh f v in let gv : ℕ = weigh g v in
    let fo : ℕ = sum_by (λ (q : Part). sum_by f q.notes) v.others in
    let go : ℕ = sum_by (λ (q : Part). sum_by g q.notes) v.others in
    let a' : x + gv ≤ y + fv = a in let b' : fv ≡ sum_by f v.own.notes + fo = b in
    let c' : gv ≡ sum_by g v.own.notes + go = c in let d' : fo ≤ go = d in
    let g' : x + sum_by g v.own.notes ≤ y + sum_by f v.own.notes = omega (arith, a', b', c', d') in g'

-- ---- What names a root.

pub birth_names : (r : RootId) (e : Entry) → births r e ≤ names r e
birth_names r (At o k n) = omega arith
birth_names r (Ref q d) = omega arith
birth_names r (Busy b) = omega arith

pub post_names : (r : RootId) (e : Entry) → posts r e ≤ names r e
post_names r (At o k n) = omega arith
post_names r (Ref q d) = omega arith
post_names r (Busy b) = omega arith

-- a root that one view alone names is posted by none, and no other view names it
module _ (views : List SeatView) (id : ℕ) (v : SeatView) (r : RootId) (at : get_elem? views id ≡ some v)
    (lone : IsLone r v) (alone : NamesAlone views r v) where
  pub none_posted : sum_by (weigh (posts r)) views ≡ 0
  none_posted =
      let a = own_slack (posts r) (names r) views id v (post_names r) at in let z = lone.kept in
      let x : ℕ = sum_by (weigh (posts r)) views in let y : ℕ = sum_by (weigh (names r)) views in
      let a' : x + sum_by (names r) v.own.notes ≤ y + sum_by (posts r) v.own.notes = a in
      let e : y ≡ sum_by (names r) v.own.notes = alone in let g : x ≡ 0 = omega (arith, a', z, e) in g

  pub none_else : (j : ℕ) (u : SeatView) → id ≢ j → get_elem? views j ≡ some u → weigh (names r) u ≡ 0
  none_else j u ne bt =
      let a = sum_two (weigh (names r)) views id j v u ne at bt in let b = own_le (names r) v in
      let y : ℕ = sum_by (weigh (names r)) views in let nv : ℕ = weigh (names r) v in
      let nu : ℕ = weigh (names r) u in let a' : nv + nu ≤ y = a in let b' : sum_by (names r) v.own.notes ≤ nv = b in
      let e : y ≡ sum_by (names r) v.own.notes = alone in let g : nu ≡ 0 = omega (arith, a', b', e) in g

-- what weighs a step on the root's word by at most 1
step_names : (f : RefDid → ℕ) → ((d : RefDid) → f d ≤ 1) → (r : RootId) (e : Entry) → on_this f r e ≤ names r e
step_names f most r (At o k n) = omega arith
step_names f most r (Ref q d) = by (same_root q r)
  where
    by : (b : Bool) → cond {A = ℕ} b (f d) 0 ≤ one_if_so b
    by true = most d
    by false = omega arith
step_names f most r (Busy b) = omega arith

fetch_names : (r : RootId) (e : Entry) → fetches r e ≤ names r e
fetch_names r (At o k n) = omega arith
fetch_names r (Ref q d) = omega arith
fetch_names r (Busy b) = omega arith

gain_one : (d : RefDid) → ref_gain d ≤ 1
gain_one Born = omega arith
gain_one Retain = omega arith
gain_one Kept = omega arith
gain_one Ended = omega arith
gain_one Vacated = omega arith
gain_one (Look k) = omega arith

ended_one : (d : RefDid) → ref_ended d ≤ 1
ended_one Born = omega arith
ended_one Retain = omega arith
ended_one Kept = omega arith
ended_one Ended = omega arith
ended_one Vacated = omega arith
ended_one (Look k) = omega arith

-- a view that counts a root names it, and so does one with its end token or its birth
pub count_names : (r : RootId) (v : SeatView) → HasCount r v → 0 < weigh (names r) v
count_names r v has =
    let a = weigh_le (on_this ref_gain r) (names r) (step_names ref_gain gain_one r) v in
    let b = weigh_le (fetches r) (names r) (fetch_names r) v in
    let x : ℕ = weigh (names r) v in let g : ℕ = weigh (on_this ref_gain r) v in let h : ℕ = weigh (fetches r) v in
    let a' : g ≤ x = a in let b' : h ≤ x = b in let lost : ℕ = lost_of r v in let has' : lost < g + h = has in
    let goal : 0 < x = omega (arith, a', b', has') in goal

pub token_names : (r : RootId) (v : SeatView) → HasToken r v → 0 < weigh (names r) v
token_names r v has =
    let a = weigh_le (on_this ref_ended r) (names r) (step_names ref_ended ended_one r) v in
    let x : ℕ = weigh (names r) v in let a' : weigh (on_this ref_ended r) v ≤ x = a in
    let goal : 0 < x = omega (arith, a', has) in goal

pub bearer_names : (r : RootId) (v : SeatView) → 0 < weigh (births r) v → 0 < weigh (names r) v
bearer_names r v has =
    let a = weigh_le (births r) (names r) (birth_names r) v in
    let x : ℕ = weigh (names r) v in let a' : weigh (births r) v ≤ x = a in
    let goal : 0 < x = omega (arith, a', has) in goal

-- ---- Changes.

abbrev Alone : List SeatView → SeatView → Type 0
Alone views v = (r : RootId) → IsLone r v → NamesAlone views r v

-- what is known of one own part is known of it in another view, beside views with the same sums
as_own : (views after : List SeatView) → ((f : Entry → ℕ) → sum_by (weigh f) after ≡ sum_by (weigh f) views)
    → (v w : SeatView) → w.own ≡ v.own → Alone views v → Alone after w
as_own views after same v w own alone r lone =
    same (names r)
    ∙ (alone r (record {
      born = subst (λ (q : Part). 0 < sum_by (births r) q.notes) own lone.born;
      kept =
          subst (λ (q : Part). sum_by (posts r) q.notes ≡ 0) own lone.kept;
    }) ∙ sym (ap (λ (q : Part). sum_by (names r) q.notes) own))

-- an own part without notes bore no root
without : (after : List SeatView) (w : SeatView) → w.own.notes ≡ [] → Alone after w
without after w none r lone =
    let a = lone.born in let z : sum_by (births r) w.own.notes ≡ 0 = ap (λ (es : List Entry). sum_by (births r) es) none
    in absurd (omega (arith, a, z))

same_sums : (views : List SeatView) (id : ℕ) (v w : SeatView) → get_elem? views id ≡ some v → parts_of w ≡ parts_of v
    → (f : Entry → ℕ) → sum_by (weigh f) (set views id w) ≡ sum_by (weigh f) views
same_sums views id v w at same f =
    sum_same (weigh f) views id v w at (ap (λ (ps : List Part). weigh_in f ps) same)

abbrev first_own : List Part → Part → Part
first_own [] q = q
first_own (p ∷ ps) q = p

-- a view with the same parts
pub lone_same : (views : List SeatView) (id : ℕ) (v w : SeatView) → get_elem? views id ≡ some v
    → parts_of w ≡ parts_of v → AreLone views → AreLone (set views id w)
lone_same views id v w at same all =
    let after : List SeatView = set views id w in let sums = same_sums views id v w at same in
    each_set (Alone views) (Alone after) views id w all (λ j u ne bt known. as_own views after sums u u refl known)
    (as_own views after sums v w (ap (λ (ps : List Part). first_own ps v.own) same)
    (each_at (Alone views) views id v all at))

-- a view is cut in two, one of them with its own part, and the other with none
pub lone_cut : (views : List SeatView) (id : ℕ) (v left right : SeatView) → get_elem? views id ≡ some v
    → ((f : Entry → ℕ) → sum_by (weigh f) (set views id left ++ right ∷ []) ≡ sum_by (weigh f) views)
    → left.own ≡ v.own → right.own.notes ≡ [] → AreLone views → AreLone (set views id left ++ right ∷ [])
lone_cut views id v left right at same own none all =
    let after : List SeatView = set views id left ++ right ∷ [] in
    All-push (Alone after) (set views id left) right
    (All-set (Alone after) views id left (as_own views after same v left own (each_at (Alone views) views id v all at))
    (All-weaker (Alone views) (Alone after) (λ u known. as_own views after same u u refl known) views all))
    (without after right none)

-- two views become one with the own part of the first, and one with none
pub lone_joined : (views : List SeatView) (id other : ℕ) (v b z : SeatView) → get_elem? views id ≡ some v
    → ((f : Entry → ℕ) → sum_by (weigh f) (set (set views id b) other z) ≡ sum_by (weigh f) views)
    → b.own ≡ v.own → z.own.notes ≡ [] → AreLone views → AreLone (set (set views id b) other z)
lone_joined views id other v b z at same own none all =
    let after : List SeatView = set (set views id b) other z in
    All-set (Alone after) (set views id b) other z (without after z none)
    (All-set (Alone after) views id b (as_own views after same v b own (each_at (Alone views) views id v all at))
    (All-weaker (Alone views) (Alone after) (λ u known. as_own views after same u u refl known) views all))

-- a view whose own part has one entry more: a root that it bears is named by none so far, and else it names what its
-- view named, or what was posted
pub record MayName (views : List SeatView) (v : SeatView) (e : Entry) : Type 0 where
  pub fresh : (r : RootId) → 0 < births r e → sum_by (weigh (names r)) views ≡ 0
  pub known : (r : RootId) → births r e ≡ 0 → 0 < names r e
      → (0 < weigh (names r) v) ⊎ (0 < sum_by (weigh (posts r)) views)

pub lone_entry : (views : List SeatView) (id : ℕ) (v w : SeatView) (e : Entry) → get_elem? views id ≡ some v
    → parts_of w ≡ longer v.own e ∷ v.others → MayName views v e → AreLone views → AreLone (set views id w)
lone_entry views id v w e at longer_by may all =
    let after : List SeatView = set views id w in
    each_set (Alone views) (Alone after) views id w all others mine
  where
    own_is : w.own ≡ longer v.own e
    own_is = ap (λ (ps : List Part). first_own ps v.own) longer_by

    more : (f : Entry → ℕ) → sum_by f w.own.notes ≡ sum_by f v.own.notes + f e
    more f = ap (λ (q : Part). sum_by f q.notes) own_is ∙ sum_by_push f v.own.notes e

    grown : (f : Entry → ℕ) → sum_by (weigh f) (set views id w) ≡ sum_by (weigh f) views + f e
    grown f =
        let h : Part → ℕ = λ (q : Part). sum_by f q.notes in
        let a = sum_set (weigh f) views id v w at in
        let b : weigh f w ≡ weigh_in f (longer v.own e ∷ v.others) = ap (λ (ps : List Part). weigh_in f ps) longer_by in
        let c = sum_by-cons h (longer v.own e) v.others in let d = sum_by-cons h v.own v.others in
        let s = sum_by_push f v.own.notes e in
        let x : ℕ = sum_by (weigh f) (set views id w) in let y : ℕ = sum_by (weigh f) views in
        let wv : ℕ = weigh f v in let ww : ℕ = weigh f w in let a' : x + wv ≡ y + ww = a in
        let g : x ≡ y + f e = omega (arith, a', b, c, d, s) in g

    mine : Alone (set views id w) w
    mine r lone =
        let n = grown (names r) in let o = more (names r) in let b = more (births r) in let p = more (posts r) in
        let born = lone.born in let kept = lone.kept in
        let x : ℕ = sum_by (weigh (names r)) (set views id w) in let y : ℕ = sum_by (weigh (names r)) views in
        let n' : x ≡ y + names r e = n in
        let g : x ≡ sum_by (names r) w.own.notes =
        dite (ℕ_discrete (births r e) 0)
        (λ z. let was : y ≡ sum_by (names r) v.own.notes =
        each_at (Alone views) views id v all at r
        (record { born = omega (arith, b, born, z); kept = omega (arith, p, kept) }) in omega (arith, n', o, was))
        (λ ne. let zero_yet : y ≡ 0 = may.fresh r (omega (arith, ne)) in
        let low = own_le (names r) v in let up = sum_at (weigh (names r)) views id v at in
        let vn : ℕ = weigh (names r) v in let low' : sum_by (names r) v.own.notes ≤ vn = low in
        let up' : vn ≤ y = up in omega (arith, n', o, zero_yet, low', up')) in g

    others : (j : ℕ) (u : SeatView) → j ≢ id → get_elem? views j ≡ some u → Alone views u → Alone (set views id w) u
    others j u ne bt known r lone =
        let was : NamesAlone views r u = known r lone in
        let n = grown (names r) in
        let x : ℕ = sum_by (weigh (names r)) (set views id w) in let y : ℕ = sum_by (weigh (names r)) views in
        let n' : x ≡ y + names r e = n in let was' : y ≡ sum_by (names r) u.own.notes = was in
        let g : x ≡ sum_by (names r) u.own.notes =
        dite (ℕ_discrete (names r e) 0)
        (λ z. omega (arith, n', was', z))
        (λ some_named. dite (ℕ_discrete (births r e) 0)
        (λ z. absurd (⊎_elim
        (λ (mine : 0 < weigh (names r) v).
        let none = none_else views j u r bt lone was id v ne at in
        let vn : ℕ = weigh (names r) v in let mine' : 0 < vn = mine in let none' : vn ≡ 0 = none in
        omega (arith, mine', none'))
        (λ (posted : 0 < sum_by (weigh (posts r)) views).
        let none = none_posted views j u r bt lone was in
        let pn : ℕ = sum_by (weigh (posts r)) views in let posted' : 0 < pn = posted in let none' : pn ≡ 0 = none in
        omega (arith, posted', none'))
        (may.known r z (omega (arith, some_named)))))
        (λ ne. let zero_yet : y ≡ 0 = may.fresh r (omega (arith, ne)) in let born = lone.born in
        let low = sum_by-le-sum_by (births r) (names r) u.own.notes (birth_names r) in
        absurd (omega (arith, zero_yet, was', born, low)))) in g

-- a step on the word of a root that the view names
pub names_step : (views : List SeatView) (v : SeatView) (root : RootId) (d : RefDid) → 0 < weigh (names root) v
    → MayName views v (Ref root d)
names_step views v root d has = record {
  fresh = λ r lt. absurd (omega (arith, lt));
  known =
      λ r b lt. inl (subst (λ (q : RootId). 0 < weigh (names q) v) (named_this root r 1 lt) has);
}

-- the first view has no notes
pub lone_opens : (v : SeatView) → v.own.notes ≡ [] → AreLone (v ∷ [])
lone_opens v none = All-cons (Alone (v ∷ [])) v [] (without (v ∷ []) v none) (All-nil (Alone (v ∷ [])))

-- a note that names no root
pub names_none : (views : List SeatView) (v : SeatView) (e : Entry) → ((r : RootId) → names r e ≡ 0) → MayName views v e
names_none views v e none = record {
  fresh =
      λ r lt. let z = none r in let le = birth_names r e in absurd (omega (arith, lt, z, le));
  known = λ r b lt. let z = none r in absurd (omega (arith, lt, z));
}
