-- What looks tell, after each kind of change of a view; and that a look tells it.
use Rattle.std.proofs.Common.{◌≡◌, ⊎_elim, ℕ, zero, suc, ◌+◌, ◌≤◌, List, [], ◌∷◌, ◌++◌, Bool, true, false, cond, set, sym, refl, ap, ◌∙◌, subst, arith}
use Rattle.std.specs.Prelude.{All, sum_by}
use Rattle.std.proofs.lemmas.List.Elements.{All-cons, All-head, All-tail, All-set, All-weaker, All-nil}
use Rattle.std.proofs.lemmas.List.Sums.{sum_by-cons, sum_by_push}
use mathlib.Core.Option.{some, some-injective, some-ne-none}
use lib.ListN.{get_elem?}
use Rattle.step_law.proofs.Changes.{each_at, sum_set, sum_same, sum_at}
use Rattle.pool_law.specs.declared.id.RootId.{RootId}
use Rattle.pool_law.specs.declared.note.RefDid.{RefDid}
use Rattle.pool_law.specs.declared.note.RefDid.TheVariants.{Born, Retain, Kept, Ended, Vacated, Look}
use Rattle.history_laws.specs.NoteCounts.{is_root}
use Rattle.pool_table.specs.declared.views.Entry.{Entry}
use Rattle.pool_table.specs.declared.views.Entry.TheVariants.{At, Ref, Busy}
use Rattle.pool_table.specs.declared.views.Part.{Part}
use Rattle.pool_table.specs.declared.views.SeatView.{SeatView}
use Rattle.pool_table.specs.Views.{parts_of}
use Rattle.pool_table.specs.Counts.{weigh, weigh_in, on_root, at_gain, at_loss, ref_gain, ref_loss, ref_born, ref_retain, tally, gained, lost, gained_beside, lost_beside}
use Rattle.pool_table.specs.Looks.{IsLookRight, LooksRight, AreLooksRight, retains_in}
use Rattle.pool_table.proofs.Weights.{weak_sum}
use Rattle.pool_table.proofs.Lists.{cut_last, none_cut}
use Rattle.pool_table.proofs.Order.{longer, HasNone}

-- a sum of sums, element by element
pub sum_adds : {A : Type 0} (f g h : A → ℕ) → ((x : A) → f x ≡ g x + h x) → (xs : List A)
    → sum_by f xs ≡ sum_by g xs + sum_by h xs
sum_adds f g h e [] = refl
sum_adds f g h e (x ∷ xs) =
    let a = sum_by-cons f x xs in let b = sum_by-cons g x xs in let c = sum_by-cons h x xs in let d = e x in let r =
    sum_adds f g h e xs in
    omega (arith, a, b, c, d, r)

-- where each element has at most, one has at most what all leave it
pub one_leaves : {A : Type 0} (a b c d : A → ℕ) (l : List A) (i : ℕ) (v : A) → All (λ (x : A). a x + b x ≤ c x + d x) l
    → get_elem? l i ≡ some v →
    (c v + d v) + (sum_by a l + sum_by b l) ≤ (a v + b v) + (sum_by c l + sum_by d l)
one_leaves a b c d [] i v all e = absurd (some-ne-none v (sym e))
one_leaves {A} a b c d (x ∷ xs) zero v all e =
    let P : A → Type 0 = λ (y : A). a y + b y ≤ c y + d y in
    let m = weak_sum a b c d xs (All-tail P x xs all) in
    let g : (c x + d x) + (sum_by a (x ∷ xs) + sum_by b (x ∷ xs)) ≤ (a x + b x)
    + (sum_by c (x ∷ xs) + sum_by d (x ∷ xs)) =
    (let p = sum_by-cons a x xs in let q = sum_by-cons b x xs in let r = sum_by-cons c x xs in let s =
    sum_by-cons d x xs in omega (arith, m, p, q, r, s)) in
    subst (λ (y : A). (c y + d y) + (sum_by a (x ∷ xs) + sum_by b (x ∷ xs)) ≤ (a y + b y)
    + (sum_by c (x ∷ xs) + sum_by d (x ∷ xs))) (some-injective x v e) g
one_leaves {A} a b c d (x ∷ xs) (suc i) v all e =
    let P : A → Type 0 = λ (y : A). a y + b y ≤ c y + d y in
    let k = All-head P x xs all in let m = one_leaves a b c d xs i v (All-tail P x xs all) e in
    let p = sum_by-cons a x xs in let q = sum_by-cons b x xs in let r = sum_by-cons c x xs in let s =
    sum_by-cons d x xs in
    omega (arith, k, m, p, q, r, s)

-- ---- One part.

-- more retains elsewhere leave each look right
more_right : (retains more : ℕ → ℕ → ℕ) → ((p g : ℕ) → retains p g ≤ more p g) → (q : Part) → LooksRight retains q
    → LooksRight more q
more_right retains more up q old before after r k is =
    let h = old before after r k is in let u = up r.place r.generation in let m = h.most in
    record { least = h.least; most = omega (arith, m, u) }

-- and so does one entry more, where a look is right when it is made
longer_right : (retains more : ℕ → ℕ → ℕ) (q : Part) (e : Entry)
    → ((p g : ℕ) → more p g ≡ retains p g + on_root ref_retain p g e) →
    ((r : RootId) (k : ℕ) → e ≡ Ref r (Look k) → IsLookRight r.place r.generation k (more r.place r.generation)
    (longer q e).notes q.notes) → LooksRight retains q → LooksRight more (longer q e)
longer_right retains more q e up look old before after r k is = ⊎_elim
    (λ (w : (q.notes ≡ before) × (e ≡ Ref r (Look k)) × (after ≡ [])).
    subst (λ (b : List Entry). IsLookRight r.place r.generation k (more r.place r.generation) (longer q e).notes b) w.0
    (look r k w.1))
    (λ (w : (rest : List Entry) × (after ≡ rest ++ e ∷ []) × (q.notes ≡ before ++ Ref r (Look k) ∷ rest)).
    let h = old before w.0 r k w.2 in let u = up r.place r.generation in let m = h.most in
    let s = sum_by_push (on_root ref_retain r.place r.generation) q.notes e in
    record { least = h.least; most = omega (arith, m, u, s) })
    (cut_last q.notes before after e (Ref r (Look k)) is)

none_right : (retains : ℕ → ℕ → ℕ) (q : Part) → q.notes ≡ [] → LooksRight retains q
none_right retains q none_of before after r k is = none_cut before after (Ref r (Look k)) (sym none_of ∙ is)

-- ---- All views.

abbrev AllRight : (ℕ → ℕ → ℕ) → SeatView → Type 0
AllRight retains v = All (LooksRight retains) (parts_of v)

more_all : (retains more : ℕ → ℕ → ℕ) → ((p g : ℕ) → retains p g ≤ more p g) → (v : SeatView) → AllRight retains v
    → AllRight more v
more_all retains more up v = All-weaker (LooksRight retains) (LooksRight more) (more_right retains more up) (parts_of v)

-- a view with the same parts
pub looks_same : (views : List SeatView) (id : ℕ) (v w : SeatView) → get_elem? views id ≡ some v
    → parts_of w ≡ parts_of v → AreLooksRight views → AreLooksRight (set views id w)
looks_same views id v w at same all =
    let before : ℕ → ℕ → ℕ = retains_in views in let after : ℕ → ℕ → ℕ = retains_in (set views id w) in
    let up : (p g : ℕ) → before p g ≤ after p g = (λ p g.
    let f : Entry → ℕ = on_root ref_retain p g in
    let e : sum_by (weigh f) (set views id w) ≡ sum_by (weigh f) views =
    sum_same (weigh f) views id v w at (ap (λ (ps : List Part). weigh_in f ps) same) in
    omega (arith, e)) in
    All-set (AllRight after) views id w
    (subst (λ (ps : List Part). All (LooksRight after) ps) (sym same)
    (more_all before after up v (each_at (AllRight before) views id v all at)))
    (All-weaker (AllRight before) (AllRight after) (more_all before after up) views all)

-- a view whose own part has one entry more
pub looks_entry : (views : List SeatView) (id : ℕ) (v w : SeatView) (e : Entry) → get_elem? views id ≡ some v
    → parts_of w ≡ longer v.own e ∷ v.others →
    ((r : RootId) (k : ℕ) → e ≡ Ref r (Look k) → IsLookRight r.place r.generation k
    (retains_in (set views id w) r.place r.generation) (longer v.own e).notes v.own.notes) →
    AreLooksRight views → AreLooksRight (set views id w)
looks_entry views id v w e at grows look all =
    let before : ℕ → ℕ → ℕ = retains_in views in let after : ℕ → ℕ → ℕ = retains_in (set views id w) in
    let grown : (p g : ℕ) → after p g ≡ before p g + on_root ref_retain p g e = (λ p g.
    let f : Entry → ℕ = on_root ref_retain p g in let h : Part → ℕ = λ (q : Part). sum_by f q.notes in
    let a = sum_set (weigh f) views id v w at in
    let b : weigh f w ≡ weigh_in f (longer v.own e ∷ v.others) = ap (λ (ps : List Part). weigh_in f ps) grows in
    let c = sum_by-cons h (longer v.own e) v.others in let d = sum_by-cons h v.own v.others in let s =
    sum_by_push f v.own.notes e in
    let x : ℕ = sum_by (weigh f) (set views id w) in let y : ℕ = sum_by (weigh f) views in let wv : ℕ = weigh f v in
    let ww : ℕ = weigh f w in
    let a' : x + wv ≡ y + ww = a in omega (arith, a', b, c, d, s)) in
    let up : (p g : ℕ) → before p g ≤ after p g = (λ p g. let a = grown p g in omega (arith, a)) in
    let here = each_at (AllRight before) views id v all at in
    All-set (AllRight after) views id w
    (subst (λ (ps : List Part). All (LooksRight after) ps) (sym grows)
    (All-cons (LooksRight after) (longer v.own e) v.others
    (longer_right before after v.own e grown look (All-head (LooksRight before) v.own v.others here))
    (All-tail (LooksRight after) v.own v.others (more_all before after up v here))))
    (All-weaker (AllRight before) (AllRight after) (more_all before after up) views all)

-- views among which the parts are put anew, with parts without notes
pub looks_regroup : (views after : List SeatView) → ((p g : ℕ) → retains_in after p g ≡ retains_in views p g) →
    ((P : Part → Type 0) → ((q : Part) → q.notes ≡ [] → P q) → All (λ (u : SeatView). All P (parts_of u)) views
    → All (λ (u : SeatView). All P (parts_of u)) after) →
    AreLooksRight views → AreLooksRight after
looks_regroup views after same regroups all =
    regroups (LooksRight (retains_in after)) (none_right (retains_in after))
    (All-weaker (AllRight (retains_in views)) (AllRight (retains_in after))
    (more_all (retains_in views) (retains_in after) (λ p g. let e = same p g in omega (arith, e))) views all)

pub looks_open : (v : SeatView) → HasNone v → AreLooksRight (v ∷ [])
looks_open v none_of =
    All-cons (AllRight (retains_in (v ∷ []))) v []
    (All-weaker (λ (p : Part). p.notes ≡ []) (LooksRight (retains_in (v ∷ []))) (none_right (retains_in (v ∷ [])))
    (parts_of v) none_of) (All-nil (AllRight (retains_in (v ∷ []))))

-- ---- A look.

-- a gain is a birth or a retain
pub gain_is : (p g : ℕ) (e : Entry) → on_root ref_gain p g e ≡ on_root ref_born p g e + on_root ref_retain p g e
gain_is p g (At o k n) = refl
gain_is p g (Busy b) = refl
gain_is p g (Ref r d) = by (is_root p g r) d
  where
    by : (b : Bool) (d : RefDid) → cond {A = ℕ} b (ref_gain d) 0
        ≡ cond {A = ℕ} b (ref_born d) 0 + cond {A = ℕ} b (ref_retain d) 0
    by false d = refl
    by true Born = refl
    by true Retain = refl
    by true Kept = refl
    by true Ended = refl
    by true Vacated = refl
    by true (Look k) = refl

pub gains_are : (p g : ℕ) (views : List SeatView) → tally ref_gain p g views
    ≡ tally ref_born p g views + tally ref_retain p g views
gains_are p g views =
    sum_adds (weigh (on_root ref_gain p g)) (weigh (on_root ref_born p g)) (weigh (on_root ref_retain p g))
    (λ v. sum_adds (λ (q : Part). sum_by (on_root ref_gain p g) q.notes)
    (λ (q : Part). sum_by (on_root ref_born p g) q.notes) (λ (q : Part). sum_by (on_root ref_retain p g) q.notes)
    (λ q. sum_adds (on_root ref_gain p g) (on_root ref_born p g) (on_root ref_retain p g) (gain_is p g) q.notes)
    (parts_of v)) views

-- the own part of a view weighs at most what the view does
own_at_most : (f : Entry → ℕ) (v : SeatView) → weigh f v ≡ sum_by f v.own.notes + weigh_in f v.others
own_at_most f v = sum_by-cons (λ (q : Part). sum_by f q.notes) v.own v.others

-- what the own part counted is at most the count, where the others' count is never below 0
pub least_right : (p g count : ℕ) (views : List SeatView) (id : ℕ) (v : SeatView) → get_elem? views id ≡ some v
    → All (λ (u : SeatView). lost p g u ≤ gained p g u) views →
    sum_by (weigh (at_gain p g)) views ≤ sum_by (weigh (at_loss p g)) views
    → tally ref_gain p g views ≡ tally ref_loss p g views + count → lost_beside p g v ≤ gained_beside p g v →
    sum_by (on_root ref_gain p g) v.own.notes + sum_by (at_gain p g) v.own.notes ≤ count
    + (sum_by (on_root ref_loss p g) v.own.notes + sum_by (at_loss p g) v.own.notes)
least_right p g count views id v at all transit counts beside =
    let one = one_leaves (weigh (on_root ref_loss p g)) (weigh (at_loss p g)) (weigh (on_root ref_gain p g))
    (weigh (at_gain p g)) views id v all at in
    let a = own_at_most (on_root ref_gain p g) v in let b = own_at_most (at_gain p g) v in let c =
    own_at_most (on_root ref_loss p g) v in let d = own_at_most (at_loss p g) v in
    let tl : ℕ = tally ref_loss p g views in let tg : ℕ = tally ref_gain p g views in let al : ℕ =
    sum_by (weigh (at_loss p g)) views in let ag : ℕ = sum_by (weigh (at_gain p g)) views in
    let one' : (weigh (on_root ref_gain p g) v + weigh (at_gain p g) v) + (tl + al)
    ≤ (weigh (on_root ref_loss p g) v + weigh (at_loss p g) v) + (tg + ag) = one in
    let transit' : ag ≤ al = transit in let counts' : tg ≡ tl + count = counts in
    let og : ℕ = weigh_in (on_root ref_gain p g) v.others in let oag : ℕ = weigh_in (at_gain p g) v.others in
    let ol : ℕ = weigh_in (on_root ref_loss p g) v.others in let oal : ℕ = weigh_in (at_loss p g) v.others in
    let beside' : ol + oal ≤ og + oag = beside in
    let a' : weigh (on_root ref_gain p g) v ≡ sum_by (on_root ref_gain p g) v.own.notes + og = a in
    let b' : weigh (at_gain p g) v ≡ sum_by (at_gain p g) v.own.notes + oag = b in
    let c' : weigh (on_root ref_loss p g) v ≡ sum_by (on_root ref_loss p g) v.own.notes + ol = c in
    let d' : weigh (at_loss p g) v ≡ sum_by (at_loss p g) v.own.notes + oal = d in
    omega (arith, one', transit', counts', beside', a', b', c', d')

-- the count and the own part's releases are at most 1 and all retains
pub most_right : (p g count : ℕ) (views : List SeatView) (id : ℕ) (v : SeatView) → get_elem? views id ≡ some v
    → tally ref_gain p g views ≡ tally ref_loss p g views + count → tally ref_born p g views ≡ 1 →
    count + sum_by (on_root ref_loss p g) v.own.notes ≤ 1 + retains_in views p g
most_right p g count views id v at counts born =
    let a = gains_are p g views in let b = sum_at (weigh (on_root ref_loss p g)) views id v at in let c =
    own_at_most (on_root ref_loss p g) v in
    let tl : ℕ = tally ref_loss p g views in let tg : ℕ = tally ref_gain p g views in let tb : ℕ =
    tally ref_born p g views in let tr : ℕ = tally ref_retain p g views in
    let a' : tg ≡ tb + tr = a in let b' : weigh (on_root ref_loss p g) v ≤ tl = b in let counts' : tg
    ≡ tl + count = counts in let born' : tb ≡ 1 = born in
    omega (arith, a', b', c, counts', born')
