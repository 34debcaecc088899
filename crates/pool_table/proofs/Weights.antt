-- Views with the same entries weigh the same, and so do views with one entry more that weighs nothing.
use Rattle.std.proofs.Common.{◌≡◌, ◌⊎◌, ⊎_elim, ℕ, zero, suc, ◌+◌, ◌<◌, ◌≤◌, List, [], ◌∷◌, sym, refl, ap, ◌∙◌, subst, arith}
use Rattle.std.specs.Prelude.{All, sum_by}
use Rattle.std.proofs.lemmas.List.Elements.{All-head, All-tail, All-weaker}
use Rattle.std.proofs.lemmas.List.Sums.{sum_by-cons, sum_by_push}
use mathlib.Core.Logic.{dite}
use native.Mathlib.Decide.{ℕ_discrete}
use mathlib.Core.Option.{some, some-injective, some-ne-none}
use lib.ListN.{get_elem?}
use Rattle.step_law.proofs.Changes.{sum_none}
use Rattle.std.specs.Prelude.{Some, None}
use Rattle.pool_law.specs.declared.note.Object.TheVariants.{Root}
use Rattle.pool_table.specs.declared.views.Inside.{Inside}
use Rattle.pool_law.specs.declared.note.RefDid.{RefDid}
use Rattle.pool_table.specs.declared.views.Entry.{Entry}
use Rattle.pool_table.specs.declared.views.Part.{Part}
use Rattle.pool_table.specs.declared.views.SeatView.{SeatView}
use Rattle.pool_table.specs.Views.{parts_of, with_entry}
use Rattle.pool_table.specs.Counts.{ref_gain, ref_loss, ref_ended, ref_vacated, ref_born, weigh, on_root, on_place, at_gain, at_loss, on_any, ref_retain, ref_kept, gained, lost, reached, returned, on_exact, lost_beside, gained_beside}
use Rattle.pool_table.specs.Hands.{at_in, at_out, taken, put_down, InHand, MayEnter, at_birth, at_end, IsOrderly, NoneWaits, at_birth_of, at_birth_as}
use Rattle.pool_table.proofs.AtPlace.{CountsAt}
use Rattle.pool_law.specs.declared.id.RegionId.{RegionId}
use Rattle.pool_table.proofs.Holdings.{Handles, held_same, held_none, held_more}

pub record IsWeighedSame (v w : SeatView) : Type 0 where
  pub refs : (f : RefDid → ℕ) (p g : ℕ) → weigh (on_root f p g) w ≡ weigh (on_root f p g) v
  pub places : (f : RefDid → ℕ) (p : ℕ) → weigh (on_place f p) w ≡ weigh (on_place f p) v
  pub any : (f : RefDid → ℕ) → weigh (on_any f) w ≡ weigh (on_any f) v
  pub moves : w.moves ≡ v.moves

pub same_parts : (v w : SeatView) → parts_of w ≡ parts_of v → w.moves ≡ v.moves → IsWeighedSame v w
same_parts v w e m = record {
  refs = λ f p g. all (on_root f p g);
  places = λ f p. all (on_place f p);
  any = λ f. all (on_any f);
  moves = m;
}
  where
    all : (f : Entry → ℕ) → weigh f w ≡ weigh f v
    all f = ap (λ (ps : List Part). sum_by (λ (p : Part). sum_by f p.notes) ps) e

pub weigh_entry : (f : Entry → ℕ) (v : SeatView) (e : Entry) (t : ℕ) → weigh f (with_entry v e t) ≡ weigh f v + f e
weigh_entry f v e t =
    let g : Part → ℕ = λ (p : Part). sum_by f p.notes in let w : SeatView = with_entry v e t in
    let a : weigh f w ≡ g w.own + sum_by g v.others = sum_by-cons g w.own v.others in
    let b : weigh f v ≡ g v.own + sum_by g v.others = sum_by-cons g v.own v.others in
    let c : g w.own ≡ g v.own + f e = sum_by_push f v.own.notes e in omega (arith, a, b, c)

pub same_entry : (v : SeatView) (e : Entry) (t : ℕ) → ((f : RefDid → ℕ) (p g : ℕ) → on_root f p g e ≡ 0)
    → ((f : RefDid → ℕ) (p : ℕ) → on_place f p e ≡ 0) → ((f : RefDid → ℕ) → on_any f e ≡ 0)
    → IsWeighedSame v (with_entry v e t)
same_entry v e t a h d = record {
  places = λ f p. let x = weigh_entry (on_place f p) v e t in let y = h f p in omega (arith, x, y);
  refs = λ f p g. let x = weigh_entry (on_root f p g) v e t in let y = a f p g in omega (arith, x, y);
  any = λ f. let x = weigh_entry (on_any f) v e t in let y = d f in omega (arith, x, y);
  moves = refl;
}

-- with the same parts, the same roots are counted
pub counted_parts : (v w : SeatView) → parts_of w ≡ parts_of v → ((p g : ℕ) → lost p g v ≤ gained p g v) → (p g : ℕ)
    → lost p g w ≤ gained p g w
counted_parts v w e c p g =
    subst (λ (ps : List Part). sum_by (λ (q : Part). sum_by (on_root ref_loss p g) q.notes) ps + sum_by
    (λ (q : Part). sum_by (at_loss p g) q.notes) ps ≤ sum_by (λ (q : Part). sum_by (on_root ref_gain p g) q.notes)
    ps + sum_by (λ (q : Part). sum_by (at_gain p g) q.notes) ps) (sym e) (c p g)

-- with one entry more, which isn't on a reference word and loses only what is counted
pub counted_entry : (v : SeatView) (e : Entry) (t : ℕ) → ((f : RefDid → ℕ) (p g : ℕ) → on_root f p g e ≡ 0)
    → ((p g : ℕ) → at_loss p g e ≤ 1) → ((p g : ℕ) → 0 < at_loss p g e → CountsAt p g v)
    → ((p g : ℕ) → lost p g v ≤ gained p g v) → (p g : ℕ) → lost p g (with_entry v e t) ≤ gained p g (with_entry v e t)
counted_entry v e t off most has c p g =
    let a = weigh_entry (at_loss p g) v e t in let b = weigh_entry (on_root ref_loss p g) v e t in let d =
    weigh_entry (at_gain p g) v e t in let f = weigh_entry (on_root ref_gain p g) v e t in
    let x = off ref_loss p g in let y = off ref_gain p g in let m = most p g in let h = c p g in
    dite (ℕ_discrete (at_loss p g e) 0)
    (λ z. omega (arith, a, b, d, f, x, y, h, z))
    (λ ne. let i = has p g (omega (arith, ne)) in omega (arith, a, b, d, f, x, y, m, i))

pub settled_same : (v w : SeatView) → IsWeighedSame v w
    → ((p g : ℕ) → weigh (on_root ref_vacated p g) v ≤ weigh (on_root ref_ended p g) v) → (p g : ℕ)
    → weigh (on_root ref_vacated p g) w ≤ weigh (on_root ref_ended p g) w
settled_same v w s c p g =
    let a = s.refs ref_vacated p g in let b = s.refs ref_ended p g in let d = c p g in omega (arith, a, b, d)

-- with the same parts, the same places are in hand
pub handy_parts : (v w : SeatView) → parts_of w ≡ parts_of v → ((p : ℕ) → put_down p v ≤ taken p v) → (p : ℕ)
    → put_down p w ≤ taken p w
handy_parts v w e c p =
    subst (λ (ps : List Part). sum_by (λ (q : Part). sum_by (at_out p) q.notes) ps + sum_by
    (λ (q : Part). sum_by (on_place ref_born p) q.notes) ps ≤ sum_by (λ (q : Part). sum_by (at_in p) q.notes) ps
    + sum_by (λ (q : Part). sum_by (on_place ref_vacated p) q.notes) ps) (sym e) (c p)

-- with one entry more, which isn't on a reference word and puts down only what is in hand
pub handy_entry : (v : SeatView) (e : Entry) (t : ℕ) → ((f : RefDid → ℕ) (p : ℕ) → on_place f p e ≡ 0)
    → ((p : ℕ) → at_out p e ≤ 1) → ((p : ℕ) → 0 < at_out p e → InHand p v) → ((p : ℕ) → put_down p v ≤ taken p v)
    → (p : ℕ) → put_down p (with_entry v e t) ≤ taken p (with_entry v e t)
handy_entry v e t off most has c p =
    let a = weigh_entry (at_out p) v e t in let b = weigh_entry (on_place ref_born p) v e t in let d =
    weigh_entry (at_in p) v e t in let f = weigh_entry (on_place ref_vacated p) v e t in
    let x = off ref_born p in let y = off ref_vacated p in let m = most p in let h = c p in
    dite (ℕ_discrete (at_out p e) 0)
    (λ z. omega (arith, a, b, d, f, x, y, h, z))
    (λ ne. let i = has p (omega (arith, ne)) in omega (arith, a, b, d, f, x, y, m, i))

pub weigh_none : (f : Entry → ℕ) (ps : List Part) → All (λ (p : Part). p.notes ≡ []) ps
    → sum_by (λ (p : Part). sum_by f p.notes) ps ≡ 0
weigh_none f ps all =
    sum_none (λ (p : Part). sum_by f p.notes) ps
    (All-weaker (λ (p : Part). p.notes ≡ []) (λ (p : Part). sum_by f p.notes ≡ 0)
    (λ p e. ap (λ (es : List Entry). sum_by f es) e) ps all)

pub counted_none : (v : SeatView) → All (λ (p : Part). p.notes ≡ []) (parts_of v) → (p g : ℕ)
    → lost p g v ≤ gained p g v
counted_none v all p g =
    let a = weigh_none (on_root ref_loss p g) (parts_of v) all in let b = weigh_none (at_loss p g) (parts_of v) all in
    omega (arith, a, b)

pub beside_none : (v : SeatView) → All (λ (p : Part). p.notes ≡ []) (parts_of v) → (p g : ℕ)
    → lost_beside p g v ≤ gained_beside p g v
beside_none v all p g =
    let rest = All-tail (λ (q : Part). q.notes ≡ []) v.own v.others all in
    let a = weigh_none (on_root ref_loss p g) v.others rest in let b = weigh_none (at_loss p g) v.others rest in
    omega (arith, a, b)

pub handy_none : (v : SeatView) → All (λ (p : Part). p.notes ≡ []) (parts_of v) → (p : ℕ) → put_down p v ≤ taken p v
handy_none v all p =
    let a = weigh_none (at_out p) (parts_of v) all in let b = weigh_none (on_place ref_born p) (parts_of v) all in
    omega (arith, a, b)

pub settled_none : (v : SeatView) → All (λ (p : Part). p.notes ≡ []) (parts_of v) → (p g : ℕ)
    → weigh (on_root ref_vacated p g) v ≤ weigh (on_root ref_ended p g) v
settled_none v all p g = let a = weigh_none (on_root ref_vacated p g) (parts_of v) all in omega (arith, a)

pub reached_same : (v w : SeatView) → IsWeighedSame v w → reached w ≡ reached v
reached_same v w s = let a = s.any ref_retain in let b = s.moves in omega (arith, a, b)

pub returned_same : (v w : SeatView) → IsWeighedSame v w → returned w ≡ returned v
returned_same v w s = s.any ref_kept

pub weak_sum : {A : Type 0} (a b c d : A → ℕ) (l : List A) → All (λ (x : A). a x + b x ≤ c x + d x) l
    → sum_by a l + sum_by b l ≤ sum_by c l + sum_by d l
weak_sum a b c d [] all = omega arith
weak_sum {A} a b c d (x ∷ xs) all =
    let k = All-head (λ (x : A). a x + b x ≤ c x + d x) x xs all in let m =
    weak_sum a b c d xs (All-tail (λ (x : A). a x + b x ≤ c x + d x) x xs all) in
    let p = sum_by-cons a x xs in let q = sum_by-cons b x xs in let r = sum_by-cons c x xs in let s =
    sum_by-cons d x xs in
    omega (arith, k, m, p, q, r, s)

-- where each element loses at most what it gains, and one less, all lose less
pub strict_sum : {A : Type 0} (a b c d : A → ℕ) (l : List A) (i : ℕ) (v : A) → All (λ (x : A). a x + b x ≤ c x + d x) l
    → get_elem? l i ≡ some v → a v + b v < c v + d v → sum_by a l + sum_by b l < sum_by c l + sum_by d l
strict_sum a b c d [] i v all e lt = absurd (some-ne-none v (sym e))
strict_sum {A} a b c d (x ∷ xs) zero v all e lt =
    let k : a x + b x < c x + d x = subst (λ (y : A). a y + b y < c y + d y) (sym (some-injective x v e)) lt in
    let m = weak_sum a b c d xs (All-tail (λ (x : A). a x + b x ≤ c x + d x) x xs all) in
    let p = sum_by-cons a x xs in let q = sum_by-cons b x xs in let r = sum_by-cons c x xs in let s =
    sum_by-cons d x xs in
    omega (arith, k, m, p, q, r, s)
strict_sum {A} a b c d (x ∷ xs) (suc i) v all e lt =
    let k = All-head (λ (x : A). a x + b x ≤ c x + d x) x xs all in let m =
    strict_sum a b c d xs i v (All-tail (λ (x : A). a x + b x ≤ c x + d x) x xs all) e lt in
    let p = sum_by-cons a x xs in let q = sum_by-cons b x xs in let r = sum_by-cons c x xs in let s =
    sum_by-cons d x xs in
    omega (arith, k, m, p, q, r, s)

-- with the same parts, births and ends are noted as before
pub orderly_parts : (v w : SeatView) → parts_of w ≡ parts_of v → IsOrderly v → IsOrderly w
orderly_parts v w e k =
    let all : (f : Entry → ℕ) → weigh f w ≡ weigh f v =
    (λ f. ap (λ (ps : List Part). sum_by (λ (p : Part). sum_by f p.notes) ps) e) in
    record {
      borne =
          λ p. let a =
          all (on_place ref_born p) in let b = all (at_birth p) in let c = k.borne p in omega (arith, a, b, c);
      bears =
          λ p. let a =
          all (on_place ref_born p) in let b =
          all (at_birth p) in let c =
          k.bears p in let d =
          all (at_in p) in let f =
          all (at_out p) in let g = all (on_place ref_vacated p) in omega (arith, a, b, c, d, f, g);
      ending =
          λ p g. let a =
          all (at_end p g) in let b = all (on_root ref_ended p g) in let c = k.ending p g in omega (arith, a, b, c);
      over =
          λ p g. let a =
          all (at_end p g) in let b = all (on_root ref_vacated p g) in let c = k.over p g in omega (arith, a, b, c);
      borne_of =
          λ p g. let a =
          all (on_root ref_born p g) in let b =
          all (at_birth_of p g) in let c = k.borne_of p g in omega (arith, a, b, c);
      borne_as =
          λ p g x. let a =
          all (on_exact ref_born p g x) in let b =
          all (at_birth_as p g x) in let c = k.borne_as p g x in omega (arith, a, b, c);
      held = λ q. held_same q v w all (k.held q);
    }

pub orderly_none : (v : SeatView) → All (λ (p : Part). p.notes ≡ []) (parts_of v) → IsOrderly v
orderly_none v all =
    let z : (f : Entry → ℕ) → weigh f v ≡ 0 = (λ f. weigh_none f (parts_of v) all) in record {
      borne = λ p. let a = z (on_place ref_born p) in omega (arith, a);
      bears =
          λ p. let a =
          z (at_birth p) in let b = z (at_out p) in let c = z (on_place ref_born p) in omega (arith, a, b, c);
      ending = λ p g. let a = z (at_end p g) in omega (arith, a);
      over = λ p g. let a = z (on_root ref_vacated p g) in omega (arith, a);
      borne_of = λ p g. let a = z (on_root ref_born p g) in omega (arith, a);
      borne_as = λ p g x. let a = z (on_exact ref_born p g x) in omega (arith, a);
      held = λ q. held_none q v z;
    }

-- with one entry more, which isn't on a reference word
pub orderly_entry : (v : SeatView) (e : Entry) (t : ℕ) → ((f : RefDid → ℕ) (p g c : ℕ) → on_exact f p g c e ≡ 0)
    → ((f : RefDid → ℕ) (p g : ℕ) → on_root f p g e ≡ 0) → ((f : RefDid → ℕ) (p : ℕ) → on_place f p e ≡ 0)
    → ((p : ℕ) → (at_birth p e + at_out p e ≡ 0) ⊎ ((at_birth p e + at_out p e ≡ 1) × InHand p v × NoneWaits p v))
    → ((p g : ℕ) → (at_end p g e ≡ 0) ⊎ ((at_end p g e ≡ 1) × (weigh (at_end p g) v < weigh (on_root ref_ended p g) v)))
    → ((q : RegionId) → Handles q v e) → IsOrderly v → IsOrderly (with_entry v e t)
orderly_entry v e t exact off away births ends lays k = record {
  borne_of =
      λ p g. let a =
      weigh_entry (on_root ref_born p g) v e t in let b =
      weigh_entry (at_birth_of p g) v e t in let x =
      off ref_born p g in let c = k.borne_of p g in omega (arith, a, b, x, c);
  borne_as =
      λ p g y. let a =
      weigh_entry (on_exact ref_born p g y) v e t in let b =
      weigh_entry (at_birth_as p g y) v e t in let x =
      exact ref_born p g y in let c = k.borne_as p g y in omega (arith, a, b, x, c);
  held = λ q. held_more q v (with_entry v e t) e (λ f. weigh_entry f v e t) (lays q) (k.held q);
  borne =
      λ p. let a =
      weigh_entry (on_place ref_born p) v e t in let b =
      weigh_entry (at_birth p) v e t in let x =
      away ref_born p in let c = k.borne p in omega (arith, a, b, x, c);
  bears =
      λ p. let a =
      weigh_entry (on_place ref_born p) v e t in let b =
      weigh_entry (at_birth p) v e t in let d =
      weigh_entry (at_in p) v e t in let f =
      weigh_entry (at_out p) v e t in let g = weigh_entry (on_place ref_vacated p) v e t in
      let x = away ref_born p in let y = away ref_vacated p in let c = k.bears p in ⊎_elim
      (λ (z : at_birth p e + at_out p e ≡ 0). omega (arith, a, b, d, f, g, x, y, c, z))
      (λ (z : (at_birth p e + at_out p e ≡ 1) × InHand p v × NoneWaits p v). let z0 = z.0 in let z1 = z.1 in let z2 =
      z.2 in omega (arith, a, b, d, f, g, x, y, z0, z1, z2))
      (births p);
  ending =
      λ p g. let a =
      weigh_entry (at_end p g) v e t in let b =
      weigh_entry (on_root ref_ended p g) v e t in let x = off ref_ended p g in let c = k.ending p g in ⊎_elim
      (λ (z : at_end p g e ≡ 0). omega (arith, a, b, x, c, z))
      (λ (z : (at_end p g e ≡ 1) × (weigh (at_end p g) v < weigh (on_root ref_ended p g) v)). let z0 = z.0 in let z1 =
      z.1 in omega (arith, a, b, x, z0, z1))
      (ends p g);
  over =
      λ p g. let a =
      weigh_entry (at_end p g) v e t in let b =
      weigh_entry (on_root ref_vacated p g) v e t in let x =
      off ref_vacated p g in let c = k.over p g in omega (arith, a, b, x, c);
}

-- sums of six, where each element has at most
pub weak_six : {A : Type 0} (a b c d e f : A → ℕ) (l : List A)
    → All (λ (x : A). a x + (b x + c x) ≤ d x + (e x + f x)) l
    → sum_by a l + (sum_by b l + sum_by c l) ≤ sum_by d l + (sum_by e l + sum_by f l)
weak_six a b c d e f [] all = omega arith
weak_six {A} a b c d e f (x ∷ xs) all =
    let P : A → Type 0 = λ (x : A). a x + (b x + c x) ≤ d x + (e x + f x) in
    let k = All-head P x xs all in let m = weak_six a b c d e f xs (All-tail P x xs all) in
    let p = sum_by-cons a x xs in let q = sum_by-cons b x xs in let r = sum_by-cons c x xs in let s =
    sum_by-cons d x xs in let t = sum_by-cons e x xs in let u = sum_by-cons f x xs in
    omega (arith, k, m, p, q, r, s, t, u)

pub strict_six : {A : Type 0} (a b c d e f : A → ℕ) (l : List A) (i : ℕ) (v : A)
    → All (λ (x : A). a x + (b x + c x) ≤ d x + (e x + f x)) l → get_elem? l i ≡ some v
    → a v + (b v + c v) < d v + (e v + f v) → sum_by a l + (sum_by b l + sum_by c l) < sum_by d l
    + (sum_by e l + sum_by f l)
strict_six a b c d e f [] i v all at lt = absurd (some-ne-none v (sym at))
strict_six {A} a b c d e f (x ∷ xs) zero v all at lt =
    let P : A → Type 0 = λ (x : A). a x + (b x + c x) ≤ d x + (e x + f x) in
    let k : a x + (b x + c x) < d x + (e x + f x) =
    subst (λ (y : A). a y + (b y + c y) < d y + (e y + f y)) (sym (some-injective x v at)) lt in
    let m = weak_six a b c d e f xs (All-tail P x xs all) in
    let p = sum_by-cons a x xs in let q = sum_by-cons b x xs in let r = sum_by-cons c x xs in let s =
    sum_by-cons d x xs in let t = sum_by-cons e x xs in let u = sum_by-cons f x xs in
    omega (arith, k, m, p, q, r, s, t, u)
strict_six {A} a b c d e f (x ∷ xs) (suc i) v all at lt =
    let P : A → Type 0 = λ (x : A). a x + (b x + c x) ≤ d x + (e x + f x) in
    let k = All-head P x xs all in let m = strict_six a b c d e f xs i v (All-tail P x xs all) at lt in
    let p = sum_by-cons a x xs in let q = sum_by-cons b x xs in let r = sum_by-cons c x xs in let s =
    sum_by-cons d x xs in let t = sum_by-cons e x xs in let u = sum_by-cons f x xs in
    omega (arith, k, m, p, q, r, s, t, u)

-- a view in no section enters none
pub enters_none : (v : SeatView) → v.inside ≡ None → (x : Inside) (p : ℕ) → v.inside ≡ Some x → x.object ≡ Root p
    → MayEnter p v
enters_none v out x p e q = let g : Some x ≡ None = sym e ∙ out in absurd (cc)
