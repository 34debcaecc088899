-- The regions that a view's seat took and didn't give back, behind its next entries.
use Rattle.std.proofs.Common.{◌≡◌, ℕ, zero, suc, ◌+◌, ◌<◌, ◌≤◌, Bool, true, false, List, [], ◌∷◌, refl, ap, ◌∙◌, arith, eqb-true, eq-eqb, ne_eqb}
use Rattle.std.specs.Prelude.{◌==◌, if◌then◌else◌, sum_by, unwrap_or, Option}
use Rattle.std.proofs.lemmas.List.Sums.{sum_by-cons, sum_by-append}
use Rattle.pool_law.specs.declared.id.RegionId.{RegionId}
use Rattle.pool_law.specs.declared.note.Did.{Did}
use Rattle.pool_law.specs.declared.note.Did.TheVariants.{Take}
use Rattle.pool_law.specs.Limits.{cached_classes}
use Rattle.history_laws.specs.NoteCounts.{one_if_so}
use Rattle.pool_table.specs.declared.views.Entry.{Entry}
use Rattle.pool_table.specs.declared.views.Entry.TheVariants.{At, Ref, Busy}
use Rattle.pool_table.specs.declared.views.SeatView.{SeatView}
use Rattle.pool_table.specs.Learned.{in_own, takes_of, gives_of, did_take}
use Rattle.seat_work.specs.Hands.{lane_in}
use Rattle.lane_stages.specs.Budgets.{is_take, takes, out_of, out_below, all_out}
use Rattle.seat_work.specs.Growth.{HasMore}

-- ---- A note takes a region of one class.

abbrev did_takes : ℕ → Did → ℕ
did_takes zero did = 0
did_takes (suc c) did = did_take c did + did_takes c did

-- a region is of no class below its own, and of one class at most
takes_below : (r : RegionId) (c n : ℕ) → n ≤ c → did_takes n (Take c r) ≡ 0
takes_below r c zero le = refl
takes_below r c (suc n) le =
    let a : one_if_so (c == n) ≡ 0 = ap (λ (b : Bool). one_if_so b)
    (ne_eqb c n (λ (e : c ≡ n). omega (arith, le, e))) in
    let b = takes_below r c n (omega (arith, le)) in omega (arith, a, b)

takes_once : (r : RegionId) (c n : ℕ) → did_takes n (Take c r) ≤ 1
takes_once r c zero = omega arith
takes_once r c (suc n) = go (takes_once r c n) (c == n) refl
  where
    go : did_takes n (Take c r) ≤ 1 → (b : Bool) → (c == n) ≡ b → one_if_so (c == n) + did_takes n (Take c r) ≤ 1
    go ih true e =
        let same : c ≡ n = eqb-true c n e in let a : one_if_so (c == n) ≡ 1 = ap (λ (b : Bool). one_if_so b) e in
        let b = takes_below r c n (omega (arith, same)) in omega (arith, a, b)
    go ih false e = let a : one_if_so (c == n) ≡ 0 = ap (λ (b : Bool). one_if_so b) e in omega (arith, a, ih)

takes_not : (did : Did) → is_take did ≡ false → (c : ℕ) → did_take c did ≡ 0
takes_not (Take class r) e c = absurd (cc e)
takes_not _ e c = omega arith

takes_none : (did : Did) → is_take did ≡ false → (n : ℕ) → did_takes n did ≡ 0
takes_none did e zero = omega arith
takes_none did e (suc n) = let a = takes_not did e n in let b = takes_none did e n in omega (arith, a, b)

did_few : (did : Did) (n : ℕ) → did_takes n did ≤ (if is_take did then 1 else 0)
did_few (Take c r) n = takes_once r c n
did_few did n = let a = takes_none did refl n in omega (arith, a)

abbrev entry_takes : ℕ → Entry → ℕ
entry_takes n (At o k x) = did_takes n x.did
entry_takes n (Ref r d) = 0
entry_takes n (Busy h) = 0

entry_none : (e : Entry) → entry_takes 0 e ≡ 0
entry_none (At o k n) = omega arith
entry_none (Ref r d) = omega arith
entry_none (Busy h) = omega arith

entry_more : (n : ℕ) (e : Entry) → entry_takes (suc n) e ≡ takes_of n e + entry_takes n e
entry_more n (At o k x) = omega arith
entry_more n (Ref r d) = omega arith
entry_more n (Busy h) = omega arith

entry_few : (n : ℕ) (e : Entry) → entry_takes n e ≤ takes e
entry_few n (At o k x) = did_few x.did n
entry_few n (Ref r d) = omega arith
entry_few n (Busy h) = omega arith

abbrev list_takes : ℕ → List Entry → ℕ
list_takes zero es = 0
list_takes (suc n) es = sum_by (takes_of n) es + list_takes n es

list_none : (n : ℕ) → list_takes n [] ≡ 0
list_none zero = omega arith
list_none (suc n) = let a = list_none n in let b : sum_by (takes_of n) [] ≡ 0 = refl in omega (arith, a, b)

list_more : (n : ℕ) (e : Entry) (es : List Entry) → list_takes n (e ∷ es) ≡ entry_takes n e + list_takes n es
list_more zero e es = let a = entry_none e in omega (arith, a)
list_more (suc n) e es =
    let a = sum_by-cons (takes_of n) e es in let b = list_more n e es in let d = entry_more n e in
    omega (arith, a, b, d)

list_few : (n : ℕ) (es : List Entry) → list_takes n es ≤ sum_by takes es
list_few n [] = let a = list_none n in omega (arith, a)
list_few n (e ∷ es) =
    let a = list_more n e es in let b = entry_few n e in let d = sum_by-cons takes e es in let ih = list_few n es in
    omega (arith, a, b, d, ih)

-- ---- Behind the next entries.

module _ (v w : SeatView) (added : List Entry) (more : HasMore v w added) where
  own_now : (f : Entry → ℕ) → in_own f w ≡ in_own f v + sum_by f added
  own_now f = ap (λ (es : List Entry). sum_by f es) more.notes ∙ sum_by-append f v.own.notes added

  lane_now : lane_in w ≡ lane_in v
  lane_now = ap (λ (o : Option ℕ). unwrap_or o 0) more.number

  gives_now : (c : ℕ) → in_own (gives_of (lane_in w) c) w
      ≡ in_own (gives_of (lane_in v) c) v + sum_by (gives_of (lane_in v) c) added
  gives_now c = ap (λ (l : ℕ). in_own (gives_of l c) w) lane_now ∙ own_now (gives_of (lane_in v) c)

  -- of one class
  pub out_now : (c : ℕ) → out_of c w ≤ out_of c v + sum_by (takes_of c) added
  out_now c = let a = own_now (takes_of c) in let b = gives_now c in omega (arith, a, b)

  outs_now : (n : ℕ) → out_below n w ≤ out_below n v + list_takes n added
  outs_now zero = omega arith
  outs_now (suc n) = let a = out_now n in let b = outs_now n in omega (arith, a, b)

  -- and of all
  pub all_out_now : all_out w ≤ all_out v + sum_by takes added
  unfolding all_out
  all_out_now = let a = outs_now cached_classes in let b = list_few cached_classes added in
      few (out_below cached_classes w) (out_below cached_classes v) (list_takes cached_classes added)
      (sum_by takes added) a b
    where
      few : (x y m k : ℕ) → x ≤ y + m → m ≤ k → x ≤ y + k
      few x y m k a b = omega (arith, a, b)

  -- nothing was taken, and of one class a region was given back that was out
  module _ (class : ℕ) (given : sum_by (gives_of (lane_in v) class) added ≡ 1)
      (none : (c : ℕ) → sum_by (takes_of c) added ≡ 0) (some : 0 < out_of class v) where
    out_less : out_of class w + 1 ≤ out_of class v
    out_less =
        let a = own_now (takes_of class) in let b = gives_now class in let t = none class in
        omega (arith, a, b, given, t, some)

    out_still : (c : ℕ) → out_of c w ≤ out_of c v
    out_still c = let a = out_now c in let t = none c in omega (arith, a, t)

    outs_still : (n : ℕ) → out_below n w ≤ out_below n v
    outs_still zero = omega arith
    outs_still (suc n) = let a = out_still n in let b = outs_still n in omega (arith, a, b)

    outs_less : (n : ℕ) → class < n → out_below n w + 1 ≤ out_below n v
    outs_less zero lt = absurd (omega (arith, lt))
    outs_less (suc n) lt = go (class == n) refl (outs_less n)
      where
        go : (b : Bool) → (class == n) ≡ b → (class < n → out_below n w + 1 ≤ out_below n v)
            → out_of n w + out_below n w + 1 ≤ out_of n v + out_below n v
        go true e ih =
            let same : class ≡ n = eqb-true class n e in
            let a : out_of n w + 1 ≤ out_of n v = at_class n same in let b = outs_still n in omega (arith, a, b)
          where
            at_class : (k : ℕ) → class ≡ k → out_of k w + 1 ≤ out_of k v
            at_class k same =
                let p = ap (λ (c : ℕ). out_of c w) same in let q = ap (λ (c : ℕ). out_of c v) same in let a =
                out_less in
                omega (arith, a, p, q)
        go false e ih =
            let other : class ≡ n → ⊥ = (λ same. absurd (cc (eq-eqb class n same, e))) in
            let a = out_still n in let b = ih (omega (arith, lt, other)) in omega (arith, a, b)

    pub all_out_less : class < cached_classes → all_out w + 1 ≤ all_out v
    unfolding all_out
    all_out_less lt = outs_less cached_classes lt

-- ---- One class among all.

below_one : (class : ℕ) (v : SeatView) (n : ℕ) → class < n → out_of class v ≤ out_below n v
below_one class v zero lt = absurd (omega (arith, lt))
below_one class v (suc n) lt = go (class == n) refl (below_one class v n)
  where
    go : (b : Bool) → (class == n) ≡ b → (class < n → out_of class v ≤ out_below n v)
        → out_of class v ≤ out_of n v + out_below n v
    go true e ih =
        let same : class ≡ n = eqb-true class n e in let p = ap (λ (c : ℕ). out_of c v) same in omega (arith, p)
    go false e ih =
        let other : class ≡ n → ⊥ = (λ same. absurd (cc (eq-eqb class n same, e))) in
        let b = ih (omega (arith, lt, other)) in omega (arith, b)

pub out_within : (class : ℕ) (v : SeatView) → class < cached_classes → out_of class v ≤ all_out v
unfolding all_out
out_within class v lt = below_one class v cached_classes lt

-- a seat that noted nothing has nothing out
none_below : (v : SeatView) → v.own.notes ≡ [] → (n : ℕ) → out_below n v ≡ 0
none_below v none zero = omega arith
none_below v none (suc n) =
    let a : in_own (takes_of n) v ≡ 0 = ap (λ (es : List Entry). sum_by (takes_of n) es) none in
    let b = none_below v none n in omega (arith, a, b)

pub none_out : (v : SeatView) → v.own.notes ≡ [] → all_out v ≡ 0
unfolding all_out
none_out v none = none_below v none cached_classes
