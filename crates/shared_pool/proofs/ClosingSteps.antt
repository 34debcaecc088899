-- The steps of the table's one order, where all parts are those of the lanes: each step is a lane's.
use Rattle.std.proofs.Common.{◌≡◌, ◌⊎◌, ℕ, zero, suc, ◌+◌, ◌<◌, ◌≤◌, List, [], ◌∷◌, ◌++◌, length, map, Bool, true, false, cond, refl, ap, ◌∙◌, subst, arith, inl, inr, ⊎_elim, eq-eqb, ne_eqb, Some, None}
use Rattle.std.specs.Prelude.{◌==◌, if◌then◌else◌, Option, unwrap_or, All, sum_by, slice_get}
use Rattle.std.proofs.lemmas.List.Elements.{All-nil, All-cons, All-head, All-tail}
use Rattle.std.proofs.lemmas.List.Sums.{sum_by-cons}
use mathlib.Core.Logic.{dite}
use native.Mathlib.Decide.{ℕ_discrete}
use Rattle.pool_law.specs.declared.note.Note.{Note}
use Rattle.run_order.specs.Order.{Step, notes_by, made as made_of}
use Rattle.pool_table.specs.declared.views.Entry.{Entry}
use Rattle.pool_table.specs.declared.views.Part.{Part}
use Rattle.pool_table.specs.Views.{is_lane}
use Rattle.pool_table.specs.Counts.{weigh_in}
use Rattle.pool_table.specs.Sequence.{Made, weigh_made, entries_by}
use Rattle.pool_table.proofs.Lists.{none_cut}
use Rattle.shared_pool.specs.Closing.{note_of}
use Rattle.shared_pool.proofs.ClosingHistories.{notes_in}
use Rattle.shared_pool.proofs.ClosingSums.{law, sums_same}

-- a step of a lane as the law has it
abbrev pub step_of : Made → Step
step_of x = record { lane = unwrap_or x.lane 0; note = note_of x.entry }

-- each entry weighs one
abbrev pub one : Entry → ℕ
one e = 1

-- the step is of one of the first n lanes
abbrev pub IsOfLane : ℕ → Made → Type 0
IsOfLane n x = (lane : ℕ) × (x.lane ≡ Some lane) × (lane < n)

-- 1 for one of the n lanes from k on
abbrev pub lanes_from : ℕ → ℕ → Option ℕ → ℕ
lanes_from k zero lane = 0
lanes_from k (suc n) lane = cond {A = ℕ} (is_lane k lane) 1 0 + lanes_from (suc k) n lane

-- how many entries those lanes have
abbrev pub entries_from : ℕ → ℕ → List Made → ℕ
entries_from k zero made = 0
entries_from k (suc n) made = sum_by one (entries_by k made) + entries_from (suc k) n made

entries_more : (k n : ℕ) (x : Made) (xs : List Made)
    → entries_from k n (x ∷ xs) ≡ lanes_from k n x.lane + entries_from k n xs
entries_more k zero x xs = omega arith
entries_more k (suc n) x xs =
    let a = here (is_lane k x.lane) in let b = entries_more (suc k) n x xs in omega (arith, a, b)
  where
    here : (b : Bool) → sum_by one (cond b (x.entry ∷ entries_by k xs) (entries_by k xs))
        ≡ cond {A = ℕ} b 1 0 + sum_by one (entries_by k xs)
    here true = sum_by-cons one x.entry (entries_by k xs)
    here false = omega arith

entries_none : (k n : ℕ) → entries_from k n [] ≡ 0
entries_none k zero = refl
entries_none k (suc n) = let a = entries_none (suc k) n in omega (arith, a)

-- a lane below is none of them
lane_below : (k n lane : ℕ) → lane < k → lanes_from k n (Some lane) ≡ 0
lane_below k zero lane lt = refl
lane_below k (suc n) lane lt =
    let a = ap (λ (b : Bool). cond {A = ℕ} b 1 0) (ne_eqb lane k (λ e. omega (arith, lt, e))) in
    let b = lane_below (suc k) n lane (omega (arith, lt)) in omega (arith, a, b)

-- a lane is none of them, or one
lane_is : (k n : ℕ) (lane : Option ℕ) → (lanes_from k n lane ≡ 0)
    ⊎ ((lanes_from k n lane ≡ 1) × (i : ℕ) × (lane ≡ Some i) × (k ≤ i) × (i < k + n))
lane_is k zero lane = inl refl
lane_is k (suc n) None = ⊎_elim
    (λ (z : lanes_from (suc k) n None ≡ 0). inl (omega (arith, z)))
    (λ (w : (lanes_from (suc k) n None ≡ 1) × (i : ℕ) × (None ≡ Some i) × (suc k ≤ i) × (i < suc k + n)).
    absurd (cc w.2))
    (lane_is (suc k) n None)
lane_is k (suc n) (Some i) = dite (ℕ_discrete i k)
    (λ same. let a = ap (λ (b : Bool). cond {A = ℕ} b 1 0) (eq-eqb i k same) in
    let b = lane_below (suc k) n i (omega (arith, same)) in
    inr (omega (arith, a, b), i, refl, omega (arith, same), omega (arith, same)))
    (λ other. let a = ap (λ (b : Bool). cond {A = ℕ} b 1 0) (ne_eqb i k other) in ⊎_elim
    (λ (z : lanes_from (suc k) n (Some i) ≡ 0). inl (omega (arith, a, z)))
    (λ (w : (lanes_from (suc k) n (Some i) ≡ 1) × (j : ℕ) × (Some i ≡ Some j) × (suc k ≤ j) × (j < suc k + n)).
    let o = w.0 in let le = w.3 in let lt = w.4 in
    inr (omega (arith, a, o), w.1, w.2, omega (arith, le), omega (arith, lt)))
    (lane_is (suc k) n (Some i)))

entries_most : (n : ℕ) (xs : List Made) → entries_from 0 n xs ≤ weigh_made one xs
entries_most n [] = let a = entries_none 0 n in omega (arith, a)
entries_most n (x ∷ xs) =
    let a = entries_more 0 n x xs in let b = entries_most n xs in
    let c = sum_by-cons (λ (y : Made). one y.entry) x xs in ⊎_elim
    (λ (z : lanes_from 0 n x.lane ≡ 0). omega (arith, a, b, c, z))
    (λ (w : (lanes_from 0 n x.lane ≡ 1) × (i : ℕ) × (x.lane ≡ Some i) × (0 ≤ i) × (i < 0 + n)).
    let o = w.0 in omega (arith, a, b, c, o))
    (lane_is 0 n x.lane)

-- where these lanes have as many entries as there are steps, each step is of one of them
pub all_of_lanes : (n : ℕ) (xs : List Made) → entries_from 0 n xs ≡ weigh_made one xs → All (IsOfLane n) xs
all_of_lanes n [] e = All-nil (IsOfLane n)
all_of_lanes n (x ∷ xs) e =
    let a = entries_more 0 n x xs in let b = entries_most n xs in
    let c = sum_by-cons (λ (y : Made). one y.entry) x xs in ⊎_elim
    (λ (z : lanes_from 0 n x.lane ≡ 0). absurd (omega (arith, a, b, c, z, e)))
    (λ (w : (lanes_from 0 n x.lane ≡ 1) × (i : ℕ) × (x.lane ≡ Some i) × (0 ≤ i) × (i < 0 + n)).
    let o = w.0 in let lt = w.4 in
    All-cons (IsOfLane n) x xs (w.1, w.2, omega (arith, lt)) (all_of_lanes n xs (omega (arith, a, c, o, e))))
    (lane_is 0 n x.lane)

-- the parts have as many entries as their lanes
pub parts_have : (made : List Made) (k : ℕ) (ps : List Part)
    → ((i : ℕ) (p : Part) → slice_get ps i ≡ Some p → p.notes ≡ entries_by (k + i) made)
    → weigh_in one ps ≡ entries_from k (length ps) made
parts_have made k [] each = refl
parts_have made k (p ∷ ps) each =
    let zero_more : k + 0 ≡ k = omega arith in
    let a = ap (λ (es : List Entry). sum_by one es)
    (each 0 p refl ∙ ap (λ (m : ℕ). entries_by m made) zero_more) in
    let b = sum_by-cons (λ (q : Part). sum_by one q.notes) p ps in
    let c = parts_have made (suc k) ps (λ i q is. let e : k + suc i ≡ suc k + i = omega arith in
    each (suc i) q is ∙ ap (λ (m : ℕ). entries_by m made) e) in
    omega (arith, a, b, c)

-- what holds of the entries of each lane holds of all steps
pub of_all_steps : (Q : Entry → Type 0) (n : ℕ) (xs : List Made)
    → ((m : ℕ) → m < n → All Q (entries_by m xs)) → All (IsOfLane n) xs → All (λ (x : Made). Q x.entry) xs
of_all_steps Q n [] all laned = All-nil (λ (x : Made). Q x.entry)
of_all_steps Q n (x ∷ xs) all laned =
    let here = All-head (IsOfLane n) x xs laned in
    let its : is_lane here.0 x.lane ≡ true =
    ap (λ (lane : Option ℕ). is_lane here.0 lane) here.1 ∙ eq-eqb here.0 here.0 refl in
    let first = subst (λ (b : Bool). All Q (cond b (x.entry ∷ entries_by here.0 xs) (entries_by here.0 xs))) its
    (all here.0 here.2) in
    All-cons (λ (y : Made). Q y.entry) x xs (All-head Q x.entry (entries_by here.0 xs) first)
    (of_all_steps Q n xs (λ m lt. rest (is_lane m x.lane) m (all m lt)) (All-tail (IsOfLane n) x xs laned))
  where
    rest : (b : Bool) (m : ℕ) → All Q (cond b (x.entry ∷ entries_by m xs) (entries_by m xs)) → All Q (entries_by m xs)
    rest true m all = All-tail Q x.entry (entries_by m xs) all
    rest false m all = all

-- the notes of a lane are those of its entries
pub notes_alike : (n m : ℕ) (xs : List Made) → All (IsOfLane n) xs
    → notes_by m (map step_of xs) ≡ notes_in (entries_by m xs)
notes_alike n m [] laned = refl
notes_alike n m (x ∷ xs) laned =
    let here = All-head (IsOfLane n) x xs laned in
    by_lane x.lane here.0 here.1 (notes_alike n m xs (All-tail (IsOfLane n) x xs laned))
  where
    by : (b : Bool) → notes_by m (map step_of xs) ≡ notes_in (entries_by m xs)
        → (if b then note_of x.entry ∷ notes_by m (map step_of xs) else notes_by m (map step_of xs))
        ≡ notes_in (cond b (x.entry ∷ entries_by m xs) (entries_by m xs))
    by true more = ap (λ (ns : List Note). note_of x.entry ∷ ns) more
    by false more = more

    by_lane : (lane : Option ℕ) (i : ℕ) → lane ≡ Some i → notes_by m (map step_of xs) ≡ notes_in (entries_by m xs)
        → (if unwrap_or lane 0 == m then note_of x.entry ∷ notes_by m (map step_of xs) else
        notes_by m (map step_of xs))
        ≡ notes_in (cond (is_lane m lane) (x.entry ∷ entries_by m xs) (entries_by m xs))
    by_lane None i is more = absurd (cc is)
    by_lane (Some j) i is more = by (j == m) more

-- a lane past these has none
pub none_past : (n m : ℕ) (xs : List Made) → n ≤ m → All (IsOfLane n) xs → entries_by m xs ≡ []
none_past n m [] le laned = refl
none_past n m (x ∷ xs) le laned =
    let here = All-head (IsOfLane n) x xs laned in let lt : here.0 < n = here.2 in
    let other : is_lane m x.lane ≡ false =
    ap (λ (lane : Option ℕ). is_lane m lane) here.1 ∙ ne_eqb here.0 m (λ e. omega (arith, lt, le, e)) in
    ap (λ (b : Bool). cond b (x.entry ∷ entries_by m xs) (entries_by m xs)) other
    ∙ none_past n m xs le (All-tail (IsOfLane n) x xs laned)

-- the steps before one, and the step
pub record Cut (xs : List Made) (before : List Step) (step : Step) : Type 0 where
  pub front : List Made
  pub here : Made
  pub back : List Made
  pub cut : xs ≡ front ++ here ∷ back
  pub fronts : map step_of front ≡ before
  pub is : step_of here ≡ step

pub cut_steps : (xs : List Made) (before after : List Step) (step : Step) → map step_of xs ≡ before ++ step ∷ after
    → Cut xs before step
cut_steps [] before after step is = none_cut before after step is
cut_steps (x ∷ xs) [] after step is =
    let head : step_of x ≡ step = cc is in
    record { front = []; here = x; back = xs; cut = refl; fronts = refl; is = head }
cut_steps (x ∷ xs) (b ∷ before) after step is =
    let head : step_of x ≡ b = cc is in let tail : map step_of xs ≡ before ++ step ∷ after = cc is in
    let c = cut_steps xs before after step tail in
    record {
      front = x ∷ c.front;
      here = c.here;
      back = c.back;
      cut = (let same = c.cut in λ i. x ∷ same i);
      fronts =
          (let f = c.fronts in λ i. head i ∷ f i);
      is = c.is;
    }

-- what the notes of these steps count is what their entries weigh
pub made_weighs : (test : Note → Bool) (xs : List Made) → made_of test (map step_of xs) ≡ weigh_made (law test) xs
made_weighs test [] = refl
made_weighs test (x ∷ xs) =
    let a = sum_by-cons (λ (y : Made). law test y.entry) x xs in let b = made_weighs test xs in omega (arith, a, b)

pub made_is : (test : Note → Bool) (f : Entry → ℕ) (xs : List Made)
    → All (λ (x : Made). law test x.entry ≡ f x.entry) xs
    → made_of test (map step_of xs) ≡ weigh_made f xs
made_is test f xs all =
    made_weighs test xs ∙ sums_same (λ (x : Made). law test x.entry) (λ (x : Made). f x.entry) xs all
