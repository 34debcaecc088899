-- A count and turns go to a view of their own, or two views become one: what all have is as before.
use Rattle.std.proofs.Common.{◌≡◌, ◌≢◌, ℕ, zero, suc, ◌+◌, ◌-◌, ◌*◌, ◌<◌, ◌≤◌, List, [], ◌∷◌, ◌++◌, length, get_or, set, replicate, sym, refl, ap, ◌∙◌, subst, arith, get_or-set_same, get_or-set_other, mul-zero, le_refl}
use Rattle.std.specs.Prelude.{Option, Some, None, IfSome, All, sum_by}
use Rattle.std.proofs.lemmas.List.{get_or-replicate, get_or_past, length-replicate}
use Rattle.std.proofs.lemmas.List.Elements.{All-set, All-push, All-weaker}
use Rattle.std.proofs.lemmas.List.Folds.{sum_by-replicate}
use Rattle.std.proofs.lemmas.List.Sums.{sum_by-set, sum_by-cons, sum_by_push}
use mathlib.Core.Logic.{dite}
use native.Mathlib.Decide.{ℕ_discrete, dec_le}
use mathlib.Core.Option.{some}
use lib.ListN.{get_elem?}
use Rattle.atomic_table.specs.Table.{State, Splits, Joins}
use Rattle.atomic_table.proofs.Lists.{set_else}
use Rattle.step_law.proofs.Changes.{each_at, sum_set}
use Rattle.board_table.specs.declared.views.Stake.{Stake}
use Rattle.board_table.specs.declared.views.Inside.{Inside}
use Rattle.board_table.specs.declared.views.BoardView.{BoardView}
use Rattle.board_table.specs.declared.views.Opening.{Opening}
use Rattle.board_table.specs.Names.{named}
use Rattle.board_table.specs.Views.{no_stake, more, less, both, added, stake_of, total, inside_total, is_at, is_in, turns_left, spent, moved, blank, hand_left, handed, joined}
use Rattle.board_table.specs.Sound.{IsSound, IsView, Knows, StandsIn, reserve}
use Rattle.board_table.specs.Seats.{Counts}
use Rattle.board_table.proofs.Stakes.{within, each_stake, may_enter}
use Rattle.board_table.proofs.Changes.{kept_same}
use Rattle.board_table.proofs.CountSteps.{field_sum}

-- ---- Stakes of two views.

pub both_none : (x : Stake) → both x no_stake ≡ x
both_none x i =
    record {
      counts = (let n : ℕ = x.counts in let e : n + 0 ≡ n = omega arith in e) i;
      marks = (let n : ℕ = x.marks in let e : n + 0 ≡ n = omega arith in e) i;
      retained = (let n : ℕ = x.retained in let e : n + 0 ≡ n = omega arith in e) i;
      sections = (let n : ℕ = x.sections in let e : n + 0 ≡ n = omega arith in e) i;
      taken = (let n : ℕ = x.taken in let e : n + 0 ≡ n = omega arith in e) i;
    }

none_both : (x : Stake) → both no_stake x ≡ x
none_both x i =
    record {
      counts = (let n : ℕ = x.counts in let e : 0 + n ≡ n = omega arith in e) i;
      marks = (let n : ℕ = x.marks in let e : 0 + n ≡ n = omega arith in e) i;
      retained = (let n : ℕ = x.retained in let e : 0 + n ≡ n = omega arith in e) i;
      sections = (let n : ℕ = x.sections in let e : 0 + n ≡ n = omega arith in e) i;
      taken = (let n : ℕ = x.taken in let e : 0 + n ≡ n = omega arith in e) i;
    }

less_more : (x : Stake) → 0 < x.counts → both (less x) (more no_stake) ≡ x
less_more x p i =
    record {
      counts = (let n : ℕ = x.counts in let p' : 0 < n = p in let e : (n - 1) + 1 ≡ n = omega (arith, p') in e) i;
      marks = (let n : ℕ = x.marks in let e : n + 0 ≡ n = omega arith in e) i;
      retained = (let n : ℕ = x.retained in let e : n + 0 ≡ n = omega arith in e) i;
      sections = (let n : ℕ = x.sections in let e : n + 0 ≡ n = omega arith in e) i;
      taken = (let n : ℕ = x.taken in let e : n + 0 ≡ n = omega arith in e) i;
    }

-- no stakes at all
empty_stakes : (n j : ℕ) → get_or (replicate n no_stake) j no_stake ≡ no_stake
empty_stakes n j =
    dite (dec_le (length (replicate n no_stake)) j)
    (λ past. get_or_past (replicate n no_stake) j no_stake past)
    (λ ne. get_or-replicate n j no_stake no_stake (let e = length-replicate n no_stake in omega (arith, ne, e)))

-- the stakes of a view that was handed a count
pub handed_own : (k turns : ℕ) (v : BoardView) → stake_of k (handed k turns v) ≡ more no_stake
handed_own k turns v =
    get_or-set_same (replicate (k + 1) no_stake) k (more no_stake) no_stake
    (let e = length-replicate (k + 1) no_stake in omega (arith, e))

pub handed_other : (k turns : ℕ) (v : BoardView) (j : ℕ) → j ≢ k → stake_of j (handed k turns v) ≡ no_stake
handed_other k turns v j ne =
    get_or-set_other (replicate (k + 1) no_stake) k j (more no_stake) no_stake ne ∙ empty_stakes (k + 1) j

-- a field that a count does not have
handed_sum : (f : Stake → ℕ) → f no_stake ≡ 0 → f (more no_stake) ≡ 0 → (k turns : ℕ) (v : BoardView)
    → sum_by f (handed k turns v).stakes ≡ 0
handed_sum f none one k turns v =
    let a = sum_by-set f (replicate (k + 1) no_stake) k (more no_stake) no_stake
    (let e = length-replicate (k + 1) no_stake in omega (arith, e)) in
    let b = sum_by-replicate f (k + 1) no_stake in let c = ap f (empty_stakes (k + 1) k) in
    let z : (k + 1) * f no_stake ≡ 0 = ap (λ (n : ℕ). (k + 1) * n) none ∙ mul-zero (k + 1) in
    omega (arith, a, b, c, z, none, one)

pub added_at : (xs ys : List Stake) (j : ℕ)
    → both (get_or xs j no_stake) (get_or ys j no_stake) ≡ get_or (added xs ys) j no_stake
added_at [] ys j = none_both (get_or ys j no_stake)
added_at (x ∷ xs) [] j = both_none (get_or (x ∷ xs) j no_stake)
added_at (x ∷ xs) (y ∷ ys) zero = refl
added_at (x ∷ xs) (y ∷ ys) (suc j) = added_at xs ys j

pub added_sum : (f : Stake → ℕ) → ((x y : Stake) → f (both x y) ≡ f x + f y) → (xs ys : List Stake)
    → sum_by f (added xs ys) ≡ sum_by f xs + sum_by f ys
added_sum f add [] ys = let n : ℕ = sum_by f ys in let e : n ≡ 0 + n = omega arith in e
added_sum f add (x ∷ xs) [] = let n : ℕ = sum_by f (x ∷ xs) in let e : n ≡ n + 0 = omega arith in e
added_sum f add (x ∷ xs) (y ∷ ys) =
    let a = sum_by-cons f (both x y) (added xs ys) in let b = sum_by-cons f x xs in let c = sum_by-cons f y ys in
    let d = added_sum f add xs ys in let e = add x y in omega (arith, a, b, c, d, e)

pub added_length : (xs ys : List Stake) (n : ℕ) → length xs ≤ n → length ys ≤ n → length (added xs ys) ≤ n
added_length [] ys n a b = b
added_length (x ∷ xs) [] n a b = a
added_length (x ∷ xs) (y ∷ ys) zero a b = absurd (omega (arith, a))
added_length (x ∷ xs) (y ∷ ys) (suc n) a b =
    let c = added_length xs ys n (omega (arith, a)) (omega (arith, b)) in omega (arith, c)

-- ---- All views.

-- what all views have of a composite is as before, where two stakes are the same together
pub total_eq : (k : ℕ) (xs ys : List BoardView)
    → ((f : Stake → ℕ) → ((x y : Stake) → f (both x y) ≡ f x + f y)
    → sum_by (λ (u : BoardView). f (stake_of k u)) ys ≡ sum_by (λ (u : BoardView). f (stake_of k u)) xs)
    → total k ys ≡ total k xs
total_eq k xs ys F i =
    record {
      counts = F (λ (x : Stake). x.counts) (λ x y. refl) i;
      marks = F (λ (x : Stake). x.marks) (λ x y. refl) i;
      retained = F (λ (x : Stake). x.retained) (λ x y. refl) i;
      sections = F (λ (x : Stake). x.sections) (λ x y. refl) i;
      taken = F (λ (x : Stake). x.taken) (λ x y. refl) i;
    }

-- one view becomes two
pub split_sum : (f : BoardView → ℕ) (views : List BoardView) (id : ℕ) (v a b : BoardView)
    → get_elem? views id ≡ some v → f a + f b ≡ f v → sum_by f (set views id a ++ b ∷ []) ≡ sum_by f views
split_sum f views id v a b at e =
    let p = sum_by_push f (set views id a) b in let q = sum_set f views id v a at in omega (arith, p, q, e)

-- two views become one
pub join_sum : (f : BoardView → ℕ) (views : List BoardView) (id other : ℕ) (v w a b : BoardView)
    → get_elem? views id ≡ some v → get_elem? (set views id a) other ≡ some w → f a + f b ≡ f v + f w
    → sum_by f (set (set views id a) other b) ≡ sum_by f views
join_sum f views id other v w a b at bt e =
    let p = sum_set f (set views id a) other w b bt in let q = sum_set f views id v a at in omega (arith, p, q, e)

module _ {H T : Type 0} (stands : T → ℕ → H → Type 0) (left : H → ℕ) (o : Opening T) where
  abbrev pub St : Type 0
  St = State (Option H) BoardView

  -- other views that have the same together
  pub same_sound : (s : St) (r : IsSound stands left o s) (views : List BoardView)
      → ((k : ℕ) → total k views ≡ total k s.views) → ((k : ℕ) → inside_total k views ≡ inside_total k s.views)
      → turns_left views ≡ turns_left s.views → All IsView views → All (Knows s.views) views
      → sum_by moved views ≡ sum_by moved s.views → sum_by spent views ≡ sum_by spent s.views
      → IsSound stands left o (record { words = s.words; homes = s.homes; views = views })
  same_sound s r views same inside turns fine knows moves spends =
      record {
        words = r.words;
        homes = r.homes;
        views = fine;
        knows = All-weaker (Knows s.views) (Knows views) (λ u k. again u.inside k) views knows;
        composites = λ k lt. kept_same (StandsIn stands (named o.origin) k) left (reserve (turns_left s.views))
            (reserve (turns_left views)) (total k s.views) (total k views) (inside_total k s.views)
            (inside_total k views) _ _ _ _ (get_elem? s.homes k) (get_elem? s.homes k)
            (let p : ℕ = turns_left views in let q : ℕ = turns_left s.views in let e : p ≡ q = turns in
            let goal : 25 * p + 100 ≤ 25 * q + 100 = omega (arith, e) in goal)
            (same k) (inside k) refl refl refl (r.composites k lt);
        moves = moves ∙ r.moves;
        few = r.few;
        sections = spends ∙ r.sections;
        room = r.room;
      }
    where
      again : (y : Option Inside)
          → IfSome y (λ (x : Inside). (x.number ≡ (total x.composite s.views).sections)
          × (turns_left s.views ≤ x.turns))
          → IfSome y (λ (x : Inside). (x.number ≡ (total x.composite views).sections) × (turns_left views ≤ x.turns))
      again None k = tt
      again (Some x) k = (
        k.0 ∙ sym (ap (λ (y : Stake). y.sections) (same x.composite)),
        subst (λ (n : ℕ). n ≤ x.turns) (sym turns) k.1,
      )

  -- a view in no section
  outside_knows : (views : List BoardView) (v : BoardView) → v.inside ≡ None → Knows views v
  outside_knows views v out =
      subst (λ (y : Option Inside). IfSome y (λ (x : Inside). (x.number ≡ (total x.composite views).sections)
      × (turns_left views ≤ x.turns))) (sym out) tt

  outside_view : (v : BoardView) → v.inside ≡ None
      → ((k : ℕ) → (stake_of k v).taken ≤ (stake_of k v).sections) → IsView v
  outside_view v out le =
      record {
        inside = subst (λ (y : Option Inside). IfSome y (λ (x : Inside). (0 < (stake_of x.composite v).counts
            + (stake_of x.composite v).marks) × (0 < v.turns))) (sym out) tt;
        taken = le;
      }

  pub hands_allowed : (id k turns : ℕ) (v : BoardView) → Counts k v → v.inside ≡ None → turns ≤ v.turns
      → Splits (IsSound stands left o) id v (hand_left k turns v) (handed k turns v)
  hands_allowed id k turns v counts out le s r at =
      let a = hand_left k turns v in let b = handed k turns v in let there = within k v (may_enter k v counts) in
      let parts : (j : ℕ) → both (stake_of j a) (stake_of j b) ≡ stake_of j v = (λ j. dite (ℕ_discrete j k)
      (λ e. subst (λ (n : ℕ). both (stake_of n a) (stake_of n b) ≡ stake_of n v) (sym e)
      ((λ i. both (get_or-set_same v.stakes k (less (stake_of k v)) no_stake there i) (handed_own k turns v i))
      ∙ less_more (stake_of k v) counts))
      (λ ne. (λ i. both (get_or-set_other v.stakes k j (less (stake_of k v)) no_stake ne i)
      (handed_other k turns v j ne i)) ∙ both_none (stake_of j v))) in
      let split = λ (f : BoardView → ℕ) (e : f a + f b ≡ f v). split_sum f s.views id v a b at e in
      same_sound s r (set s.views id a ++ b ∷ [])
      (λ j. total_eq j s.views (set s.views id a ++ b ∷ []) (λ f add. split (λ (u : BoardView). f (stake_of j u))
      (sym (add (stake_of j a) (stake_of j b)) ∙ ap f (parts j))))
      (λ j. split (is_in j) (let e = ap (is_at j) out in let n : ℕ = is_in j v in let e' : n ≡ 0 = e in let goal : n + 0
      ≡ n = omega arith in goal))
      (split (λ (u : BoardView). u.turns) (let t : ℕ = v.turns in let le' : turns ≤ t = le in let goal : (t - turns)
      + turns ≡ t = omega (arith, le') in goal))
      (All-push IsView (set s.views id a) b (All-set IsView s.views id a (outside_view a out
      (λ j. each_stake (λ (y z : Stake). y.taken ≤ y.sections → z.taken ≤ z.sections) k v (less (stake_of k v)) there
      (λ y le. le) (λ le. le) j ((each_at IsView s.views id v r.views at).taken j))) r.views)
      (outside_view b refl (λ j. dite (ℕ_discrete j k)
      (λ e. subst (λ (n : ℕ). (stake_of n b).taken ≤ (stake_of n b).sections) (sym e)
      (subst (λ (y : Stake). y.taken ≤ y.sections) (sym (handed_own k turns v)) (le_refl 0)))
      (λ ne. subst (λ (y : Stake). y.taken ≤ y.sections) (sym (handed_other k turns v j ne)) (le_refl 0)))))
      (All-push (Knows s.views) (set s.views id a) b (All-set (Knows s.views) s.views id a
      (outside_knows s.views a out) r.knows) (outside_knows s.views b refl))
      (split moved (let x = field_sum (λ (y : Stake). y.retained) k v (less (stake_of k v)) there in
      let y = handed_sum (λ (y : Stake). y.retained) refl refl k turns v in let m : ℕ = v.moves in
      let p : ℕ = sum_by (λ (y : Stake). y.retained) a.stakes in
      let q : ℕ = sum_by (λ (y : Stake). y.retained) v.stakes in let n : ℕ = (stake_of k v).retained in
      let z : ℕ = sum_by (λ (y : Stake). y.retained) b.stakes in let x' : p + n ≡ q + n = x in let y' : z ≡ 0 = y in
      let goal : (p + m) + (z + 0) ≡ q + m = omega (arith, x', y') in goal))
      (split spent (let x = field_sum (λ (y : Stake). y.sections) k v (less (stake_of k v)) there in
      let y = handed_sum (λ (y : Stake). y.sections) refl refl k turns v in let t : ℕ = v.turns in
      let p : ℕ = sum_by (λ (y : Stake). y.sections) a.stakes in
      let q : ℕ = sum_by (λ (y : Stake). y.sections) v.stakes in let n : ℕ = (stake_of k v).sections in
      let z : ℕ = sum_by (λ (y : Stake). y.sections) b.stakes in let x' : p + n ≡ q + n = x in let y' : z ≡ 0 = y in
      let le' : turns ≤ t = le in let goal : (p + (t - turns)) + (z + turns) ≡ q + t =
      omega (arith, x', y', le') in goal))

  pub joins_allowed : (id other : ℕ) (v w : BoardView) → v.inside ≡ None → w.inside ≡ None
      → Joins (IsSound stands left o) id v other w (joined v w) blank
  joins_allowed id other v w out apart s r at ne bt =
      let a = joined v w in let views = set (set s.views id a) other blank in
      let at_w = set_else_there s id other a w ne bt in
      let join = λ (f : BoardView → ℕ) (e : f a + f blank ≡ f v + f w). join_sum f s.views id other v w a blank at bt e
      in
      let fv = each_at IsView s.views id v r.views at in let fw = each_at IsView s.views other w r.views at_w in
      same_sound s r views
      (λ j. total_eq j s.views views (λ f add. join (λ (u : BoardView). f (stake_of j u))
      (let e = ap f (sym (added_at v.stakes w.stakes j)) ∙ add (stake_of j v) (stake_of j w) in let p : ℕ =
      f (stake_of j a) in let q : ℕ = f no_stake in let z = add no_stake no_stake in let m : ℕ = f (stake_of j v) in
      let n : ℕ = f (stake_of j w) in let e' : p ≡ m + n = e in let z' : q ≡ q + q = z in let goal : p + q ≡ m + n =
      omega (arith, e', z') in goal)))
      (λ j. join (is_in j) (let e = ap (is_at j) apart in let n : ℕ = is_in j v in let m : ℕ = is_in j w in let e' : m
      ≡ 0 = e in let goal : n + 0 ≡ n + m = omega (arith, e') in goal))
      (join (λ (u : BoardView). u.turns) (let t : ℕ = v.turns in let u : ℕ = w.turns in let goal : (t + u) + 0 ≡ t + u =
      omega arith in goal))
      (All-set IsView (set s.views id a) other blank (outside_view blank refl (λ j. le_refl 0))
      (All-set IsView s.views id a (outside_view a out (λ j. subst (λ (y : Stake). y.taken ≤ y.sections)
      (added_at v.stakes w.stakes j) (let x = fv.taken j in let y = fw.taken j in omega (arith, x, y)))) r.views))
      (All-set (Knows s.views) (set s.views id a) other blank (outside_knows s.views blank refl)
      (All-set (Knows s.views) s.views id a (outside_knows s.views a out) r.knows))
      (join moved (let e = added_sum (λ (y : Stake). y.retained) (λ x y. refl) v.stakes w.stakes in
      let p : ℕ = sum_by (λ (y : Stake). y.retained) a.stakes in
      let q : ℕ = sum_by (λ (y : Stake). y.retained) v.stakes in
      let n : ℕ = sum_by (λ (y : Stake). y.retained) w.stakes in let m : ℕ = v.moves in let m' : ℕ = w.moves in
      let e' : p ≡ q + n = e in let goal : (p + (m + m')) + 0 ≡ (q + m) + (n + m') = omega (arith, e') in goal))
      (join spent (let e = added_sum (λ (y : Stake). y.sections) (λ x y. refl) v.stakes w.stakes in
      let p : ℕ = sum_by (λ (y : Stake). y.sections) a.stakes in
      let q : ℕ = sum_by (λ (y : Stake). y.sections) v.stakes in
      let n : ℕ = sum_by (λ (y : Stake). y.sections) w.stakes in let m : ℕ = v.turns in let m' : ℕ = w.turns in
      let e' : p ≡ q + n = e in let goal : (p + (m + m')) + 0 ≡ (q + m) + (n + m') = omega (arith, e') in goal))
    where
      set_else_there : (s : St) (id other : ℕ) (a w : BoardView) → (other ≡ id → ⊥)
          → get_elem? (set s.views id a) other ≡ some w → get_elem? s.views other ≡ some w
      set_else_there s id other a w ne bt = sym (set_else s.views id other a ne) ∙ bt
