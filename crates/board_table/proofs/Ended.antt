-- The step that ends a section keeps the rule, with the core at home again or taken.
use Rattle.std.proofs.Common.{◌≡◌, ◌≢◌, ℕ, ◌+◌, ◌-◌, ◌*◌, ◌%◌, ◌^◌, ◌<◌, ◌≤◌, List, [], ◌∷◌, length, set, Bool, cond, sym, refl, ap, ◌∙◌, subst, arith, le_trans, length-set, get_or-set_same, get_or-set_other, eq-eqb, ne_eqb}
use Rattle.std.specs.Prelude.{Option, Some, None, IfSome, sum_by, slice_index}
use Rattle.std.proofs.lemmas.List.Sums.{sum_by-le-sum_by}
use mathlib.Core.Option.{some, none}
use lib.ListN.{get_elem?}
use Rattle.atomic_table.specs.Table.{State, Me, step, gives, Allows}
use Rattle.atomic_table.proofs.Lists.{set_else, set_here}
use Rattle.step_law.proofs.Changes.{each_at, each_set, sum_at, sum_two, sum_set}
use Rattle.board_table.specs.declared.views.Stake.{Stake}
use Rattle.board_table.specs.declared.views.Inside.{Inside}
use Rattle.board_table.specs.declared.views.BoardView.{BoardView}
use Rattle.board_table.specs.declared.views.Opening.{Opening}
use Rattle.board_table.specs.Names.{named}
use Rattle.board_table.specs.Views.{no_stake, stake_of, total, inside_total, is_at, is_in, turns_left, spent, done, took}
use Rattle.board_table.specs.Sound.{IsSound, IsView, Knows, StandsIn, section_word, count_word, reserve}
use Rattle.board_table.specs.Steps.{dones, takes}
use Rattle.board_table.specs.Seats.{MayEnter, HasMark}
use Rattle.board_table.specs.Sections.{StandsFor}
use Rattle.board_table.proofs.Stakes.{within, each_stake, one_of}
use Rattle.board_table.proofs.Totals.{field, inside, total_same}
use Rattle.board_table.proofs.Changes.{changes}
use Rattle.board_table.proofs.CountSteps.{field_sum, one_counts}
use Rattle.board_table.proofs.Claimed.{inside_may, not_taken}

module _ {H T : Type 0} (stands : T → ℕ → H → Type 0) (left : H → ℕ) (o : Opening T) where
  abbrev pub St : Type 0
  St = State (Option H) BoardView

  -- the sections of a composite are few
  pub few_sections : (s : St) (r : IsSound stands left o s) (k : ℕ) → (total k s.views).sections ≤ o.turns
  few_sections s r k =
      let a = sum_by-le-sum_by (λ (v : BoardView). (stake_of k v).sections) spent s.views
      (λ v. let b = one_of (λ (x : Stake). x.sections) refl k v in let m : ℕ = v.turns in let y : ℕ =
      (stake_of k v).sections in let z : ℕ = sum_by (λ (x : Stake). x.sections) v.stakes in let b' : y ≤ z = b in
      let goal : y ≤ z + m = omega (arith, b') in goal) in
      let x : ℕ = (total k s.views).sections in let z : ℕ = sum_by spent s.views in let a' : x ≤ z = a in let e : z
      ≡ o.turns = r.sections in subst (λ (n : ℕ). x ≤ n) e a'

  module _ (id : ℕ) (v : BoardView) (k : ℕ) (lt : k < o.composites) (x0 : Inside) (is : v.inside ≡ Some x0)
      (ke : x0.composite ≡ k) (may : MayEnter k v) where
    there : k < length v.stakes
    there = within k v may

    -- the view with this stake, behind the section
    abbrev pub behind : Stake → BoardView
    behind x = record { stakes = set v.stakes k x; inside = None; moves = v.moves; turns = v.turns - 1 }

    own_in : is_in k v ≡ 1
    own_in = ap (is_at k) is ∙ ap (λ (b : Bool). cond {A = ℕ} b 1 0) (eq-eqb x0.composite k ke)

    -- it is the one view in the section
    all_in : (s : St) (r : IsSound stands left o s) → get_elem? s.views id ≡ some v → inside_total k s.views ≡ 1
    all_in s r at =
        let a = sum_at (is_in k) s.views id v at in let b = (r.composites k lt).alone in let e = own_in in
        let n : ℕ = is_in k v in let m : ℕ = inside_total k s.views in let a' : n ≤ m = a in let b' : m ≤ 1 = b in
        let e' : n ≡ 1 = e in let goal : m ≡ 1 = omega (arith, a', b', e') in goal

    -- what the view knows, with its turn
    known : (s : St) (r : IsSound stands left o s) → get_elem? s.views id ≡ some v
        → (x0.number ≡ (total k s.views).sections) × (turns_left s.views ≤ x0.turns) × (0 < v.turns)
    known s r at =
        let knows = subst (λ (y : Option Inside). IfSome y (λ (x : Inside).
        (x.number ≡ (total x.composite s.views).sections) × (turns_left s.views ≤ x.turns))) is
        (each_at (Knows s.views) s.views id v r.knows at) in (
          knows.0 ∙ ap (λ (n : ℕ). (total n s.views).sections) ke,
          knows.1,
          (inside_may stands left o s r id k v x0 at is ke).1,
        )

    -- the word of the section
    word_is : (s : St) (r : IsSound stands left o s) → get_elem? s.views id ≡ some v
        → slice_index s.words (section_word k) ≡ 2 * (total k s.views).sections + 1
    word_is s r at =
        let e = (r.composites k lt).section_is in let i = all_in s r at in let w : ℕ =
        slice_index s.words (section_word k) in let n : ℕ = (total k s.views).sections in let m : ℕ =
        inside_total k s.views in let e' : w ≡ 2 * n + m = e in let i' : m ≡ 1 = i in let goal : w ≡ 2 * n + 1 =
        omega (arith, e', i') in goal

    -- the section ends, and the slot has this
    pub section_ends : (s : St) (r : IsSound stands left o s) (x : Stake) (y : Option H)
        → get_elem? s.views id ≡ some v → x.counts ≡ (stake_of k v).counts → x.retained ≡ (stake_of k v).retained
        → x.sections ≡ (stake_of k v).sections + 1
        → x.marks + x.taken ≡ (stake_of k v).marks + (stake_of k v).taken
        → ((stake_of k v).taken ≤ (stake_of k v).sections → x.taken ≤ x.sections)
        → (x.taken ≡ 0 → (h : H) × (y ≡ Some h) × StandsIn stands (named o.origin) k h
        × (reserve (x0.turns - 1) ≤ left h)) → (0 < x.taken → y ≡ None)
        → IsSound stands left o (record {
          words = set s.words (section_word k) ((slice_index s.words (section_word k) + 1) % 2 ^ 64);
          homes = set s.homes k (some y);
          views = set s.views id (behind x);
        })
    section_ends s r x y at cs rs ss ms small home empty =
        let w = behind x in let c = r.composites k lt in let new = set s.views id w in
        let word : ℕ = slice_index s.words (section_word k) in let now : ℕ = (word + 1) % 2 ^ 64 in
        let n : ℕ = (total k s.views).sections in let is_word : word ≡ 2 * n + 1 = word_is s r at in
        let low : n < 2 ^ 50 = (let a = few_sections s r k in let b = r.room in let t : ℕ = o.turns in
        let a' : n ≤ t = a in let b' : t < 2 ^ 50 = b in let goal : n < 2 ^ 50 = omega (arith, a', b') in goal) in
        let up : now ≡ 2 * n + 2 = omega (arith, is_word, low) in
        let in_words : section_word k < length s.words = (let e = r.words in omega (arith, e, lt)) in
        let in_homes : k < length s.homes = (let e = r.homes in omega (arith, e, lt)) in
        let F : (f : Stake → ℕ) → sum_by (λ (u : BoardView). f (stake_of k u)) new + f (stake_of k v)
        ≡ sum_by (λ (u : BoardView). f (stake_of k u)) s.views + f x = (λ f. subst (λ (y : Stake).
        sum_by (λ (u : BoardView). f (stake_of k u)) new + f (stake_of k v)
        ≡ sum_by (λ (u : BoardView). f (stake_of k u)) s.views + f y)
        (get_or-set_same v.stakes k x no_stake there) (field s.views id v w at f k)) in
        let old = stake_of k v in let all = total k s.views in let after = total k new in
        let tc : after.counts + old.counts ≡ all.counts + x.counts = F (λ (y : Stake). y.counts) in
        let tm : after.marks + old.marks ≡ all.marks + x.marks = F (λ (y : Stake). y.marks) in
        let tr : after.retained + old.retained ≡ all.retained + x.retained = F (λ (y : Stake). y.retained) in
        let ts : after.sections + old.sections ≡ all.sections + x.sections = F (λ (y : Stake). y.sections) in
        let tk : after.taken + old.taken ≡ all.taken + x.taken = F (λ (y : Stake). y.taken) in
        let none_taken : all.taken ≡ 0 = not_taken stands left o s r id k v lt at may in
        let own_taken : old.taken ≤ all.taken = one_counts stands left o (λ (y : Stake). y.taken) k s.views id v at in
        let taken_is : after.taken ≡ x.taken = omega (arith, tk, none_taken, own_taken) in
        let k0 = known s r at in let turn : 0 < v.turns = k0.2 in
        let left_now : turns_left new + 1 ≡ turns_left s.views =
        (let a = sum_set (λ (u : BoardView). u.turns) s.views id v w at in let p : ℕ = turns_left new in let q : ℕ =
        turns_left s.views in let t : ℕ = v.turns in let a' : p + t ≡ q + (t - 1) = a in let goal : p + 1 ≡ q =
        omega (arith, a', turn) in goal) in
        let none_in : inside_total k new ≡ 0 = (let a = inside s.views id v w at k in let b = all_in s r at in
        let e = own_in in let p : ℕ = inside_total k new in let q : ℕ = inside_total k s.views in let i : ℕ = is_in k v
        in let a' : p + i ≡ q + 0 = a in let b' : q ≡ 1 = b in let e' : i ≡ 1 = e in let goal : p ≡ 0 =
        omega (arith, a', b', e') in goal) in
        let counts_same : after.counts ≡ all.counts = omega (arith, tc, cs) in
        let ends_same : after.marks + after.taken ≡ all.marks + all.taken = omega (arith, tm, tk, ms) in
        changes stands left o s r id v w k (section_word k) now (set s.homes k (some y)) at
        (λ j ne. get_or-set_other v.stakes k j x no_stake ne)
        (λ j ne. sym (ap (is_at j) is ∙ ap (λ (b : Bool). cond {A = ℕ} b 1 0)
        (ne_eqb x0.composite j (λ e. ne (sym e ∙ ke)))))
        (let t : ℕ = v.turns in let goal : t - 1 ≤ t = omega arith in goal)
        (λ j ne. ((λ e. ne (omega (arith, e))), (λ e. omega (arith, e))))
        (record {
          inside = tt;
          taken = λ j. each_stake (λ (y z : Stake). y.taken ≤ y.sections → z.taken ≤ z.sections) k v x there
              (λ y le. le) small j ((each_at IsView s.views id v r.views at).taken j);
        })
        (each_set (Knows s.views) (Knows new) s.views id w r.knows
        (λ j u ne bt knows. others new s r u.inside
        (λ (z : Inside) (zi : u.inside ≡ Some z) (zk : z.composite ≡ k).
        let p : ℕ = is_in k v in let q : ℕ = is_in k u in let t : ℕ = inside_total k s.views in
        let both : p + q ≤ t = sum_two (is_in k) s.views id j v u (λ e. ne (sym e)) at bt in
        let one : t ≡ 1 = all_in s r at in let own : p ≡ 1 = own_in in
        let its : q ≡ 1 = ap (is_at k) zi ∙ ap (λ (b : Bool). cond {A = ℕ} b 1 0) (eq-eqb z.composite k zk) in
        omega (arith, both, one, own, its))
        (λ j ne. total_same s.views id v w at j (get_or-set_other v.stakes k j x no_stake ne))
        (omega (arith, left_now)) knows) tt)
        (length-set s.homes k (some y)) (λ j ne. set_else s.homes k j (some y) ne)
        (let a = field_sum (λ (y : Stake). y.retained) k v x there in omega (arith, a, rs))
        (let a = field_sum (λ (y : Stake). y.sections) k v x there in let t : ℕ = v.turns in let p : ℕ =
        sum_by (λ (y : Stake). y.sections) (set v.stakes k x) in let q : ℕ = sum_by (λ (y : Stake). y.sections) v.stakes
        in let n : ℕ = old.sections in let m : ℕ = x.sections in let a' : p + n ≡ q + m = a in let ss' : m ≡ n + 1 = ss
        in let goal : p + (t - 1) ≡ q + t = omega (arith, a', ss', turn) in goal)
        (record {
          section_is = let e = get_or-set_same s.words (section_word k) now 0 in_words in
              let a : ℕ = slice_index (set s.words (section_word k) now) (section_word k) in let p : ℕ =
              inside_total k new in let e' : a ≡ now = e in let z : p ≡ 0 = none_in in let goal : a ≡ 2
              * after.sections + p = omega (arith, e', z, up, ts, ss) in goal;
          alone = omega (arith, none_in);
          count_is = get_or-set_other s.words (section_word k) (count_word k) now 0 (λ e. omega (arith, e)) ∙ c.count_is
              ∙ sym counts_same;
          few = let f : all.counts ≤ 1 + all.retained = c.few in omega (arith, f, counts_same, tr, rs);
          ended = λ z. ends_same ∙ c.ended (sym counts_same ∙ z);
          counted = λ p. ends_same ∙ c.counted (omega (arith, counts_same, p));
          home_is = λ zero here. let h = home (sym taken_is ∙ here) in (
            h.0,
            set_here s.homes k (some y) in_homes ∙ ap (λ (z : Option H). some (some z)) h.1,
            h.2,
            le_trans (let p : ℕ = turns_left new in let q : ℕ = turns_left s.views in let t : ℕ = x0.turns in
                let l' : p + 1 ≡ q = left_now in let g : q ≤ t = k0.1 in let goal : 25 * p + 100
                ≤ 25 * (t - 1) + 100 = omega (arith, l', g) in goal) h.3,
          );
          empty = λ zero gone. set_here s.homes k (some y) in_homes
              ∙ ap (λ (z : Option H). some (some z)) (empty (omega (arith, taken_is, gone)));
        })
      where
        others : (new : List BoardView) (s : St) (r : IsSound stands left o s) (y : Option Inside)
            → ((z : Inside) → y ≡ Some z → z.composite ≡ k → ⊥)
            → ((j : ℕ) → j ≢ k → total j new ≡ total j s.views) → turns_left new ≤ turns_left s.views
            → IfSome y (λ (x : Inside). (x.number ≡ (total x.composite s.views).sections)
            × (turns_left s.views ≤ x.turns))
            → IfSome y (λ (x : Inside). (x.number ≡ (total x.composite new).sections) × (turns_left new ≤ x.turns))
        others new s r None apart same le knows = tt
        others new s r (Some z) apart same le knows = (
          knows.0 ∙ sym (ap (λ (y : Stake). y.sections) (same z.composite (apart z refl))),
          le_trans le knows.1,
        )

    pub dones_allowed : (h : H) → StandsFor stands left o k (x0.turns - 1) h
        → Allows (IsSound stands left o) o.composites id (v, (k, Some h) ∷ []) (section_word k)
        (λ n. (n + 1) % 2 ^ 64)
        (dones (step o.composites (section_word k) 1 0 none) (v, (k, Some h) ∷ []))
    dones_allowed h fits s r _ at under =
        let old = stake_of k v in let x : Stake = record old { sections = old.sections + 1 } in
        let none_taken : (total k s.views).taken ≡ 0 = not_taken stands left o s r id k v lt at may in
        let own_taken : old.taken ≤ (total k s.views).taken =
        one_counts stands left o (λ (y : Stake). y.taken) k s.views id v at in let word = word_is s r at in let k0 =
        known s r at in let w : ℕ = slice_index s.words (section_word k) in let n : ℕ = (total k s.views).sections in
        let word' : w ≡ 2 * n + 1 = word in let m : ℕ = x0.number in let same : m ≡ n = k0.0 in (
          done k v,
          gives,
          tt,
          section_ends s r x (Some h) at refl refl refl refl
              (λ le. let p : ℕ = old.taken in let q : ℕ = old.sections in let le' : p ≤ q = le in let goal : p ≤ q + 1 =
              omega (arith, le') in goal)
              (λ _. (h, refl, fits.stands_for, fits.reserved))
              (λ p. let y : ℕ = old.taken in let p' : 0 < y = p in absurd (omega (arith, none_taken, own_taken, p'))),
          subst (λ (y : Option Inside). IfSome y (λ (x : Inside). (w ≡ 2 * x.number + 1)
              × ◌≡◌ {A = Me (Option H) BoardView} (done k v, []) (done x.composite v, []))) (sym is) (
                (let goal : w ≡ 2 * m + 1 = omega (arith, word', same) in goal),
                ap (λ (j : ℕ). (done j v, [])) (sym ke),
              ),
        )

    pub takes_allowed : HasMark k v
        → Allows (IsSound stands left o) o.composites id (v, (k, None) ∷ []) (section_word k)
        (λ n. (n + 1) % 2 ^ 64)
        (takes (step o.composites (section_word k) 1 0 none) (v, (k, None) ∷ []))
    takes_allowed mark s r _ at under =
        let old = stake_of k v in let x : Stake = record old {
          marks = old.marks - 1;
          sections = old.sections + 1;
          taken =
              old.taken + 1;
        } in (
          took k v,
          gives,
          tt,
          section_ends s r x None at refl refl refl
              (let p : ℕ = old.marks in let q : ℕ = old.taken in let pos : 0 < p = mark in let goal : (p - 1) + (q + 1)
              ≡ p + q = omega (arith, pos) in goal)
              (λ le. let p : ℕ = old.taken in let q : ℕ = old.sections in let le' : p ≤ q = le in let goal : p + 1
              ≤ q + 1 = omega (arith, le') in goal)
              (λ z. let p : ℕ = old.taken in let z' : p + 1 ≡ 0 = z in absurd (omega (arith, z'))) (λ p. refl),
          subst (λ (y : Option Inside). IfSome y (λ (x : Inside).
              ◌≡◌ {A = Me (Option H) BoardView} (took k v, []) (took x.composite v, []))) (sym is)
              (ap (λ (j : ℕ). (took j v, [])) (sym ke)),
        )
