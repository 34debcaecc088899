-- Each step on the word of a count keeps the rule.
use Rattle.std.proofs.Common.{◌≡◌, ◌≢◌, ℕ, ◌+◌, ◌-◌, ◌%◌, ◌^◌, ◌<◌, ◌≤◌, List, length, set, sym, refl, ◌∙◌, subst, arith, get_or-set_same, get_or-set_other, le_refl, le_trans}
use Rattle.std.specs.Prelude.{Option, None, IfSome, sum_by, slice_index}
use Rattle.std.proofs.lemmas.List.Sums.{sum_by-set, sum_by-le-sum_by}
use mathlib.Core.Logic.{dite}
use native.Mathlib.Decide.{ℕ_discrete}
use mathlib.Core.Option.{some, none}
use mathlib.Core.Option as maybe
use lib.ListN.{get_elem?}
use Rattle.atomic_table.specs.Table.{State, Me, step, keeps, Allows}
use Rattle.step_law.proofs.Changes.{each_at, sum_at}
use Rattle.board_table.specs.declared.views.Stake.{Stake}
use Rattle.board_table.specs.declared.views.Inside.{Inside}
use Rattle.board_table.specs.declared.views.BoardView.{BoardView}
use Rattle.board_table.specs.declared.views.Opening.{Opening}
use Rattle.board_table.specs.Names.{named}
use Rattle.board_table.specs.Views.{no_stake, stake_of, more, less, total, inside_total, turns_left, moved, retained, released, ended}
use Rattle.board_table.specs.Sound.{IsSound, IsComposite, IsView, StandsIn, section_word, count_word, reserve, WasCounted}
use Rattle.board_table.specs.Steps.{retains, releases}
use Rattle.board_table.specs.Seats.{Counts}
use Rattle.board_table.proofs.Stakes.{within, each_stake, one_of}
use Rattle.board_table.proofs.Totals.{field, inside_same, fewer_turns}
use Rattle.board_table.proofs.Changes.{changes, knows_kept}

-- the sum of one field of all stakes of a view, where one of them changes
pub field_sum : (f : Stake → ℕ) (k : ℕ) (v : BoardView) (x : Stake) → k < length v.stakes
    → sum_by f (set v.stakes k x) + f (stake_of k v) ≡ sum_by f v.stakes + f x
field_sum f k v x lt = sum_by-set f v.stakes k x no_stake lt

-- the words of another composite are others
pub words_apart : (k j : ℕ) → j ≢ k → (section_word j ≢ count_word k) × (count_word j ≢ count_word k)
words_apart k j ne = ((λ e. omega (arith, e)), (λ e. ne (omega (arith, e))))

-- a composite after a step on its count
pub count_step : {H : Type 0} (Stands : H → Type 0) (left : H → ℕ) (least fewer : ℕ) (all all' : Stake)
    (inside inside' section section' count count' : ℕ) (home : maybe.Option (maybe.Option (Option H)))
    → IsComposite Stands left least all inside section count home → fewer ≤ least → section' ≡ section
    → inside' ≡ inside → all'.sections ≡ all.sections → all'.taken ≡ all.taken → count' ≡ all'.counts
    → all'.counts ≤ 1 + all'.retained → (all'.counts ≡ 0 → all'.marks + all'.taken ≡ 1)
    → (0 < all'.counts → all'.marks + all'.taken ≡ 0)
    → IsComposite Stands left fewer all' inside' section' count' home
count_step Stands left least fewer all all' inside inside' section section' count count' home c le a b d t e f g h =
    record {
      section_is = let x = c.section_is in omega (arith, x, a, b, d);
      alone = let x = c.alone in omega (arith, x, b);
      count_is = e;
      few = f;
      ended = g;
      counted = h;
      home_is = λ out here. let x = c.home_is (sym b ∙ out) (sym t ∙ here) in (x.0, x.1, x.2, le_trans le x.3);
      empty = λ out gone. c.empty (sym b ∙ out) (omega (arith, t, gone));
    }

module _ {H T : Type 0} (stands : T → ℕ → H → Type 0) (left : H → ℕ) (o : Opening T) where
  abbrev pub St : Type 0
  St = State (Option H) BoardView

  -- the counts of a composite are few
  pub few_counts : (s : St) (r : IsSound stands left o s) (k : ℕ) → k < o.composites
      → (total k s.views).counts ≤ 1 + 2 ^ 30
  few_counts s r k lt =
      let c = r.composites k lt in
      let a = sum_by-le-sum_by (λ (v : BoardView). (stake_of k v).retained) moved s.views
      (λ v. let b = one_of (λ (x : Stake). x.retained) refl k v in let m : ℕ = v.moves in let y : ℕ =
      (stake_of k v).retained in let z : ℕ = sum_by (λ (x : Stake). x.retained) v.stakes in let b' : y ≤ z = b in
      let goal : y ≤ z + m = omega (arith, b') in goal) in
      let f = c.few in let g = r.moves in let h = r.few in let x : ℕ = (total k s.views).counts in let y : ℕ =
      (total k s.views).retained in let z : ℕ = sum_by moved s.views in let m : ℕ = o.moves in
      let a' : y ≤ z = a in let f' : x ≤ 1 + y = f in let g' : z ≡ m = g in let h' : m < 1073741824 = h in
      let goal : x ≤ 1 + 1073741824 = omega (arith, a', f', g', h') in goal

  -- a view counts no more than all do
  pub one_counts : (f : Stake → ℕ) (k : ℕ) (views : List BoardView) (id : ℕ) (v : BoardView)
      → get_elem? views id ≡ some v → f (stake_of k v) ≤ sum_by (λ (u : BoardView). f (stake_of k u)) views
  one_counts f k views id v at = sum_at (λ (u : BoardView). f (stake_of k u)) views id v at

  module _ (id : ℕ) (me : Me (Option H) BoardView) (k : ℕ) (lt : k < o.composites) (counts : Counts k me.0)
      (out : me.0.inside ≡ None) where
    abbrev pub v : BoardView
    v = me.0

    pub there : k < length v.stakes
    there = within k v (let n : ℕ = (stake_of k v).counts in let m : ℕ = (stake_of k v).marks in let has : 0 < n =
        counts in let goal : 0 < n + m = omega (arith, has) in goal)

    abbrev pub changed : Stake → ℕ → BoardView
    changed x moves = record { stakes = set v.stakes k x; inside = v.inside; moves = moves; turns = v.turns }

    -- nobody has a mark of a composite that is counted, and it wasn't taken
    none_ended : (s : St) (r : IsSound stands left o s) → get_elem? s.views id ≡ some v
        → (0 < (total k s.views).counts) × ((total k s.views).marks + (total k s.views).taken ≡ 0)
        × ((stake_of k v).marks ≡ 0)
    none_ended s r at =
        let a = one_counts (λ (x : Stake). x.counts) k s.views id v at in
        let b = one_counts (λ (x : Stake). x.marks) k s.views id v at in
        let n : ℕ = (stake_of k v).counts in let m : ℕ = (stake_of k v).marks in let tc : ℕ = (total k s.views).counts
        in let tm : ℕ = (total k s.views).marks in let tt' : ℕ = (total k s.views).taken in
        let a' : n ≤ tc = a in let b' : m ≤ tm = b in let has : 0 < n = counts in
        let pos : 0 < tc = omega (arith, a', has) in let z : tm + tt' ≡ 0 = (r.composites k lt).counted pos in
        let no : m ≡ 0 = omega (arith, z, b') in (pos, z, no)

    -- a step on the count of composite k, after which the view has this stake of it
    pub count_changes : (s : St) (r : IsSound stands left o s) (x : Stake) (moves n : ℕ) → get_elem? s.views id ≡ some v
        → x.sections ≡ (stake_of k v).sections → x.taken ≡ (stake_of k v).taken
        → x.retained + moves ≡ (stake_of k v).retained + v.moves
        → n + (stake_of k v).counts ≡ slice_index s.words (count_word k) + x.counts
        → x.counts + (stake_of k v).retained ≤ (stake_of k v).counts + x.retained
        → (n ≡ 0 → x.marks ≡ 1) → (0 < n → x.marks ≡ 0)
        → IsSound stands left o (record {
          words = set s.words (count_word k) n;
          homes = s.homes;
          views = set s.views id
              (changed x moves);
        })
    count_changes s r x moves n at same gone ret cnt few over live =
        let w = changed x moves in let c = r.composites k lt in let free = none_ended s r at in
        let in_words : count_word k < length s.words = (let e = r.words in omega (arith, e, lt)) in
        let F : (f : Stake → ℕ) → sum_by (λ (u : BoardView). f (stake_of k u)) (set s.views id w) + f (stake_of k v)
        ≡ sum_by (λ (u : BoardView). f (stake_of k u)) s.views + f x = (λ f. subst (λ (y : Stake).
        sum_by (λ (u : BoardView). f (stake_of k u)) (set s.views id w) + f (stake_of k v)
        ≡ sum_by (λ (u : BoardView). f (stake_of k u)) s.views + f y)
        (get_or-set_same v.stakes k x no_stake there) (field s.views id v w at f k)) in
        let old = stake_of k v in let all = total k s.views in let new = total k (set s.views id w) in
        let tc : new.counts + old.counts ≡ all.counts + x.counts = F (λ (y : Stake). y.counts) in
        let tm : new.marks + old.marks ≡ all.marks + x.marks = F (λ (y : Stake). y.marks) in
        let tr : new.retained + old.retained ≡ all.retained + x.retained = F (λ (y : Stake). y.retained) in
        let ts : new.sections + old.sections ≡ all.sections + x.sections = F (λ (y : Stake). y.sections) in
        let tk : new.taken + old.taken ≡ all.taken + x.taken = F (λ (y : Stake). y.taken) in
        let word : ℕ = slice_index s.words (count_word k) in
        let is : word ≡ all.counts = c.count_is in let now : n ≡ new.counts = omega (arith, is, cnt, tc) in
        let f0 : all.counts ≤ 1 + all.retained = c.few in let free1 : all.marks + all.taken ≡ 0 = free.1 in
        let free2 : old.marks ≡ 0 = free.2 in let gone' : x.taken ≡ old.taken = gone in
        changes stands left o s r id v w k (count_word k) n s.homes at
        (λ j ne. get_or-set_other v.stakes k j x no_stake ne) (λ j ne. refl) (le_refl v.turns) (words_apart k)
        (record {
          inside = subst (λ (y : Option Inside). IfSome y (λ (z : Inside). (0 < (stake_of z.composite w).counts
              + (stake_of z.composite w).marks) × (0 < w.turns))) (sym out) tt;
          taken = λ j. each_stake (λ (y z : Stake). y.taken ≤ y.sections → z.taken ≤ z.sections) k v x there
              (λ y le. le) (λ le. omega (arith, le, same, gone)) j
              ((each_at IsView s.views id v r.views at).taken j);
        })
        (knows_kept s.views id v w at
        (λ j. each_stake (λ (y z : Stake). z.sections ≡ y.sections) k v x there (λ y. refl) same j)
        (le_refl v.turns) out r.knows)
        refl (λ j ne. refl)
        (let a = field_sum (λ (y : Stake). y.retained) k v x there in omega (arith, a, ret))
        (let a = field_sum (λ (y : Stake). y.sections) k v x there in omega (arith, a, same))
        (count_step (StandsIn stands (named o.origin) k) left (reserve (turns_left s.views))
        (reserve (turns_left (set s.views id w))) all new (inside_total k s.views) (inside_total k (set s.views id w))
        (slice_index s.words (section_word k)) (slice_index (set s.words (count_word k) n) (section_word k)) word
        (slice_index (set s.words (count_word k) n) (count_word k)) (get_elem? s.homes k) c
        (let a = fewer_turns s.views id v w at (le_refl v.turns) in omega (arith, a))
        (get_or-set_other s.words (count_word k) (section_word k) n 0 (λ e. omega (arith, e)))
        (inside_same s.views id v w at k refl) (omega (arith, ts, same)) (omega (arith, tk, gone'))
        (get_or-set_same s.words (count_word k) n 0 in_words ∙ now) (omega (arith, tc, tr, f0, few))
        (λ z. let a = over (now ∙ z) in omega (arith, tm, tk, free1, free2, gone', a))
        (λ p. let a = live (omega (arith, now, p)) in omega (arith, tm, tk, free1, free2, gone', a)))

    pub retains_allowed : 0 < me.0.moves → Allows (IsSound stands left o) o.composites id me (count_word k)
        (λ n. (n + 1) % 2 ^ 64)
        (retains k (step o.composites (count_word k) 1 0 none) me)
    retains_allowed moves s r _ at under =
        let word : ℕ = slice_index s.words (count_word k) in let old = stake_of k v in
        let small : word ≤ 1 + 2 ^ 30 = (let a = few_counts s r k lt in let b = (r.composites k lt).count_is in
        omega (arith, a, b)) in
        let up : (word + 1) % 2 ^ 64 ≡ word + 1 = omega (arith, small) in
        let free = none_ended s r at in (
          retained k v,
          keeps,
          tt,
          count_changes s r (record (more old) { retained = old.retained + 1 }) (v.moves - 1) ((word + 1) % 2 ^ 64) at
              refl refl (let m : ℕ = v.moves in let y : ℕ = old.retained in let p : 0 < m = moves in let goal : y + 1
              + (m - 1) ≡ y + m = omega (arith, p) in goal)
              (omega (arith, up)) (omega arith)
              (λ z. absurd (omega (arith, up, z))) (λ p. free.2),
          refl,
        )

    pub releases_allowed : (holds : St → Type 0) → ((s : St) → IsSound stands left o s → holds s)
        → Allows (IsSound stands left o) o.composites id me (count_word k) (λ n. (n + (2 ^ 64 - 1)) % 2 ^ 64)
        (releases holds k (step o.composites (count_word k) 1 0 none) me)
    releases_allowed holds tells s r _ at under =
        let word : ℕ = slice_index s.words (count_word k) in let old = stake_of k v in let c = r.composites k lt in
        let a = few_counts s r k lt in let b = c.count_is in let free = none_ended s r at in let pos = free.0 in
        let down : (word + (2 ^ 64 - 1)) % 2 ^ 64 + 1 ≡ word = omega (arith, a, b, pos) in
        let n : ℕ = (word + (2 ^ 64 - 1)) % 2 ^ 64 in let y : ℕ = old.counts in let z : ℕ = old.retained in
        let has : 0 < y = counts in
        let was : WasCounted holds k word v =
        record { moment = s; sound = tells s r; seat = id; view = at; count = refl } in
        dite (ℕ_discrete word 1)
        (λ last. (
          ended k v,
          keeps,
          tt,
          count_changes s r (record (less old) { marks = old.marks + 1 }) v.moves n at refl refl refl
              (let goal : n + y ≡ word + (y - 1) = omega (arith, has, down) in goal)
              (let goal : (y - 1) + z ≤ y + z = omega arith in goal)
              (λ z. let m = free.2 in omega (arith, m)) (λ p. absurd (omega (arith, down, last, p))),
          (was, (λ e. refl), (λ ne. absurd (ne last))),
        ))
        (λ others. (
          released k v,
          keeps,
          tt,
          count_changes s r (less old) v.moves n at refl refl refl
              (let goal : n + y ≡ word + (y - 1) = omega (arith, has, down) in goal)
              (let goal : (y - 1) + z ≤ y + z = omega arith in goal)
              (λ z. absurd (others (omega (arith, down, z)))) (λ p. free.2),
          (was, (λ e. absurd (others e)), (λ ne. refl)),
        ))
