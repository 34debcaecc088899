-- What each call leaves of a seat's view: its counts of the first composite, its moves and turns, and the
-- sections that it made, with the turns that it has left.
use Rattle.std.proofs.Common.{◌≡◌, ℕ, ◌+◌, ◌-◌, ◌<◌, ◌≤◌, length, set, refl, sym, ap, arith, get_or-set_same}
use Rattle.std.specs.Prelude.{sum_by}
use Rattle.board_table.specs.declared.views.Stake.{Stake}
use Rattle.board_table.specs.declared.views.BoardView.{BoardView}
use Rattle.board_table.specs.Seats.{Counts, HasMark}
use Rattle.board_table.specs.Views.{no_stake, more, less, stake_of, spent, retained, released, ended, hand_left, handed, joined, done, took}
use Rattle.board_table.proofs.Stakes.{within}
use Rattle.board_table.proofs.CountSteps.{field_sum}
use Rattle.board_table.proofs.Seatings.{added_at, added_sum}

abbrev sections_of : Stake → ℕ
sections_of x = x.sections

abbrev pub counts_of : BoardView → ℕ
counts_of v = (stake_of 0 v).counts

-- so many counts, moves and turns, and so much that is spent or left
pub record Has (counts moves turns all : ℕ) (v : BoardView) : Type 0 where
  pub counts_are : counts_of v ≡ counts
  pub moves_are : v.moves ≡ moves
  pub turns_are : v.turns ≡ turns
  pub spent_is : spent v ≡ all

module _ (v : BoardView) where
  abbrev own : Stake
  own = stake_of 0 v

  -- the view with another stake of the composite
  abbrev altered : Stake → ℕ → ℕ → BoardView
  altered x moves turns = record { stakes = set v.stakes 0 x; inside = v.inside; moves = moves; turns = turns }

  changed : (x : Stake) (moves turns all : ℕ) → 0 < length v.stakes
      → x.sections + turns + spent v ≡ own.sections + v.turns + all
      → Has x.counts moves turns all (altered x moves turns)
  changed x moves turns all there same =
      record {
        counts_are = ap (λ (y : Stake). y.counts) (get_or-set_same v.stakes 0 x no_stake there);
        moves_are = refl;
        turns_are = refl;
        spent_is = let a = field_sum sections_of 0 v x there in let p : ℕ = sum_by sections_of (set v.stakes 0 x) in
            let q : ℕ = sum_by sections_of v.stakes in let m : ℕ = own.sections in let n : ℕ = x.sections in
            let t : ℕ = v.turns in let a' : p + m ≡ q + n = a in
            let same' : n + turns + (q + t) ≡ m + t + all = same in let goal : p + turns ≡ all =
            omega (arith, a', same') in goal;
      }

  module _ (counts : Counts 0 v) where
    abbrev there : 0 < length v.stakes
    there = within 0 v (let n : ℕ = own.counts in let m : ℕ = own.marks in let has : 0 < n = counts in let goal : 0 < n
        + m = omega (arith, has) in goal)

    pub retained_has : Has (counts_of v + 1) (v.moves - 1) v.turns (spent v) (retained 0 v)
    retained_has =
        changed (record (more own) { retained = own.retained + 1 }) (v.moves - 1) v.turns (spent v) there refl

    pub released_has : Has (counts_of v - 1) v.moves v.turns (spent v) (released 0 v)
    released_has = changed (less own) v.moves v.turns (spent v) there refl

    pub ended_has : Has (counts_of v - 1) v.moves v.turns (spent v) (ended 0 v)
    ended_has = changed (record (less own) { marks = own.marks + 1 }) v.moves v.turns (spent v) there refl

    -- with the mark
    pub ended_marked : HasMark 0 (ended 0 v)
    ended_marked =
        let x = record (less own) { marks = own.marks + 1 } in
        let e = ap (λ (y : Stake). y.marks) (get_or-set_same v.stakes 0 x no_stake there) in let n : ℕ = own.marks in
        let m : ℕ = (stake_of 0 (ended 0 v)).marks in let e' : m ≡ n + 1 = e in let goal : 0 < m = omega (arith, e') in
        goal

    pub left_has : (turns : ℕ) → turns ≤ v.turns
        → Has (counts_of v - 1) v.moves (v.turns - turns) (spent v - turns) (hand_left 0 turns v)
    left_has turns le =
        changed (less own) v.moves (v.turns - turns) (spent v - turns) there
        (let q : ℕ = sum_by sections_of v.stakes in let t : ℕ = v.turns in let m : ℕ = own.sections in
        let le' : turns ≤ t = le in let goal : m + (t - turns) + (q + t) ≡ m + t + (q + t - turns) =
        omega (arith, le') in goal)

    pub done_has : 0 < v.turns → Has (counts_of v) v.moves (v.turns - 1) (spent v) (done 0 v)
    done_has turn =
        let x = record own { sections = own.sections + 1 } in
        let w = changed x v.moves (v.turns - 1) (spent v) there
        (let q : ℕ = spent v in let t : ℕ = v.turns in let m : ℕ = own.sections in
        let turn' : 0 < t = turn in let goal : m + 1 + (t - 1) + q ≡ m + t + q = omega (arith, turn') in goal) in
        record { counts_are = w.counts_are; moves_are = refl; turns_are = refl; spent_is = w.spent_is }

  pub took_spent : HasMark 0 v → 0 < v.turns → spent (took 0 v) ≡ spent v
  took_spent mark turn =
      let x = record own { sections = own.sections + 1; marks = own.marks - 1; taken = own.taken + 1 } in
      let here : 0 < length v.stakes = within 0 v (let n : ℕ = own.counts in let m : ℕ = own.marks in let has : 0 < m =
      mark in let goal : 0 < n + m = omega (arith, has) in goal) in
      let w = changed x v.moves (v.turns - 1) (spent v) here
      (let q : ℕ = spent v in let t : ℕ = v.turns in let m : ℕ = own.sections in let turn' : 0 < t = turn in
      let goal : m + 1 + (t - 1) + q ≡ m + t + q = omega (arith, turn') in goal) in w.spent_is

-- a view that was handed a count and turns
pub handed_has : (turns : ℕ) (v : BoardView) → Has 1 0 turns turns (handed 0 turns v)
handed_has turns v =
    record {
      counts_are = refl;
      moves_are = refl;
      turns_are = refl;
      spent_is = (let e : 0 + turns ≡ turns = omega arith in e);
    }

pub joined_has : (v w : BoardView)
    → Has (counts_of v + counts_of w) (v.moves + w.moves) (v.turns + w.turns) (spent v + spent w) (joined v w)
joined_has v w =
    record {
      counts_are = ap (λ (y : Stake). y.counts) (sym (added_at v.stakes w.stakes 0));
      moves_are = refl;
      turns_are = refl;
      spent_is = let a = added_sum sections_of (λ x y. refl) v.stakes w.stakes in
          let p : ℕ = sum_by sections_of (joined v w).stakes in let q : ℕ = sum_by sections_of v.stakes in
          let n : ℕ = sum_by sections_of w.stakes in let t : ℕ = v.turns in let u : ℕ = w.turns in
          let a' : p ≡ q + n = a in let goal : p + (t + u) ≡ (q + t) + (n + u) = omega (arith, a') in goal;
    }
