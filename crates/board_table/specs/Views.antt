-- What a view has of each composite, what all views have together, and the views of a table's life.
use Rattle.std.specs.Prelude.{ℕ, ◌+◌, ◌-◌, ◌==◌, cond, List, [], ◌∷◌, replicate, Option, Some, None, sum_by, slice_index_or, slice_set}
use Rattle.board_table.specs.declared.views.Stake.{Stake}
use Rattle.board_table.specs.declared.views.Inside.{Inside}
use Rattle.board_table.specs.declared.views.BoardView.{BoardView}

abbrev pub no_stake : Stake
no_stake = record { counts = 0; marks = 0; retained = 0; sections = 0; taken = 0 }

-- the composite is counted once more, or once less
abbrev pub more : Stake → Stake
more x = record x { counts = x.counts + 1 }

abbrev pub less : Stake → Stake
less x = record x { counts = x.counts - 1 }

-- two stakes together
abbrev pub both : Stake → Stake → Stake
both x y =
    record {
      counts = x.counts + y.counts;
      marks = x.marks + y.marks;
      retained = x.retained + y.retained;
      sections = x.sections + y.sections;
      taken = x.taken + y.taken;
    }

-- the stakes of two views together, composite by composite
abbrev pub added : List Stake → List Stake → List Stake
added [] ys = ys
added (x ∷ xs) [] = x ∷ xs
added (x ∷ xs) (y ∷ ys) = both x y ∷ added xs ys

-- what the view has of composite k
abbrev pub stake_of : ℕ → BoardView → Stake
stake_of k v = slice_index_or v.stakes k no_stake

-- the view with another stake of composite k
abbrev pub with_stake : ℕ → (Stake → Stake) → BoardView → BoardView
with_stake k change v = record v { stakes = slice_set v.stakes k (change (stake_of k v)) }

-- 1 for a view that is in the section of composite k
abbrev pub is_at : ℕ → Option Inside → ℕ
is_at k None = 0
is_at k (Some x) = cond (x.composite == k) 1 0

abbrev pub is_in : ℕ → BoardView → ℕ
is_in k v = is_at k v.inside

-- how many views are in the section of composite k
abbrev pub inside_total : ℕ → List BoardView → ℕ
inside_total k views = sum_by (is_in k) views

-- what all views together have of composite k
abbrev pub total : ℕ → List BoardView → Stake
total k views =
    record {
      counts = sum_by (λ v. (stake_of k v).counts) views;
      marks = sum_by (λ v. (stake_of k v).marks) views;
      retained = sum_by (λ v. (stake_of k v).retained) views;
      sections = sum_by (λ v. (stake_of k v).sections) views;
      taken = sum_by (λ v. (stake_of k v).taken) views;
    }

-- the turns that all views have left
abbrev pub turns_left : List BoardView → ℕ
turns_left views = sum_by (λ v. v.turns) views

-- the sections that the view made, with the turns that it has left
abbrev pub spent : BoardView → ℕ
spent v = sum_by (λ x. x.sections) v.stakes + v.turns

-- its retains, with the moves that it has left
abbrev pub moved : BoardView → ℕ
moved v = sum_by (λ x. x.retained) v.stakes + v.moves

-- ---- The views of a table's life.

-- the first view counts each composite once, and has all moves and turns
abbrev pub first_view : ℕ → ℕ → ℕ → BoardView
first_view composites moves turns =
    record {
      stakes = replicate composites (more no_stake);
      inside = None;
      moves = moves;
      turns = turns;
    }

-- a view with nothing
abbrev pub blank : BoardView
blank = record { stakes = []; inside = None; moves = 0; turns = 0 }

-- one count more, for a move
abbrev pub retained : ℕ → BoardView → BoardView
retained k v =
    record (with_stake k (λ x. record (more x) { retained = x.retained + 1 }) v) {
      moves = v.moves - 1;
    }

-- one count less, and by the last one the mark
abbrev pub released : ℕ → BoardView → BoardView
released k v = with_stake k less v

abbrev pub ended : ℕ → BoardView → BoardView
ended k v = with_stake k (λ x. record (less x) { marks = x.marks + 1 }) v

-- a count of composite k and so many turns go to a view of their own
abbrev pub hand_left : ℕ → ℕ → BoardView → BoardView
hand_left k turns v = record (with_stake k less v) { turns = v.turns - turns }

abbrev pub handed : ℕ → ℕ → BoardView → BoardView
handed k turns v =
    record {
      stakes = slice_set (replicate (k + 1) no_stake) k (more no_stake);
      inside = None;
      moves = 0;
      turns = turns;
    }

-- what two views have, together
abbrev pub joined : BoardView → BoardView → BoardView
joined v w =
    record v {
      stakes = added v.stakes w.stakes;
      moves = v.moves + w.moves;
      turns = v.turns + w.turns;
    }

-- in the section of composite k
abbrev pub entered : ℕ → ℕ → ℕ → BoardView → BoardView
entered k number turns v =
    record v { inside = Some (record { composite = k; number = number; turns = turns }) }

-- one section more, for a turn
abbrev pub went : ℕ → (Stake → Stake) → BoardView → BoardView
went k change v =
    record (with_stake k (λ x. change (record x { sections = x.sections + 1 })) v) {
      inside = None;
      turns = v.turns - 1;
    }

-- the section ended, and the core is at home again, or was taken
abbrev pub done : ℕ → BoardView → BoardView
done k v = went k (λ x. x) v

abbrev pub took : ℕ → BoardView → BoardView
took k v = went k (λ x. record x { marks = x.marks - 1; taken = x.taken + 1 }) v
