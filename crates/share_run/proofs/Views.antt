-- What calls on a board leave of a seat's view: its counts, its turns and its sections.
use Rattle.std.proofs.Common.{◌≡◌, ◌≢◌, ℕ, ◌+◌, ◌-◌, ◌*◌, ◌<◌, ◌≤◌, length, get_or, set, replicate, refl, sym, ap, arith, mul-zero, get_or-set_same, get_or-set_other}
use Rattle.std.specs.Prelude.{sum_by}
use Rattle.std.proofs.lemmas.List.{get_or-replicate, length-replicate}
use Rattle.std.proofs.lemmas.List.Folds.{sum_by-replicate}
use Rattle.std.proofs.lemmas.List.Sums.{sum_by-set}
use Rattle.board_table.specs.declared.views.Stake.{Stake}
use Rattle.board_table.specs.declared.views.BoardView.{BoardView}
use Rattle.board_table.specs.Views.{no_stake, more, less, stake_of, spent, first_view, retained, ended, hand_left, handed, joined, done, took}
use Rattle.board_table.proofs.Stakes.{within, each_stake, may_enter}
use Rattle.board_table.proofs.CountSteps.{field_sum}
use Rattle.board_table.proofs.Seatings.{added_at, added_sum}

abbrev pub counts_of : ℕ → BoardView → ℕ
counts_of j v = (stake_of j v).counts

abbrev pub marks_of : ℕ → BoardView → ℕ
marks_of j v = (stake_of j v).marks

abbrev pub taken_of : ℕ → BoardView → ℕ
taken_of j v = (stake_of j v).taken

abbrev sections : Stake → ℕ
sections x = x.sections

-- ---- Two views.

module _ (v w : BoardView) where
  pub counts_joined : (j : ℕ) → counts_of j (joined v w) ≡ counts_of j v + counts_of j w
  counts_joined j = ap (λ (x : Stake). x.counts) (sym (added_at v.stakes w.stakes j))

  pub taken_joined : (j : ℕ) → taken_of j (joined v w) ≡ taken_of j v + taken_of j w
  taken_joined j = ap (λ (x : Stake). x.taken) (sym (added_at v.stakes w.stakes j))

  pub spent_joined : spent (joined v w) ≡ spent v + spent w
  spent_joined =
      let a : sum_by sections (joined v w).stakes ≡ sum_by sections v.stakes + sum_by sections w.stakes =
      added_sum sections (λ x y. refl) v.stakes w.stakes in
      omega (arith, a)

-- ---- First views.

pub counts_first : (n moves turns j : ℕ) → j < n → counts_of j (first_view n moves turns) ≡ 1
counts_first n moves turns j lt = ap (λ (x : Stake). x.counts) (get_or-replicate n j (more no_stake) no_stake lt)

pub spent_first : (n moves turns : ℕ) → spent (first_view n moves turns) ≡ turns
spent_first n moves turns =
    let a : sum_by sections (replicate n (more no_stake)) ≡ n * 0 = sum_by-replicate sections n (more no_stake) in
    let b = mul-zero n in omega (arith, a, b)

module _ (k turns : ℕ) (v : BoardView) where
  bare : k < length (replicate (k + 1) no_stake)
  bare = let e = length-replicate (k + 1) no_stake in omega (arith, e)

  pub counts_handed : counts_of k (handed k turns v) ≡ 1
  counts_handed =
      ap (λ (x : Stake). x.counts)
      (get_or-set_same (replicate (k + 1) no_stake) k (more no_stake) no_stake bare)

  pub spent_handed : spent (handed k turns v) ≡ turns
  spent_handed =
      let a : sum_by sections (handed k turns v).stakes + sections (get_or (replicate (k + 1) no_stake) k no_stake)
      ≡ sum_by sections (replicate (k + 1) no_stake) + 0 =
      sum_by-set sections (replicate (k + 1) no_stake) k (more no_stake) no_stake bare in
      let b : sum_by sections (replicate (k + 1) no_stake) ≡ (k + 1) * 0 =
      sum_by-replicate sections (k + 1) no_stake in
      let c = mul-zero (k + 1) in omega (arith, a, b, c)

-- ---- One view.

-- so many turns go
pub spent_left : (k turns : ℕ) (v : BoardView) → 0 < counts_of k v → turns ≤ v.turns
    → spent (hand_left k turns v) + turns ≡ spent v
spent_left k turns v has enough =
    let a : sum_by sections (hand_left k turns v).stakes + sections (stake_of k v)
    ≡ sum_by sections v.stakes + sections (stake_of k v) =
    field_sum sections k v (less (stake_of k v)) (within k v (may_enter k v has)) in
    omega (arith, a, enough)

module _ (k : ℕ) (v : BoardView) (has : 0 < counts_of k v) where
  there : k < length v.stakes
  there = within k v (may_enter k v has)

  -- the stake of the composite is this now
  abbrev own_is : (x : Stake) → get_or (set v.stakes k x) k no_stake ≡ x
  own_is x = get_or-set_same v.stakes k x no_stake there

  -- and each other is as it was
  abbrev other_is : (x : Stake) (j : ℕ) → j ≢ k → get_or (set v.stakes k x) j no_stake ≡ stake_of j v
  other_is x j ne = get_or-set_other v.stakes k j x no_stake ne

  -- a count more, which goes to another seat
  abbrev retained_stake : Stake
  retained_stake = record (more (stake_of k v)) { retained = (stake_of k v).retained + 1 }

  pub retained_own : counts_of k (retained k v) ≡ counts_of k v + 1
  retained_own = ap (λ (x : Stake). x.counts) (own_is retained_stake)

  pub retained_other : (j : ℕ) → j ≢ k → counts_of j (retained k v) ≡ counts_of j v
  retained_other j ne = ap (λ (x : Stake). x.counts) (other_is retained_stake j ne)

  pub spent_retained : spent (retained k v) ≡ spent v
  spent_retained =
      let a : sum_by sections (retained k v).stakes + sections (stake_of k v)
      ≡ sum_by sections v.stakes + sections (stake_of k v) = field_sum sections k v retained_stake there in
      omega (arith, a)

  pub retained_taken : (j : ℕ) → taken_of j v ≤ taken_of j (retained k v)
  retained_taken j =
      each_stake (λ y z. y.taken ≤ z.taken) k v retained_stake there (λ y. omega arith) (omega arith) j

  pub left_taken : (turns j : ℕ) → taken_of j v ≤ taken_of j (hand_left k turns v)
  left_taken turns j =
      each_stake (λ y z. y.taken ≤ z.taken) k v (less (stake_of k v)) there (λ y. omega arith) (omega arith) j

  pub left_own : (turns : ℕ) → counts_of k (hand_left k turns v) ≡ counts_of k v - 1
  left_own turns = ap (λ (x : Stake). x.counts) (own_is (less (stake_of k v)))

  pub left_other : (turns j : ℕ) → j ≢ k → counts_of j (hand_left k turns v) ≡ counts_of j v
  left_other turns j ne = ap (λ (x : Stake). x.counts) (other_is (less (stake_of k v)) j ne)

  -- and by the last one the mark
  abbrev ended_stake : Stake
  ended_stake = record (less (stake_of k v)) { marks = (stake_of k v).marks + 1 }

  pub marks_ended : 0 < marks_of k (ended k v)
  marks_ended =
      let a : marks_of k (ended k v) ≡ marks_of k v + 1 = ap (λ (x : Stake). x.marks) (own_is ended_stake) in
      omega (arith, a)

  pub spent_ended : spent (ended k v) ≡ spent v
  spent_ended =
      let a : sum_by sections (ended k v).stakes + sections (stake_of k v)
      ≡ sum_by sections v.stakes + sections (stake_of k v) = field_sum sections k v ended_stake there in
      omega (arith, a)

  pub ended_other : (j : ℕ) → j ≢ k → counts_of j (ended k v) ≡ counts_of j v
  ended_other j ne = ap (λ (x : Stake). x.counts) (other_is ended_stake j ne)

  pub ended_taken : (j : ℕ) → taken_of j v ≤ taken_of j (ended k v)
  ended_taken j =
      each_stake (λ y z. y.taken ≤ z.taken) k v ended_stake there (λ y. omega arith) (omega arith) j

  -- a section more, for a turn
  abbrev done_stake : Stake
  done_stake = record (stake_of k v) { sections = (stake_of k v).sections + 1 }

  pub done_counts : (j : ℕ) → counts_of j (done k v) ≡ counts_of j v
  done_counts j =
      each_stake (λ y z. z.counts ≡ y.counts) k v done_stake there (λ y. refl) refl j

  pub spent_done : 0 < v.turns → spent (done k v) ≡ spent v
  spent_done turn =
      let a : sum_by sections (done k v).stakes + sections (stake_of k v)
      ≡ sum_by sections v.stakes + (sections (stake_of k v) + 1) = field_sum sections k v done_stake there in
      omega (arith, a, turn)

-- a composite whose mark the view has is taken, for a turn
module _ (k : ℕ) (v : BoardView) (mark : 0 < marks_of k v) where
  there_marked : k < length v.stakes
  there_marked = within k v (omega (arith, mark))

  abbrev took_stake : Stake
  took_stake =
      record (stake_of k v) {
        sections = (stake_of k v).sections + 1;
        marks = (stake_of k v).marks - 1;
        taken = (stake_of k v).taken + 1;
      }

  pub took_counts : (j : ℕ) → counts_of j (took k v) ≡ counts_of j v
  took_counts j =
      each_stake (λ y z. z.counts ≡ y.counts) k v took_stake there_marked (λ y. refl) refl j

  pub took_taken : (j : ℕ) → taken_of j v ≤ taken_of j (took k v)
  took_taken j =
      each_stake (λ y z. y.taken ≤ z.taken) k v took_stake there_marked (λ y. omega arith) (omega arith) j

  pub took_own : 0 < taken_of k (took k v)
  took_own =
      let a : taken_of k (took k v) ≡ taken_of k v + 1 =
      ap (λ (x : Stake). x.taken) (get_or-set_same v.stakes k took_stake no_stake there_marked) in
      omega (arith, a)

  pub spent_took : 0 < v.turns → spent (took k v) ≡ spent v
  spent_took turn =
      let a : sum_by sections (took k v).stakes + sections (stake_of k v)
      ≡ sum_by sections v.stakes + (sections (stake_of k v) + 1) =
      field_sum sections k v took_stake there_marked in
      omega (arith, a, turn)
