-- How counts and turns are dealt out of the first seat's view, and come back.
use Rattle.std.proofs.Common.{◌≡◌, ℕ, ◌+◌, ◌<◌, ◌≤◌, Bool, true, false, ◌==◌, ◌||◌, List, [], ◌∷◌, ◌++◌, length, take, get_or, refl, sym, ap, ◌∙◌, subst, arith, eq-eqb, ne_eqb}
use Rattle.std.specs.Prelude.{nat_eq, if◌then◌else◌}
use Rattle.std.specs.List.{list_any}
use Rattle.std.proofs.lemmas.List.{take_more}
use Rattle.std.proofs.lemmas.List.Elements.{All-push}
use Rattle.std.proofs.lemmas.List.Sums.{sum_by-cons, sum_by_push}
use mathlib.Core.Logic.{dite}
use native.Mathlib.Decide.{ℕ_discrete}
use Rattle.board_table.specs.declared.views.BoardView.{BoardView}
use Rattle.board_table.specs.Views.{first_view, hand_left, handed, joined, retained, spent}
use Rattle.shared_composite.specs.declared.board.Board.{Board}
use Rattle.shared_composite.specs.declared.board.BoardSeat.{BoardSeat}
use Rattle.shared_composite.specs.Boards.{HasView, IsSeatOf, view_of}
use Rattle.share_text.specs.declared.lines.Seen.{Seen}
use Rattle.share_run.specs.Reading.{Deals, MayRead, Names, times_in}
use Rattle.share_run.specs.Standing.{IsChief, spent_by}
use Rattle.share_run.proofs.Views.{counts_of, taken_of, counts_joined, taken_joined, spent_joined, counts_first, spent_first, counts_handed, spent_handed, spent_left, retained_own, retained_other, retained_taken, spent_retained, left_own, left_other, left_taken}

pub view_is : (s : BoardSeat) (v : BoardView) → HasView s v → view_of s ≡ v
view_is s v has = ap (λ m. m.0) has

-- ---- Names.

pub times_push : (k : ℕ) (names : List ℕ) (name : ℕ)
    → times_in k (names ++ name ∷ []) ≡ times_in k names + (if name == k then 1 else 0)
times_push k names name = sum_by_push (λ n. if n == k then 1 else 0) names name

pub times_own : (k : ℕ) (names : List ℕ) → 0 < times_in k (names ++ k ∷ [])
times_own k names =
    let a = times_push k names k in
    let b : ◌≡◌ {A = ℕ} (if k == k then 1 else 0) 1 = ap (λ (t : Bool). if t then 1 else 0) (eq-eqb k k refl) in
    omega (arith, a, b)

pub times_grow : (k : ℕ) (names : List ℕ) (name : ℕ) → 0 < times_in k names → 0 < times_in k (names ++ name ∷ [])
times_grow k names name has = let a = times_push k names name in omega (arith, a, has)

-- what is found there is there
pub found_times : (k : ℕ) (names : List ℕ) → list_any (λ n. nat_eq n k) names ≡ true → 0 < times_in k names
found_times k [] e = absurd (cc e)
found_times k (n ∷ ns) e = go (nat_eq n k) refl e (found_times k ns)
  where
    go : (b : Bool) → nat_eq n k ≡ b → (b || list_any (λ x. nat_eq x k) ns) ≡ true
        → (list_any (λ x. nat_eq x k) ns ≡ true → 0 < times_in k ns) → 0 < times_in k (n ∷ ns)
    go true is e rest =
        let a = sum_by-cons (λ x. if x == k then 1 else 0) n ns in
        let b : ◌≡◌ {A = ℕ} (if n == k then 1 else 0) 1 = ap (λ (t : Bool). if t then 1 else 0) is in
        omega (arith, a, b)
    go false is e rest =
        let a = sum_by-cons (λ x. if x == k then 1 else 0) n ns in let b = rest e in omega (arith, a, b)

-- the reads that are named so far, and one more
pub named_more : (names : List ℕ) (reads : List Seen) (at : ℕ) (d : Seen) → at < length reads
    → Names names (take at reads) → 0 < times_in (get_or reads at d).composite names
    → Names names (take (at + 1) reads)
named_more names reads at d lt before one =
    subst (Names names) (sym (take_more reads at d lt))
    (All-push (λ (s : Seen). 0 < times_in s.composite names) (take at reads) (get_or reads at d) before one)

pub named_grow : (names : List ℕ) (name : ℕ) (seen : List Seen) → Names names seen → Names (names ++ name ∷ []) seen
named_grow names name seen has k d lt = times_grow (get_or seen k d).composite names name (has k d lt)

-- ---- The first seat.

module _ (board : Board) (many taken : ℕ) (old new : BoardSeat) where
  -- it counts no less, and took no less
  pub chief_on : IsChief board many taken old → IsSeatOf board new
      → ((j : ℕ) → counts_of j (view_of old) ≤ counts_of j (view_of new))
      → ((j : ℕ) → taken_of j (view_of old) ≤ taken_of j (view_of new)) → many ≤ (view_of new).turns + taken
      → IsChief board many taken new
  chief_on was own counts took turns = record {
    own = own;
    counts = λ j from below. (let a = was.counts j from below in let b = counts j in omega (arith, a, b));
    took = λ j below. (let a = was.took j below in let b = took j in omega (arith, a, b));
    turns = turns;
  }

pub chief_first : (board : Board) (many moves turns : ℕ) (s : BoardSeat) → IsSeatOf board s
    → HasView s (first_view many moves turns) → many ≤ turns → IsChief board many 0 s
chief_first board many moves turns s own has enough = record {
  own = own;
  counts = λ j from below.
      (let a = ap (counts_of j) (view_is s (first_view many moves turns) has) in
      let b = counts_first many moves turns j below in omega (arith, a, b));
  took = λ j below. absurd (omega (arith, below));
  turns = (let a = ap (λ (v : BoardView). v.turns) (view_is s (first_view many moves turns) has) in
      omega (arith, a, enough));
}

pub chief_spent : (many moves turns : ℕ) (s : BoardSeat) → HasView s (first_view many moves turns)
    → spent_by s ≡ turns
chief_spent many moves turns s has =
    ap spent (view_is s (first_view many moves turns) has) ∙ spent_first many moves turns

-- ---- A count and turns for a reader.

module _ (board : Board) (many k turns : ℕ) (old mid new other : BoardSeat) (was : IsChief board many 0 old)
    (below : k < many) (enough : many + turns ≤ (view_of old).turns) (move : 0 < (view_of old).moves)
    (own : IsSeatOf board new) (made : IsSeatOf board other) (more : HasView mid (retained k (view_of old)))
    (left : HasView new (hand_left k turns (view_of mid))) (hand : HasView other (handed k turns (view_of mid))) where
  abbrev v : BoardView
  v = view_of old

  abbrev w : BoardView
  w = retained k v

  left_is : view_of new ≡ hand_left k turns w
  left_is = view_is new _ left ∙ ap (hand_left k turns) (view_is mid w more)

  hand_is : view_of other ≡ handed k turns w
  hand_is = view_is other _ hand ∙ ap (handed k turns) (view_is mid w more)

  counts : 0 < counts_of k v
  counts = was.counts k (omega arith) below

  counts_then : 0 < counts_of k w
  counts_then = let a = retained_own k v counts in omega (arith, a)

  kept : (j : ℕ) → counts_of j v ≤ counts_of j (view_of new)
  kept j =
      let e = ap (counts_of j) left_is in
      dite (ℕ_discrete j k)
      (λ same. (let a = subst (λ (n : ℕ). counts_of n (hand_left k turns w) ≡ counts_of n v) (sym same) own_kept in
      omega (arith, e, a)))
      (λ ne. (let a = left_other k w counts_then turns j ne in let b = retained_other k v counts j ne in
      omega (arith, e, a, b)))
    where
      own_kept : counts_of k (hand_left k turns w) ≡ counts_of k v
      own_kept =
          let a = left_own k w counts_then turns in let b = retained_own k v counts in omega (arith, a, b)

  took : (j : ℕ) → taken_of j v ≤ taken_of j (view_of new)
  took j =
      let e = ap (taken_of j) left_is in let a = retained_taken k v counts j in
      let b = left_taken k w counts_then turns j in omega (arith, e, a, b)

  pub hand_chief : IsChief board many 0 new
  hand_chief =
      chief_on board many 0 old new was own kept took
      (let e = ap (λ (x : BoardView). x.turns) left_is in omega (arith, e, enough))

  pub hand_seat : MayRead board turns (k ∷ []) other
  hand_seat = record {
    own = made;
    turns_are = ap (λ (x : BoardView). x.turns) hand_is;
    covers = λ j.
        (let e = ap (counts_of j) hand_is in let a = times_push j [] k in
        dite (ℕ_discrete j k)
        (λ same. (let b = subst (λ (n : ℕ). counts_of n (handed k turns w) ≡ 1) (sym same) (counts_handed k turns w) in
        let c = one_most (k == j) in omega (arith, e, a, b, c)))
        (λ ne. (let b : ◌≡◌ {A = ℕ} (if k == j then 1 else 0) 0 =
        ap (λ (t : Bool). if t then 1 else 0) (ne_eqb k j (λ x. ne (sym x))) in omega (arith, a, b))));
  }
    where
      one_most : (t : Bool) → (if t then 1 else 0) ≤ 1
      one_most true = omega arith
      one_most false = omega arith

  pub hand_deals : Deals turns 1 (spent_by other) v (view_of new)
  hand_deals = record {
    turns_left = (let e = ap (λ (x : BoardView). x.turns) left_is in omega (arith, e, enough));
    moves_left = (let e = ap (λ (x : BoardView). x.moves) left_is in omega (arith, e, move));
    spent_is =
        (let e = ap spent left_is in let f = ap spent hand_is in let a = spent_retained k v counts in
        let b = spent_left k turns w counts_then (omega (arith, enough)) in let c = spent_handed k turns w in
        omega (arith, e, f, a, b, c));
  }

-- the seats of a reader as one
pub joined_seat : (board : Board) (turns k : ℕ) (names : List ℕ) (old other new : BoardSeat)
    → MayRead board turns names old → MayRead board 0 (k ∷ []) other → IsSeatOf board new
    → HasView new (joined (view_of old) (view_of other)) → MayRead board turns (names ++ k ∷ []) new
joined_seat board turns k names old other new was more own has =
    let is = view_is new (joined (view_of old) (view_of other)) has in
    record {
      own = own;
      turns_are =
          (let e = ap (λ (x : BoardView). x.turns) is in let a = was.turns_are in let b = more.turns_are in
          omega (arith, e, a, b));
      covers = λ j.
          (let e = ap (counts_of j) is in let a = counts_joined (view_of old) (view_of other) j in
          let b = was.covers j in let c = more.covers j in let d = times_push j names k in let f = times_push j [] k in
          omega (arith, e, a, b, c, d, f));
    }

pub joined_spent : (old other new : BoardSeat) → HasView new (joined (view_of old) (view_of other))
    → spent_by new ≡ spent_by old + spent_by other
joined_spent old other new has =
    ap spent (view_is new (joined (view_of old) (view_of other)) has) ∙ spent_joined (view_of old) (view_of other)

-- a deal of no turns after it
pub deals_more : (share m n s r all : ℕ) (old mid new : BoardView) → Deals share m s old mid → Deals 0 1 r mid new
    → n ≡ m + 1 → all ≡ s + r → Deals share n all old new
deals_more share m n s r all old mid new x y n_is all_is = record {
  turns_left = (let a = x.turns_left in let b = y.turns_left in omega (arith, a, b));
  moves_left = (let a = x.moves_left in let b = y.moves_left in omega (arith, a, b, n_is));
  spent_is = (let a = x.spent_is in let b = y.spent_is in omega (arith, a, b, all_is));
}

-- what comes back
pub joined_chief : (board : Board) (many : ℕ) (old other new : BoardSeat) → IsChief board many 0 old
    → IsSeatOf board new → HasView new (joined (view_of old) (view_of other)) → IsChief board many 0 new
joined_chief board many old other new was own has =
    let is = view_is new (joined (view_of old) (view_of other)) has in
    chief_on board many 0 old new was own
    (λ j. (let e = ap (counts_of j) is in let a = counts_joined (view_of old) (view_of other) j in
    omega (arith, e, a)))
    (λ j. (let e = ap (taken_of j) is in let a = taken_joined (view_of old) (view_of other) j in
    omega (arith, e, a)))
    (let e = ap (λ (x : BoardView). x.turns) is in let a = was.turns in omega (arith, e, a))
