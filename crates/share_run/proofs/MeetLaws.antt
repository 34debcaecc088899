-- Readers, one after another: how they are dealt to, run and give back.
use Rattle.std.proofs.Common.{◌≡◌, ℕ, zero, suc, ◌+◌, ◌*◌, ◌<◌, ◌≤◌, List, [], ◌∷◌, ◌++◌, length, map, take, drop, get_or, set, refl, sym, ap, ◌∙◌, subst, arith}
use Rattle.std.specs.Prelude.{All, slice_index_or}
use Rattle.std.specs.List.{concat}
use Rattle.std.proofs.lemmas.List.{drop_more, map-append, take_more, take_more_set}
use Rattle.std.proofs.lemmas.List.Elements.{All-nil, All-push}
use Rattle.std.proofs.lemmas.List.Sums.{sum_by-cons, sum_by_push}
use Rattle.std.proofs.Math.ListN as lists
use Rattle.shared_pool.specs.declared.pool.SharedPool.{SharedPool}
use Rattle.shared_composite.specs.declared.board.Board.{Board}
use Rattle.share_text.specs.declared.lines.Seen.{Seen}
use Rattle.share_text.specs.Lines.{seen_of}
use Rattle.share_run.specs.declared.readers.Reader.{Reader}
use Rattle.share_run.specs.Reading.{AreSized, HasOwn, HasRun, HaveRun, HaveSeen, all_spent, asked_in, asked_of, moves_for, seen_whole, spent_in, whole_of}
use Rattle.share_run.specs.Standing.{IsBoardOf}
use Rattle.share_run.proofs.ListSteps.{next_item}

abbrev items_of : Reader → List Seen
items_of r = r.seen.items

-- ---- Turns and moves for those that are left.

-- one share less is needed
pub turns_more : (c n m share t u : ℕ) → n ≡ m + 1 → c + n * share ≤ t → t ≤ u + share → c + m * share ≤ u
turns_more c n m share t u is enough left =
    let a : n * share ≡ (m + 1) * share = ap (λ (x : ℕ). x * share) is in
    let b : (m + 1) * share ≡ m * share + share = omega arith in omega (arith, a, b, enough, left)

pub moves_more : (at : ℕ) (readers : List Reader) (d : Reader) → at < length readers
    → moves_for (asked_of (drop at readers))
    ≡ length (get_or readers at d).seen.items + 1 + moves_for (asked_of (drop (at + 1) readers))
moves_more at readers d lt =
    let r = get_or readers at d in let rest = asked_of (drop (at + 1) readers) in
    let a : moves_for (asked_of (drop at readers)) ≡ moves_for (asked_in r.seen.items ∷ rest) =
    ap (λ (rs : List Reader). moves_for (asked_of rs)) (drop_more readers at d lt) in
    let b = sum_by-cons (λ (reads : List ℕ). length reads + 1) (asked_in r.seen.items) rest in
    let c = length_map r.seen.items in omega (arith, a, b, c)
  where
    length_map : (xs : List Seen) → length (asked_in xs) ≡ length xs
    length_map [] = refl
    length_map (x ∷ xs) = ap suc (length_map xs)

-- ---- One reader more.

module _ (at : ℕ) (old new : List Reader) (d r : Reader) (lt : at < length new) where
  abbrev then_list : List Reader
  then_list = set new at r

  front : take (at + 1) then_list ≡ take at new ++ r ∷ []
  front = take_more_set new at r lt

  module _ (many : length new ≡ length old) (left : drop at new ≡ drop at old) where
    below : at < length old
    below = omega (arith, many, lt)

    -- it asks what it asked, and its reads are as they were
    pub asked_more : (was : Reader) → was ≡ get_or new at d → r.seen ≡ was.seen
        → asked_of (take at new) ≡ asked_of (take at old)
        → asked_of (take (at + 1) then_list) ≡ asked_of (take (at + 1) old)
    asked_more was is same before =
        let one : asked_in r.seen.items ≡ asked_in (get_or old at d).seen.items =
        ap (λ v. asked_in v.items) same ∙ ap (λ (x : Reader). asked_in x.seen.items) (is
        ∙ next_item at old new d left) in
        ap asked_of front
        ∙ map-append (λ (x : Reader). asked_in x.seen.items) (take at new) (r ∷ [])
        ∙ (λ i. before i ++ one i ∷ [])
        ∙ sym (map-append (λ (x : Reader). asked_in x.seen.items) (take at old) (get_or old at d ∷ []))
        ∙ ap asked_of (sym (take_more old at d below))

    pub seen_more : (was : Reader) → was ≡ get_or new at d → r.seen ≡ was.seen
        → map items_of (take at new) ≡ map items_of (take at old)
        → map items_of (take (at + 1) then_list) ≡ map items_of (take (at + 1) old)
    seen_more was is same before =
        let one : items_of r ≡ items_of (get_or old at d) =
        ap (λ v. v.items) same ∙ ap items_of (is ∙ next_item at old new d left) in
        ap (map items_of) front
        ∙ map-append items_of (take at new) (r ∷ [])
        ∙ (λ i. before i ++ one i ∷ [])
        ∙ sym (map-append items_of (take at old) (get_or old at d ∷ []))
        ∙ ap (map items_of) (sym (take_more old at d below))

    pub old_spent : all_spent (take (at + 1) old) ≡ all_spent (take at old) + spent_in (get_or old at d).seat
    old_spent =
        ap all_spent (take_more old at d below)
        ∙ sum_by_push (λ (x : Reader). spent_in x.seat) (take at old) (get_or old at d)

  pub new_spent : all_spent (take (at + 1) then_list) ≡ all_spent (take at new) + spent_in r.seat
  new_spent = ap all_spent front ∙ sum_by_push (λ (x : Reader). spent_in x.seat) (take at new) r

  pub all_more : (P : Reader → Type 0) → All P (take at new) → P r → All P (take (at + 1) then_list)
  all_more P before one = subst (All P) (sym front) (All-push P (take at new) r before one)

-- ---- All readers at once.

module _ (board : Board) (wholes : List (List ℕ)) where
  pub runs_all : (old new : List Reader) → length new ≡ length old
      → ((i : ℕ) (d : Reader) → i < length old → HasRun board wholes (get_or old i d) (get_or new i d))
      → HaveRun board wholes old new
  runs_all [] [] many each = record { seen = refl; own = All-nil (λ (r : Reader). HasOwn board r.seat); spent = refl }
  runs_all [] (y ∷ ys) many each = absurd (omega (arith, many))
  runs_all (x ∷ xs) [] many each = absurd (omega (arith, many))
  runs_all (x ∷ xs) (y ∷ ys) many each =
      let one = each 0 x (omega arith) in
      let rest = runs_all xs ys (omega (arith, many)) (λ i d lt. each (suc i) d (omega (arith, lt))) in
      record {
        seen = λ i. one.seen i ∷ rest.seen i;
        own = own_more y ys one.own rest.own;
        spent =
            (let a = sum_by-cons (λ (r : Reader). spent_in r.seat) y ys in
            let b = sum_by-cons (λ (r : Reader). spent_in r.seat) x xs in let c = one.spent in let e = rest.spent in
            omega (arith, a, b, c, e));
      }
    where
      own_more : (r : Reader) (rs : List Reader) → HasOwn board r.seat → All (λ (x : Reader). HasOwn board x.seat) rs
          → All (λ (x : Reader). HasOwn board x.seat) (r ∷ rs)
      own_more r rs here there zero d lt = here
      own_more r rs here there (suc k) d lt = there k d (omega (arith, lt))

-- ---- What is seen.

module _ (composites : List (List (List ℕ))) (wholes : List (List ℕ)) (are : wholes ≡ map concat composites) where
  whole_is : (k : ℕ) → whole_of wholes k ≡ concat (slice_index_or composites k [])
  whole_is k = ap (λ (ws : List (List ℕ)). whole_of ws k) are ∙ lists.get_or-map concat composites k []

  pub seen_is : seen_whole wholes ≡ seen_of composites
  seen_is i k = record { composite = k; bytes = whole_is k i }

  pub have_seen : (board : Board) (old dealt run new : List Reader) → asked_of dealt ≡ asked_of old
      → HaveRun board wholes dealt run → map items_of new ≡ map items_of run → HaveSeen composites old new
  have_seen board old dealt run new asked ran same =
      same ∙ ran.seen ∙ (λ i. map (map (seen_is i)) (asked i))

  pub are_sized : (board : Board) (pool : SharedPool) → IsBoardOf board pool composites → AreSized board wholes
  are_sized board pool of k lt =
      let many : length wholes ≡ length composites =
      ap (λ (ws : List (List ℕ)). length ws) are ∙ length_map composites in
      ap (λ (xs : List ℕ). length xs) (whole_is k) ∙ sym (of.sizes k (omega (arith, lt, many)))
    where
      length_map : (xs : List (List (List ℕ))) → length (map concat xs) ≡ length xs
      length_map [] = refl
      length_map (x ∷ xs) = ap suc (length_map xs)
