-- What a bin keeps, and why a handle of it has room.
use Rattle.std.proofs.Common.{◌≡◌, ℕ, zero, suc, ◌+◌, ◌*◌, ◌/◌, ◌<◌, ◌≤◌, ⊎_elim, List, [], ◌∷◌, ◌++◌, length, refl, sym, ap, subst, arith, Bool, true, false, nat_eq, ◌∙◌, eqb-true, length-append}
use Rattle.std.specs.Prelude.{◌==◌, ◌&&◌, ◌||◌}
use Rattle.std.specs.List.{IsDistinct, list_all, list_any}
use Rattle.std.proofs.lemmas.Bool.{cases_Bool}
use Rattle.std.proofs.lemmas.Bool.Decides.{nat_tests}
use Rattle.std.proofs.lemmas.Cmp.{nat_eq_equiv}
use Rattle.std.proofs.lemmas.List.{length-map, map-append}
use Rattle.std.proofs.lemmas.List.Folds.{list_all-append}
use Rattle.std.proofs.lemmas.Map.Keys.{IsDistinct-push, IsDistinct-tail}
use Rattle.std.proofs.lemmas.Nat.{div-mul-add}
use Rattle.std.proofs.Math.Nat.{div-mul-le_self, lt-div-mul-add}
use Rattle.size_classes.specs.Sizes.{below}
use Rattle.pool_law.specs.Caches.{has_place}
use Rattle.pool_law.proofs.NumberLemmas.{numbers, numbers-more, not-listed, listed-turned, different-within, none_distinct}
use Rattle.pool_law.proofs.SameLemmas.{and-first, and-second}
use Rattle.handle_bin.specs.Bins.{HandleValue, places_in, new_handle, handles_below, is_of}
use Rattle.handle_bin.specs.Kept.{AreHandlesOf}

-- the handles behind the front are still of the lane, and of different places
pub rest_is_ready : (lane handles : ℕ) (h : HandleValue) (hs : List HandleValue) →
    AreHandlesOf lane handles (h ∷ hs) → AreHandlesOf lane handles hs
rest_is_ready lane handles h hs b =
    record {
      own = and-second (is_of lane handles h) (list_all (is_of lane handles) hs) b.own;
      distinct = IsDistinct-tail nat_eq h.place (places_in hs) b.distinct;
    }

places-more : (hs : List HandleValue) (h : HandleValue) → places_in (hs ++ h ∷ []) ≡ places_in hs ++ h.place ∷ []
places-more hs h = map-append (λ x. x.place) hs (h ∷ [])

distinct-more : (hs : List HandleValue) (p : ℕ) →
    IsDistinct nat_eq (places_in hs) → has_place p (places_in hs) ≡ false →
    IsDistinct nat_eq (places_in hs ++ p ∷ [])
distinct-more hs p d away = IsDistinct-push nat_eq_equiv (places_in hs) p d (listed-turned p (places_in hs) ∙ away)

all-more : (lane handles : ℕ) (hs : List HandleValue) (h : HandleValue) →
    list_all (is_of lane handles) hs ≡ true → is_of lane handles h ≡ true →
    list_all (is_of lane handles) (hs ++ h ∷ []) ≡ true
all-more lane handles hs h all own =
    list_all-append (is_of lane handles) hs (h ∷ [])
    ∙ ap (λ b. b && (is_of lane handles h && true)) all
    ∙ ap (λ b. b && true) own

-- so are they with one more of the lane, whose place is not among them
pub more_is_ready : (lane handles : ℕ) (hs : List HandleValue) (h : HandleValue) →
    AreHandlesOf lane handles hs → is_of lane handles h ≡ true → has_place h.place (places_in hs) ≡ false →
    AreHandlesOf lane handles (hs ++ h ∷ [])
more_is_ready lane handles hs h b own away =
    record {
      own = all-more lane handles hs h b.own own;
      distinct = subst (IsDistinct nat_eq) (sym (places-more hs h)) (distinct-more hs h.place b.distinct away);
    }

-- a place in the list is of the lane
member-own : (lane handles q : ℕ) (hs : List HandleValue) →
    list_all (is_of lane handles) hs ≡ true → list_any (nat_eq q) (places_in hs) ≡ true → q / handles ≡ lane
member-own lane handles q [] all there = absurd (cc there)
member-own lane handles q (h ∷ hs) all there =
    let test : HandleValue → Bool = is_of lane handles in
    let first : test h ≡ true = and-first (test h) (list_all test hs) all in
    let rest : list_all test hs ≡ true = and-second (test h) (list_all test hs) all in
    let own : (h.place / handles == lane) ≡ true = and-second (h.lane == lane) (h.place / handles == lane) first in
    ⊎_elim
    (λ same. ap (λ x. x / handles) (eqb-true q h.place same) ∙ eqb-true (h.place / handles) lane own)
    (λ other.
    let further : list_any (nat_eq q) (places_in hs) ≡ true =
    sym (ap (λ b. b || list_any (nat_eq q) (places_in hs)) other) ∙ there in
    member-own lane handles q hs rest further)
    (cases_Bool (nat_eq q h.place))

-- a place of the lane is one of its numbers
place-within : (lane handles q : ℕ) → 1 ≤ handles → q / handles ≡ lane →
    (lane * handles ≤ q) × (q < lane * handles + handles)
place-within lane handles q some_there of_lane =
    let least : q / handles * handles ≤ q = div-mul-le_self q handles in
    let most : q < q / handles * handles + handles = lt-div-mul-add {a = q} {b = handles} some_there in
    (subst (λ k. k * handles ≤ q) of_lane least, subst (λ k. q < k * handles + handles) of_lane most)

-- a bin without one of its places isn't full
pub has_room : (lane handles : ℕ) (hs : List HandleValue) (h : HandleValue) → 1 ≤ handles →
    AreHandlesOf lane handles hs → is_of lane handles h ≡ true → has_place h.place (places_in hs) ≡ false →
    length hs < handles
has_room lane handles hs h some_there b own away =
    let all : list_all (is_of lane handles) (hs ++ h ∷ []) ≡ true = all-more lane handles hs h b.own own in
    let within : length (places_in hs ++ h.place ∷ []) ≤ handles =
    different-within (lane * handles) handles (places_in hs ++ h.place ∷ []) (distinct-more hs h.place b.distinct away)
    (λ q there.
    let listed_so : list_any (nat_eq q) (places_in (hs ++ h ∷ [])) ≡ true =
    ap (list_any (nat_eq q)) (places-more hs h) ∙ there in
    place-within lane handles q some_there (member-own lane handles q (hs ++ h ∷ []) all listed_so)) in
    omega (arith, within, length-append (places_in hs) (h.place ∷ []), length-map hs (λ x. x.place))

-- one more handle of a lane, in ascending order
first_more : (lane handles n : ℕ) →
    handles_below lane handles (suc n) ≡ handles_below lane handles n ++ new_handle lane (lane * handles + n) ∷ []
first_more lane handles n = map-append (λ k. new_handle lane (lane * handles + k)) (below n) (n ∷ [])

pub one_more : (lane handles n : ℕ) →
    handles_below lane handles (n + 1) ≡ handles_below lane handles n ++ new_handle lane (lane * handles + n) ∷ []
one_more lane handles n =
    let next : n + 1 ≡ suc n = omega arith in
    ap (handles_below lane handles) next ∙ first_more lane handles n

pub how_many : (lane handles n : ℕ) → length (handles_below lane handles n) ≡ n
how_many lane handles zero = refl
how_many lane handles (suc n) =
    let first : List HandleValue = handles_below lane handles n in
    let fewer : length first ≡ n = how_many lane handles n in
    ap length (first_more lane handles n)
    ∙ omega (arith, fewer, length-append first (new_handle lane (lane * handles + n) ∷ []))

-- the places of a lane's first handles
pub places_of_first : (lane handles n : ℕ) → places_in (handles_below lane handles n) ≡ numbers (lane * handles) n
places_of_first lane handles zero = refl
places_of_first lane handles (suc n) =
    ap places_in (first_more lane handles n)
    ∙ places-more (handles_below lane handles n) (new_handle lane (lane * handles + n))
    ∙ ap (λ xs. xs ++ (lane * handles + n) ∷ []) (places_of_first lane handles n)
    ∙ sym (numbers-more (lane * handles) n)

first_is_ready : (lane handles n : ℕ) → n ≤ handles → AreHandlesOf lane handles (handles_below lane handles n)
first_is_ready lane handles zero le = record { own = refl; distinct = none_distinct }
first_is_ready lane handles (suc n) le =
    let place : ℕ = lane * handles + n in
    let first : List HandleValue = handles_below lane handles n in
    let place_own : place / handles ≡ lane = div-mul-add lane handles n (omega arith) in
    let own : is_of lane handles (new_handle lane place) ≡ true = same-both lane (place / handles) place_own in
    let away : has_place place (places_in first) ≡ false =
    ap (has_place place) (places_of_first lane handles n) ∙ not-listed (lane * handles) n n (omega arith) in
    subst (AreHandlesOf lane handles) (sym (first_more lane handles n))
    (more_is_ready lane handles first (new_handle lane place) (first_is_ready lane handles n (omega arith)) own away)
  where
    same-both : (a b : ℕ) → b ≡ a → ((a == a) && (b == a)) ≡ true
    same-both a b e = grind (arith, nat_tests, e)

-- all handles of a lane are ready
pub full_is_ready : (lane handles : ℕ) → AreHandlesOf lane handles (handles_below lane handles handles)
full_is_ready lane handles = first_is_ready lane handles handles (omega arith)
