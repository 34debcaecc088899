-- Where a frame stands among those of its worker, and what the worker told of them.
use Rattle.std.proofs.Common.{◌≡◌, ℕ, zero, suc, ◌+◌, ◌*◌, ◌<◌, ◌≤◌, Bool, true, false, List, [], ◌∷◌, ◌++◌, length, refl, ap, sym, ◌∙◌, arith, Some}
use Rattle.std.specs.Prelude.{◌/◌, ◌%◌, ◌==◌, if◌then◌else◌, Option, slice_get}
use Rattle.std.proofs.Math.Nat.{div-add-mod, mod-lt, mul-add-mod_self_left, mod-eq_of_lt, lt_of_mul-lt-mul_left}
use Rattle.std.proofs.lemmas.Bool.{eqb-true, eq-eqb}
use Rattle.job_queue.specs.declared.jobs.Job.{Job}
use Rattle.job_queue.specs.declared.jobs.Job.TheVariants.{Frame, End}
use Rattle.frame_hash.specs.declared.hashes.HashOf.{HashOf}
use Rattle.frame_hash.specs.Told.{Handed, jobs_of, share_of, to_tell, told_of}

-- ---- The place of a frame in its worker's share.

-- the number of place c among those that leave the same rest
rest_of : (n w c : ℕ) → w < n → (n * c + w) % n ≡ w
rest_of n w c low = mul-add-mod_self_left n c w ∙ mod-eq_of_lt low

-- two such numbers that are less than n apart are one
same_place : (n w c q : ℕ) → n * q + w ≤ n * c + w → n * c + w < n * q + w + n → c ≡ q
same_place n w c q low high =
    let e : n * (q + 1) ≡ n * q + n = omega arith in
    let f : n * (c + 1) ≡ n * c + n = omega arith in
    let a : c < q + 1 = lt_of_mul-lt-mul_left n (omega (arith, e, high)) in
    let b : q < c + 1 = lt_of_mul-lt-mul_left n (omega (arith, f, low, high)) in
    omega (arith, a, b)

-- the next number of a worker from here on is that of place c
pub record IsNext (n w c number : ℕ) : Type 0 where
  pub low : number ≤ n * c + w
  pub high : n * c + w < number + n

module _ (n w : ℕ) (below : w < n) where
  -- it is this one, where this one is the worker's
  here : (c number : ℕ) → IsNext n w c number → (number % n == w) ≡ true → number ≡ n * c + w
  here c number next is =
      let rest : number % n ≡ w = eqb-true (number % n) w is in
      let parts = div-add-mod number n in
      let q = number / n in
      let whole : number ≡ n * q + w = omega (arith, parts, rest) in
      let same : c ≡ q =
      same_place n w c q (omega (arith, whole, next.low)) (omega (arith, whole, next.high)) in
      whole ∙ ap (λ m. n * m + w) (sym same)

  -- and else it isn't
  not_here : (c number : ℕ) → (number % n == w) ≡ false → number ≡ n * c + w → ⊥
  not_here c number isnt same =
      let yes : (number % n == w) ≡ true = eq-eqb (number % n) w (ap (λ m. m % n) same ∙ rest_of n w c below) in
      cc (sym yes ∙ isnt)

  behind : (c number : ℕ) → IsNext n w c number → number ≡ n * c + w → IsNext n w (c + 1) (number + 1)
  behind c number next same =
      let e : n * (c + 1) ≡ n * c + n = omega arith in
      record { low = omega (arith, e, same, below); high = omega (arith, e, same) }

  past : (c number : ℕ) → IsNext n w c number → (number % n == w) ≡ false → IsNext n w c (number + 1)
  past c number next isnt =
      record {
        low = above (next.low) (λ same. not_here c number isnt same);
        high = omega (arith, next.high);
      }
    where
      above : {a b : ℕ} → a ≤ b → (a ≡ b → ⊥) → a + 1 ≤ b
      above le ne = omega (arith, le, ne)

  -- what is told of a frame behind the first, once that is so of the others
  moved : (number k : ℕ) (pieces : List (List ℕ)) (o : Option HashOf) → o ≡ Some (told_of (number + 1 + k) pieces)
      → o ≡ Some (told_of (number + suc k) pieces)
  moved number k pieces o e =
      let m : number + 1 + k ≡ number + suc k = omega arith in e ∙ ap (λ j. Some (told_of j pieces)) m

  at_first : (h : List (List ℕ)) (hs : List (List (List ℕ))) (number c k i : ℕ) (pieces : List (List ℕ))
      → IsNext n w c number
      → ((c' k i : ℕ) → IsNext n w c' (number + 1) → slice_get hs k ≡ Some pieces
      → number + 1 + k ≡ n * (c' + i) + w
      → slice_get (to_tell (share_of n w (number + 1) hs)) i ≡ Some (told_of (number + 1 + k) pieces))
      → (b : Bool) → (number % n == w) ≡ b → slice_get (h ∷ hs) k ≡ Some pieces → number + k ≡ n * (c + i) + w
      → slice_get (to_tell (if b then record { number = number; pieces = h } ∷ share_of n w (number + 1) hs
      else share_of n w (number + 1) hs)) i
      ≡ Some (told_of (number + k) pieces)
  at_first h hs number c zero zero pieces next again true own e is =
      let m : number ≡ number + 0 = omega arith in
      let same : h ≡ pieces = cc e in
      λ j. Some (told_of (m j) (same j))
  at_first h hs number c zero (suc i) pieces next again true own e is =
      let at = here c number next own in
      let more : n * (c + suc i) ≡ n * c + n * i + n = omega arith in
      absurd (omega (arith, at, is, more, below))
  at_first h hs number c (suc k) zero pieces next again true own e is =
      let at = here c number next own in
      let more : n * (c + 0) ≡ n * c = omega arith in
      absurd (omega (arith, at, is, more))
  at_first h hs number c (suc k) (suc i) pieces next again true own e is =
      let at = here c number next own in
      let more : n * (c + suc i) ≡ n * (c + 1 + i) = omega arith in
      moved number k pieces _ (again (c + 1) k i (behind c number next at) e (omega (arith, is, more)))
  at_first h hs number c zero i pieces next again false other e is =
      absurd (not_here (c + i) number other (omega (arith, is)))
  at_first h hs number c (suc k) i pieces next again false other e is =
      moved number k pieces _ (again c k i (past c number next other) e (omega (arith, is)))

  -- what is told of a frame stands at its place
  pub at_place : (hs : List (List (List ℕ))) (number c k i : ℕ) (pieces : List (List ℕ)) → IsNext n w c number
      → slice_get hs k ≡ Some pieces → number + k ≡ n * (c + i) + w
      → slice_get (to_tell (share_of n w number hs)) i ≡ Some (told_of (number + k) pieces)
  at_place [] number c k i pieces next e is = absurd (cc e)
  at_place (h ∷ hs) number c k i pieces next e is =
      at_first h hs number c k i pieces next
      (λ c' k i next' e is. at_place hs (number + 1) c' k i pieces next' e is) (number % n == w) refl e is

-- of all frames from the first on
pub told_at : (n : ℕ) → 0 < n → (hs : List (List (List ℕ))) (k : ℕ) (pieces : List (List ℕ))
    → slice_get hs k ≡ Some pieces
    → slice_get (to_tell (share_of n (k % n) 0 hs)) (k / n) ≡ Some (told_of k pieces)
told_at n some hs k pieces e =
    let low : k % n < n = mod-lt k some in
    let parts = div-add-mod k n in
    let none : n * 0 ≡ 0 = omega arith in
    let from : 0 + k / n ≡ k / n = omega arith in
    let whole : n * (0 + k / n) ≡ n * (k / n) = ap (λ m. n * m) from in
    at_place n (k % n) low hs 0 0 k (k / n) pieces
    (record { low = omega (arith, none); high = omega (arith, none, low) })
    e (omega (arith, parts, whole))
    ∙ ap (λ j. Some (told_of j pieces)) (zero_on k)
  where
    zero_on : (m : ℕ) → 0 + m ≡ m
    zero_on m = omega arith

-- ---- Jobs up to the end.

-- what was got up to the end are all jobs that were sent before it
pub all_got : (hs : List Handed) (done left : List Job)
    → jobs_of hs ++ End ∷ [] ≡ (done ++ End ∷ []) ++ left → done ≡ jobs_of hs
all_got [] [] left e = refl
all_got [] (End ∷ done) left e = absurd (cut_short done (rest_is e))
  where
    rest_is : ◌≡◌ {A = List Job} (End ∷ []) (End ∷ ((done ++ End ∷ []) ++ left)) → [] ≡ (done ++ End ∷ []) ++ left
    rest_is e = cc e

    cut_short : (js : List Job) → [] ≡ (js ++ End ∷ []) ++ left → ⊥
    cut_short [] e = cc e
    cut_short (j ∷ js) e = cc e
all_got [] (Frame number slices ∷ done) left e = absurd (cc e)
all_got (h ∷ hs) [] left e = absurd (cc e)
all_got (h ∷ hs) (job ∷ done) left e =
    let first : job ≡ Frame h.number (length h.pieces) = cc e in
    let rest : jobs_of hs ++ End ∷ [] ≡ (done ++ End ∷ []) ++ left = cc e in
    λ i. first i ∷ all_got hs done left rest i

-- ---- Lists of which each item is the other's.

pub same_items : {X : Type 0} (xs ys : List X) → length xs ≡ length ys
    → ((k : ℕ) (x y : X) → slice_get xs k ≡ Some x → slice_get ys k ≡ Some y → x ≡ y) → xs ≡ ys
same_items [] [] e each = refl
same_items [] (y ∷ ys) e each = absurd (omega (arith, e))
same_items (x ∷ xs) [] e each = absurd (omega (arith, e))
same_items (x ∷ xs) (y ∷ ys) e each =
    let first : x ≡ y = each 0 x y refl refl in
    let rest = same_items xs ys (omega (arith, e)) (λ k u v a b. each (suc k) u v a b) in
    λ i. first i ∷ rest i
