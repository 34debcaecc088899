-- Sums over the notes at an object, each weighed with its number, are sums over its history.
use Rattle.std.proofs.Common.{eqb-true, eq-eqb, ◌≡◌, ℕ, zero, suc, ◌+◌, ◌<◌, ◌≤◌, List, [], ◌∷◌, ◌++◌, length, refl, sym, ap, arith, true, Some, ◌∙◌}
use Rattle.std.specs.Prelude.{◌==◌, if◌then◌else◌, slice_get}
use Rattle.pool_law.specs.declared.note.Object.{Object}
use Rattle.pool_law.specs.declared.note.Did.{Did}
use Rattle.pool_law.specs.declared.note.Note.{Note}
use Rattle.pool_law.specs.declared.note.Note.TheVariants.{At, Ref, Busy}
use Rattle.pool_law.specs.Same.{same_object}
use Rattle.pool_law.specs.Logs.{Logs, History, dids, own, own_note, numbered, of_lane, IsHistory}
use Rattle.run_laws.specs.CacheCounts.{total_by}
use Rattle.run_laws.proofs.Sums.{sum_by, sum_over}
use Rattle.run_laws.proofs.RegroupLaw.{weight_at, weights-one}
use Rattle.pool_law.proofs.SameLemmas.{same_object-is}
use Rattle.pool_law.proofs.PatternLemmas.{same_object-refl}
use Rattle.pool_law.proofs.HistoryLemmas.{over_lanes, over-same, over-add, AreOf, are-of, lane-inside}
use Rattle.std.proofs.lemmas.Bool.{cond_both}

abbrev pub Weight : Type 0
Weight = ℕ → Did → ℕ

abbrev pub total_numbers : Weight → List (ℕ × Did) → ℕ
total_numbers f [] = 0
total_numbers f (x ∷ xs) = f x.0 x.1 + total_numbers f xs

-- over a history, whose first note has this number
abbrev pub total_from : Weight → ℕ → List Did → ℕ
total_from f n [] = 0
total_from f n (d ∷ ds) = f n d + total_from f (n + 1) ds

-- a weight that does not look at numbers
abbrev pub plain : (Did → ℕ) → Weight
plain f n d = f d

pub total-plain : (f : Did → ℕ) (n : ℕ) (ds : List Did) → total_from (plain f) n ds ≡ total_by f ds
total-plain f n [] = refl
total-plain f n (d ∷ ds) = omega (arith, total-plain f (n + 1) ds)

pub total-numbered : (f : Weight) (l n : ℕ) (e : ℕ × Did) (h : History)
    → total_numbers f (numbered l n (e ∷ h)) ≡ weight_at (f n e.1) e.0 l + total_numbers f (numbered l (n + 1) h)
total-numbered f l n e h =
    cond_both (e.0 == l) ((n, e.1) ∷ numbered l (n + 1) h) (numbered l (n + 1) h)
    (λ z. total_numbers f z ≡ weight_at (f n e.1) e.0 l + total_numbers f (numbered l (n + 1) h))
    (λ same. rw same refl)
    (λ other. rw other (omega arith))

pub totals-numbered : (f : Weight) (k m n : ℕ) (h : History)
    → ((j : ℕ) (e : ℕ × Did) → slice_get h j ≡ Some e → (k ≤ e.0) × (e.0 < k + m))
    → over_lanes k m (λ l. total_numbers f (numbered l n h)) ≡ total_from f n (dids h)
totals-numbered f k m n [] inside = zeros k m
  where
    zeros : (k m : ℕ) → over_lanes k m (λ l. 0) ≡ 0
    zeros k zero = refl
    zeros k (suc m) = omega (arith, zeros (k + 1) m)
totals-numbered f k m n (e ∷ h) inside =
    let split : over_lanes k m (λ l. total_numbers f (numbered l n (e ∷ h)))
    ≡ over_lanes k m (λ l. weight_at (f n e.1) e.0 l + total_numbers f (numbered l (n + 1) h)) =
    over-same k m (λ l. total_numbers f (numbered l n (e ∷ h)))
    (λ l. weight_at (f n e.1) e.0 l + total_numbers f (numbered l (n + 1) h))
    (λ l. total-numbered f l n e h) in
    let sums : over_lanes k m (λ l. weight_at (f n e.1) e.0 l + total_numbers f (numbered l (n + 1) h))
    ≡ over_lanes k m (weight_at (f n e.1) e.0) + over_lanes k m (λ l. total_numbers f (numbered l (n + 1) h)) =
    over-add k m (weight_at (f n e.1) e.0) (λ l. total_numbers f (numbered l (n + 1) h)) in
    let one : over_lanes k m (weight_at (f n e.1) e.0)
    ≡ f n e.1 = weights-one (f n e.1) k m e.0 (inside 0 e refl).0 (inside 0 e refl).1 in
    let ih : over_lanes k m (λ l. total_numbers f (numbered l (n + 1) h))
    ≡ total_from f (n + 1) (dids h) = totals-numbered f k m (n + 1) h (λ j x is. inside (suc j) x is) in
    omega (arith, split, sums, one, ih)

-- the weight of a note, if it is at this object
abbrev pub at_object : Object → Weight → Note → ℕ
at_object o f (At other n d) = if same_object o other then f n d else 0
at_object o f (Ref root did) = 0
at_object o f (Busy held) = 0

pub sum-own : (o : Object) (f : Weight) (log : List Note) → sum_by (at_object o f) log ≡ total_numbers f (own o log)
sum-own o f [] = refl
sum-own o f (At other n d ∷ ns) =
    cond_both (same_object o other) ((n, d) ∷ []) []
    (λ z. at_object o f (At other n d) + sum_by (at_object o f) ns ≡ total_numbers f (z ++ own o ns))
    (λ same. rw same (omega (arith, sum-own o f ns)))
    (λ same. rw same (omega (arith, sum-own o f ns)))
sum-own o f (Ref root did ∷ ns) = omega (arith, sum-own o f ns)
sum-own o f (Busy held ∷ ns) = omega (arith, sum-own o f ns)

pub over-lanes : (o : Object) (f : Weight) (h : History) (k : ℕ) (logs : Logs) → AreOf o h k logs
    → sum_over (at_object o f) logs ≡ over_lanes k (length logs) (λ l. total_numbers f (numbered l 1 h))
over-lanes o f h k [] are = refl
over-lanes o f h k (log ∷ logs) are =
    omega (arith, sum-own o f log, ap (total_numbers f) are.0, over-lanes o f h (k + 1) logs are.1)

pub regroup : (o : Object) (f : Weight) (logs : Logs) (h : History) → IsHistory o logs h
    → sum_over (at_object o f) logs ≡ total_from f 1 (dids h)
regroup o f logs h whole =
    over-lanes o f h 0 logs (are-of o logs h whole)
    ∙ totals-numbered f 0 (length logs) 1 h (λ j e is. (omega arith, omega (arith, lane-inside o logs h whole j e is)))

-- a note at the object stands in its history at its number
pub own-at : (o : Object) (log : List Note) (i k : ℕ) (d : Did) → slice_get log i ≡ Some (At o k d)
    → (j : ℕ) × (slice_get (own o log) j ≡ Some (k, d))
own-at o [] i k d e = absurd (cc e)
own-at o (n ∷ ns) zero k d e =
    let same : n ≡ At o k d = cc e in (
      0,
      ap (λ x. slice_get (own_note o x ++ own o ns) 0) same
          ∙ ap (λ b. slice_get ((if b then (k, d) ∷ [] else []) ++ own o ns) 0) (same_object-refl o),
    )
own-at o (n ∷ ns) (suc i) k d e =
    let r : (j : ℕ) × (slice_get (own o ns) j ≡ Some (k, d)) = own-at o ns i k d e in
    behind (own_note o n) (own o ns) r.0 r.1
  where
    behind : (xs ys : List (ℕ × Did)) (j : ℕ) → slice_get ys j ≡ Some (k, d)
        → (m : ℕ) × (slice_get (xs ++ ys) m ≡ Some (k, d))
    behind [] ys j is = (j, is)
    behind (x ∷ xs) ys j is =
        let r : (m : ℕ) × (slice_get (xs ++ ys) m ≡ Some (k, d)) = behind xs ys j is in (suc r.0, r.1)

pub numbered-at : (lane n : ℕ) (h : History) (j k : ℕ) (d : Did) → slice_get (numbered lane n h) j ≡ Some (k, d)
    → (i : ℕ) × (k ≡ n + i) × (slice_get h i ≡ Some (lane, d))
numbered-at lane n [] j k d e = absurd (cc e)
numbered-at lane n (x ∷ h) j k d e =
    cond_both (x.0 == lane) ((n, x.1) ∷ numbered lane (n + 1) h) (numbered lane (n + 1) h)
    (λ z. slice_get z j ≡ Some (k, d) → (i : ℕ) × (k ≡ n + i) × (slice_get (x ∷ h) i ≡ Some (lane, d)))
    (λ same. first j (eqb-true x.0 lane same) (λ m is. numbered-at lane (n + 1) h m k d is))
    (λ _ is. later (numbered-at lane (n + 1) h j k d is))
    e
  where
    later : (i : ℕ) × (k ≡ n + 1 + i) × (slice_get h i ≡ Some (lane, d))
        → (i : ℕ) × (k ≡ n + i) × (slice_get (x ∷ h) i ≡ Some (lane, d))
    later r = (suc r.0, omega (arith, r.1), r.2)

    first : (j : ℕ) → x.0 ≡ lane → ((m : ℕ) → slice_get (numbered lane (n + 1) h) m ≡ Some (k, d)
        → (i : ℕ) × (k ≡ n + 1 + i) × (slice_get h i ≡ Some (lane, d))) →
        slice_get ((n, x.1) ∷ numbered lane (n + 1) h) j ≡ Some (k, d)
        → (i : ℕ) × (k ≡ n + i) × (slice_get (x ∷ h) i ≡ Some (lane, d))
    first zero of_lane rest is =
        let same : ◌≡◌ {A = ℕ × Did} (n, x.1) (k, d) = cc is in
        (0, omega (arith, ap (λ p. p.0) same), λ i. Some (of_lane i, (same i).1))
    first (suc m) of_lane rest is = later (rest m is)

pub in-history : (o : Object) (logs : Logs) (h : History) → IsHistory o logs h → (lane i k : ℕ) (d : Did)
    → slice_get (of_lane logs lane) i ≡ Some (At o k d) → (j : ℕ) × (k ≡ 1 + j) × (slice_get h j ≡ Some (lane, d))
in-history o logs h whole lane i k d e =
    let r : (j : ℕ) × (slice_get (own o (of_lane logs lane)) j ≡ Some (k, d)) = own-at o (of_lane logs lane) i k d e in
    numbered-at lane 1 h r.0 k d (ap (λ xs. slice_get xs r.0) (sym (whole lane)) ∙ r.1)

-- what stands in the history is a note in its lane's log
pub numbered-there : (lane n : ℕ) (h : History) (i : ℕ) (d : Did) → slice_get h i ≡ Some (lane, d)
    → (j : ℕ) × (slice_get (numbered lane n h) j ≡ Some (n + i, d))
numbered-there lane n [] i d e = absurd (cc e)
numbered-there lane n (x ∷ h) zero d e =
    let same : ◌≡◌ {A = ℕ × Did} x (lane, d) = cc e in
    let own_lane : (x.0 == lane) ≡ true = eq-eqb x.0 lane (ap (λ p. p.0) same) in
    let number : n ≡ n + 0 = omega arith in (
      0,
      ap (λ b. slice_get (if b then (n, x.1) ∷ numbered lane (n + 1) h else numbered lane (n + 1) h) 0) own_lane
          ∙ (λ i. Some (number i, (same i).1)),
    )
numbered-there lane n (x ∷ h) (suc i) d e =
    let r : (j : ℕ) × (slice_get (numbered lane (n + 1) h) j ≡ Some (n + 1 + i, d)) =
    numbered-there lane (n + 1) h i d e in
    let number : n + 1 + i ≡ n + suc i = omega arith in
    let moved : slice_get (numbered lane (n + 1) h) r.0 ≡ Some (n + suc i, d) = r.1 ∙ ap (λ m. Some (m, d)) number in
    cond_both (x.0 == lane) ((n, x.1) ∷ numbered lane (n + 1) h) (numbered lane (n + 1) h)
    (λ z. (j : ℕ) × (slice_get z j ≡ Some (n + suc i, d)))
    (λ _. (suc r.0, moved))
    (λ _. (r.0, moved))

pub own-there : (o : Object) (log : List Note) (j k : ℕ) (d : Did) → slice_get (own o log) j ≡ Some (k, d)
    → (i : ℕ) × (slice_get log i ≡ Some (At o k d))
own-there o [] j k d e = absurd (cc e)
own-there o (At other n d' ∷ ns) j k d e =
    cond_both (same_object o other) ((n, d') ∷ []) []
    (λ z. slice_get (z ++ own o ns) j ≡ Some (k, d)
    → (i : ℕ) × (slice_get (At other n d' ∷ ns) i ≡ Some (At o k d)))
    (λ same. first j (same_object-is o other same) (λ m is. own-there o ns m k d is))
    (λ _ is. later (own-there o ns j k d is))
    e
  where
    later : (i : ℕ) × (slice_get ns i ≡ Some (At o k d))
        → (i : ℕ) × (slice_get (At other n d' ∷ ns) i ≡ Some (At o k d))
    later r = (suc r.0, r.1)

    first : (j : ℕ) → o ≡ other → ((m : ℕ) → slice_get (own o ns) m ≡ Some (k, d)
        → (i : ℕ) × (slice_get ns i ≡ Some (At o k d))) →
        slice_get ((n, d') ∷ own o ns) j ≡ Some (k, d) → (i : ℕ) × (slice_get (At other n d' ∷ ns) i ≡ Some (At o k d))
    first zero here rest is =
        let same : ◌≡◌ {A = ℕ × Did} (n, d') (k, d) = cc is in
        (0, λ i. Some (At (sym here i) (same i).0 (same i).1))
    first (suc m) here rest is = later (rest m is)
own-there o (Ref root did ∷ ns) j k d e =
    let r : (i : ℕ) × (slice_get ns i ≡ Some (At o k d)) = own-there o ns j k d e in (suc r.0, r.1)
own-there o (Busy held ∷ ns) j k d e =
    let r : (i : ℕ) × (slice_get ns i ≡ Some (At o k d)) = own-there o ns j k d e in (suc r.0, r.1)

pub in-log : (o : Object) (logs : Logs) (h : History) → IsHistory o logs h → (lane j : ℕ) (d : Did)
    → slice_get h j ≡ Some (lane, d) → (i : ℕ) × (slice_get (of_lane logs lane) i ≡ Some (At o (1 + j) d))
in-log o logs h whole lane j d e =
    let r : (m : ℕ) × (slice_get (numbered lane 1 h) m ≡ Some (1 + j, d)) = numbered-there lane 1 h j d e in
    own-there o (of_lane logs lane) r.0 (1 + j) d (ap (λ xs. slice_get xs r.0) (whole lane) ∙ r.1)

-- numbers at one object rise in a log
numbered-rises : (lane n : ℕ) (h : History) (a b k l : ℕ) (d e : Did) → slice_get (numbered lane n h) a ≡ Some (k, d)
    → slice_get (numbered lane n h) b ≡ Some (l, e) → a < b → k < l
numbered-rises lane n [] a b k l d e is it less = absurd (cc is)
numbered-rises lane n (x ∷ h) a b k l d e is it less =
    cond_both (x.0 == lane) ((n, x.1) ∷ numbered lane (n + 1) h) (numbered lane (n + 1) h)
    (λ z. slice_get z a ≡ Some (k, d) → slice_get z b ≡ Some (l, e) → k < l)
    (λ _ p q. first a b p q less (λ i j s t under. numbered-rises lane (n + 1) h i j k l d e s t under))
    (λ _ p q. numbered-rises lane (n + 1) h a b k l d e p q less)
    is it
  where
    first : (a b : ℕ) → slice_get ((n, x.1) ∷ numbered lane (n + 1) h) a ≡ Some (k, d)
        → slice_get ((n, x.1) ∷ numbered lane (n + 1) h) b ≡ Some (l, e) → a < b →
        ((i j : ℕ) → slice_get (numbered lane (n + 1) h) i ≡ Some (k, d)
        → slice_get (numbered lane (n + 1) h) j ≡ Some (l, e) → i < j → k < l) → k < l
    first a zero p q under rest = absurd (omega (arith, under))
    first zero (suc b) p q under rest =
        let same : ◌≡◌ {A = ℕ × Did} (n, x.1) (k, d) = cc p in
        let r = numbered-at lane (n + 1) h b l e q in
        omega (arith, ap (λ (y : ℕ × Did). y.0) same, r.1)
    first (suc a) (suc b) p q under rest = rest a b p q (omega (arith, under))

own-two : (o : Object) (log : List Note) (i j k l : ℕ) (d e : Did) → slice_get log i ≡ Some (At o k d)
    → slice_get log j ≡ Some (At o l e) → i < j →
    (a : ℕ) × (b : ℕ) × (slice_get (own o log) a ≡ Some (k, d)) × (slice_get (own o log) b ≡ Some (l, e)) × (a < b)
own-two o [] i j k l d e is it less = absurd (cc is)
own-two o (n ∷ ns) i zero k l d e is it less = absurd (omega (arith, less))
own-two o (n ∷ ns) zero (suc j) k l d e is it less =
    let same : n ≡ At o k d = cc is in
    let notes : own o (n ∷ ns) ≡ (k, d) ∷ own o ns = ap (λ x. own_note o x ++ own o ns) same
    ∙ ap (λ b. (if b then (k, d) ∷ [] else []) ++ own o ns) (same_object-refl o) in
    let r = own-at o ns j l e it in (
      0,
      suc r.0,
      ap (λ xs. slice_get xs 0) notes,
      ap (λ xs. slice_get xs (suc r.0)) notes ∙ r.1,
      omega arith,
    )
own-two o (n ∷ ns) (suc i) (suc j) k l d e is it less =
    let r = own-two o ns i j k l d e is it (omega (arith, less)) in
    behind (own_note o n) r.0 r.1 r.2 r.3 r.4
  where
    behind : (xs : List (ℕ × Did)) (a b : ℕ) → slice_get (own o ns) a ≡ Some (k, d)
        → slice_get (own o ns) b ≡ Some (l, e) → a < b →
        (a : ℕ) × (b : ℕ) × (slice_get (xs ++ own o ns) a ≡ Some (k, d))
        × (slice_get (xs ++ own o ns) b ≡ Some (l, e)) × (a < b)
    behind [] a b p q under = (a, b, p, q, under)
    behind (x ∷ xs) a b p q under =
        let r = behind xs a b p q under in (suc r.0, suc r.1, r.2, r.3, omega (arith, r.4))

pub rises-in_log : (o : Object) (logs : Logs) (h : History) → IsHistory o logs h → (lane i j k l : ℕ) (d e : Did)
    → slice_get (of_lane logs lane) i ≡ Some (At o k d) → slice_get (of_lane logs lane) j ≡ Some (At o l e) → i < j
    → k < l
rises-in_log o logs h whole lane i j k l d e is it less =
    let r = own-two o (of_lane logs lane) i j k l d e is it less in
    numbered-rises lane 1 h r.0 r.1 k l d e (ap (λ xs. slice_get xs r.0) (sym (whole lane)) ∙ r.2)
    (ap (λ xs. slice_get xs r.1) (sym (whole lane)) ∙ r.3) r.4
