-- Histories: what one more note does, and that the logs give only one history.
use Rattle.std.proofs.Common.{length-append, eqb-true, eq-eqb, ne_eqb, ⊎_elim, ◌≡◌, ◌≢◌, ℕ, zero, suc, ◌+◌, ◌<◌, ◌≤◌, List, [], ◌∷◌, ◌++◌, length, refl, sym, ap, subst, arith, true, false, Some, None, ◌∙◌}
use Rattle.std.specs.Prelude.{◌⊎◌, ◌==◌, if◌then◌else◌, Option, option_map, option_and_then, slice_get}
use Rattle.pool_law.specs.declared.note.Object.{Object}
use Rattle.pool_law.specs.declared.note.Did.{Did}
use Rattle.pool_law.specs.declared.note.Note.{Note}
use Rattle.pool_law.specs.Arenas.{or_else}
use Rattle.pool_law.specs.declared.note.Noted.{Noted}
use Rattle.pool_law.specs.Histories.{after}
use Rattle.pool_law.specs.NotedHistories.{noted_dids}
use Rattle.pool_law.specs.Logs.{Logs, History, own_note, own, numbered, IsHistory, of_lane, with_number, entry_at, notes_at, extended, history_from, history_of}
use Rattle.std.proofs.lemmas.Bool.{cond_both}
use Rattle.std.proofs.lemmas.List.{map-append}
pub use Rattle.std.proofs.Common.{append-nil}

pub append-assoc : {X : Type 0} (xs ys zs : List X) → (xs ++ ys) ++ zs ≡ xs ++ (ys ++ zs)
append-assoc [] ys zs = refl
append-assoc (x ∷ xs) ys zs = ap (λ t. x ∷ t) (append-assoc xs ys zs)

-- one more note is one more step
pub after-push : {S : Type 0} (step : S → Did → Option S) (s : S) (ds : List Did) (d : Did) →
    after step s (ds ++ d ∷ []) ≡ option_and_then (λ t. step t d) (after step s ds)
after-push {S = S} step s [] d = last (step s d)
  where
    last : (o : Option S) → option_and_then (λ t. Some t) o ≡ o
    last None = refl
    last (Some t) = refl
after-push {S = S} step s (e ∷ ds) d = go (step s e) (λ t. after-push step t ds d)
  where
    go : (o : Option S) → ((t : S) → after step t (ds ++ d ∷ []) ≡ option_and_then (λ u. step u d) (after step t ds)) →
        option_and_then (λ t. after step t (ds ++ d ∷ [])) o
        ≡ option_and_then (λ u. step u d) (option_and_then (λ t. after step t ds) o)
    go None rest = refl
    go (Some t) rest = rest t

pub after-noted : {S : Type 0} (step : S → Did → Option S) (s : S) (h : List Noted) (n : Noted) →
    after step s (noted_dids (h ++ n ∷ [])) ≡ option_and_then (λ t. step t n.did) (after step s (noted_dids h))
after-noted step s h n =
    ap (after step s) (map-append (λ x. x.did) h (n ∷ [])) ∙ after-push step s (noted_dids h) n.did

pub own-append : (object : Object) (xs ys : List Note) → own object (xs ++ ys) ≡ own object xs ++ own object ys
own-append object [] ys = refl
own-append object (x ∷ xs) ys =
    ap (λ t. own_note object x ++ t) (own-append object xs ys)
    ∙ sym (append-assoc (own_note object x) (own object xs) (own object ys))

-- the entry that one more note adds, if it is of this lane
abbrev pub one_if : ℕ → ℕ → ℕ × Did → List (ℕ × Did)
one_if lane n e = if e.0 == lane then (n, e.1) ∷ [] else []

pub numbered-step : (lane n : ℕ) (e : ℕ × Did) (h : History)
    → numbered lane n (e ∷ h) ≡ one_if lane n e ++ numbered lane (n + 1) h
numbered-step lane n e h =
    cond_both (e.0 == lane) ((n, e.1) ∷ []) []
    (λ z. (if e.0 == lane then (n, e.1) ∷ numbered lane (n + 1) h else numbered lane (n + 1) h)
    ≡ z ++ numbered lane (n + 1) h)
    (λ same. rw same refl)
    (λ other. rw other refl)

pub numbered-append : (lane n : ℕ) (h : History) (e : ℕ × Did)
    → numbered lane n (h ++ e ∷ []) ≡ numbered lane n h ++ one_if lane (n + length h) e
numbered-append lane n [] e =
    numbered-step lane n e [] ∙ append-nil (one_if lane n e) ∙ ap (λ k. one_if lane k e) (omega arith)
numbered-append lane n (x ∷ h) e =
    numbered-step lane n x (h ++ e ∷ [])
    ∙ ap (λ t. one_if lane n x ++ t) (numbered-append lane (n + 1) h e)
    ∙ sym (append-assoc (one_if lane n x) (numbered lane (n + 1) h) (one_if lane (n + 1 + length h) e))
    ∙ ap (λ t. t ++ one_if lane (n + 1 + length h) e) (sym (numbered-step lane n x h))
    ∙ ap (λ k. numbered lane n (x ∷ h) ++ one_if lane k e) (omega arith)

-- numbers begin at n, so a lesser one is not there
pub with_number-below : (lane n m : ℕ) (h : History) → m < n → with_number m (numbered lane n h) ≡ None
with_number-below lane n m [] lt = refl
with_number-below lane n m (e ∷ h) lt =
    cond_both (e.0 == lane) ((n, e.1) ∷ numbered lane (n + 1) h) (numbered lane (n + 1) h) (λ z. with_number m z ≡ None)
    (λ _. let other : (n == m) ≡ false = ne_eqb n m (λ same. omega (arith, same)) in
    rw other (with_number-below lane (n + 1) m h (omega arith)))
    (λ _. with_number-below lane (n + 1) m h (omega arith))

-- what has a number in the notes of a lane is what stands there in the history, if it is of this lane
abbrev pub if_of : ℕ → ℕ × Did → Option Did
if_of lane e = if e.0 == lane then Some e.1 else None

pub with_number-at : (lane n j : ℕ) (h : History) (e : ℕ × Did) → slice_get h j ≡ Some e
    → with_number (n + j) (numbered lane n h) ≡ if_of lane e
with_number-at lane n j [] e is = absurd (cc is)
with_number-at lane n zero (x ∷ h) e is =
    let same : x ≡ e = cc is in
    subst (λ y. with_number (n + 0) (numbered lane n (x ∷ h)) ≡ if_of lane y) same
    (cond_both (x.0 == lane) ((n, x.1) ∷ numbered lane (n + 1) h) (numbered lane (n + 1) h)
    (λ z. with_number (n + 0) z ≡ if_of lane x)
    (λ own_lane. let here : (n == n + 0) ≡ true = eq-eqb n (n + 0) (omega arith) in rw (here, own_lane) refl)
    (λ other. rw other (with_number-below lane (n + 1) (n + 0) h (omega arith))))
with_number-at lane n (suc j) (x ∷ h) e is =
    let ih : with_number (n + 1 + j) (numbered lane (n + 1) h) ≡ if_of lane e = with_number-at lane (n + 1) j h e is in
    let next : n + 1 + j ≡ n + suc j = omega arith in
    let moved : with_number (n + suc j) (numbered lane (n + 1) h)
    ≡ if_of lane e = subst (λ k. with_number k (numbered lane (n + 1) h) ≡ if_of lane e) next ih in
    cond_both (x.0 == lane) ((n, x.1) ∷ numbered lane (n + 1) h) (numbered lane (n + 1) h)
    (λ z. with_number (n + suc j) z ≡ if_of lane e)
    (λ _. let other : (n == n + suc j) ≡ false = ne_eqb n (n + suc j) (λ same. omega (arith, same)) in rw other moved)
    (λ _. moved)

-- the logs of lanes from k on, each with its notes of the history
abbrev pub AreOf : Object → History → ℕ → Logs → Type 0
AreOf object h k [] = Unit {0}
AreOf object h k (log ∷ logs) = (own object log ≡ numbered k 1 h) × AreOf object h (k + 1) logs

pub AreOf-from : (object : Object) (h : History) (k : ℕ) (logs : Logs)
    → ((i : ℕ) → own object (of_lane logs i) ≡ numbered (k + i) 1 h) → AreOf object h k logs
AreOf-from object h k [] f = tt
AreOf-from object h k (log ∷ logs) f = (
  f 0 ∙ ap (λ n. numbered n 1 h) (omega arith),
  AreOf-from object h (k + 1) logs
      (λ i. f (suc i) ∙ ap (λ n. numbered n 1 h) (omega arith)),
)

pub lesser-or_same : (k l : ℕ) → k ≤ l → l ≢ k → k < l
lesser-or_same k l le ne = grind arith

-- the entry with a number is the one that stands there in the history
pub entry_at-is : (object : Object) (h : History) (k j : ℕ) (logs : Logs) (e : ℕ × Did) → AreOf object h k logs
    → slice_get h j ≡ Some e → k ≤ e.0 → e.0 < k + length logs →
    entry_at object (1 + j) k logs ≡ Some e
entry_at-is object h k j [] e are is low high = absurd (omega arith)
entry_at-is object h k j (log ∷ logs) e are is low high =
    let found : with_number (1 + j) (own object log) ≡ if_of k e = ap (with_number (1 + j)) are.0
    ∙ with_number-at k 1 j h e is in
    let rest : e.0 ≢ k → entry_at object (1 + j) (k + 1) logs
    ≡ Some e =
    (λ other. entry_at-is object h (k + 1) j logs e are.1 is (omega (arith, lesser-or_same k e.0 low other))
    (omega arith)) in
    ap (λ o. or_else (option_map (λ did. (k, did)) o) (entry_at object (1 + j) (k + 1) logs)) found
    ∙ cond_both (e.0 == k) (Some e.1) None
    (λ z. or_else (option_map (λ did. (k, did)) z) (entry_at object (1 + j) (k + 1) logs) ≡ Some e)
    (λ same. let lane : k ≡ e.0 = sym (eqb-true e.0 k same) in ap (λ l. Some (l, e.1)) lane)
    (λ other. rest (λ same. let both : true ≡ false = sym (eq-eqb e.0 k same) ∙ other in cc both))

-- a sum over the lanes from k on
abbrev pub over_lanes : ℕ → ℕ → (ℕ → ℕ) → ℕ
over_lanes k zero f = 0
over_lanes k (suc n) f = f k + over_lanes (k + 1) n f

pub over-same : (k n : ℕ) (f h : ℕ → ℕ) → ((l : ℕ) → f l ≡ h l) → over_lanes k n f ≡ over_lanes k n h
over-same k zero f h e = refl
over-same k (suc n) f h e = omega (arith, e k, over-same (k + 1) n f h e)

pub over-add : (k n : ℕ) (f h : ℕ → ℕ) → over_lanes k n (λ l. f l + h l) ≡ over_lanes k n f + over_lanes k n h
over-add k zero f h = refl
over-add k (suc n) f h = omega (arith, over-add (k + 1) n f h)

abbrev pub one_at : ℕ → ℕ → ℕ
one_at a l = if a == l then 1 else 0

pub over-none : (k n a : ℕ) → a < k → over_lanes k n (one_at a) ≡ 0
over-none k zero a h = refl
over-none k (suc n) a h =
    let other : (a == k) ≡ false = ne_eqb a k (λ e. omega (arith, e)) in
    rw other (omega (arith, over-none (k + 1) n a (omega arith)))

pub over-one : (k n a : ℕ) → k ≤ a → a < k + n → over_lanes k n (one_at a) ≡ 1
over-one k zero a low high = absurd (omega arith)
over-one k (suc n) a low high =
    cond_both (a == k) 1 0 (λ z. z + over_lanes (k + 1) n (one_at a) ≡ 1)
    (λ same. let e : a ≡ k = eqb-true a k same in omega (arith, over-none (k + 1) n a (omega (arith, e))))
    (λ other. let ne : a ≢ k = (λ e. let both : true ≡ false = sym (eq-eqb a k e) ∙ other in cc both) in
    let rest : over_lanes (k + 1) n (one_at a)
    ≡ 1 = over-one (k + 1) n a (omega (arith, lesser-or_same k a low ne)) (omega arith) in
    omega (arith, rest))

pub length-numbered : (l n : ℕ) (e : ℕ × Did) (h : History)
    → length (numbered l n (e ∷ h)) ≡ one_at e.0 l + length (numbered l (n + 1) h)
length-numbered l n e h =
    cond_both (e.0 == l) ((n, e.1) ∷ numbered l (n + 1) h) (numbered l (n + 1) h)
    (λ z. length z ≡ one_at e.0 l + length (numbered l (n + 1) h))
    (λ same. rw same (omega arith))
    (λ other. rw other (omega arith))

pub over-numbered : (k m n : ℕ) (h : History)
    → ((j : ℕ) (e : ℕ × Did) → slice_get h j ≡ Some e → (k ≤ e.0) × (e.0 < k + m))
    → over_lanes k m (λ l. length (numbered l n h)) ≡ length h
over-numbered k m n [] inside = zeros k m
  where
    zeros : (k m : ℕ) → over_lanes k m (λ l. 0) ≡ 0
    zeros k zero = refl
    zeros k (suc m) = omega (arith, zeros (k + 1) m)
over-numbered k m n (e ∷ h) inside =
    let split : over_lanes k m (λ l. length (numbered l n (e ∷ h)))
    ≡ over_lanes k m (λ l. one_at e.0 l + length (numbered l (n + 1) h)) =
    over-same k m (λ l. length (numbered l n (e ∷ h))) (λ l. one_at e.0 l + length (numbered l (n + 1) h))
    (λ l. length-numbered l n e h) in
    let sums : over_lanes k m (λ l. one_at e.0 l + length (numbered l (n + 1) h))
    ≡ over_lanes k m (one_at e.0) + over_lanes k m (λ l. length (numbered l (n + 1) h)) =
    over-add k m (one_at e.0) (λ l. length (numbered l (n + 1) h)) in
    let one : over_lanes k m (one_at e.0) ≡ 1 = over-one k m e.0 (inside 0 e refl).0 (inside 0 e refl).1 in
    let ih : over_lanes k m (λ l. length (numbered l (n + 1) h))
    ≡ length h = over-numbered k m (n + 1) h (λ j f is. inside (suc j) f is) in
    omega (arith, split, sums, one, ih)

pub notes_at-over : (object : Object) (h : History) (k : ℕ) (logs : Logs) → AreOf object h k logs
    → notes_at object logs ≡ over_lanes k (length logs) (λ l. length (numbered l 1 h))
notes_at-over object h k [] are = refl
notes_at-over object h k (log ∷ logs) are =
    omega (arith, ap length are.0, notes_at-over object h (k + 1) logs are.1)

pub get-after : (before : History) (e : ℕ × Did) (rest : History)
    → slice_get (before ++ e ∷ rest) (length before) ≡ Some e
get-after [] e rest = refl
get-after (x ∷ before) e rest = get-after before e rest

-- a lane past the logs has no log
pub log-past : {X : Type 0} (logs : List (List X)) (lane : ℕ) → length logs ≤ lane → of_lane logs lane ≡ []
log-past [] lane h = refl
log-past (x ∷ xs) zero h = absurd (omega arith)
log-past (x ∷ xs) (suc lane) h = log-past xs lane (omega arith)

module _ (object : Object) (logs : Logs) (h : History) (whole : IsHistory object logs h) where
  -- each note of a history is of a lane that has a log
  pub lane-inside : (j : ℕ) (e : ℕ × Did) → slice_get h j ≡ Some e → e.0 < length logs
  lane-inside j e is =
      ⊎_elim (λ lt. lt)
      (λ beyond.
      let empty : numbered e.0 1 h ≡ [] = sym (whole e.0) ∙ ap (own object) (log-past logs e.0 beyond) in
      let found : with_number (1 + j) (numbered e.0 1 h) ≡ if_of e.0 e = with_number-at e.0 1 j h e is in
      let here : if_of e.0 e ≡ Some e.1 = (let same : (e.0 == e.0) ≡ true = eq-eqb e.0 e.0 refl in rw same refl) in
      let none : None ≡ Some e.1 = sym (ap (with_number (1 + j)) empty) ∙ found ∙ here in
      absurd (cc none))
      (below-or e.0 (length logs))
    where
      below-or : (a b : ℕ) → (a < b) ⊎ (b ≤ a)
      below-or a b = grind arith

  pub are-of : AreOf object h 0 logs
  are-of = AreOf-from object h 0 logs (λ i. whole i ∙ ap (λ n. numbered n 1 h) (omega arith))

  pub notes_at-is : notes_at object logs ≡ length h
  notes_at-is =
      notes_at-over object h 0 logs are-of ∙ over-numbered 0 (length logs) 1 h
      (λ j e is. (omega arith, omega (arith, lane-inside j e is)))

  pub history_from-is : (before rest : History) → h ≡ before ++ rest
      → history_from object logs (1 + length before) (length rest) ≡ rest
  history_from-is before [] split = refl
  history_from-is before (e ∷ rest) split =
      let here : slice_get h (length before) ≡ Some e = ap (λ xs. slice_get xs (length before)) split
      ∙ get-after before e rest in
      let found : entry_at object (1 + length before) 0 logs
      ≡ Some e =
      entry_at-is object h 0 (length before) logs e are-of here (omega arith)
      (omega (arith, lane-inside (length before) e here)) in
      let next : h ≡ (before ++ e ∷ []) ++ rest = split ∙ sym (append-assoc before (e ∷ []) rest) in
      let ih : history_from object logs (1 + length (before ++ e ∷ [])) (length rest)
      ≡ rest = history_from-is (before ++ e ∷ []) rest next in
      let count : 1 + length (before ++ e ∷ []) ≡ 1 + length before + 1 =
      omega (arith, length-append before (e ∷ [])) in
      let moved : history_from object logs (1 + length before + 1) (length rest)
      ≡ rest = subst (λ n. history_from object logs n (length rest) ≡ rest) count ih in
      ap (λ o. extended o (history_from object logs (1 + length before + 1) (length rest))) found
      ∙ ap (λ xs. e ∷ xs) moved

  -- the logs give this history and no other
  pub history_of-is : history_of object logs ≡ h
  history_of-is = ap (history_from object logs 1) notes_at-is ∙ history_from-is [] h refl
