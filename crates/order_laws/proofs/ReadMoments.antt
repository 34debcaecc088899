-- What was done to an object before a note is what its history has up to there.
use Rattle.std.proofs.Common.{◌≡◌, ℕ, suc, ◌+◌, ◌-◌, true, List, [], ◌∷◌, ◌++◌, length, map, take, refl, sym, ap, subst, arith, Some, ◌∙◌, length-append}
use Rattle.std.specs.Prelude.{◌==◌, if◌then◌else◌, slice_get}
use Rattle.std.proofs.lemmas.List.{take_at}
use Rattle.pool_law.specs.declared.note.Object.{Object}
use Rattle.pool_law.specs.declared.note.Did.{Did}
use Rattle.pool_law.specs.declared.note.Note.{Note}
use Rattle.pool_law.specs.declared.note.Note.TheVariants.{At, Ref, Busy}
use Rattle.pool_law.specs.declared.note.Did.TheVariants.{Get}
use Rattle.pool_law.specs.declared.run.Run.{Run}
use Rattle.pool_law.specs.Same.{same_object}
use Rattle.pool_law.specs.Logs.{Logs, History, dids, own, numbered, has_history, history_of}
use Rattle.pool_law.specs.Legal.{IsLegal, logs_of, one_if}
use Rattle.pool_law.proofs.SameLemmas.{same_object-is}
use Rattle.pool_law.proofs.HistoryLemmas.{append-assoc, history_of-is}
use Rattle.pool_law.proofs.ListLemmas.{get-behind}
use Rattle.run_laws.specs.Reads.{last_written, earlier_at}
use Rattle.run_laws.proofs.Written.{got-written}
use Rattle.run_order.specs.Order.{Step, notes_by, is_at, made, Fits, InOneOrder}
use Rattle.run_order.proofs.Fronts.{by-test}
use Rattle.run_order.proofs.Positions.{fits-there, made-alike, noted}
use Rattle.order_laws.specs.Moments.{did_at, dids_at, GetsLastWritten}

-- what these steps did to an object, each with its lane
abbrev pub history_in : Object → List Step → History
history_in object [] = []
history_in object (x ∷ xs) = map (λ d. (x.lane, d)) (did_at object x.note) ++ history_in object xs

pub dids-more : (lane : ℕ) (ds : List Did) (h : History) → dids (map (λ d. (lane, d)) ds ++ h) ≡ ds ++ dids h
dids-more lane [] h = refl
dids-more lane (d ∷ ds) h = ap (λ rest. d ∷ rest) (dids-more lane ds h)

pub dids-in : (object : Object) (xs : List Step) → dids (history_in object xs) ≡ dids_at object xs
dids-in object [] = refl
dids-in object (x ∷ xs) =
    dids-more x.lane (did_at object x.note) (history_in object xs)
    ∙ ap (λ rest. did_at object x.note ++ rest) (dids-in object xs)

-- each note at the object has the next number, counted from n
abbrev pub AreNumbered : Object → ℕ → List Step → Type 0
AreNumbered object n xs =
    (p : ℕ) (x : Step) (number : ℕ) (did : Did) → slice_get xs p ≡ Some x → x.note ≡ At object number did →
    number ≡ n + made (is_at object) (take p xs)

-- a note more, of this lane or another, at this object or another
own-step : (object : Object) (lane n l : ℕ) (m : Note) (ns : List Note) (h : History) →
    ((number : ℕ) (did : Did) → m ≡ At object number did → number ≡ n) →
    own object ns ≡ numbered lane (n + one_if (is_at object m)) h →
    own object (if l == lane then m ∷ ns else ns) ≡ numbered lane n (map (λ d. (l, d)) (did_at object m) ++ h)
own-step object lane n l (Ref root did) ns h next rest =
    by-test (λ z. own object (if z then Ref root did ∷ ns else ns) ≡ numbered lane n h) (l == lane)
    (λ _. rest ∙ ap (λ k. numbered lane k h) (omega arith)) (λ _. rest ∙ ap (λ k. numbered lane k h) (omega arith))
own-step object lane n l (Busy held) ns h next rest =
    by-test (λ z. own object (if z then Busy held ∷ ns else ns) ≡ numbered lane n h) (l == lane)
    (λ _. rest ∙ ap (λ k. numbered lane k h) (omega arith)) (λ _. rest ∙ ap (λ k. numbered lane k h) (omega arith))
own-step object lane n l (At other number did) ns h next rest =
    by-test
    (λ t. own object (if t then At other number did ∷ ns else ns)
    ≡ numbered lane n (map (λ d. (l, d)) (did_at object (At other number did)) ++ h))
    (l == lane)
    (λ mine. by-test
    (λ z. own object ns ≡ numbered lane (n + one_if z) h → (if z then (number, did) ∷ [] else []) ++ own object ns
    ≡ numbered lane n (map (λ d. (l, d)) (if z then did ∷ [] else []) ++ h))
    (same_object object other)
    (λ same ih. let number_is : number ≡ n = next number did (ap (λ x. At x number did)
    (sym (same_object-is object other same))) in
    (λ i. (number_is i, did) ∷ ih i)
    ∙ ap (λ t. if t then (n, did) ∷ numbered lane (n + 1) h else numbered lane (n + 1) h) (sym mine))
    (λ _ ih. ih ∙ ap (λ k. numbered lane k h) (omega arith))
    rest)
    (λ strange. by-test
    (λ z. own object ns ≡ numbered lane (n + one_if z) h → own object ns
    ≡ numbered lane n (map (λ d. (l, d)) (if z then did ∷ [] else []) ++ h))
    (same_object object other)
    (λ same ih. ih ∙ ap (λ t. if t then (n, did) ∷ numbered lane (n + 1) h else numbered lane (n + 1) h) (sym strange))
    (λ _ ih. ih ∙ ap (λ k. numbered lane k h) (omega arith))
    rest)

-- what a lane noted at the object is what the history has of it
pub own-in : (object : Object) (lane n : ℕ) (xs : List Step) → AreNumbered object n xs
    → own object (notes_by lane xs) ≡ numbered lane n (history_in object xs)
own-in object lane n [] are = refl
own-in object lane n (x ∷ xs) are =
    own-step object lane n x.lane x.note (notes_by lane xs) (history_in object xs)
    (λ number did is. omega (arith, are 0 x number did refl is))
    (own-in object lane (n + one_if (is_at object x.note)) xs
    (λ p y number did e is. omega (arith, are (suc p) y number did e is)))

pub dids-append : (object : Object) (xs ys : List Step) → dids_at object (xs ++ ys)
    ≡ dids_at object xs ++ dids_at object ys
dids-append object [] ys = refl
dids-append object (x ∷ xs) ys =
    ap (λ rest. did_at object x.note ++ rest) (dids-append object xs ys)
    ∙ sym (append-assoc (did_at object x.note) (dids_at object xs) (dids_at object ys))

pub dids-length : (object : Object) (xs : List Step) → length (dids_at object xs) ≡ made (is_at object) xs
dids-length object [] = refl
dids-length object (x ∷ xs) =
    omega (
      arith,
      length-append (did_at object x.note) (dids_at object xs),
      one object x.note,
      dids-length object xs,
    )
  where
    one : (object : Object) (m : Note) → length (did_at object m) ≡ one_if (is_at object m)
    one object (At other number did) =
        by-test (λ z. length (if z then did ∷ [] else []) ≡ one_if z) (same_object object other) (λ _. refl) (λ _. refl)
    one object (Ref root did) = refl
    one object (Busy held) = refl

module _ (logs : Logs) (o : InOneOrder logs) where
  -- the steps' history of an object is that of the logs
  pub history-in : (object : Object) → has_history object ≡ true → history_of object logs
      ≡ history_in object o.steps
  history-in object has =
      history_of-is object logs (history_in object o.steps)
      (λ lane. ap (own object) (sym (o.whole lane))
      ∙ own-in object lane 1 o.steps
      (λ p x number did e is. omega (
        arith,
        (subst (Fits (take p o.steps)) is (fits-there logs o p x e)).0,
        made-alike object did (take p o.steps) has,
      )))

  -- what an object's history has before a note is what was done to it before
  pub earlier-is : (place number : ℕ) (did : Did) (before after : List Step) (x : Step)
      → o.steps ≡ before ++ x ∷ after → x.note ≡ At (Object.Root place) number did
      → earlier_at logs place number ≡ dids_at (Object.Root place) before
  earlier-is place number did before after x is note =
      let fits : number ≡ made (is_at (Object.Root place)) before + 1 =
      (subst (Fits before) note (o.fits before after x is)).0
      ∙ ap (λ n. n + 1) (made-alike (Object.Root place) did before refl) in
      let size : length (dids_at (Object.Root place) before) ≡ number - 1 =
      omega (arith, fits, dids-length (Object.Root place) before) in
      ap (λ h. take (number - 1) (dids h)) (history-in (Object.Root place) refl)
      ∙ ap (take (number - 1)) (dids-in (Object.Root place) o.steps)
      ∙ ap (λ xs. take (number - 1) (dids_at (Object.Root place) xs)) is
      ∙ ap (take (number - 1)) (dids-append (Object.Root place) before (x ∷ after))
      ∙ take_at (dids_at (Object.Root place) before) (dids_at (Object.Root place) (x ∷ after)) (number - 1) size

module _ (run : Run) (legal : IsLegal run) (o : InOneOrder (logs_of run)) where
  pub gets-last : (before after : List Step) (x : Step) (n : Note) → o.steps ≡ before ++ x ∷ after → x.note ≡ n
      → GetsLastWritten (logs_of run) before n
  gets-last before after x (At (Object.Root place) number (Get offset bytes)) is note =
      let earlier : earlier_at (logs_of run) place number ≡ dids_at (Object.Root place) before =
      earlier-is (logs_of run) o place number (Get offset bytes) before after x is note in
      let at : slice_get o.steps (length before) ≡ Some x =
      ap (λ xs. slice_get xs (length before)) is ∙ get-behind before x after in
      let r = noted (logs_of run) o (length before) x at in (
        earlier,
        λ k low. got-written run.shape (logs_of run) legal.histories place offset bytes (record {
          lane = x.lane;
          at = r.0;
          number = number;
          stands = r.1 ∙ ap Some note;
        }) k low
            ∙ ap (last_written (offset + k) 0) earlier,
      )
  gets-last before after x n is note = tt
