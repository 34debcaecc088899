-- The logs of one lane: their history at an object is what the lane noted there, and their one order is its own.
use Rattle.std.proofs.Common.{◌≡◌, ◌≢◌, ℕ, zero, suc, ◌+◌, Bool, false, List, [], ◌∷◌, ◌++◌, map, refl, sym, ap, ◌∙◌, subst, ⊎_elim, arith, eq-eqb, ne_eqb}
use Rattle.std.specs.Prelude.{◌==◌, if◌then◌else◌}
use Rattle.std.proofs.lemmas.Bool.{cases_eq}
use Rattle.pool_law.specs.declared.id.RootId.{RootId}
use Rattle.pool_law.specs.declared.note.Did.{Did}
use Rattle.pool_law.specs.declared.note.Note.{Note}
use Rattle.pool_law.specs.declared.note.Note.TheVariants.{Ref}
use Rattle.pool_law.specs.declared.note.Object.{Object}
use Rattle.pool_law.specs.declared.note.RefDid.{RefDid}
use Rattle.pool_law.specs.declared.note.RefDid.TheVariants as steps
use Rattle.pool_law.specs.declared.run.Shape.{Shape}
use Rattle.pool_law.specs.Counts.{is_born, is_retain, is_release}
use Rattle.pool_law.specs.Histories.{place_after}
use Rattle.pool_law.specs.Legal.{HistoriesHold}
use Rattle.pool_law.specs.Logs.{History, dids, own, of_lane, numbered, history_of}
use Rattle.pool_table.specs.declared.views.Part.{Part}
use Rattle.run_order.specs.Order.{Step, notes_by, made, Fits, FitsCount, InOneOrder}
use Rattle.seat_work.specs.Growth.{how_many}
use Rattle.shared_pool.specs.Closing.{AreWhole, note_of}
use Rattle.nest_run.specs.Standing.{dids_of, Leave, FitsRelease, IsWhole}
use Rattle.history_laws.proofs.Runs.{there}

other_lane : (log : List Note) (lane : ℕ) → lane ≢ 0 → of_lane (log ∷ []) lane ≡ []
other_lane log zero other = absurd (other refl)
other_lane log (suc lane) other = refl

-- ---- The history at an object.

-- notes of which only lane 0 has any are the lane's
all_own : (n : ℕ) (h : History) → ((lane : ℕ) → lane ≢ 0 → numbered lane n h ≡ [])
    → map (λ (e : ℕ × Did). e.1) (numbered 0 n h) ≡ dids h
all_own n [] none = refl
all_own n (e ∷ h) none =
    ⊎_elim
    (λ (own : e.0 ≡ 0).
    let here : numbered 0 n (e ∷ h) ≡ (n, e.1) ∷ numbered 0 (n + 1) h =
    ap (λ (b : Bool). if b then (n, e.1) ∷ numbered 0 (n + 1) h else numbered 0 (n + 1) h) (eq-eqb e.0 0 own) in
    let rest : map (λ (x : ℕ × Did). x.1) (numbered 0 (n + 1) h) ≡ dids h = all_own (n + 1) h (λ lane other.
    let not : (e.0 == lane) ≡ false = ne_eqb e.0 lane (λ same. other (sym same ∙ own)) in
    sym (ap (λ (b : Bool). if b then (n, e.1) ∷ numbered lane (n + 1) h else numbered lane (n + 1) h) not)
    ∙ none lane other) in
    ap (map (λ (x : ℕ × Did). x.1)) here ∙ ap (λ (ds : List Did). e.1 ∷ ds) rest)
    (λ (other : e.0 ≢ 0).
    let here : numbered e.0 n (e ∷ h) ≡ (n, e.1) ∷ numbered e.0 (n + 1) h =
    ap (λ (b : Bool). if b then (n, e.1) ∷ numbered e.0 (n + 1) h else numbered e.0 (n + 1) h)
    (eq-eqb e.0 e.0 refl) in
    let empty : numbered e.0 n (e ∷ h) ≡ [] = none e.0 other in
    absurd (cc))
    (cases_eq e.0 0)

history_is : (shape : Shape) (log : List Note) → HistoriesHold shape (log ∷ [])
    → dids (history_of (Object.Root 0) (log ∷ [])) ≡ dids_of log
history_is shape log holds =
    let h : History = history_of (Object.Root 0) (log ∷ []) in
    let whole = holds.whole (Object.Root 0) refl in
    sym (all_own 1 h (λ lane other. sym (whole lane) ∙ ap (own (Object.Root 0)) (other_lane log lane other)))
    ∙ ap (map (λ (e : ℕ × Did). e.1)) (sym (whole 0))

-- ---- The order.

abbrev notes : List Step → List Note
notes xs = map (λ (x : Step). x.note) xs

alone : (xs : List Step) → ((lane : ℕ) → lane ≢ 0 → notes_by lane xs ≡ []) → notes_by 0 xs ≡ notes xs
alone [] none = refl
alone (x ∷ xs) none =
    ⊎_elim
    (λ (own : x.lane ≡ 0).
    let here : notes_by 0 (x ∷ xs) ≡ x.note ∷ notes_by 0 xs =
    ap (λ (b : Bool). if b then x.note ∷ notes_by 0 xs else notes_by 0 xs) (eq-eqb x.lane 0 own) in
    let rest : notes_by 0 xs ≡ notes xs = alone xs (λ lane other.
    let not : (x.lane == lane) ≡ false = ne_eqb x.lane lane (λ same. other (sym same ∙ own)) in
    sym (ap (λ (b : Bool). if b then x.note ∷ notes_by lane xs else notes_by lane xs) not) ∙ none lane other) in
    here ∙ ap (λ (ns : List Note). x.note ∷ ns) rest)
    (λ (other : x.lane ≢ 0).
    let here : notes_by x.lane (x ∷ xs) ≡ x.note ∷ notes_by x.lane xs =
    ap (λ (b : Bool). if b then x.note ∷ notes_by x.lane xs else notes_by x.lane xs) (eq-eqb x.lane x.lane refl) in
    let empty : notes_by x.lane (x ∷ xs) ≡ [] = none x.lane other in
    absurd (cc))
    (cases_eq x.lane 0)

-- the steps up to that of a note
record Split (xs : List Step) (before : List Note) (n : Note) : Type 0 where
  front : List Step
  back : List Step
  step : Step
  is : xs ≡ front ++ step ∷ back
  front_is : notes front ≡ before
  note_is : step.note ≡ n

split : (xs : List Step) (before after : List Note) (n : Note) → notes xs ≡ before ++ n ∷ after → Split xs before n
split [] [] after n e = absurd (cc e)
split [] (b ∷ before) after n e = absurd (cc e)
split (x ∷ xs) [] after n e =
    record { front = []; back = xs; step = x; is = refl; front_is = refl; note_is = (cc e) }
split (x ∷ xs) (b ∷ before) after n e =
    let first : x.note ≡ b = (cc e) in let rest : notes xs ≡ before ++ n ∷ after = (cc e) in
    let s = split xs before after n rest in
    record {
      front = x ∷ s.front;
      back = s.back;
      step = s.step;
      is = ap (λ (ys : List Step). x ∷ ys) s.is;
      front_is = (λ i. first i ∷ s.front_is i);
      note_is = s.note_is;
    }

made_is : (test : Note → Bool) (xs : List Step) → made test xs ≡ how_many test (notes xs)
made_is test [] = refl
made_is test (x ∷ xs) = ap (λ (k : ℕ). (if test x.note then 1 else 0) + k) (made_is test xs)

left_is : (xs : List Step) (before : List Note) (root : RootId) (n : ℕ) → notes xs ≡ before
    → made (is_born root) xs + made (is_retain root) xs ≡ made (is_release root) xs + n → Leave before root n
left_is xs before root n same left =
    subst (λ (ns : List Note). Leave ns root n) same
    (let b = made_is (is_born root) xs in let r = made_is (is_retain root) xs in let l = made_is (is_release root) xs in
    omega (arith, b, r, l, left))

release_fits : (xs : List Step) (before : List Note) (root : RootId) (did : RefDid) → notes xs ≡ before
    → FitsCount xs root did → FitsRelease before root did
release_fits xs before root steps.Born same fits = tt
release_fits xs before root steps.Retain same fits = tt
release_fits xs before root steps.Kept same (n, more, left) = (n, more, left_is xs before root n same left)
release_fits xs before root steps.Ended same fits = left_is xs before root 1 same fits
release_fits xs before root steps.Vacated same fits = tt
release_fits xs before root (steps.Look found) same fits = tt

releases_fit : (log : List Note) → InOneOrder (log ∷ []) → (before after : List Note) (root : RootId) (did : RefDid)
    → log ≡ before ++ Ref root did ∷ after → FitsRelease before root did
releases_fit log order before after root did e =
    let all : notes order.steps ≡ log =
    sym (alone order.steps (λ lane other. order.whole lane ∙ other_lane log lane other)) ∙ order.whole 0 in
    let s = split order.steps before after (Ref root did) (all ∙ e) in
    release_fits s.front before root did s.front_is
    (subst (Fits s.front) s.note_is (order.fits s.front s.back s.step s.is))

-- ---- The close.

pub closed_whole : (shape : Shape) (part : Part) → AreWhole shape (part ∷ []) → IsWhole (map note_of part.notes)
closed_whole shape part whole =
    let log : List Note = map note_of part.notes in
    let place = there (place_after 0 (dids (history_of (Object.Root 0) (log ∷ []))))
    (whole.histories.accepted (Object.Root 0) refl) in
    record {
      state = place.0;
      place = ap (place_after 0) (sym (history_is shape log whole.histories)) ∙ place.1;
      releases = releases_fit log whole.one_order;
    }
