-- Notes that are played one after another are in one order.
use Rattle.std.proofs.Common.{⊎_elim, inl, ◌≡◌, ◌≢◌, ℕ, zero, suc, ◌+◌, ◌*◌, ◌≤◌, ◌<◌, true, false, List, [], ◌∷◌, ◌++◌, length, length-append, set, take, get_or, Option, Some, None, refl, sym, ap, subst, arith, ◌∙◌, eq-eqb, append-nil}
use Rattle.std.specs.Prelude.{◌==◌, if◌then◌else◌, slice_get}
use Rattle.std.proofs.lemmas.Bool.{cases_eq, ne_eqb}
use Rattle.std.proofs.lemmas.List.{length-set, take_all, take_more, get_or-set_same, get_or-set_other}
use Rattle.std.proofs.lemmas.Option.{slice_get_within, get_or_from_slice_get}
use Rattle.pool_law.specs.declared.note.Note.{Note}
use Rattle.pool_law.specs.Logs.{Logs, of_lane}
use Rattle.pool_law.specs.Lives.{StandsAt}
use Rattle.pool_law.proofs.HistoryLemmas.{append-assoc}
use Rattle.pool_law.proofs.ListLemmas.{get-behind, front-is}
use Rattle.run_order.specs.Order.{Step, notes_by, Fits, InOneOrder}
use Rattle.run_order.proofs.Tests.{note_fits-is, Fits-tests}
use Rattle.run_order.proofs.Turns.{notes-append}
use Rattle.topo_order.proofs.Lists.{pushed}
use Rattle.log_order.specs.Playing.{AllStand, step_by, step_at, steps_at, InOrder, AllFit, ArePlayed, IsSoFar, IsHeld, IsNext, IsOver, left_in}
use Rattle.log_order.specs.Tallying.{Key, AreAtMost, AreCounted, count_in, counted, fits_in}
use Rattle.log_order.specs.declared.playing.Playing.{Playing}
use Rattle.log_order.specs.declared.spots.Spot.{Spot}
use Rattle.log_order.specs.declared.tally.Tally.{Tally}
use Rattle.log_order.proofs.TallyLemmas.{counts, counted-few, counted-more, fits-in}

-- the steps of one place more
pub steps-more : (logs : Logs) (spots : List Spot) (s : Spot)
    → steps_at logs (spots ++ s ∷ []) ≡ steps_at logs spots ++ step_at logs s
steps-more logs [] s = append-nil (step_at logs s)
steps-more logs (t ∷ spots) s =
    ap (λ xs. step_at logs t ++ xs) (steps-more logs spots s)
    ∙ sym (append-assoc (step_at logs t) (steps_at logs spots) (step_at logs s))

-- the step at a place with a note
pub step-is : (logs : Logs) (s : Spot) (n : Note) → slice_get (of_lane logs s.lane) s.at ≡ Some n
    → step_at logs s ≡ record { lane = s.lane; note = n } ∷ []
step-is logs s n e = ap (step_by s.lane) e

-- a front of a list with one item more
front-more : {X : Type 0} (xs : List X) (y : X) (p : ℕ) → p ≤ length xs → take p (xs ++ y ∷ []) ≡ take p xs
front-more [] y zero low = refl
front-more [] y (suc p) low = absurd (omega arith)
front-more (x ∷ xs) y zero low = refl
front-more (x ∷ xs) y (suc p) low = ap (λ zs. x ∷ zs) (front-more xs y p (omega arith))

-- a note at one place more
stands-more : (logs : Logs) (order : List Spot) (s : Spot) (n : Note) → AllStand logs order
    → StandsAt logs s.lane s.at n → AllStand logs (order ++ s ∷ [])
stands-more logs order s n all is k t e =
    ⊎_elim (λ old. all k t old) (λ last. subst (λ z. (m : Note) × StandsAt logs z.lane z.at m) last.1 (n, is))
    (pushed order s k t e)

-- one step more that fits
fit-more : (steps : List Step) (x : Step) → AllFit steps → Fits steps x.note → AllFit (steps ++ x ∷ [])
fit-more steps x fit fits p y e =
    ⊎_elim
    (λ old. subst (λ xs. Fits xs y.note)
    (sym (front-more steps x p (omega (arith, slice_get_within steps p y old)))) (fit p y old))
    (λ here. subst (λ xs. Fits xs y.note)
    (sym (front-more steps x p (omega (arith, here.0))
    ∙ take_all p steps (omega (arith, here.0))))
    (subst (λ z. Fits steps z.note) here.1 fits))
    (pushed steps x p y e)

-- one note more of a lane
next-note : (log : List Note) (k : ℕ) (n : Note) → slice_get log k ≡ Some n
    → take (k + 1) log ≡ take k log ++ n ∷ []
next-note log k n e =
    take_more log k n (slice_get_within log k n e)
    ∙ ap (λ m. take k log ++ m ∷ []) (get_or_from_slice_get log k n n e)

module _ (logs : Logs) (next : List ℕ) (steps : List Step) (s : Spot) (n : Note)
    (p : ArePlayed logs next steps) (is : IsNext logs next s n) where
  pub plays-more : Fits steps n
      → ArePlayed logs (set next s.lane (s.at + 1)) (steps ++ record { lane = s.lane; note = n } ∷ [])
  plays-more fits = record {
    lanes = length-set next s.lane (s.at + 1) ∙ p.lanes;
    whole = λ lane. notes-append lane steps (record { lane = s.lane; note = n } ∷ [])
        ∙ ⊎_elim (own lane) (other lane) (cases_eq lane s.lane);
    within = λ lane. ⊎_elim
        (λ same. subst (λ l. get_or (set next s.lane (s.at + 1)) l 0 ≤ length (of_lane logs l)) (sym same)
        (omega (
          arith,
          get_or-set_same next s.lane (s.at + 1) 0 is.low,
          slice_get_within (of_lane logs s.lane) s.at n is.stands,
        )))
        (λ differs. omega (arith, get_or-set_other next s.lane lane (s.at + 1) 0 differs, p.within lane))
        (cases_eq lane s.lane);
    fit = fit-more steps (record { lane = s.lane; note = n }) p.fit fits;
  }
    where
      own : (lane : ℕ) → lane ≡ s.lane
          → notes_by lane steps ++ (if s.lane == lane then n ∷ [] else [])
          ≡ take (get_or (set next s.lane (s.at + 1)) lane 0) (of_lane logs lane)
      own lane same =
          let test : (s.lane == lane) ≡ true = eq-eqb s.lane lane (sym same) in
          let count : get_or next lane 0 ≡ s.at = ap (λ l. get_or next l 0) same ∙ is.at in
          let more : get_or (set next s.lane (s.at + 1)) lane 0 ≡ s.at + 1 =
          ap (λ l. get_or (set next s.lane (s.at + 1)) l 0) same ∙ get_or-set_same next s.lane (s.at + 1) 0 is.low in
          ap (λ b. notes_by lane steps ++ (if b then n ∷ [] else [])) test
          ∙ ap (λ ns. ns ++ n ∷ []) (p.whole lane ∙ ap (λ k. take k (of_lane logs lane)) count)
          ∙ sym (next-note (of_lane logs lane) s.at n (ap (λ l. slice_get (of_lane logs l) s.at) same ∙ is.stands))
          ∙ ap (λ k. take k (of_lane logs lane)) (sym more)

      other : (lane : ℕ) → lane ≢ s.lane
          → notes_by lane steps ++ (if s.lane == lane then n ∷ [] else [])
          ≡ take (get_or (set next s.lane (s.at + 1)) lane 0) (of_lane logs lane)
      other lane differs =
          let test : (s.lane == lane) ≡ false = ne_eqb s.lane lane (λ e. differs (sym e)) in
          ap (λ b. notes_by lane steps ++ (if b then n ∷ [] else [])) test
          ∙ append-nil (notes_by lane steps)
          ∙ p.whole lane
          ∙ ap (λ k. take k (of_lane logs lane)) (sym (get_or-set_other next s.lane lane (s.at + 1) 0 differs))

-- ---- How many were counted.

step-few : (lane : ℕ) (o : Option Note) → length (step_by lane o) ≤ 1
step-few lane None = omega arith
step-few lane (Some note) = omega arith

steps-few : (logs : Logs) (spots : List Spot) → length (steps_at logs spots) ≤ length spots
steps-few logs [] = omega arith
steps-few logs (s ∷ spots) =
    let here = step-few s.lane (slice_get (of_lane logs s.lane) s.at) in
    let rest = steps-few logs spots in
    let both = length-append (step_at logs s) (steps_at logs spots) in
    omega (arith, here, rest, both)

-- what was counted of so many notes
pub tally-few : (logs : Logs) (play : Playing) (n : ℕ) → IsSoFar logs play → length play.order.items < n
    → AreAtMost (2 * n) play.tally
tally-few logs play n so few key =
    let is = so.counted key in
    let counts = counted-few key (steps_at logs play.order.items) in
    let steps = steps-few logs play.order.items in
    omega (arith, is, counts, steps, few)

-- one note more was played
pub so-far-more : (logs : Logs) (old new : Playing) (s : Spot) (n : Note) → IsSoFar logs old
    → IsNext logs old.next.items s n → fits_in old.tally n ≡ true
    → new.next.items ≡ set old.next.items s.lane (s.at + 1) → new.order.items ≡ old.order.items ++ s ∷ []
    → ((key : Key) → count_in new.tally key ≡ count_in old.tally key + counts key n)
    → IsSoFar logs new
so-far-more logs old new s n so is fits next order more = record {
  stand = subst (AllStand logs) (sym order) (stands-more logs old.order.items s n so.stand is.stands);
  played = subst (ArePlayed logs new.next.items) (sym all)
      (subst (λ z. ArePlayed logs z (steps ++ x ∷ [])) (sym next)
      (plays-more logs old.next.items steps s n so.played is fit));
  counted = λ key. more key ∙ ap (λ k. k + counts key n) (so.counted key)
      ∙ sym (counted-more key steps x) ∙ ap (counted key) (sym all);
}
  where
    steps : List Step
    steps = steps_at logs old.order.items

    x : Step
    x = record { lane = s.lane; note = n }

    fit : Fits steps n
    fit = note_fits-is steps n (sym (fits-in old.tally steps so.counted n) ∙ fits)

    all : steps_at logs new.order.items ≡ steps ++ x ∷ []
    all =
        ap (steps_at logs) order ∙ steps-more logs old.order.items s
        ∙ ap (λ xs. steps ++ xs) (step-is logs s n is.stands)

-- a note that does not fit what was counted does not fit the steps
pub not-fits : (tally : Tally) (steps : List Step) (n : Note) → AreCounted tally steps → fits_in tally n ≡ false
    → Fits steps n → ⊥
not-fits tally steps n counted none fits =
    let both : false ≡ true = sym none ∙ fits-in tally steps counted n ∙ Fits-tests steps n fits in
    cc both

-- a note played leaves one less
pub left-less : (logs : Logs) (next : List ℕ) (lane : ℕ) (n : Note) → length next ≡ length logs
    → slice_get (of_lane logs lane) (get_or next lane 0) ≡ Some n
    → left_in logs (set next lane (get_or next lane 0 + 1)) < left_in logs next
left-less [] next lane n lanes is = absurd (let none : slice_get [] (get_or next lane 0) ≡ Some n = is in cc none)
left-less (log ∷ logs) [] lane n lanes is = absurd (omega (arith, lanes))
left-less (log ∷ logs) (k ∷ next) zero n lanes is = omega (arith, slice_get_within log k n is)
left-less (log ∷ logs) (k ∷ next) (suc lane) n lanes is =
    omega (arith, left-less logs next lane n (omega (arith, lanes)) is)

-- a lane whose next note does not fit cannot go on
pub held-unfit : (logs : Logs) (play : Playing) (s : Spot) (lane : ℕ) (n : Note) → IsSoFar logs play
    → s ≡ record { lane = lane; at = get_or play.next.items lane 0 } → StandsAt logs s.lane s.at n
    → fits_in play.tally n ≡ false → IsHeld logs play lane
held-unfit logs play s lane n so same is none m at =
    let here : StandsAt logs lane (get_or play.next.items lane 0) n =
    subst (λ z. StandsAt logs z.lane z.at n) same is in
    let both : Some n ≡ Some m = sym here ∙ at in
    let one : n ≡ m = cc in
    inl (λ fits. not-fits play.tally (steps_at logs play.order.items) n so.counted none
    (subst (λ z. Fits (steps_at logs play.order.items) z) (sym one) fits))

-- a lane's next note was played
pub lane-moved : (logs : Logs) (old new : Playing) (s : Spot) (lane k : ℕ) (n : Note) → IsSoFar logs old
    → s ≡ record { lane = lane; at = get_or old.next.items lane 0 } → lane < length old.next.items
    → StandsAt logs s.lane s.at n → fits_in old.tally n ≡ true → slice_get old.next.items lane ≡ Some k
    → new.next.items ≡ set old.next.items lane (k + 1) → new.order.items ≡ old.order.items ++ s ∷ []
    → ((key : Key) → count_in new.tally key ≡ count_in old.tally key + counts key n)
    → IsSoFar logs new × (left_in logs new.next.items < left_in logs old.next.items)
lane-moved logs old new s lane k n so same low is fits read next order more = (
  so-far-more logs old new s n so
      (record {
        low = omega (arith, ap (λ (z : Spot). z.lane) same, low);
        at = ap (λ l. get_or old.next.items l 0) own ∙ sym at;
        stands = is;
      })
      fits (next ∙ (λ i. set old.next.items (sym own i) (count i + 1))) order more,
  subst (λ z. left_in logs z < left_in logs old.next.items)
      (sym (next ∙ ap (λ j. set old.next.items lane (j + 1)) (sym got)))
      (left-less logs old.next.items lane n so.played.lanes (subst (λ z. StandsAt logs z.lane z.at n) same is)),
)
  where
    own : s.lane ≡ lane
    own = ap (λ (z : Spot). z.lane) same

    at : s.at ≡ get_or old.next.items lane 0
    at = ap (λ (z : Spot). z.at) same

    got : get_or old.next.items lane 0 ≡ k
    got = get_or_from_slice_get old.next.items lane k 0 read

    count : k ≡ s.at
    count = sym got ∙ sym at

-- behind the last
pub in-order : (logs : Logs) (next : List ℕ) (order : List Spot) → AllStand logs order
    → ArePlayed logs next (steps_at logs order) → IsOver logs next → InOrder logs order
in-order logs next order all p over = record { stand = all; one = o; so = refl }
  where
    o : InOneOrder logs
    o = record {
      steps = steps_at logs order;
      whole = λ lane. p.whole lane ∙ take_all (get_or next lane 0) (of_lane logs lane) (over lane);
      fits = λ before after x e.
          subst (λ xs. Fits xs x.note) (ap (take (length before)) e ∙ front-is before (x ∷ after))
          (p.fit (length before) x (ap (λ xs. slice_get xs (length before)) e ∙ get-behind before x after));
    }
