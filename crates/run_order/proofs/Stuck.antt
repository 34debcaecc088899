-- Logs whose notes fit in no order: a search over all orders, which computes.
use Rattle.std.proofs.Common.{◌≡◌, ℕ, zero, suc, ◌+◌, Bool, true, false, List, [], ◌∷◌, ◌++◌, drop, refl, sym, ap, subst, arith, ◌∙◌, eqb-true, eq-eqb, append-nil}
use Rattle.std.specs.Prelude.{◌==◌, if◌then◌else◌}
use Rattle.pool_law.specs.declared.note.Note.{Note}
use Rattle.pool_law.specs.Logs.{Logs, of_lane}
use Rattle.std.specs.List.{list_all, All}
use Rattle.std.proofs.lemmas.List.Elements.{All-cons, All-nil}
use Rattle.pool_law.proofs.SameLemmas.{and-first, and-second}
use Rattle.pool_law.proofs.HistoryLemmas.{append-assoc}
use Rattle.run_order.specs.Order.{Step, notes_by, Fits, InOneOrder}
use Rattle.run_order.proofs.Fronts.{by-test}
use Rattle.run_order.specs.Turns.{without}
use Rattle.run_order.proofs.Tests.{note_fits, Fits-tests}
use Rattle.run_order.proofs.Turns.{is_done, done-all, without-own, without-other}

abbrev pub step : ℕ → Note → Step
step lane note = record { lane = lane; note = note }

-- the first note of a lane does not fit, or the rest is stuck behind it
abbrev pub first_stuck : (List Step → Logs → Bool) → List Step → Logs → ℕ → Note → Bool
first_stuck go before all lane n =
    elim (note_fits before n) [ true ↦ go (before ++ step lane n ∷ []) (without 1 lane all) | false ↦ true ]

-- so it is for each lane
abbrev pub each_stuck : (List Step → Logs → Bool) → List Step → Logs → ℕ → Logs → Bool
each_stuck go before all lane [] = true
each_stuck go before all lane ([] ∷ logs) = each_stuck go before all (lane + 1) logs
each_stuck go before all lane ((n ∷ ns) ∷ logs) =
    elim (first_stuck go before all lane n)
    [ true ↦ each_stuck go before all (lane + 1) logs | false ↦ false ]

-- after these steps no order of what is left fits, as so many steps of a search tell
abbrev pub stuck : ℕ → List Step → Logs → Bool
stuck zero before logs = false
stuck (suc fuel) before logs =
    elim (is_done logs) [ true ↦ false | false ↦ each_stuck (stuck fuel) before logs 0 logs ]

-- the first note of each lane
pub each_stuck-at : (go : List Step → Logs → Bool) (before : List Step) (all : Logs) (k : ℕ) (logs : Logs)
    (i : ℕ) (n : Note) (ns : List Note) → each_stuck go before all k logs ≡ true → of_lane logs i ≡ n ∷ ns
    → note_fits before n ≡ true → go (before ++ step (k + i) n ∷ []) (without 1 (k + i) all) ≡ true
each_stuck-at go before all k [] i n ns e is fits = absurd (let both : [] ≡ n ∷ ns = is in cc both)
each_stuck-at go before all k ([] ∷ logs) zero n ns e is fits =
    absurd (let both : [] ≡ n ∷ ns = is in cc both)
each_stuck-at go before all k ([] ∷ logs) (suc i) n ns e is fits =
    let number : k + 1 + i ≡ k + suc i = omega arith in
    subst (λ l. go (before ++ step l n ∷ []) (without 1 l all) ≡ true) number
    (each_stuck-at go before all (k + 1) logs i n ns e is fits)
each_stuck-at go before all k ((m ∷ ms) ∷ logs) zero n ns e is fits =
    let first : first_stuck go before all k m ≡ true =
    by-test (λ z. (elim z [ true ↦ each_stuck go before all (k + 1) logs | false ↦ false ]) ≡ true → z ≡ true)
    (first_stuck go before all k m) (λ _ _. refl) (λ _ h. h) e in
    let same : m ≡ n = cc is in
    let number : k ≡ k + 0 = omega arith in
    subst (λ l. go (before ++ step l n ∷ []) (without 1 l all) ≡ true) number
    (subst (λ z. (elim z [ true ↦ go (before ++ step k n ∷ []) (without 1 k all) | false ↦ true ]) ≡ true) fits
    (subst (λ z. first_stuck go before all k z ≡ true) same first))
each_stuck-at go before all k ((m ∷ ms) ∷ logs) (suc i) n ns e is fits =
    let rest : each_stuck go before all (k + 1) logs ≡ true =
    by-test
    (λ z. (elim z [ true ↦ each_stuck go before all (k + 1) logs | false ↦ false ]) ≡ true
    → each_stuck go before all (k + 1) logs ≡ true)
    (first_stuck go before all k m) (λ _ h. h) (λ _ h. absurd (let both : false ≡ true = h in cc both)) e in
    let number : k + 1 + i ≡ k + suc i = omega arith in
    subst (λ l. go (before ++ step l n ∷ []) (without 1 l all) ≡ true) number
    (each_stuck-at go before all (k + 1) logs i n ns rest is fits)

-- what is left of the logs behind the first of these steps
left-behind : (x : Step) (rest : List Step) (logs : Logs)
    → ((lane : ℕ) → notes_by lane (x ∷ rest) ≡ of_lane logs lane)
    → (of_lane logs x.lane ≡ x.note ∷ notes_by x.lane rest)
    × ((lane : ℕ) → notes_by lane rest ≡ of_lane (without 1 x.lane logs) lane)
left-behind x rest logs whole = (first, others)
  where
    own : (x.lane == x.lane) ≡ true
    own = eq-eqb x.lane x.lane refl

    first : of_lane logs x.lane ≡ x.note ∷ notes_by x.lane rest
    first =
        sym (whole x.lane)
        ∙ ap (λ z. if z then x.note ∷ notes_by x.lane rest else notes_by x.lane rest) own

    others : (lane : ℕ) → notes_by lane rest ≡ of_lane (without 1 x.lane logs) lane
    others lane =
        by-test
        (λ z. (x.lane == lane) ≡ z → notes_by lane rest ≡ of_lane (without 1 x.lane logs) lane)
        (x.lane == lane)
        (λ _ same. let here : x.lane ≡ lane = eqb-true x.lane lane same in
        subst (λ l. notes_by l rest ≡ of_lane (without 1 x.lane logs) l) here
        (sym (without-own 1 x.lane logs ∙ ap (drop 1) first)))
        (λ _ other. ap (λ z. if z then x.note ∷ notes_by lane rest else notes_by lane rest) (sym other)
        ∙ whole lane
        ∙ sym (without-other 1 x.lane lane logs
        (λ e. let both : true ≡ false = sym (eq-eqb x.lane lane (sym e)) ∙ other in cc both)))
        refl

-- where the search is stuck no steps make these logs
stuck-none : (fuel : ℕ) (before rest : List Step) (logs : Logs) →
    ((lane : ℕ) → notes_by lane rest ≡ of_lane logs lane) →
    ((front back : List Step) (x : Step) → rest ≡ front ++ x ∷ back → Fits (before ++ front) x.note) →
    stuck fuel before logs ≡ true → ⊥
stuck-none zero before rest logs whole fits e = absurd (let both : false ≡ true = e in cc both)
stuck-none (suc fuel) before [] logs whole fits e =
    let none : false ≡ true =
    subst (λ z. (elim z [ true ↦ false | false ↦ each_stuck (stuck fuel) before logs 0 logs ]) ≡ true)
    (done-all logs whole) e in
    cc none
stuck-none (suc fuel) before (x ∷ rest) logs whole fits e =
    let h = left-behind x rest logs whole in
    let each : each_stuck (stuck fuel) before logs 0 logs ≡ true =
    by-test
    (λ z. (elim z [ true ↦ false | false ↦ each_stuck (stuck fuel) before logs 0 logs ]) ≡ true
    → each_stuck (stuck fuel) before logs 0 logs ≡ true)
    (is_done logs) (λ _ d. absurd (let both : false ≡ true = d in cc both)) (λ _ d. d) e in
    let passes : note_fits before x.note ≡ true =
    Fits-tests before x.note (subst (λ xs. Fits xs x.note) (append-nil before) (fits [] rest x refl)) in
    let number : 0 + x.lane ≡ x.lane = omega arith in
    stuck-none fuel (before ++ x ∷ []) rest (without 1 x.lane logs) h.1
    (λ front back y is. subst (λ xs. Fits xs y.note) (sym (append-assoc before (x ∷ []) front))
    (fits (x ∷ front) back y (ap (λ ys. x ∷ ys) is)))
    (subst (λ l. stuck fuel (before ++ step l x.note ∷ []) (without 1 l logs) ≡ true) number
    (each_stuck-at (stuck fuel) before logs 0 logs x.lane x.note (notes_by x.lane rest) each h.0 passes))

pub in-no_order : (fuel : ℕ) (logs : Logs) → stuck fuel [] logs ≡ true → InOneOrder logs → ⊥
in-no_order fuel logs e o = stuck-none fuel [] o.steps logs o.whole o.fits e

-- so it is of each of these logs
pub in-no_orders : (fuel : ℕ) (all : List Logs) → list_all (stuck fuel []) all ≡ true
    → All (λ logs. InOneOrder logs → ⊥) all
in-no_orders fuel [] e = All-nil (λ logs. InOneOrder logs → ⊥)
in-no_orders fuel (logs ∷ all) e =
    All-cons (λ l. InOneOrder l → ⊥) logs all (in-no_order fuel logs (and-first _ _ e))
    (in-no_orders fuel all (and-second _ _ e))
