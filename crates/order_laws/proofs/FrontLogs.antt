-- The logs of the lanes after a front of the steps, and sums over them.
use Rattle.std.proofs.Common.{⊎_elim, ◌≡◌, ℕ, suc, ◌+◌, ◌≤◌, Bool, true, false, List, [], ◌∷◌, ◌++◌, length, map, refl, sym, ap, subst, arith, Some, ◌∙◌, eqb-true, eq-eqb, ne_eqb}
use Rattle.std.specs.Prelude.{◌<◌, ◌==◌, if◌then◌else◌, slice_get, unwrap_or}
use Rattle.std.proofs.lemmas.Bool.{cases_lt}
use Rattle.std.specs.List.{list_all}
use Rattle.std.proofs.lemmas.List.Folds.{list_all-append}
use Rattle.std.proofs.lemmas.List.{length-map}
use Rattle.size_classes.specs.Sizes.{below}
use Rattle.pool_law.specs.declared.note.Object.{Object}
use Rattle.pool_law.specs.declared.note.Object.TheVariants.{Mail}
use Rattle.pool_law.specs.declared.note.Did.TheVariants.{Post}
use Rattle.pool_law.specs.declared.note.Note.{Note}
use Rattle.pool_law.specs.declared.note.Note.TheVariants.{At}
use Rattle.pool_law.specs.declared.run.Shape.{Shape}
use Rattle.pool_law.specs.Logs.{Logs, of_lane, note_stands}
use Rattle.pool_law.specs.Mails.{MailHolds, MailsHold}
use Rattle.pool_law.specs.Legal.{HistoriesHold}
use Rattle.pool_law.proofs.SameLemmas.{and-first}
use Rattle.pool_law.proofs.HistoryLemmas.{over_lanes, over-same, over-add, log-past}
use Rattle.pool_law.proofs.NumberLemmas.{length-below, get-below}
use Rattle.pool_law.proofs.ListLemmas.{get-front, get-map}
use Rattle.run_laws.specs.Parcels.{sum_up, PostsWithin}
use Rattle.run_laws.proofs.Sums.{sum_by, sum_over}
use Rattle.run_laws.proofs.Totals.{pick, over_lanes-none}
use Rattle.run_laws.proofs.LogEntries.{lane-there}
use Rattle.run_laws.proofs.MailParcels.{one, sum_up-over}
use Rattle.run_order.specs.Order.{Step, notes_by, made, InOneOrder}
use Rattle.run_order.proofs.Fronts.{by-test}
use Rattle.run_order.proofs.Positions.{noted}
use Rattle.order_laws.specs.Shares.{front}
use Rattle.order_laws.proofs.MailMoments.{log-is, mails-in_front}

-- ---- The numbers below another.

-- ---- Sums over the logs of a front.

-- a sum over lists by numbers
sum-numbers : {X : Type 0} (f : X → ℕ) (g : ℕ → List X) (ks : List ℕ) → sum_over f (map g ks)
    ≡ sum_up ks (λ k. sum_by f (g k))
sum-numbers f g [] = refl
sum-numbers f g (k ∷ ks) = omega (arith, sum-numbers f g ks)

-- a step more counts in its lane
sum-step : (f : Note → ℕ) (lane : ℕ) (x : Step) (xs : List Step) → sum_by f (notes_by lane (x ∷ xs))
    ≡ (if lane == x.lane then f x.note else 0) + sum_by f (notes_by lane xs)
sum-step f lane x xs =
    by-test
    (λ z. (x.lane == lane) ≡ z → sum_by f (if z then x.note ∷ notes_by lane xs else notes_by lane xs)
    ≡ (if lane == x.lane then f x.note else 0) + sum_by f (notes_by lane xs))
    (x.lane == lane)
    (λ _ same. ap (λ z. (if z then f x.note else 0) + sum_by f (notes_by lane xs))
    (sym (eq-eqb lane x.lane (sym (eqb-true x.lane lane same)))))
    (λ _ other. omega (
      arith,
      ap (λ z. if z then f x.note else 0) (ne_eqb lane x.lane
          (λ e. let both : true ≡ false = sym (eq-eqb x.lane lane (sym e)) ∙ other in cc both)),
    ))
    refl

-- all steps are made by so many lanes
abbrev pub MadeBelow : ℕ → List Step → Type 0
MadeBelow n xs = (p : ℕ) (x : Step) → slice_get xs p ≡ Some x → x.lane < n

-- what was made is the sum over the lanes
made-over : (test : Note → Bool) (n : ℕ) (xs : List Step) → MadeBelow n xs
    → over_lanes 0 n (λ lane. sum_by (λ y. one (test y)) (notes_by lane xs)) ≡ made test xs
made-over test n [] few = over_lanes-none 0 n
made-over test n (x ∷ xs) few =
    let f : Note → ℕ = (λ y. one (test y)) in
    omega (
      arith,
      over-same 0 n (λ lane. sum_by f (notes_by lane (x ∷ xs)))
          (λ lane. (if lane == x.lane then f x.note else 0) + sum_by f (notes_by lane xs))
          (λ lane. sum-step f lane x xs),
      over-add 0 n (λ lane. if lane == x.lane then f x.note else 0) (λ lane. sum_by f (notes_by lane xs)),
      pick (λ _. f x.note) 0 n x.lane (omega arith) (omega (arith, few 0 x refl)),
      made-over test n xs (λ p y e. few (suc p) y e),
    )

-- so it is the sum over their logs
pub made-front : (test : Note → Bool) (n : ℕ) (xs : List Step) → MadeBelow n xs
    → sum_over (λ y. one (test y)) (front n xs) ≡ made test xs
made-front test n xs few =
    sum-numbers (λ y. one (test y)) (λ lane. notes_by lane xs) (below n)
    ∙ sum_up-over n (λ lane. sum_by (λ y. one (test y)) (notes_by lane xs))
    ∙ made-over test n xs few

-- ---- What the logs of a front keep of whole logs.

module _ (shape : Shape) (logs : Logs) (holds : HistoriesHold shape logs) (o : InOneOrder logs) (n : ℕ)
    (few : length logs ≤ n) (before after : List Step) (is : o.steps ≡ before ++ after) where
  -- each step is of a lane that has a log
  pub lanes-below : MadeBelow n before
  lanes-below p x e =
      let r = noted logs o p x (ap (λ xs. slice_get xs p) is ∙ get-front before after p x e) in
      omega (arith, few, lane-there logs x.lane r.0 x.note r.1)

  -- there are as many logs as lanes
  pub front-length : length (front n before) ≡ n
  front-length = length-map (below n) (λ lane. notes_by lane before) ∙ length-below n

  split : (lane : ℕ) → of_lane logs lane ≡ notes_by lane before ++ notes_by lane after
  split = log-is shape logs holds o before after is

  -- the log of each lane is its notes of the front
  pub front-lane : (lane : ℕ) → of_lane (front n before) lane ≡ notes_by lane before
  front-lane lane =
      ⊎_elim
      (λ low. ap (λ found. unwrap_or found [])
      (get-map (λ l. notes_by l before) (below n) lane lane (get-below n lane low)))
      (λ high. log-past (front n before) lane (omega (arith, front-length, high))
      ∙ sym (no-front (notes_by lane before) (notes_by lane after)
      (sym (split lane) ∙ log-past logs lane (omega (arith, few, high)))))
      (cases_lt lane n)
    where
      no-front : (xs ys : List Note) → xs ++ ys ≡ [] → xs ≡ []
      no-front [] ys e = refl
      no-front (x ∷ xs) ys e = absurd (cc e)

  -- each note may stand in its log
  pub front-stands : (lane : ℕ) → list_all (note_stands shape lane) (of_lane (front n before) lane) ≡ true
  front-stands lane =
      ap (list_all (note_stands shape lane)) (front-lane lane)
      ∙ and-first (list_all (note_stands shape lane) (notes_by lane before))
      (list_all (note_stands shape lane) (notes_by lane after))
      (sym (list_all-append (note_stands shape lane) (notes_by lane before) (notes_by lane after))
      ∙ ap (list_all (note_stands shape lane)) (sym (split lane))
      ∙ holds.stand lane)

  -- each mail holds between the logs of its lanes
  pub front-mails : MailsHold (front n before)
  front-mails sender receiver =
      subst (λ (z : List Note × List Note). MailHolds (Mail sender receiver) z.0 z.1)
      (λ i. (sym (front-lane sender) i, sym (front-lane receiver) i))
      (mails-in_front shape logs holds o before after is sender receiver)

  -- what is posted in the front is posted in the whole logs
  pub front-within : PostsWithin logs n → PostsWithin (front n before) n
  front-within within from to parcel d =
      within from to parcel (record {
        lane = d.lane;
        at = d.at;
        number = d.number;
        stands = ap (λ ns. slice_get ns d.at) (split d.lane)
            ∙ get-front (notes_by d.lane before) (notes_by d.lane after) d.at
            (At (Object.Mail from to) d.number (Post parcel))
            (ap (λ ns. slice_get ns d.at) (sym (front-lane d.lane)) ∙ d.stands);
      })
