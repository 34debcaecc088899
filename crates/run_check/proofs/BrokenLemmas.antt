-- The first number at which an object doesn't hold.
use Rattle.std.proofs.Common.{◌≡◌, ℕ, zero, suc, ◌+◌, ◌<◌, ◌≤◌, true, false, List, [], ◌∷◌, length, take, Option, Some, None, ⊎_elim, refl, sym, ap, subst, arith, ◌∙◌}
use Rattle.std.specs.Prelude.{is_some, option_and_then}
use Rattle.std.proofs.lemmas.List.{length-map, length-take-le, take-map, take-take, take_all}
use Rattle.std.proofs.lemmas.List.Elements.{All-weaker}
use Rattle.std.proofs.lemmas.Bool.{cases_lt}
use Rattle.pool_law.specs.declared.note.Did.{Did}
use Rattle.pool_law.specs.declared.note.Object.{Object}
use Rattle.pool_law.specs.declared.note.Object.TheVariants.{Arena, Cache, Bin, Mail, Root}
use Rattle.pool_law.specs.declared.run.Shape.{Shape}
use Rattle.pool_law.specs.Logs.{Logs, History, dids, of_lane, own, has_history, history_of}
use Rattle.pool_law.specs.Histories.{after, accepts}
use Rattle.run_check.specs.Fronts.{IsFront, HistoryHoldsTo, HoldsTo, IsBrokenAt, StopsAt, AcceptsSoMany}
use Rattle.run_check.specs.Storing.{ObjectHolds}
use Rattle.run_check.proofs.FrontLemmas.{front-of, fronts-agree}

-- a front of notes that are accepted is accepted
after-front : {S : Type 0} (step : S → Did → Option S) (s : S) (ds : List Did) (n : ℕ) →
    is_some (after step s ds) ≡ true → is_some (after step s (take n ds)) ≡ true
after-front {S = S} step s ds zero good = refl
after-front {S = S} step s [] (suc n) good = refl
after-front {S = S} step s (d ∷ ds) (suc n) good = go (step s d) (λ t. after-front step t ds n) good
  where
    go : (o : Option S) →
        ((t : S) → is_some (after step t ds) ≡ true → is_some (after step t (take n ds)) ≡ true) →
        is_some (option_and_then (λ t. after step t ds) o) ≡ true →
        is_some (option_and_then (λ t. after step t (take n ds)) o) ≡ true
    go None rest good = absurd (cc good)
    go (Some t) rest good = rest t good

pub accepts-front : (shape : Shape) (object : Object) (ds : List Did) (n : ℕ) → accepts shape object ds ≡ true →
    accepts shape object (take n ds) ≡ true
accepts-front shape (Arena number) ds n good = after-front _ _ ds n good
accepts-front shape (Cache lane class) ds n good = after-front _ _ ds n good
accepts-front shape (Bin lane) ds n good = after-front _ _ ds n good
accepts-front shape (Mail sender receiver) ds n good = absurd (cc good)
accepts-front shape (Root place) ds n good = after-front _ _ ds n good

-- notes that are refused are accepted up to one of them
pub accepts-less : (shape : Shape) (object : Object) (ds : List Did) (n : ℕ) → AcceptsSoMany shape object ds n →
    accepts shape object ds ≡ false → n < length ds
accepts-less shape object ds n so_many refused =
    ⊎_elim
    (λ inside. inside)
    (λ past.
    let both : true ≡ false =
    sym so_many.accepted ∙ ap (accepts shape object) (take_all n ds past) ∙ refused in
    absurd (cc both))
    (cases_lt n (length ds))

-- an object with a history holds up to a number as its history does
holds-to : (shape : Shape) (logs : Logs) (object : Object) (n : ℕ) → has_history object ≡ true →
    HistoryHoldsTo shape logs object n → HoldsTo shape logs object n
holds-to shape logs (Arena number) n has holds = holds
holds-to shape logs (Cache lane class) n has holds = holds
holds-to shape logs (Bin lane) n has holds = holds
holds-to shape logs (Mail sender receiver) n has holds = absurd (cc has)
holds-to shape logs (Root place) n has holds = holds

from-holds-to : (shape : Shape) (logs : Logs) (object : Object) (n : ℕ) → has_history object ≡ true →
    HoldsTo shape logs object n → HistoryHoldsTo shape logs object n
from-holds-to shape logs (Arena number) n has holds = holds
from-holds-to shape logs (Cache lane class) n has holds = holds
from-holds-to shape logs (Bin lane) n has holds = holds
from-holds-to shape logs (Mail sender receiver) n has holds = absurd (cc has)
from-holds-to shape logs (Root place) n has holds = holds

module _ (shape : Shape) (logs : Logs) (object : Object) (has : has_history object ≡ true) where
  abbrev notes : ℕ → List (ℕ × Did)
  notes lane = own object (of_lane logs lane)

  -- the object holds up to the end of a front that it accepts
  held : (f : History) (n : ℕ) → length f ≡ n → IsFront notes f → accepts shape object (dids f) ≡ true →
      HoldsTo shape logs object n
  held f n long front accepted =
      holds-to shape logs object n has
      (record { history = f; long = long; front = front; accepted = accepted })

  -- it refuses a note of its history, and no note before that one
  pub refused-at : (h : History) (n : ℕ) → (ObjectHolds shape logs object → ⊥) → IsFront notes h →
      AcceptsSoMany shape object (dids h) n → n < length (dids h) → IsBrokenAt shape logs object (n + 1)
  refused-at h n law front so_many inside =
      let within : n < length h = omega (arith, inside, length-map h (λ e. e.1)) in
      record {
        law = law;
        before = λ m below.
            held (take m h) m (length-take-le m h (omega (arith, below, within)))
            (front-of notes front.later h front.first m (omega (arith, below, within))
            (λ lane.
            All-weaker (λ (x : ℕ × Did). length h < x.0) (λ (x : ℕ × Did). m < x.0)
            (λ x lt. omega (arith, lt, below, within)) (front.later lane) (front.behind lane)))
            (ap (accepts shape object)
            (sym (take-map (λ e. e.1) m h) ∙ sym (take-take m n (dids h) (omega (arith, below))))
            ∙ accepts-front shape object (take n (dids h)) m so_many.accepted);
        with_it = λ holds.
            let to : HistoryHoldsTo shape logs object (n + 1) = from-holds-to shape logs object (n + 1) has holds in
            let same : to.history ≡ take (n + 1) h =
            fronts-agree notes to.history h to.front front (omega (arith, to.long, within))
            ∙ ap (λ (m : ℕ). take m h) to.long in
            let both : true ≡ false =
            sym to.accepted
            ∙ ap (λ (f : History). accepts shape object (dids f)) same
            ∙ ap (accepts shape object) (sym (take-map (λ e. e.1) (n + 1) h))
            ∙ so_many.refused inside in
            cc both;
      }

  not-whole : (h : History) (number : ℕ) → StopsAt notes h number → ObjectHolds shape logs object → ⊥
  not-whole h number stops holds = stops.law (history_of object logs) (λ lane. holds.whole has lane)

  -- its notes are no history from a number on, and those before are accepted
  stopped-at : (h : History) (number : ℕ) → StopsAt notes h number → accepts shape object (dids h) ≡ true →
      IsBrokenAt shape logs object number
  stopped-at h number stops accepted = record {
    law = not-whole h number stops;
    before = λ m below.
        held (take m h) m (length-take-le m h (omega (arith, below, stops.long))) (stops.before m below)
        (ap (accepts shape object) (sym (take-map (λ e. e.1) m h)) ∙ accepts-front shape object (dids h) m accepted);
    with_it = λ holds.
        let to : HistoryHoldsTo shape logs object number = from-holds-to shape logs object number has holds in
        stops.with_it to.history to.long to.front;
  }

  -- the notes before the number at which they stop are a front
  stop-front : (h : History) (number : ℕ) → StopsAt notes h number → 1 ≤ length h → IsFront notes h
  stop-front h number stops some =
      subst (λ (f : History). IsFront notes f) (take_all (length h) h (omega arith))
      (stops.before (length h) (omega (arith, some, stops.long)))

  -- what is accepted of notes that stop somewhere tells the number
  pub stop-refused : (h : History) (number n : ℕ) (ds : List Did) → ds ≡ dids h → StopsAt notes h number →
      AcceptsSoMany shape object ds n → n < length ds → IsBrokenAt shape logs object (n + 1)
  stop-refused h number n ds are stops so_many inside =
      let here : n < length (dids h) = subst (λ (xs : List Did). n < length xs) are inside in
      refused-at h n (not-whole h number stops)
      (stop-front h number stops (omega (arith, here, length-map h (λ e. e.1))))
      (subst (λ (xs : List Did). AcceptsSoMany shape object xs n) are so_many) here

  pub stop-accepted : (h : History) (number n : ℕ) (ds : List Did) → ds ≡ dids h → StopsAt notes h number →
      AcceptsSoMany shape object ds n → length ds ≤ n → IsBrokenAt shape logs object number
  stop-accepted h number n ds are stops so_many past =
      stopped-at h number stops
      (ap (accepts shape object) (sym are)
      ∙ ap (accepts shape object) (sym (take_all n ds past))
      ∙ so_many.accepted)
