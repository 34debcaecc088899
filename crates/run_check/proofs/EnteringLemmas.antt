-- What is told of a note in the logs is what its place's history tells.
use Rattle.std.proofs.Common.{◌≡◌, ℕ, zero, suc, ◌+◌, ◌-◌, ◌<◌, ◌≤◌, Bool, true, false, List, [], ◌∷◌, ◌++◌, length, get_or, take, map, Option, Some, None, refl, sym, ap, subst, eqb-true, eq-eqb, arith, ◌∙◌}
use Rattle.std.specs.Prelude.{◌==◌, if◌then◌else◌, is_some, slice_get, unwrap_or, option_and_then, Vec}
use Rattle.std.specs.declared.alloc.Global.{Global}
use Rattle.pool_law.specs.declared.run.LaneLog.{LaneLog}
use Rattle.run_check.specs.ByObject.{notes_in}
use Rattle.pool_law.specs.declared.note.Did.{Did}
use Rattle.pool_law.specs.declared.note.Note.{Note}
use Rattle.pool_law.specs.declared.note.Note.TheVariants.{At}
use Rattle.pool_law.specs.declared.note.Object.TheVariants.{Root}
use Rattle.pool_law.specs.declared.run.Shape.{Shape}
use Rattle.pool_law.specs.Same.{same_object}
use Rattle.pool_law.specs.Roots.{RootPlace, new_place, place_step}
use Rattle.pool_law.specs.Histories.{after, place_after}
use Rattle.pool_law.specs.Logs.{Logs, History, ToldNote, dids, of_lane, own, own_note, numbered, history_of, present_in, entry_of}
use Rattle.pool_law.proofs.HistoryLemmas.{history_of-is}
use Rattle.pool_law.proofs.LogLemmas.{dids-at}
use Rattle.object_steps.specs.declared.told.PlaceTold.{PlaceTold}
use Rattle.run_check.specs.declared.histories.Histories.{Histories}
use Rattle.lane_reader.specs.Reading.{untold, entry, entries_in}
use Rattle.object_steps.specs.Telling.{told_by, told_of_each}
use Rattle.run_check.specs.Storing.{history_in, told_in, AreHistories}
use Rattle.run_check.specs.Entering.{IsNotedIn, IsToldOf, AreTold}
use Rattle.object_steps.proofs.TellingLemmas.{told-at}

-- an item that stands in a list
abbrev pub StandsIn : {X : Type 0} → X → List X → Type 0
StandsIn x xs = (j : ℕ) × (slice_get xs j ≡ Some x)

stands-behind : {X : Type 0} (x : X) (before xs : List X) → StandsIn x xs → StandsIn x (before ++ xs)
stands-behind x [] xs s = s
stands-behind x (b ∷ before) xs s = let t : StandsIn x (before ++ xs) = stands-behind x before xs s in (suc t.0, t.1)

same-self : (place : ℕ) → same_object (Root place) (Root place) ≡ true
same-self place = eq-eqb place place refl

-- a note at a root place stands among those at it
pub own-has : (place number : ℕ) (did : Did) (notes : List Note) (k : ℕ) →
    slice_get notes k ≡ Some (At (Root place) number did) → StandsIn (number, did) (own (Root place) notes)
own-has place number did [] k is = absurd (cc is)
own-has place number did (n ∷ notes) zero is =
    let same : n ≡ At (Root place) number did = cc is in
    let first : own (Root place) (n ∷ notes) ≡ (number, did) ∷ own (Root place) notes =
    ap (λ (x : Note). own_note (Root place) x ++ own (Root place) notes) same
    ∙ ap (λ (b : Bool). (if b then (number, did) ∷ [] else []) ++ own (Root place) notes) (same-self place) in
    subst (λ (xs : List (ℕ × Did)). StandsIn (number, did) xs) (sym first) (0, refl)
own-has place number did (n ∷ notes) (suc k) is =
    stands-behind (number, did) (own_note (Root place) n) (own (Root place) notes) (own-has place number did notes k is)

-- what a history has of a lane stands in it at its number
pub numbered-has : (lane n : ℕ) (h : History) (number : ℕ) (did : Did) (j : ℕ) →
    slice_get (numbered lane n h) j ≡ Some (number, did) →
    (n ≤ number) × (slice_get h (number - n) ≡ Some (lane, did))
numbered-has lane n [] number did j is = absurd (cc is)
numbered-has lane n (e ∷ h) number did j is =
    go (λ i found. numbered-has lane (n + 1) h number did i found) (e.0 == lane) refl j is
  where
    Later : Type 0
    Later = (i : ℕ) → slice_get (numbered lane (n + 1) h) i ≡ Some (number, did) →
        (n + 1 ≤ number) × (slice_get h (number - (n + 1)) ≡ Some (lane, did))

    further : Later → (i : ℕ) → slice_get (numbered lane (n + 1) h) i ≡ Some (number, did) →
        (n ≤ number) × (slice_get (e ∷ h) (number - n) ≡ Some (lane, did))
    further later i found =
        let rest : (n + 1 ≤ number) × (slice_get h (number - (n + 1)) ≡ Some (lane, did)) = later i found in
        let next : number - n ≡ suc (number - (n + 1)) = omega (arith, rest.0) in
        (omega (arith, rest.0), ap (slice_get (e ∷ h)) next ∙ rest.1)

    number_in : Option (ℕ × Did) → ℕ
    number_in None = n
    number_in (Some x) = x.0

    did_in : Option (ℕ × Did) → Did
    did_in None = did
    did_in (Some x) = x.1

    go : Later → (b : Bool) → (e.0 == lane) ≡ b → (i : ℕ) →
        slice_get (if b then (n, e.1) ∷ numbered lane (n + 1) h else numbered lane (n + 1) h) i ≡ Some (number, did) →
        (n ≤ number) × (slice_get (e ∷ h) (number - n) ≡ Some (lane, did))
    go later true same zero found =
        let one : n ≡ number = ap number_in found in
        let what : e.1 ≡ did = ap did_in found in
        let of : e.0 ≡ lane = eqb-true e.0 lane same in
        let none : number - n ≡ 0 = omega (arith, one) in
        let here : Some e ≡ Some (lane, did) = (λ k. Some (of k, what k)) in
        (omega (arith, one), ap (slice_get (e ∷ h)) none ∙ here)
    go later true same (suc i) found = further later i found
    go later false same i found = further later i found

-- the first notes of a history may stand
pub after-front : {S : Type 0} (step : S → Did → Option S) (s : S) (ds : List Did) (k : ℕ) →
    is_some (after step s ds) ≡ true → (t : S) × (after step s (take k ds) ≡ Some t)
after-front step s ds zero e = (s, refl)
after-front step s [] (suc k) e = (s, refl)
after-front {S = S} step s (d ∷ ds) (suc k) e = go (step s d) e (λ t f. after-front step t ds k f)
  where
    go : (o : Option S) → is_some (option_and_then (λ t. after step t ds) o) ≡ true →
        ((t : S) → is_some (after step t ds) ≡ true → (u : S) × (after step t (take k ds) ≡ Some u)) →
        (u : S) × (option_and_then (λ t. after step t (take k ds)) o ≡ Some u)
    go None f rest = absurd (cc f)
    go (Some t) f rest = rest t f

module _ (shape : Shape) (logs : Logs) (m : Histories) (are : AreHistories shape logs m) where
  -- what is told of a note at a root place
  pub told-root : (place number : ℕ) (did : Did) → IsNotedIn logs (At (Root place) number did) → (told : PlaceTold) →
      told ≡ unwrap_or (slice_get (told_in m place) (number - 1)) untold →
      entry (At (Root place) number did) told ≡ entry_of logs (At (Root place) number did)
  told-root place number did noted told is =
      let h : History = history_in m (Root place) in
      let mine : StandsIn (number, did) (own (Root place) (of_lane logs noted.0)) =
      own-has place number did (of_lane logs noted.0) noted.1 noted.2 in
      let same : slice_get (numbered noted.0 1 h) mine.0 ≡ Some (number, did) =
      ap (λ (xs : List (ℕ × Did)). slice_get xs mine.0) (sym (are.whole (Root place) refl noted.0)) ∙ mine.1 in
      let there : (1 ≤ number) × (slice_get h (number - 1) ≡ Some (noted.0, did)) =
      numbered-has noted.0 1 h number did mine.0 same in
      let before : (t : RootPlace) × (after (place_step place) new_place (take (number - 1) (dids h)) ≡ Some t) =
      after-front (place_step place) new_place (dids h) (number - 1) (are.accepted (Root place) refl) in
      let found : slice_get (told_of_each place new_place (dids h)) (number - 1) ≡ Some (told_by did before.0.present) =
      told-at place new_place (dids h) (number - 1) did before.0 (dids-at h (number - 1) noted.0 did there.1)
      before.1 in
      let what : told ≡ told_by did before.0.present =
      is
      ∙ ap (λ (ts : List PlaceTold). unwrap_or (slice_get ts (number - 1)) untold) (are.told place)
      ∙ ap (λ (o : Option PlaceTold). unwrap_or o untold) found in
      let present : before.0.present ≡ present_in
      (place_after place (take (number - 1) (dids (history_of (Root place) logs)))) =
      ap present_in (sym before.1)
      ∙ ap (λ (g : History). present_in (place_after place (take (number - 1) (dids g))))
      (sym (history_of-is (Root place) logs h (are.whole (Root place) refl))) in
      ap (entry (At (Root place) number did)) (what ∙ ap (told_by did) present)

-- the notes of a lane, one further
pub entries-push : (ns : List Note) (ts : List PlaceTold) (n : Note) (t : PlaceTold) → length ts ≡ length ns →
    entries_in (ns ++ n ∷ []) (ts ++ t ∷ []) ≡ entries_in ns ts ++ entry n t ∷ []
entries-push [] [] n t e = refl
entries-push [] (x ∷ ts) n t e = absurd (omega (arith, e))
entries-push (m ∷ ns) [] n t e = absurd (omega (arith, e))
entries-push (m ∷ ns) (x ∷ ts) n t e =
    ap (λ (es : List ToldNote). entry m x ∷ es) (entries-push ns ts n t (omega (arith, e)))

-- ---- What is told of the notes of each lane.

pub told-length : (logs : Logs) (told : List (Vec PlaceTold Global)) (lanes : List LaneLog) → AreTold logs told lanes →
    length told ≡ length lanes
told-length logs [] [] are = refl
told-length logs [] (l ∷ lanes) are = absurd are
told-length logs (t ∷ told) [] are = absurd are
told-length logs (t ∷ told) (l ∷ lanes) are = ap suc (told-length logs told lanes are.1)

pub told-get : (logs : Logs) (told : List (Vec PlaceTold Global)) (lanes : List LaneLog) (k : ℕ) (t : Vec PlaceTold
    Global)
    (l : LaneLog) → AreTold logs told lanes → k < length lanes → t ≡ get_or told k t → l ≡ get_or lanes k l →
    IsToldOf logs t l
told-get logs [] [] k t l are there is at = absurd (omega (arith, there))
told-get logs [] (y ∷ lanes) k t l are there is at = absurd are
told-get logs (x ∷ told) [] k t l are there is at = absurd are
told-get logs (x ∷ told) (y ∷ lanes) zero t l are there is at =
    subst (λ (u : Vec PlaceTold Global). IsToldOf logs u l) (sym is)
    (subst (λ (m : LaneLog). IsToldOf logs x m) (sym at) are.0)
told-get logs (x ∷ told) (y ∷ lanes) (suc k) t l are there is at =
    told-get logs told lanes k t l are.1 (omega (arith, there)) is at

pub entries-get : (logs : Logs) (lanes : List LaneLog) (k : ℕ) (l : LaneLog) → k < length lanes → l ≡ get_or lanes k l →
    of_lane (map (map (entry_of logs)) (notes_in lanes)) k ≡ map (entry_of logs) l.notes
entries-get logs [] k l there at = absurd (omega (arith, there))
entries-get logs (y ∷ lanes) zero l there at = ap (λ (m : LaneLog). map (entry_of logs) m.notes) (sym at)
entries-get logs (y ∷ lanes) (suc k) l there at = entries-get logs lanes k l (omega (arith, there)) at
