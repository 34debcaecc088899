-- What is asked of a list from a state on, one item at a time, and the first place where it isn't so.
use Rattle.std.proofs.Common.{◌≡◌, ℕ, suc, ◌+◌, ◌<◌, List, [], ◌∷◌, ◌++◌, length, map, take, drop, append_assoc, add-one, length-drop, sym, ap, subst, arith, ◌∙◌, append-nil}
use Rattle.std.proofs.lemmas.List.{take_all, take-append-drop, take-map, length-map}
use Rattle.pool_law.specs.Logs.{of_lane}
use Rattle.lane_reader.proofs.ReadingLemmas.{take-next}
use Rattle.run_check.specs.declared.breach.NoteSpot.{NoteSpot}
use Rattle.run_check.specs.Placing.{BreaksAt, BreaksFirst}

next-inside : {X : Type 0} (xs : List X) (i : ℕ) (x : X) (ys : List X) → drop i xs ≡ x ∷ ys → i < length xs
next-inside xs i x ys e =
    let left : length (drop i xs) ≡ suc (length ys) = ap length e in omega (arith, length-drop i xs, left)

-- what is asked of a list behind these items is asked of it from this state on
pub record Reached {S X : Type 0} (Holds : S → List X → Type 0) (start now : S) (before : List X) : Type 0 where
  pub on : (ys : List X) → Holds start (before ++ ys) → Holds now ys
  pub back : (ys : List X) → Holds now ys → Holds start (before ++ ys)

module _ {S X : Type 0} (Asks : S → X → Type 0) (next : S → X → S) (Holds : S → List X → Type 0)
    (none : (s : S) → Holds s [])
    (front : (s : S) (x : X) (xs : List X) → Holds s (x ∷ xs) → Asks s x × Holds (next s x) xs)
    (back : (s : S) (x : X) (xs : List X) → Asks s x → Holds (next s x) xs → Holds s (x ∷ xs))
    (start : S) (xs : List X) where
  pub reached-none : (now : S) → now ≡ start → Reached Holds start now []
  reached-none now e = record {
    on = λ ys h. subst (λ (s : S). Holds s ys) (sym e) h;
    back = λ ys h. subst (λ (s : S). Holds s ys) e h;
  }

  module _ (at : ℕ) (now : S) (x : X) (ys : List X) (so : Reached Holds start now (take at xs))
      (here : drop at xs ≡ x ∷ ys) where
    pub reached-more : (new : S) → new ≡ next now x → Asks now x → Reached Holds start new (take (at + 1) xs)
    reached-more new step asks = record {
      on = λ zs h.
          subst (λ (s : S). Holds s zs) (sym step)
          (front now x zs (so.on (x ∷ zs) (subst (λ (ws : List X). Holds start ws) (longer zs) h))).1;
      back = λ zs h.
          subst (λ (ws : List X). Holds start ws) (sym (longer zs))
          (so.back (x ∷ zs) (back now x zs asks (subst (λ (s : S). Holds s zs) step h)));
    }
      where
        longer : (zs : List X) → take (at + 1) xs ++ zs ≡ take at xs ++ x ∷ zs
        longer zs =
            ap (λ (n : ℕ). take n xs ++ zs) (add-one at)
            ∙ ap (λ (ws : List X). ws ++ zs) (take-next xs at x ys here)
            ∙ append_assoc (take at xs) (x ∷ []) zs

    -- the first place where it isn't so
    pub breaks-here : (Asks now x → ⊥) → BreaksAt (Holds start) xs at
    breaks-here never = record {
      law = λ h.
          never (front now x ys (so.on (x ∷ ys) (subst (λ (ws : List X). Holds start ws) whole h))).0;
      inside = next-inside xs at x ys here;
      before = subst (λ (ws : List X). Holds start ws) (append-nil (take at xs)) (so.back [] (none now));
      with_it = λ h.
          never (front now x [] (so.on (x ∷ [])
          (subst (λ (ws : List X). Holds start ws) (take-next xs at x ys here) h))).0;
    }
      where
        whole : xs ≡ take at xs ++ x ∷ ys
        whole = sym (take-append-drop at xs) ∙ ap (λ (ws : List X). take at xs ++ ws) here

  pub holds-whole : (at : ℕ) (now : S) → Reached Holds start now (take at xs) → drop at xs ≡ [] → Holds start xs
  holds-whole at now so past =
      subst (λ (ws : List X). Holds start ws)
      (ap (λ (ws : List X). take at xs ++ ws) (sym past) ∙ take-append-drop at xs) (so.back [] (none now))

-- ---- A law by what the program keeps, and by what the logs have.

-- a law that another is the same as of each front is broken where the other is
pub breaks-same : {X : Type 0} (P Q : List X → Type 0) (xs : List X) (at : ℕ) →
    ((n : ℕ) → P (take n xs) → Q (take n xs)) → ((n : ℕ) → Q (take n xs) → P (take n xs)) →
    BreaksAt P xs at → BreaksAt Q xs at
breaks-same {X = X} P Q xs at on back b =
    let all : take (length xs) xs ≡ xs = take_all (length xs) xs (omega arith) in
    record {
      law = λ q.
          b.law (subst (λ (ws : List X). P ws) all (back (length xs) (subst (λ (ws : List X). Q ws) (sym all) q)));
      inside = b.inside;
      before = on at b.before;
      with_it = λ q. b.with_it (back (suc at) q);
    }

-- the same, where the other speaks of what each item becomes
pub breaks-map : {X Y : Type 0} (g : X → Y) (P : List X → Type 0) (Q : List Y → Type 0) (xs : List X) (at : ℕ) →
    ((ws : List X) → P ws → Q (map g ws)) → ((ws : List X) → Q (map g ws) → P ws) →
    BreaksAt P xs at → BreaksAt Q (map g xs) at
breaks-map {X = X} {Y = Y} g P Q xs at on back b = record {
  law = λ q. b.law (back xs q);
  inside = subst (λ (n : ℕ). at < n) (sym (length-map xs g)) b.inside;
  before = subst (λ (ws : List Y). Q ws) (sym (take-map g at xs)) (on (take at xs) b.before);
  with_it = λ q.
      b.with_it (back (take (suc at) xs) (subst (λ (ws : List Y). Q ws) (take-map g (suc at) xs) q));
}

pub first-same : {X : Type 0} (P Q : ℕ → List X → Type 0) (logs : List (List X)) (spot : NoteSpot) →
    ((k n : ℕ) → P k (take n (of_lane logs k)) → Q k (take n (of_lane logs k))) →
    ((k n : ℕ) → Q k (take n (of_lane logs k)) → P k (take n (of_lane logs k))) →
    BreaksFirst P logs spot → BreaksFirst Q logs spot
first-same {X = X} P Q logs spot on back b = record {
  earlier = λ k below.
      let log = of_lane logs k in
      let all : take (length log) log ≡ log = take_all (length log) log (omega arith) in
      subst (λ (ws : List X). Q k ws) all
      (on k (length log) (subst (λ (ws : List X). P k ws) (sym all) (b.earlier k below)));
  here =
      breaks-same (P spot.lane) (Q spot.lane) (of_lane logs spot.lane) spot.at (on spot.lane) (back spot.lane) b.here;
}

-- the first lane that breaks a law breaks it first where its log does
pub found-first : {X : Type 0} (Keeps : ℕ → List X → Type 0) (logs : List (List X)) (lane at : ℕ) (xs : List X)
    (spot : NoteSpot) → spot ≡ record { lane = lane; at = at } → of_lane logs lane ≡ xs →
    ((k : ℕ) → k < lane → Keeps k (of_lane logs k)) → BreaksAt (Keeps lane) xs at → BreaksFirst Keeps logs spot
found-first {X = X} Keeps logs lane at xs spot is log earlier here =
    subst (λ (s : NoteSpot). BreaksFirst Keeps logs s) (sym is)
    (record {
      earlier = earlier;
      here = subst (λ (ws : List X). BreaksAt (Keeps lane) ws at) (sym log) here;
    })
