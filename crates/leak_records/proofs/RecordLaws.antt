-- A tracker keeps the last four accesses to its root, and counts the others.
use Rattle.std.proofs.Common.{◌≡◌, ℕ, ◌+◌, ◌-◌, ◌≤◌, List, [], ◌∷◌, ◌++◌, length, drop, refl, sym, ap, subst, arith, Bool, true, false, ◌∙◌, length-append}
use Rattle.std.specs.Prelude.{if◌then◌else◌, Option}
use Rattle.std.proofs.lemmas.List.{length-drop, drop-drop, drop-append-le}
use Rattle.pool_law.specs.declared.report.Access.{Access}
use Rattle.pool_law.specs.declared.report.Watch.{Watch}
use Rattle.pool_law.specs.Leaks.{kept_of, dropped_of}
use Rattle.leak_records.specs.Records.{Tracked, new_tracker, is_keeping, with_last, with_access, HasRecords}

-- keeping the last of what was kept is keeping the last of all
kept-more : (all : List Access) (a : Access) → kept_of (kept_of all ++ a ∷ []) ≡ kept_of (all ++ a ∷ [])
kept-more all a =
    let k : ℕ = length all - 4 in
    let kept_size : length (drop k all) ≡ length all - k = length-drop k all in
    let long : length (drop k all ++ a ∷ []) ≡ length (drop k all) + 1 = length-append (drop k all) (a ∷ []) in
    let longer : length (all ++ a ∷ []) ≡ length all + 1 = length-append all (a ∷ []) in
    let m : ℕ = length (drop k all ++ a ∷ []) - 4 in
    let moved : drop k (all ++ a ∷ []) ≡ drop k all ++ a ∷ [] = drop-append-le k all (a ∷ []) (omega arith) in
    let sizes : k + m ≡ length (all ++ a ∷ []) - 4 = omega (arith, kept_size, long, longer) in
    ap (drop m) (sym moved) ∙ drop-drop m k (all ++ a ∷ []) ∙ ap (λ j. drop j (all ++ a ∷ [])) sizes

-- what is dropped now is dropped besides
dropped-more : (all : List Access) (a : Access) →
    dropped_of all + dropped_of (kept_of all ++ a ∷ []) ≡ dropped_of (all ++ a ∷ [])
dropped-more all a =
    let k : ℕ = length all - 4 in
    let kept_size : length (drop k all) ≡ length all - k = length-drop k all in
    omega (arith, kept_size, length-append (drop k all) (a ∷ []), length-append all (a ∷ []))

-- what holds of both sides holds of either
either_way : (P : Bool → Type 0) (b : Bool) → P true → P false → P b
either_way P true t f = t
either_way P false t f = f

-- a tracker that begins has the records of no accesses
pub records_new : (watch : Option Watch) → HasRecords [] (new_tracker watch)
records_new watch =
    record {
      kept = either_way (λ b. [] ≡ (if b then kept_of [] else [])) (is_keeping watch) refl refl;
      dropped = either_way (λ b. 0 ≡ (if b then dropped_of [] else 0)) (is_keeping watch) refl refl;
    }

-- no more are dropped than there were
pub dropped-most : (all : List Access) (t : Tracked) → HasRecords all t → t.dropped ≤ length all
dropped-most all t has =
    let most : (if is_keeping t.watch then dropped_of all else 0) ≤ length all =
    either_way (λ b. (if b then dropped_of all else 0) ≤ length all) (is_keeping t.watch) (omega arith) (omega arith) in
    omega (arith, has.dropped, most)

-- after one more access it has the records of them all
pub records_more : (all : List Access) (t : Tracked) (a : Access) →
    HasRecords all t → HasRecords (all ++ a ∷ []) (with_access t a)
records_more all t a has = go (is_keeping t.watch) refl
  where
    longer : List Access
    longer = all ++ a ∷ []

    grown : Tracked
    grown = with_last t (t.kept ++ a ∷ [])

    go : (b : Bool) → is_keeping t.watch ≡ b → HasRecords longer (with_access t a)
    go true is =
        let kept : t.kept ≡ kept_of all = has.kept ∙ ap (λ b. if b then kept_of all else []) is in
        let dropped : t.dropped ≡ dropped_of all = has.dropped ∙ ap (λ b. if b then dropped_of all else 0) is in
        let becomes : with_access t a ≡ grown = ap (λ b. if b then grown else t) is in
        subst (HasRecords longer) (sym becomes)
        (record {
          kept =
              ap (λ ks. kept_of (ks ++ a ∷ [])) kept
              ∙ kept-more all a
              ∙ sym (ap (λ b. if b then kept_of longer else []) is);
          dropped =
              ap (λ n. n + dropped_of (t.kept ++ a ∷ [])) dropped
              ∙ ap (λ ks. dropped_of all + dropped_of (ks ++ a ∷ [])) kept
              ∙ dropped-more all a
              ∙ sym (ap (λ b. if b then dropped_of longer else 0) is);
        })
    go false is =
        let becomes : with_access t a ≡ t = ap (λ b. if b then grown else t) is in
        subst (HasRecords longer) (sym becomes)
        (record {
          kept =
              has.kept
              ∙ ap (λ b. if b then kept_of all else []) is
              ∙ sym (ap (λ b. if b then kept_of longer else []) is);
          dropped =
              has.dropped
              ∙ ap (λ b. if b then dropped_of all else 0) is
              ∙ sym (ap (λ b. if b then dropped_of longer else 0) is);
        })
