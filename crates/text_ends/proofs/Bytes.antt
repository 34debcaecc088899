-- Fronts of lists of bytes.
use Rattle.std.proofs.Common.{◌≡◌, ℕ, ◌+◌, ◌-◌, ◌≤◌, List, [], ◌++◌, length, take, drop, sym, ◌∙◌, arith, length-drop, length-take}
use Rattle.std.proofs.Math.Seq.{take-append_seam, take-append-add}
use Rattle.std.specs.Prelude.{Option, ◌==◌, ◌&&◌, nat_lt, false}
use Rattle.std.specs.Bool.{MatchBool}
use Rattle.std.proofs.lemmas.Bool.Decides.{nat_tests}
use Rattle.text_ends.specs.Ends.{Rose}
use Rattle.std.specs.Io.KnownBytes.{Appends}
use Rattle.std.proofs.KnownBytes.{Appends-trans}
use Rattle.std.proofs.lemmas.List.{drop_all, take_all, take-append-drop}

-- the front of a buffer into which a part was copied
pub front_copied : (part rest : List ℕ) (n : ℕ) → length part ≡ n → take n (part ++ rest) ≡ part
front_copied part rest n e =
    let front : take (length part) (part ++ rest) ≡ part = take-append_seam part rest in
    rw e at front

pub nothing_left : (xs : List ℕ) (at : ℕ) → length xs ≤ at → drop at xs ≡ []
nothing_left xs at h = drop_all at xs h

-- the rest of a text from a place on, as a slice of it
pub rest_is : (text : List ℕ) (at : ℕ) → take (length text - at) (drop at text) ≡ drop at text
rest_is text at = take_all (length text - at) (drop at text) (omega (arith, length-drop at text))

pub front_more : (text : List ℕ) (at n : ℕ) → at ≤ length text
    → take at text ++ take n (take (length text - at) (drop at text)) ≡ take (at + n) text
front_more text at n h =
    let whole : take at text ++ drop at text ≡ text = take-append-drop at text in
    let long : length (take at text) ≡ at = omega (arith, length-take at text) in
    let joined : take (length (take at text) + n) (take at text ++ drop at text)
    ≡ take at text ++ take n (drop at text) = take-append-add (take at text) (drop at text) n in
    rw (rest_is text at) (sym (rw (whole, long) at joined))

-- more of a text was appended
pub Appends_more : (a b c : Option (List ℕ)) (text : List ℕ) (at n : ℕ) → at ≤ length text
    → Appends a b (take at text) → Appends b c (take n (take (length text - at) (drop at text)))
    → Appends a c (take (at + n) text)
Appends_more a b c text at n h before more = rw (front_more text at n h) at (Appends-trans a b c _ _ before more)

-- where something was taken, the count of empty takes is as before
pub takes_some : (before now n : ℕ) (piece : List ℕ) → (n ≡ 0 → ⊥)
    → MatchBool (n == 0 && nat_lt 0 (length piece)) (Rose before now) (now ≡ before) → now ≡ before
takes_some before now n piece some counted =
    let test : (n == 0) ≡ false = grind (arith, nat_tests) in
    rw test at counted
