-- The values of slots that are laid out come out again, from the last on.
use Rattle.std.proofs.Common.{◌≡◌, ℕ, zero, suc, ◌+◌, ◌-◌, ◌<◌, List, [], ◌∷◌, ◌++◌, length, take, refl, sym, ap, ◌∙◌, arith, length-append, get_or}
use Rattle.std.specs.Prelude.{Option, Some, None, filter_map, replicate, reverse, unwrap_or}
use Rattle.std.proofs.lemmas.List.{length-replicate, reverse-append, append_assoc, length_push}
use Rattle.std.proofs.Math.Seq.{take-append_seam}
use Rattle.pool_law.specs.declared.run.Shape.{Shape}
use Rattle.pool_table.specs.Slots.{gap_of, laid_out}
use Rattle.pool_table.proofs.Slots.{laid_push, gathered_all}

-- a list that isn't empty has a last element
pub last_of : {A : Type 0} (xs : List A) (n : ℕ) → length xs ≡ suc n
    → (ys : List A) × (y : A) × (xs ≡ ys ++ y ∷ []) × (length ys ≡ n)
last_of [] n e = absurd (omega (arith, e))
last_of (x ∷ []) n e = ([], x, refl, omega (arith, e))
last_of (x ∷ y ∷ ys) n e = let r = last_of (y ∷ ys) (length ys) refl in let long = r.3 in
    (x ∷ r.0, r.1, ap (λ l. x ∷ l) r.2, omega (arith, e, long))

abbrev without_first : {A : Type 0} → List A → List A
without_first [] = []
without_first (x ∷ xs) = xs

-- it is one element alone, with one list before it
pub last_once : {A : Type 0} (xs ys : List A) (x y : A) → xs ++ x ∷ [] ≡ ys ++ y ∷ [] → (xs ≡ ys) × (x ≡ y)
last_once [] [] x y e = (refl, ap (λ l. get_or l 0 x) e)
last_once [] (z ∷ ys) x y e =
    let long = length_push ys y in let same = ap length e in absurd (omega (arith, long, same))
last_once (z ∷ xs) [] x y e =
    let long = length_push xs x in let same = ap length e in absurd (omega (arith, long, same))
last_once (z ∷ xs) (w ∷ ys) x y e =
    let more = last_once xs ys x y (ap without_first e) in let first : z ≡ w = ap (λ l. get_or l 0 z) e in
    (λ i. first i ∷ more.0 i, more.1)

-- what stands before so many elements that are alike
pub before_gap : {A : Type 0} (all xs : List A) (n : ℕ) (a : A) → all ≡ xs ++ replicate n a
    → take (length all - n) all ≡ xs
before_gap all xs n a is =
    let whole = xs ++ replicate n a in
    let long : length whole ≡ length xs + n = length-append xs (replicate n a)
    ∙ ap (λ k. length xs + k) (length-replicate n a) in
    let front : length whole - n ≡ length xs = omega (arith, long) in
    ap (λ l. take (length l - n) l) is ∙ (ap (λ k. take k whole) front ∙ take-append_seam xs (replicate n a))

-- one of them less
pub gap_less : {A : Type 0} (slots xs rest : List A) (n : ℕ) (a x : A) → slots ≡ xs ++ replicate (suc n) a
    → slots ≡ rest ++ x ∷ [] → (rest ≡ xs ++ replicate n a) × (x ≡ a)
gap_less slots xs rest n a x is last =
    last_once rest (xs ++ replicate n a) x a
    (sym last ∙ (is ∙ (ap (λ l. xs ++ l) (sym (more_of n a)) ∙ sym (append_assoc xs (replicate n a) (a ∷ [])))))
  where
    more_of : {A : Type 0} (n : ℕ) (a : A) → replicate n a ++ a ∷ [] ≡ replicate (suc n) a
    more_of zero a = refl
    more_of (suc n) a = ap (λ l. a ∷ l) (more_of n a)

-- there is one where there are some
pub gap_there : {A : Type 0} (slots xs : List A) (n : ℕ) (a : A) → slots ≡ xs ++ replicate (suc n) a → 0 < length slots
gap_there slots xs n a is =
    let same = ap length is in let long = length-append xs (replicate (suc n) a) in
    let some = length-replicate (suc n) a in omega (arith, same, long, some)

pub some_once : {A : Type 0} (x y : A) → Some x ≡ Some y → x ≡ y
some_once x y e = ap (λ o. unwrap_or o x) e

module _ {H : Type 0} (s : Shape) where
  abbrev values : List (Option H) → List H
  values slots = filter_map (λ (x : Option H). x) slots

  -- the last value in its slot, and the gap behind it
  pub last_slot : (slots : List (Option H)) (m gap : ℕ) → slots ≡ laid_out s 0 (values slots)
      → length (values slots) ≡ m → 0 < m → gap ≡ gap_of s (m - 1)
      → (ys : List H) × (y : H) × (slots ≡ (laid_out s 0 ys ++ Some y ∷ []) ++ replicate gap None)
      × (values slots ≡ ys ++ y ∷ []) × (length ys ≡ m - 1)
      × (take (length slots - gap) slots ≡ laid_out s 0 ys ++ Some y ∷ [])
  last_slot slots m gap laid many some wide =
      let r = last_of (values slots) (m - 1) (omega (arith, many, some)) in
      let ys : List H = r.0 in let y : H = r.1 in let long = r.3 in
      let front : List (Option H) = laid_out s 0 ys ++ Some y ∷ [] in
      let e : gap_of s (0 + length ys) ≡ gap = ap (gap_of s) (omega (arith, long)) ∙ sym wide in
      let is : slots ≡ front ++ replicate gap None = laid
      ∙ (ap (laid_out s 0) r.2
      ∙ (laid_push s 0 ys y ∙ (ap (λ k. laid_out s 0 ys ++ (Some y ∷ replicate k None)) e
      ∙ sym (append_assoc (laid_out s 0 ys) (Some y ∷ []) (replicate gap None))))) in
      (ys, y, is, r.2, long, before_gap slots front gap None is)

  -- the value goes to the end of the values that are out, which lie backwards
  pub goes_over : (slots rest : List (Option H)) (out all ys : List H) (y h : H) → values slots ≡ ys ++ y ∷ []
      → rest ≡ laid_out s 0 ys → y ≡ h → values slots ++ reverse out ≡ all
      → values rest ++ reverse (out ++ h ∷ []) ≡ all
  goes_over slots rest out all ys y h is left same before =
      ap (λ l. l ++ reverse (out ++ h ∷ [])) (ap values left ∙ gathered_all s 0 ys)
      ∙ (ap (λ l. ys ++ l) (reverse-append out (h ∷ []))
      ∙ (sym (append_assoc ys (h ∷ []) (reverse out))
      ∙ (ap (λ l. l ++ reverse out) (ap (λ x. ys ++ x ∷ []) (sym same) ∙ sym is) ∙ before)))

  -- what is left lies as it did, with one value less
  pub still_laid : (rest : List (Option H)) (ys : List H) (n : ℕ) → rest ≡ laid_out s 0 ys → length ys ≡ n
      → (rest ≡ laid_out s 0 (values rest)) × (length (values rest) ≡ n)
  still_laid rest ys n left long =
      let same : values rest ≡ ys = ap values left ∙ gathered_all s 0 ys in
      (left ∙ ap (laid_out s 0) (sym same), ap length same ∙ long)

  pub none_left : (slots : List (Option H)) → slots ≡ laid_out s 0 (values slots) → length (values slots) ≡ 0
      → slots ≡ []
  none_left slots laid none = laid ∙ nothing (values slots) none
    where
      nothing : (xs : List H) → length xs ≡ 0 → laid_out s 0 xs ≡ []
      nothing [] e = refl
      nothing (x ∷ xs) e = absurd (omega (arith, e))
