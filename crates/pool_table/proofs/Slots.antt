-- Each object has a slot of its own among the table's slots. All that proofs need of where slots lie.
use Rattle.std.proofs.Common.{◌≡◌, ◌≢◌, ℕ, zero, suc, ◌+◌, ◌-◌, ◌*◌, ◌<◌, ◌≤◌, List, [], ◌∷◌, ◌++◌, length, Bool, true, false, cond, nat_lt, refl, sym, ap, ◌∙◌, subst, arith, lt_of_not-le, lt-ltb, le-ltb, append-nil, length-append}
use Rattle.std.specs.Prelude.{Option, Some, None, filter_map, replicate, slice_get, reverse}
use Rattle.std.proofs.lemmas.List.{length-replicate, replicate_more, reverse-append, append_assoc}
use mathlib.Core.Logic.{dite}
use mathlib.Core.Option.{some}
use native.Mathlib.Decide.{dec_le}
use lib.ListN.{get_elem?}
use Rattle.atomic_table.proofs.Lists.{at_longer}
use Rattle.pool_law.specs.declared.run.Shape.{Shape}
use Rattle.pool_law.specs.declared.note.Object.{Object}
use Rattle.pool_law.specs.declared.note.Object.TheVariants.{Arena, Cache, Bin, Mail, Root}
use Rattle.pool_law.specs.Homes.{home_of, objects_of, IsObjectOf}
use Rattle.history_laws.proofs.Apart.{home_within}
use Rattle.pool_table.specs.Words.{single_of}
use Rattle.pool_table.specs.Slots.{slot_at, slots_of, slot_of, gap_of, laid_out, IsEmptyBetween}

-- where code lays them
pub slot_single : (s : Shape) (i : ℕ) → i < single_of s → slot_at s i ≡ i * 8
unfolding slot_at
slot_single s i lt =
    let a : ℕ = single_of s in let t : nat_lt i a ≡ true = lt-ltb i a lt in
    ap (λ (b : Bool). cond b (i * 8) (a * 7 + i)) t

pub slot_packed : (s : Shape) (i : ℕ) → single_of s ≤ i → slot_at s i ≡ single_of s * 7 + i
unfolding slot_at
slot_packed s i le =
    let a : ℕ = single_of s in let t : nat_lt i a ≡ false = le-ltb i a le in
    ap (λ (b : Bool). cond b (i * 8) (a * 7 + i)) t

-- all objects but root places come first
pub single_home : (s : Shape) (o : Object) → IsObjectOf s o → ((p : ℕ) → o ≡ Root p → ⊥) → home_of s o < single_of s
single_home s (Arena a) f no_root =
    let g : a < s.arenas + s.lanes * 41 = omega (arith, f) in g
single_home s (Cache lane class) f no_root =
    let p = f.0 in let q = f.1 in let g : s.arenas + lane * 40 + class < s.arenas + s.lanes * 41 =
    omega (arith, p, q) in
    g
single_home s (Bin lane) f no_root =
    let g : s.arenas + s.lanes * 40 + lane < s.arenas + s.lanes * 41 = omega (arith, f) in g
single_home s (Mail f t) h no_root = absurd h
single_home s (Root p) f no_root = absurd (no_root p refl)

pub first_slot : (s : Shape) → slot_at s 0 ≡ 0
first_slot s = let a : ℕ = single_of s in let n : ℕ = slot_at s 0 in
    dite (dec_le a 0)
    (λ le. let e : n ≡ a * 7 + 0 = slot_packed s 0 le in let g : n ≡ 0 = omega (arith, e, le) in g)
    (λ gt. let e : n ≡ 0 * 8 = slot_single s 0 (lt_of_not-le gt) in let g : n ≡ 0 = omega (arith, e) in g)

-- a later slot lies further on
pub slots_rise : (s : Shape) (i j : ℕ) → i < j → slot_at s i < slot_at s j
slots_rise s i j lt = let a : ℕ = single_of s in let m : ℕ = slot_at s i in let n : ℕ = slot_at s j in
    dite (dec_le a i)
    (λ le. let ei : m ≡ a * 7 + i = slot_packed s i le in let ej : n
    ≡ a * 7 + j = slot_packed s j (omega (arith, le, lt)) in let g : m < n = omega (arith, ei, ej, lt) in g)
    (λ gt. let li : i < a = lt_of_not-le gt in let ei : m ≡ i * 8 = slot_single s i li in
    dite (dec_le a j)
    (λ lj. let ej : n ≡ a * 7 + j = slot_packed s j lj in let g : m < n = omega (arith, ei, ej, li, lj) in g)
    (λ gj. let ej : n ≡ j * 8 = slot_single s j (lt_of_not-le gj) in let g : m < n = omega (arith, ei, ej, lt) in g))

pub slots_rise_on : (s : Shape) (i j : ℕ) → i ≤ j → slot_at s i ≤ slot_at s j
slots_rise_on s i j le = let m : ℕ = slot_at s i in let n : ℕ = slot_at s j in
    dite (dec_le j i)
    (λ ge. let same : i ≡ j = omega (arith, le, ge) in let e : m
    ≡ n = ap (slot_at s) same in let g : m ≤ n = omega (arith, e) in g)
    (λ gt. let h : m < n = slots_rise s i j (lt_of_not-le gt) in let g : m ≤ n = omega (arith, h) in g)

pub slot_once : (s : Shape) (i j : ℕ) → slot_at s i ≡ slot_at s j → i ≡ j
slot_once s i j e = let m : ℕ = slot_at s i in let n : ℕ = slot_at s j in let e' : m ≡ n = e in
    dite (dec_le i j)
    (λ le. dite (dec_le j i) (λ ge. omega (arith, le, ge))
    (λ gt. let h : m < n = slots_rise s i j (lt_of_not-le gt) in absurd (omega (arith, h, e'))))
    (λ gt. let h : n < m = slots_rise s j i (lt_of_not-le gt) in absurd (omega (arith, h, e')))

pub slot_within : (s : Shape) (o : Object) → IsObjectOf s o → slot_of s o < slots_of s
slot_within s o fits = slots_rise s (home_of s o) (objects_of s) (home_within s o fits)

pub slot_apart : (s : Shape) (o p : Object) → home_of s o ≢ home_of s p → slot_of s o ≢ slot_of s p
slot_apart s o p ne e = ne (slot_once s (home_of s o) (home_of s p) e)

-- what lies between two neighbours is no object's
pub slot_between : (s : Shape) (i j k : ℕ) → slot_at s i < k → k < slot_at s (i + 1) → k ≢ slot_at s j
slot_between s i j k low high e = let a : ℕ = slot_at s i in let b : ℕ = slot_at s (i + 1) in let c : ℕ = slot_at s j in
    let low' : a < k = low in let high' : k < b = high in let e' : k ≡ c = e in
    dite (dec_le j i)
    (λ le. let h : c ≤ a = slots_rise_on s j i le in omega (arith, low', e', h))
    (λ gt. let lt : i < j = lt_of_not-le gt in let h : b ≤ c = slots_rise_on s (i + 1) j (omega (arith, lt)) in
    omega (arith, high', e', h))

-- the slots from one number to the next: its own, and the gap
pub slot_next : (s : Shape) (i : ℕ) → slot_at s (i + 1) ≡ slot_at s i + 1 + gap_of s i
slot_next s i =
    let a : ℕ = slot_at s i in let b : ℕ = slot_at s (i + 1) in let h : a < b = slots_rise s i (i + 1) (omega arith) in
    let g : b ≡ a + 1 + (b - a - 1) = omega (arith, h) in
    g

-- how many slots are empty between one and the next
pub gap_single : (s : Shape) (i : ℕ) → i < single_of s → gap_of s i ≡ 7
gap_single s i lt =
    let a : ℕ = single_of s in let m : ℕ = slot_at s i in let n : ℕ = slot_at s (i + 1) in let em : m
    ≡ i * 8 = slot_single s i lt in
    dite (dec_le a (i + 1))
    (λ le. let en : n ≡ a * 7 + (i + 1) = slot_packed s (i + 1) le in let g : n - m - 1
    ≡ 7 = omega (arith, em, en, le, lt) in g)
    (λ gt. let en : n ≡ (i + 1) * 8 = slot_single s (i + 1) (lt_of_not-le gt) in let g : n - m - 1
    ≡ 7 = omega (arith, em, en) in g)

pub gap_packed : (s : Shape) (i : ℕ) → single_of s ≤ i → gap_of s i ≡ 0
gap_packed s i le =
    let a : ℕ = single_of s in let m : ℕ = slot_at s i in let n : ℕ = slot_at s (i + 1) in let em : m
    ≡ a * 7 + i = slot_packed s i le in
    let en : n ≡ a * 7 + (i + 1) = slot_packed s (i + 1) (omega (arith, le)) in let g : n - m - 1
    ≡ 0 = omega (arith, em, en) in
    g

-- behind the first part of a list
skip : {A : Type 0} (xs ys : List A) (k : ℕ) → get_elem? (xs ++ ys) (length xs + k) ≡ get_elem? ys k
skip [] ys k = let e : 0 + k ≡ k = omega arith in ap (get_elem? ys) e
skip (x ∷ xs) ys k =
    let n : ℕ = length xs in let e : suc n + k ≡ suc (n + k) = omega arith in
    ap (get_elem? (x ∷ (xs ++ ys))) e ∙ skip xs ys k

in_gap : {H : Type 0} (n k : ℕ) → k < n → get_elem? (replicate {A = Option H} n None) k ≡ some None
in_gap zero k lt = absurd (omega (arith, lt))
in_gap (suc n) zero lt = refl
in_gap (suc n) (suc k) lt = in_gap n k (omega (arith, lt))

skips : {H : Type 0} (n : ℕ) (ys : List (Option H))
    → filter_map (λ (x : Option H). x) (replicate n None ++ ys) ≡ filter_map (λ (x : Option H). x) ys
skips zero ys = refl
skips (suc n) ys = skips n ys

reverse-replicate : {A : Type 0} (n : ℕ) (a : A) → reverse (replicate n a) ≡ replicate n a
reverse-replicate zero a = refl
reverse-replicate (suc n) a = let e : n + 1 ≡ suc n = omega arith in
    reverse-append (a ∷ []) (replicate n a)
    ∙ (ap (λ l. l ++ a ∷ []) (reverse-replicate n a) ∙ (replicate_more n a ∙ ap (λ m. replicate m a) e))

-- where a place of the whole lies behind the first value and its gap
behind : (s : Shape) (i k : ℕ) → slot_at s (i + 1) ≤ slot_at s i + k
    → (n : ℕ) × (k ≡ suc (gap_of s i + n)) × (slot_at s (i + 1) + n ≡ slot_at s i + k)
behind s i k le =
    let g : ℕ = gap_of s i in let a : ℕ = slot_at s i in let b : ℕ = slot_at s (i + 1) in let next : b
    ≡ a + 1 + g = slot_next s i in let le' : b ≤ a + k = le in
    (k - 1 - g, omega (arith, next, le'), omega (arith, next, le'))

from_zero : (i : ℕ) → 0 + i ≡ i
from_zero i = omega arith

behind_first : (s : Shape) (k : ℕ) → slot_at s 0 + k ≡ k
behind_first s k = ap (λ (n : ℕ). n + k) (first_slot s) ∙ from_zero k

module _ {H : Type 0} (s : Shape) where
  laid_length : (i : ℕ) (xs : List H) → slot_at s i + length (laid_out s i xs) ≡ slot_at s (i + length xs)
  laid_length i [] =
      let a : ℕ = slot_at s i in let e : i ≡ i + 0 = omega arith in let z : a + 0 ≡ a = omega arith in
      z ∙ ap (slot_at s) e
  laid_length i (x ∷ xs) =
      let g : ℕ = gap_of s i in let rest : List (Option H) = laid_out s (i + 1) xs in let n : ℕ = length rest in
      let m : ℕ = length (replicate {A = Option H} g None ++ rest) in
      let long : m ≡ g + n = length-append (replicate {A = Option H} g None) rest
      ∙ ap (λ k. k + n) (length-replicate g None) in
      let a : ℕ = slot_at s i in let b : ℕ = slot_at s (i + 1) in let next : b ≡ a + 1 + g = slot_next s i in
      let e : i + 1 + length xs ≡ i + suc (length xs) = omega arith in
      let more : b + n ≡ slot_at s (i + suc (length xs)) = laid_length (i + 1) xs ∙ ap (slot_at s) e in
      let c : ℕ = slot_at s (i + suc (length xs)) in let more' : b + n ≡ c = more in let out : a + suc m
      ≡ c = omega (arith, long, next, more') in
      out

  pub laid_many : (xs : List H) → length xs ≡ objects_of s → length (laid_out s 0 xs) ≡ slots_of s
  laid_many xs many =
      sym (behind_first s (length (laid_out s 0 xs)))
      ∙ (laid_length 0 xs ∙ ap (slot_at s) (from_zero (length xs) ∙ many))

  laid_next : (i : ℕ) (x : H) (xs : List H) (k : ℕ)
      → get_elem? (laid_out s i (x ∷ xs)) (suc (gap_of s i + k)) ≡ get_elem? (laid_out s (i + 1) xs) k
  laid_next i x xs k =
      let g : ℕ = gap_of s i in let rest : List (Option H) = laid_out s (i + 1) xs in let gap : List (Option H) =
      replicate g None in
      ap (λ (n : ℕ). get_elem? (gap ++ rest) (n + k)) (sym (length-replicate g None)) ∙ skip gap rest k

  laid_at : (i : ℕ) (xs : List H) (j k : ℕ) (x : H) → slice_get xs j ≡ Some x → slot_at s i + k ≡ slot_at s (i + j)
      → get_elem? (laid_out s i xs) k ≡ some (Some x)
  laid_at i [] j k x e is = absurd (cc e)
  laid_at i (y ∷ ys) zero k x e is =
      let z : i + 0 ≡ i = omega arith in let a : ℕ = slot_at s i in let same : a + k ≡ a = is
      ∙ ap (slot_at s) z in let first : k ≡ 0 = omega (arith, same) in
      ap (get_elem? (laid_out s i (y ∷ ys))) first ∙ ap some e
  laid_at i (y ∷ ys) (suc j) k x e is =
      let z : i + suc j ≡ i + 1 + j = omega arith in let there : slot_at s i + k ≡ slot_at s (i + 1 + j) = is
      ∙ ap (slot_at s) z in
      let a : ℕ = slot_at s i in let b : ℕ = slot_at s (i + 1) in let c : ℕ = slot_at s (i + 1 + j) in
      let there' : a + k ≡ c = there in
      let on : b ≤ c = slots_rise_on s (i + 1) (i + 1 + j) (omega arith) in
      let n = behind s i k (let g : b ≤ a + k = omega (arith, on, there') in g) in
      ap (get_elem? (laid_out s i (y ∷ ys))) n.1 ∙ (laid_next i y ys n.0 ∙ laid_at (i + 1) ys j n.0 x e (n.2 ∙ there))

  laid_between : (i : ℕ) (xs : List H) (j k : ℕ) → j < length xs → slot_at s (i + j) < slot_at s i + k
      → slot_at s i + k < slot_at s (i + j + 1) → get_elem? (laid_out s i xs) k ≡ some None
  laid_between i [] j k lt low high = absurd (omega (arith, lt))
  laid_between i (y ∷ ys) zero k lt low high =
      let g : ℕ = gap_of s i in let rest : List (Option H) = laid_out s (i + 1) ys in
      let a : ℕ = slot_at s i in let b : ℕ = slot_at s (i + 1) in let next : b ≡ a + 1 + g = slot_next s i in
      let z : i + 0 ≡ i = omega arith in
      let low' : a < a + k = subst (λ (n : ℕ). slot_at s n < slot_at s i + k) z low in
      let high' : a + k < b = subst (λ (n : ℕ). slot_at s i + k < slot_at s (n + 1)) z high in
      let is : k ≡ suc (k - 1) = omega (arith, low') in
      let near : k - 1 < g = omega (arith, high', next, low') in
      ap (get_elem? (laid_out s i (y ∷ ys))) is ∙ at_longer (replicate g None) rest (k - 1) None (in_gap g (k - 1) near)
  laid_between i (y ∷ ys) (suc j) k lt low high =
      let z : i + suc j ≡ i + 1 + j = omega arith in
      let low' : slot_at s (i + 1 + j) < slot_at s i + k = subst (λ (n : ℕ). slot_at s n < slot_at s i + k) z low in
      let high' : slot_at s i + k < slot_at s (i + 1 + j + 1) =
      subst (λ (n : ℕ). slot_at s i + k < slot_at s (n + 1)) z high in
      let a : ℕ = slot_at s i in let b : ℕ = slot_at s (i + 1) in let c : ℕ = slot_at s (i + 1 + j) in
      let low'' : c < a + k = low' in
      let on : b ≤ c = slots_rise_on s (i + 1) (i + 1 + j) (omega arith) in
      let n = behind s i k (let g : b ≤ a + k = omega (arith, on, low'') in g) in
      ap (get_elem? (laid_out s i (y ∷ ys))) n.1
      ∙ (laid_next i y ys n.0 ∙ laid_between (i + 1) ys j n.0 (omega (arith, lt))
      (subst (λ (m : ℕ). slot_at s (i + 1 + j) < m) (sym n.2) low')
      (subst (λ (m : ℕ). m < slot_at s (i + 1 + j + 1)) (sym n.2) high'))

  pub laid_home : (xs : List H) (i : ℕ) (x : H) → slice_get xs i ≡ Some x
      → get_elem? (laid_out s 0 xs) (slot_at s i) ≡ some (Some x)
  laid_home xs i x e =
      laid_at 0 xs i (slot_at s i) x e (behind_first s (slot_at s i) ∙ ap (slot_at s) (sym (from_zero i)))

  pub laid_empty : (xs : List H) → length xs ≡ objects_of s → IsEmptyBetween s (laid_out s 0 xs)
  laid_empty xs many i k lt low high = laid_between 0 xs i k (subst (λ (n : ℕ). i < n) (sym many) lt)
      (subst (λ (x : ℕ × ℕ). slot_at s x.0 < x.1) (λ q. (sym (from_zero i) q, sym (behind_first s k) q)) low)
      (subst (λ (x : ℕ × ℕ). x.1 < slot_at s (x.0 + 1)) (λ q. (sym (from_zero i) q, sym (behind_first s k) q)) high)

  -- the values come back in order
  pub gathered_all : (i : ℕ) (xs : List H) → filter_map (λ (x : Option H). x) (laid_out s i xs) ≡ xs
  gathered_all i [] = refl
  gathered_all i (x ∷ xs) =
      ap (λ (l : List H). x ∷ l) (skips (gap_of s i) (laid_out s (i + 1) xs) ∙ gathered_all (i + 1) xs)

  -- with one value more
  pub laid_push : (i : ℕ) (xs : List H) (x : H) → laid_out s i (xs ++ x ∷ [])
      ≡ laid_out s i xs ++ (Some x ∷ replicate (gap_of s (i + length xs)) None)
  laid_push i [] x = let e : i ≡ i + 0 = omega arith in
      ap (λ (l : List (Option H)). Some x ∷ l)
      (append-nil (replicate (gap_of s i) None) ∙ ap (λ (n : ℕ). replicate (gap_of s n) None) e)
  laid_push i (y ∷ ys) x =
      let e : i + 1 + length ys ≡ i + suc (length ys) = omega arith in let gap : List (Option H) =
      replicate (gap_of s i) None in
      ap (λ (l : List (Option H)). Some y ∷ (gap ++ l))
      (laid_push (i + 1) ys x ∙ ap (λ (n : ℕ). laid_out s (i + 1) ys ++ (Some x ∷ replicate (gap_of s n) None)) e)
      ∙ ap (λ (l : List (Option H)). Some y ∷ l)
      (sym (append_assoc gap (laid_out s (i + 1) ys) (Some x ∷ replicate (gap_of s (i + suc (length ys))) None)))

  -- the last value goes to the end of a list that is laid out backwards
  pub laid_turn : (xs : List H) (x : H) (slots : List (Option H))
      → laid_out s 0 xs ++ reverse ((slots ++ replicate (gap_of s (length xs)) None) ++ Some x ∷ [])
      ≡ laid_out s 0 (xs ++ x ∷ []) ++ reverse slots
  laid_turn xs x slots =
      let gap : List (Option H) = replicate (gap_of s (length xs)) None in let e : 0 + length xs
      ≡ length xs = omega arith in let ys : List (Option H) = laid_out s 0 xs in
      let back : reverse ((slots ++ gap) ++ Some x ∷ [])
      ≡ Some x ∷ (gap ++ reverse slots) =
      reverse-append (slots ++ gap) (Some x ∷ [])
      ∙ ap (λ (l : List (Option H)). Some x ∷ l)
      (reverse-append slots gap ∙ ap (λ (l : List (Option H)). l ++ reverse slots)
      (reverse-replicate (gap_of s (length xs)) None)) in
      let more : laid_out s 0 (xs ++ x ∷ []) ≡ ys ++ (Some x ∷ gap) = laid_push 0 xs x
      ∙ ap (λ (n : ℕ). ys ++ (Some x ∷ replicate (gap_of s n) None)) e in
      ap (λ (l : List (Option H)). ys ++ l) back
      ∙ (sym (append_assoc ys (Some x ∷ gap) (reverse slots))
      ∙ ap (λ (l : List (Option H)). l ++ reverse slots) (sym more))
