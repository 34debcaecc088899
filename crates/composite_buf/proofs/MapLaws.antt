-- The map of parts: of some behind others, and of the part that an index is in.
use Rattle.std.proofs.Common.{◌≡◌, ℕ, zero, suc, ◌+◌, ◌-◌, ◌<◌, ◌≤◌, Bool, true, false, List, [], ◌∷◌, ◌++◌, take, map, refl, sym, ap, ◌∙◌, arith}
use Rattle.std.specs.Prelude.{nat_lt, if◌then◌else◌, Some, None, slice_get}
use Rattle.std.proofs.lemmas.Bool.{ltb-true, ltb-false, lt-ltb, le-ltb}
use Rattle.std.proofs.lemmas.List.Sums.{sum_by-cons}
use Rattle.pool_law.specs.declared.id.Part.{Part}
use Rattle.pool_law.specs.Composites.{size_of}
use Rattle.composite_buf.specs.Maps.{byte_of, byte_at}

pub size_of_cons : (p : Part) (ps : List Part) → size_of (p ∷ ps) ≡ p.len + size_of ps
size_of_cons p ps = sum_by-cons (λ (n : ℕ). n) p.len (map (λ (q : Part). q.len) ps)

pub same_size : (ps qs : List Part) → ps ≡ qs → size_of ps ≡ size_of qs
same_size ps qs same = ap (λ (rs : List Part). size_of rs) same

pub size_of-append : (xs ys : List Part) → size_of (xs ++ ys) ≡ size_of xs + size_of ys
size_of-append [] ys = omega arith
size_of-append (p ∷ xs) ys =
    let rest : size_of (xs ++ ys) ≡ size_of xs + size_of ys = size_of-append xs ys in
    omega (arith, rest, size_of_cons p xs, size_of_cons p (xs ++ ys))

-- one part more has its bytes more
pub size_of_more : (ps : List Part) (p : Part) → size_of (ps ++ p ∷ []) ≡ size_of ps + p.len
size_of_more ps p = omega (arith, size_of-append ps (p ∷ []), size_of_cons p [])

-- an index in the first part, and one behind it
pub byte_at-first : (p : Part) (ps : List Part) (i : ℕ) → i < p.len → byte_at (p ∷ ps) i ≡ byte_of p i
byte_at-first p ps i inside =
    ap (λ (b : Bool). if b then byte_of p i else byte_at ps (i - p.len)) (lt-ltb i p.len inside)

pub byte_at-behind : (p : Part) (ps : List Part) (i : ℕ) → p.len ≤ i → byte_at (p ∷ ps) i ≡ byte_at ps (i - p.len)
byte_at-behind p ps i behind =
    ap (λ (b : Bool). if b then byte_of p i else byte_at ps (i - p.len)) (le-ltb i p.len behind)

-- the map of some parts before others
pub byte_at-before : (xs ys : List Part) (i : ℕ) → i < size_of xs → byte_at (xs ++ ys) i ≡ byte_at xs i
byte_at-before [] ys i before = absurd (omega arith)
byte_at-before (p ∷ xs) ys i before =
    let all : size_of (p ∷ xs) ≡ p.len + size_of xs = size_of_cons p xs in
    go (nat_lt i p.len) refl (λ behind. byte_at-before xs ys (i - p.len) (omega (arith, all)))
  where
    go : (b : Bool) → nat_lt i p.len ≡ b → (p.len ≤ i → byte_at (xs ++ ys) (i - p.len) ≡ byte_at xs (i - p.len)) →
        byte_at (p ∷ xs ++ ys) i ≡ byte_at (p ∷ xs) i
    go true is rest =
        let inside : i < p.len = ltb-true i p.len is in
        byte_at-first p (xs ++ ys) i inside ∙ sym (byte_at-first p xs i inside)
    go false is rest =
        let behind : p.len ≤ i = ltb-false i p.len is in
        byte_at-behind p (xs ++ ys) i behind ∙ rest behind ∙ sym (byte_at-behind p xs i behind)

-- the map of some parts behind others
pub byte_at-after : (xs ys : List Part) (i : ℕ) → size_of xs ≤ i → byte_at (xs ++ ys) i ≡ byte_at ys (i - size_of xs)
byte_at-after [] ys i after =
    let none : i ≡ i - 0 = omega arith in ap (byte_at ys) none
byte_at-after (p ∷ xs) ys i after =
    let all : size_of (p ∷ xs) ≡ p.len + size_of xs = size_of_cons p xs in
    let same : i - p.len - size_of xs ≡ i - size_of (p ∷ xs) = omega (arith, all) in
    byte_at-behind p (xs ++ ys) i (omega (arith, all))
    ∙ byte_at-after xs ys (i - p.len) (omega (arith, all))
    ∙ ap (byte_at ys) same

-- the map of one part
pub byte_at-one : (p : Part) (i : ℕ) → byte_at (p ∷ []) i ≡ byte_of p i
byte_at-one p i = go (nat_lt i p.len) refl
  where
    go : (b : Bool) → nat_lt i p.len ≡ b → byte_at (p ∷ []) i ≡ byte_of p i
    go true is = byte_at-first p [] i (ltb-true i p.len is)
    go false is =
        byte_at-behind p [] i (ltb-false i p.len is)
        ∙ sym (ap (λ (b : Bool). if b then Some (p.root, p.offset + i) else None) is)

-- the map of one part more
pub byte_at-more : (ps : List Part) (p : Part) (i : ℕ) →
    byte_at (ps ++ p ∷ []) i ≡ (if nat_lt i (size_of ps) then byte_at ps i else byte_of p (i - size_of ps))
byte_at-more ps p i = go (nat_lt i (size_of ps)) refl
  where
    go : (b : Bool) → nat_lt i (size_of ps) ≡ b →
        byte_at (ps ++ p ∷ []) i ≡ (if b then byte_at ps i else byte_of p (i - size_of ps))
    go true is = byte_at-before ps (p ∷ []) i (ltb-true i (size_of ps) is)
    go false is =
        byte_at-after ps (p ∷ []) i (ltb-false i (size_of ps) is) ∙ byte_at-one p (i - size_of ps)

-- the part that an index is in has its byte
pub byte_at-inside : (ps : List Part) (k o : ℕ) (p : Part) → slice_get ps k ≡ Some p → o < p.len →
    byte_at ps (size_of (take k ps) + o) ≡ byte_of p o
byte_at-inside [] k o p there inside = absurd (cc there)
byte_at-inside (q ∷ ps) zero o p there inside =
    let same : q ≡ p = cc there in
    let none : 0 + o ≡ o = omega arith in
    ap (byte_at (q ∷ ps)) none ∙ ap (λ (r : Part). byte_at (r ∷ ps) o) same ∙ byte_at-first p ps o inside
byte_at-inside (q ∷ ps) (suc k) o p there inside =
    let all : size_of (take (suc k) (q ∷ ps)) ≡ q.len + size_of (take k ps) = size_of_cons q (take k ps) in
    let further : size_of (take (suc k) (q ∷ ps)) + o - q.len ≡ size_of (take k ps) + o = omega (arith, all) in
    byte_at-behind q ps (size_of (take (suc k) (q ∷ ps)) + o) (omega (arith, all))
    ∙ ap (byte_at ps) further
    ∙ byte_at-inside ps k o p there inside
