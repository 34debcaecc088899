-- The ranges of the law: they have just the bytes that they are of, and what holds of each part holds of each range.
use Rattle.std.proofs.Common.{◌≡◌, ℕ, zero, suc, ◌+◌, ◌-◌, ◌<◌, ◌≤◌, Bool, true, false, List, [], ◌∷◌, refl, sym, ap, ◌∙◌, arith, eqb-true}
use Rattle.std.specs.Prelude.{◌==◌, not, nat_lt, min, if◌then◌else◌, Option, Some, None, All}
use Rattle.std.proofs.lemmas.Bool.{ltb-true, ltb-false, lt-ltb}
use Rattle.std.proofs.lemmas.List.Elements.{All-cons, All-head, All-tail, All-filter, All-weaker, filter_passes}
use Rattle.pool_law.specs.declared.id.RootId.{RootId}
use Rattle.pool_law.specs.declared.id.Part.{Part}
use Rattle.pool_law.specs.Composites.{size_of, filled, cut, cuts, ranges}
use Rattle.composite_buf.specs.Maps.{Fits, byte_of, byte_at}
use Rattle.composite_buf.proofs.MapLaws.{size_of_cons, same_size, byte_at-first, byte_at-behind}

-- an empty part is left out, and any other stays
filled-empty : (p : Part) (ps : List Part) → (p.len == 0) ≡ true → filled (p ∷ ps) ≡ filled ps
filled-empty p ps is = ap (λ (b : Bool). if not b then p ∷ filled ps else filled ps) is

filled-other : (p : Part) (ps : List Part) → (p.len == 0) ≡ false → filled (p ∷ ps) ≡ p ∷ filled ps
filled-other p ps is = ap (λ (b : Bool). if not b then p ∷ filled ps else filled ps) is

-- the parts that are not empty have the bytes of all
byte_at-filled : (ps : List Part) (i : ℕ) → byte_at (filled ps) i ≡ byte_at ps i
byte_at-filled [] i = refl
byte_at-filled (p ∷ ps) i = go (p.len == 0) refl (byte_at-filled ps i) (byte_at-filled ps (i - p.len))
  where
    go : (b : Bool) → (p.len == 0) ≡ b → byte_at (filled ps) i ≡ byte_at ps i →
        byte_at (filled ps) (i - p.len) ≡ byte_at ps (i - p.len) →
        byte_at (filled (p ∷ ps)) i ≡ byte_at (p ∷ ps) i
    go true is same later =
        let none : p.len ≡ 0 = eqb-true p.len 0 is in
        let here : i ≡ i - p.len = omega (arith, none) in
        ap (λ (qs : List Part). byte_at qs i) (filled-empty p ps is)
        ∙ same
        ∙ ap (byte_at ps) here
        ∙ sym (byte_at-behind p ps i (omega (arith, none)))
    go false is same later =
        ap (λ (qs : List Part). byte_at qs i) (filled-other p ps is)
        ∙ ap (λ (o : Option (RootId × ℕ)). if nat_lt i p.len then byte_of p i else o) later

pub size_of-filled : (ps : List Part) → size_of (filled ps) ≡ size_of ps
size_of-filled [] = refl
size_of-filled (p ∷ ps) = go (p.len == 0) refl (size_of-filled ps)
  where
    go : (b : Bool) → (p.len == 0) ≡ b → size_of (filled ps) ≡ size_of ps → size_of (filled (p ∷ ps)) ≡ size_of (p ∷ ps)
    go true is same =
        let none : p.len ≡ 0 = eqb-true p.len 0 is in
        same_size (filled (p ∷ ps)) (filled ps) (filled-empty p ps is) ∙ same ∙ omega (arith, none, size_of_cons p ps)
    go false is same =
        same_size (filled (p ∷ ps)) (p ∷ filled ps) (filled-other p ps is)
        ∙ omega (arith, same, size_of_cons p (filled ps), size_of_cons p ps)

-- an index inside of a part means a byte of its root
byte_of-inside : (p : Part) (i : ℕ) → i < p.len → byte_of p i ≡ Some (p.root, p.offset + i)
byte_of-inside p i inside = ap (λ (b : Bool). if b then Some (p.root, p.offset + i) else None) (lt-ltb i p.len inside)

-- of a part and those behind it, s bytes are skipped and t taken
module _ (p : Part) (ps rest : List Part) (i n j s t : ℕ)
    (below : j < n) (skipped : s ≡ min i p.len) (taken : t ≡ min n (p.len - s)) where
  -- an index that is taken
  within : j < t → i + j < p.len
  within inside = omega (arith, skipped, taken, inside)

  same_byte : j < t → p.offset + s + j ≡ p.offset + (i + j)
  same_byte inside = omega (arith, skipped, taken, inside)

  in_cut : j < t → byte_at (cut p s t ∷ rest) j ≡ byte_at (p ∷ ps) (i + j)
  in_cut inside =
      byte_at-first (cut p s t) rest j inside
      ∙ byte_of-inside (cut p s t) j inside
      ∙ ap (λ (o : ℕ). Some (p.root, o)) (same_byte inside)
      ∙ sym (byte_of-inside p (i + j) (within inside))
      ∙ sym (byte_at-first p ps (i + j) (within inside))

  -- an index behind those that are taken
  behind_cut : t ≤ j → ((k : ℕ) → k < n - t → byte_at rest k ≡ byte_at ps (i - s + k)) →
      byte_at (cut p s t ∷ rest) j ≡ byte_at (p ∷ ps) (i + j)
  behind_cut behind later =
      let past : p.len ≤ i + j = omega (arith, skipped, taken, behind, below) in
      let same : i - s + (j - t) ≡ i + j - p.len = omega (arith, skipped, taken, behind, below) in
      byte_at-behind (cut p s t) rest j behind
      ∙ later (j - t) (omega (arith, behind, below))
      ∙ ap (byte_at ps) same
      ∙ sym (byte_at-behind p ps (i + j) past)

  in_both : ((k : ℕ) → k < n - t → byte_at rest k ≡ byte_at ps (i - s + k)) →
      byte_at (cut p s t ∷ rest) j ≡ byte_at (p ∷ ps) (i + j)
  in_both later = go (nat_lt j t) refl
    where
      go : (b : Bool) → nat_lt j t ≡ b → byte_at (cut p s t ∷ rest) j ≡ byte_at (p ∷ ps) (i + j)
      go true is = in_cut (ltb-true j t is)
      go false is = behind_cut (ltb-false j t is) later

-- n bytes from an index on, part by part
byte_at-cuts : (ps : List Part) (i n j : ℕ) → j < n → byte_at (cuts ps i n) j ≡ byte_at ps (i + j)
byte_at-cuts [] i n j below = refl
byte_at-cuts (p ∷ ps) i n j below =
    let s : ℕ = min i p.len in
    let t : ℕ = min n (p.len - s) in
    in_both p ps (cuts ps (i - s) (n - t)) i n j s t below refl refl (λ k less. byte_at-cuts ps (i - s) (n - t) k less)

-- n bytes that are there are n
size_of-cuts : (ps : List Part) (i n : ℕ) → i + n ≤ size_of ps → size_of (cuts ps i n) ≡ n
size_of-cuts [] i n there = omega arith
size_of-cuts (p ∷ ps) i n there =
    let s : ℕ = min i p.len in
    let t : ℕ = min n (p.len - s) in
    let rest : size_of (cuts ps (i - s) (n - t)) ≡ n - t =
    size_of-cuts ps (i - s) (n - t) (omega (arith, there, size_of_cons p ps)) in
    size_of_cons (cut p s t) (cuts ps (i - s) (n - t)) ∙ omega (arith, rest)

-- what holds of each part, and then of what is cut of it, holds of each cut
All-cuts : (P : Part → Type 0) → ((p : Part) (i n : ℕ) → i + n ≤ p.len → P p → P (cut p i n)) →
    (ps : List Part) (i n : ℕ) → All P ps → All P (cuts ps i n)
All-cuts P keeps [] i n all = all
All-cuts P keeps (p ∷ ps) i n all =
    let s : ℕ = min i p.len in
    let t : ℕ = min n (p.len - s) in
    All-cons P (cut p s t) (cuts ps (i - s) (n - t)) (keeps p s t (omega arith) (All-head P p ps all))
    (All-cuts P keeps ps (i - s) (n - t) (All-tail P p ps all))

-- the ranges are the bytes from an index on
pub byte_at-ranges : (ps : List Part) (i n j : ℕ) → j < n → byte_at (ranges ps i n) j ≡ byte_at ps (i + j)
byte_at-ranges ps i n j below = byte_at-filled (cuts ps i n) j ∙ byte_at-cuts ps i n j below

pub size_of-ranges : (ps : List Part) (i n : ℕ) → i + n ≤ size_of ps → size_of (ranges ps i n) ≡ n
size_of-ranges ps i n there = size_of-filled (cuts ps i n) ∙ size_of-cuts ps i n there

-- none of them is empty
pub filled-ranges : (ps : List Part) (i n : ℕ) → All (λ (p : Part). 0 < p.len) (ranges ps i n)
filled-ranges ps i n =
    All-weaker (λ (p : Part). not (p.len == 0) ≡ true) (λ (p : Part). 0 < p.len)
    (λ p passes. some p.len passes) (ranges ps i n)
    (filter_passes (λ (p : Part). not (p.len == 0)) (cuts ps i n))
  where
    some : (n : ℕ) → not (n == 0) ≡ true → 0 < n
    some zero passes = absurd (cc passes)
    some (suc n) passes = omega arith

-- what holds of each part, and then of what is cut of it, holds of each range
pub All-ranges : (P : Part → Type 0) → ((p : Part) (i n : ℕ) → i + n ≤ p.len → P p → P (cut p i n)) →
    (ps : List Part) (i n : ℕ) → All P ps → All P (ranges ps i n)
All-ranges P keeps ps i n all =
    All-filter (λ (p : Part). not (p.len == 0)) P (cuts ps i n) (All-cuts P keeps ps i n all)

pub Fits-ranges : (ps : List Part) (i n : ℕ) → All Fits ps → All Fits (ranges ps i n)
Fits-ranges ps i n all = All-ranges Fits (λ p i n le fits. omega (arith, le, fits)) ps i n all
