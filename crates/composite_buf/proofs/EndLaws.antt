-- Where parts end: the ends rise, the last is the length of all, and the first one above an index is that of its part.
use Rattle.std.proofs.Common.{◌≡◌, ℕ, zero, suc, ◌+◌, ◌-◌, ◌<◌, ◌≤◌, Bool, true, false, List, [], ◌∷◌, ◌++◌, length, take, get_or, leb, ltb, subst, leb-true, refl, sym, ap, ◌∙◌, arith}
use Rattle.std.specs.Prelude.{Option, Some, IsSomeAnd, unwrap_or, slice_get}
use Rattle.std.specs.List.Sorted.{IsNonDecreasingBy, IsPartitionPoint}
use Rattle.std.proofs.Math.Seq.{take-length}
use Rattle.std.proofs.lemmas.Bool.{leb-false, ltb-true, ltb-false}
use Rattle.std.proofs.lemmas.Option.{slice_get-get_or}
use Rattle.pool_law.specs.declared.id.Part.{Part}
use Rattle.pool_law.specs.Composites.{size_of}
use Rattle.composite_buf.specs.Ends.{ends_from, IsIn}
use Rattle.composite_buf.specs.Maps.{byte_of, byte_at}
use Rattle.composite_buf.proofs.MapLaws.{size_of_cons, byte_at-inside}

pub length-ends_from : (n : ℕ) (ps : List Part) → length (ends_from n ps) ≡ length ps
length-ends_from n [] = refl
length-ends_from n (p ∷ ps) = ap suc (length-ends_from (n + p.len) ps)

-- there is an end for each part
pub same_count : (ends : List ℕ) (ps qs : List Part) → ends ≡ ends_from 0 ps → ps ≡ qs → length ends ≡ length qs
same_count ends ps qs are same = ap length are ∙ length-ends_from 0 ps ∙ ap length same

-- where one more part ends
pub ends_from-more : (n : ℕ) (ps : List Part) (p : Part) →
    ends_from n (ps ++ p ∷ []) ≡ ends_from n ps ++ (n + size_of ps + p.len) ∷ []
ends_from-more n [] p =
    let here : n + p.len ≡ n + 0 + p.len = omega arith in ap (λ (e : ℕ). e ∷ []) here
ends_from-more n (q ∷ ps) p =
    let here : n + q.len + size_of ps + p.len ≡ n + size_of (q ∷ ps) + p.len = omega (arith, size_of_cons q ps) in
    ap (λ (es : List ℕ). (n + q.len) ∷ es)
    (ends_from-more (n + q.len) ps p ∙ ap (λ (e : ℕ). ends_from (n + q.len) ps ++ e ∷ []) here)

-- the end of a part
pub end_at : (n : ℕ) (ps : List Part) (k d : ℕ) → k < length ps →
    get_or (ends_from n ps) k d ≡ n + size_of (take (k + 1) ps)
end_at n [] k d there = absurd (omega arith)
end_at n (p ∷ ps) zero d there =
    let one : size_of (take (0 + 1) (p ∷ ps)) ≡ p.len = size_of_cons p [] ∙ omega arith in
    omega (arith, one)
end_at n (p ∷ ps) (suc k) d there =
    let later : get_or (ends_from (n + p.len) ps) k d ≡ n + p.len + size_of (take (k + 1) ps) =
    end_at (n + p.len) ps k d (omega arith) in
    let one : suc k + 1 ≡ suc (k + 1) = omega arith in
    let all : size_of (take (suc k + 1) (p ∷ ps)) ≡ p.len + size_of (take (k + 1) ps) =
    ap (λ (j : ℕ). size_of (take j (p ∷ ps))) one ∙ size_of_cons p (take (k + 1) ps) in
    later ∙ omega (arith, all)

-- the last end is the length of all parts
pub last_end : (ps : List Part) → unwrap_or (slice_get (ends_from 0 ps) (length (ends_from 0 ps) - 1)) 0 ≡ size_of ps
last_end [] = refl
last_end (p ∷ ps) =
    let es : List ℕ = ends_from 0 (p ∷ ps) in
    let long : length es ≡ length (p ∷ ps) = length-ends_from 0 (p ∷ ps) in
    let all : length es - 1 + 1 ≡ length (p ∷ ps) = omega (arith, long) in
    let most : ℕ = size_of (take (length es - 1 + 1) (p ∷ ps)) in
    let none : 0 + most ≡ most = omega arith in
    ap (λ (o : Option ℕ). unwrap_or o 0) (slice_get-get_or es (length es - 1) 0 (omega (arith, long)))
    ∙ end_at 0 (p ∷ ps) (length es - 1) 0 (omega (arith, long))
    ∙ none
    ∙ ap (λ (j : ℕ). size_of (take j (p ∷ ps))) all
    ∙ ap (λ (qs : List Part). size_of qs) (take-length (p ∷ ps))

-- fewer parts have no more bytes
pub size_of-take-le : (ps : List Part) (i j : ℕ) → i ≤ j → size_of (take i ps) ≤ size_of (take j ps)
size_of-take-le ps zero j le = omega arith
size_of-take-le ps (suc i) zero le = absurd (omega arith)
size_of-take-le [] (suc i) (suc j) le = omega arith
size_of-take-le (p ∷ ps) (suc i) (suc j) le =
    let rest : size_of (take i ps) ≤ size_of (take j ps) = size_of-take-le ps i j (omega arith) in
    omega (arith, rest, size_of_cons p (take i ps), size_of_cons p (take j ps))

-- with a part there are its bytes more
pub size_of-take-more : (ps : List Part) (k : ℕ) (p : Part) → slice_get ps k ≡ Some p →
    size_of (take (k + 1) ps) ≡ size_of (take k ps) + p.len
size_of-take-more [] k p there = absurd (cc there)
size_of-take-more (q ∷ ps) zero p there =
    let same : q ≡ p = cc there in
    let long : q.len ≡ p.len = ap (λ (r : Part). r.len) same in
    size_of_cons q [] ∙ omega (arith, long)
size_of-take-more (q ∷ ps) (suc k) p there =
    let rest : size_of (take (k + 1) ps) ≡ size_of (take k ps) + p.len = size_of-take-more ps k p there in
    let one : suc k + 1 ≡ suc (k + 1) = omega arith in
    ap (λ (j : ℕ). size_of (take j (q ∷ ps))) one
    ∙ omega (arith, rest, size_of_cons q (take (k + 1) ps), size_of_cons q (take k ps))

-- the ends rise
pub ends_rise : (ps : List Part) → IsNonDecreasingBy (λ (e : ℕ). e) (ends_from 0 ps)
ends_rise ps i j d le there =
    let within : j < length ps = omega (arith, length-ends_from 0 ps) in
    let rise : size_of (take (i + 1) ps) ≤ size_of (take (j + 1) ps) =
    size_of-take-le ps (i + 1) (j + 1) (omega arith) in
    omega (arith, end_at 0 ps i d (omega arith), end_at 0 ps j d within, rise)

-- the next part is within all
pub next_within : (ps : List Part) (k : ℕ) (d : Part) → k < length ps →
    size_of (take k ps) + (get_or ps k d).len ≤ size_of ps
next_within [] k d there = absurd (omega arith)
next_within (p ∷ ps) zero d there = omega (arith, size_of_cons p ps)
next_within (p ∷ ps) (suc k) d there =
    let rest : size_of (take k ps) + (get_or ps k d).len ≤ size_of ps = next_within ps k d (omega arith) in
    omega (arith, rest, size_of_cons p ps, size_of_cons p (take k ps))

-- parts whose ends are all within an index start within it
starts_within : (ps : List Part) (i k : ℕ) → k ≤ length ps →
    ((j : ℕ) → j < k → leb (get_or (ends_from 0 ps) j 0) i ≡ true) → size_of (take k ps) ≤ i
starts_within ps i zero most passed = omega arith
starts_within ps i (suc k) most passed =
    let last : get_or (ends_from 0 ps) k 0 ≤ i = leb-true (get_or (ends_from 0 ps) k 0) i (passed k (omega arith)) in
    let one : k + 1 ≡ suc k = omega arith in
    omega (arith, last, end_at 0 ps k 0 (omega arith), ap (λ (j : ℕ). size_of (take j ps)) one)

-- the first end above an index is that of the part in which it lies
pub found_at : (ps : List Part) (i k : ℕ) → i < size_of ps → k ≤ length ps →
    IsPartitionPoint (λ (e : ℕ). leb e i ≡ true) (λ (e : ℕ). leb e i ≡ false) (ends_from 0 ps) k → IsIn ps i k
found_at ps i k below most point =
    let starts : size_of (take k ps) ≤ i = starts_within ps i k most (λ j lt. point.0 j 0 (omega arith) lt) in
    let there : k < length ps = fewer starts in
    let within : k < length (ends_from 0 ps) = omega (arith, there, length-ends_from 0 ps) in
    let end : i < get_or (ends_from 0 ps) k 0 =
    leb-false (get_or (ends_from 0 ps) k 0) i (point.1 k 0 (omega arith) within) in
    record { there = there; starts = starts; ends = omega (arith, end, end_at 0 ps k 0 there) }
  where
    fewer : size_of (take k ps) ≤ i → k < length ps
    fewer starts = go (ltb k (length ps)) refl
      where
        go : (b : Bool) → ltb k (length ps) ≡ b → k < length ps
        go true is = ltb-true k (length ps) is
        go false is =
            let all : k ≡ length ps = omega (arith, ltb-false k (length ps) is, most) in
            let same : size_of (take k ps) ≡ size_of ps =
            ap (λ (j : ℕ). size_of (take j ps)) all ∙ ap (λ (qs : List Part). size_of qs) (take-length ps) in
            absurd (omega (arith, same, starts, below))

-- a part that is there
part_there : (ps : List Part) (k : ℕ) → k < length ps → (p : Part) × (slice_get ps k ≡ Some p)
part_there [] k there = absurd (omega arith)
part_there (p ∷ ps) zero there = (p, refl)
part_there (p ∷ ps) (suc k) there = part_there ps k (omega arith)

-- the offset is inside of the part that the index lies in, and the part has its byte there
pub IsIn-inside : (ps : List Part) (i k o : ℕ) → IsIn ps i k → size_of (take k ps) + o ≡ i →
    IsSomeAnd (slice_get ps k) (λ (p : Part). o < p.len)
IsIn-inside ps i k o lies same =
    let found : (p : Part) × (slice_get ps k ≡ Some p) = part_there ps k lies.there in
    let more : size_of (take (k + 1) ps) ≡ size_of (take k ps) + found.0.len = size_of-take-more ps k found.0 found.1 in
    let inside : o < found.0.len = omega (arith, more, lies.ends, same) in
    let P : Option Part → Type 0 = λ at. IsSomeAnd at (λ (p : Part). o < p.len) in
    subst P (sym found.1) inside

pub IsIn-byte : (ps : List Part) (i k o : ℕ) → IsIn ps i k → size_of (take k ps) + o ≡ i →
    IsSomeAnd (slice_get ps k) (λ (p : Part). byte_at ps i ≡ byte_of p o)
IsIn-byte ps i k o lies same =
    let found : (p : Part) × (slice_get ps k ≡ Some p) = part_there ps k lies.there in
    let more : size_of (take (k + 1) ps) ≡ size_of (take k ps) + found.0.len = size_of-take-more ps k found.0 found.1 in
    let byte : byte_at ps i ≡ byte_of found.0 o =
    ap (byte_at ps) (sym same) ∙ byte_at-inside ps k o found.0 found.1 (omega (arith, more, lies.ends, same)) in
    let P : Option Part → Type 0 = λ at. IsSomeAnd at (λ (p : Part). byte_at ps i ≡ byte_of p o) in
    subst P (sym found.1) byte
