-- The stretches of a range of a composite: its parts in order, with memory for their bytes.
use Rattle.std.proofs.Common.{◌≡◌, ℕ, zero, suc, ◌+◌, ◌<◌, ◌≤◌, List, [], ◌∷◌, ◌++◌, length, take, drop, refl, sym, ap, ◌∙◌, arith, append_assoc, length-append, Some}
use Rattle.std.specs.Prelude.{All, slice_index_or, vec_capacity}
use Rattle.std.specs.Global.{Vec}
use Rattle.std.specs.List.{slice_range}
use Rattle.std.proofs.Math.Seq.{take-add}
use Rattle.std.proofs.lemmas.List.{take_more, length-take-le, length-drop}
use Rattle.std.proofs.lemmas.List.Elements.{All-nil, All-cons, All-head, All-tail, All-same, All-push}
use Rattle.pool_law.specs.declared.id.Part.{Part}
use Rattle.pool_law.specs.declared.id.RootId.{RootId}
use Rattle.pool_law.specs.Composites.{Composite, cut, ranges, size_of}
use Rattle.composite_buf.proofs.MapLaws.{size_of_cons, size_of_more, same_size}
use Rattle.composite_buf.proofs.RangeLaws.{All-ranges, size_of-ranges}
use Rattle.lane_stages.specs.declared.counts.Counted.{Counted}
use Rattle.lane_stages.specs.declared.crossing.Crossing.TheVariants.{Set, Get}
use Rattle.lane_stages.specs.declared.crossing.Stretch.{Stretch}
use Rattle.lane_context.specs.Composing.{IsReachable}
use Rattle.lane_stages.specs.Counting.{counted}
use Rattle.lane_stages.specs.Crossings.{bytes_of, parts_of}
use Rattle.lane_context.specs.Named.{IsInRoot}
use Rattle.lane_plans.specs.Plans.{AreUsable, GetsAt, IsSized, SetsAt}

-- ---- One stretch more.

pub parts_of-more : (ss : List Stretch) (s : Stretch) → parts_of (ss ++ s ∷ []) ≡ parts_of ss ++ s.part ∷ []
parts_of-more [] s = refl
parts_of-more (t ∷ ss) s = ap (λ (ps : List Part). t.part ∷ ps) (parts_of-more ss s)

nil-append : (xs : List ℕ) → xs ++ [] ≡ xs
nil-append [] = refl
nil-append (x ∷ xs) = ap (λ (ys : List ℕ). x ∷ ys) (nil-append xs)

pub bytes_of-more : (ss : List Stretch) (s : Stretch) → bytes_of (ss ++ s ∷ []) ≡ bytes_of ss ++ s.bytes.items
bytes_of-more [] s = nil-append s.bytes.items
bytes_of-more (t ∷ ss) s =
    ap (λ (xs : List ℕ). t.bytes.items ++ xs) (bytes_of-more ss s)
    ∙ sym (append_assoc t.bytes.items (bytes_of ss) s.bytes.items)

-- as many bytes as the parts have
pub length-bytes_of : (ss : List Stretch) → All IsSized ss → length (bytes_of ss) ≡ size_of (parts_of ss)
length-bytes_of [] sized = refl
length-bytes_of (s ∷ ss) sized =
    let first : length s.bytes.items ≡ s.part.len = All-head IsSized s ss sized in
    let rest = length-bytes_of ss (All-tail IsSized s ss sized) in
    omega (arith, length-append s.bytes.items (bytes_of ss), first, rest, size_of_cons s.part (parts_of ss))

-- ---- One part more.

-- the part that is read where there is none
abbrev pub no_part : Part
no_part =
    record { root = record { place = 0; generation = 0; capacity = 0 }; offset = 0; len = 0 }

-- the part of a place, with those before it, is in the size of all
pub size_within : (ps : List Part) (k : ℕ) (d : Part) → k < length ps
    → size_of (take k ps) + (slice_index_or ps k d).len ≡ size_of (take (k + 1) ps)
size_within ps k d lt =
    sym (size_of_more (take k ps) (slice_index_or ps k d))
    ∙ same_size (take k ps ++ slice_index_or ps k d ∷ []) (take (k + 1) ps) (sym (take_more ps k d lt))

size_of-take : (ps : List Part) (n : ℕ) → size_of (take n ps) ≤ size_of ps
size_of-take [] zero = omega arith
size_of-take [] (suc n) = omega arith
size_of-take (p ∷ ps) zero = omega arith
size_of-take (p ∷ ps) (suc n) =
    let rest = size_of-take ps n in omega (arith, rest, size_of_cons p ps, size_of_cons p (take n ps))

pub ends_within : (ps : List Part) (k : ℕ) (d : Part) → k < length ps
    → size_of (take k ps) + (slice_index_or ps k d).len ≤ size_of ps
ends_within ps k d lt =
    let one = size_within ps k d lt in let le = size_of-take ps (k + 1) in omega (arith, one, le)

-- a stretch of some bytes, behind those of the bytes before them
module _ (ps : List Part) (k : ℕ) (d : Part) (lt : k < length ps) (ss after : List Stretch) (s : Stretch)
    (pushed : after ≡ ss ++ s ∷ []) (part : s.part ≡ slice_index_or ps k d) (are : parts_of ss ≡ take k ps)
    (sized : All IsSized ss) where
  pub parts_more : parts_of after ≡ take (k + 1) ps
  parts_more =
      ap parts_of pushed ∙ parts_of-more ss s
      ∙ (λ i. are i ++ part i ∷ []) ∙ sym (take_more ps k d lt)

  module _ (xs : List ℕ) (from : ℕ) (le : from + s.part.len ≤ length xs) (have : bytes_of ss ≡ take from xs)
      (is : s.bytes.items ≡ slice_range xs from (from + s.part.len)) where
    of_range : slice_range xs from (from + s.part.len) ≡ take s.part.len (drop from xs)
    of_range = ap (λ (n : ℕ). take n (drop from xs)) (omega arith)

    pub sized_more : All IsSized after
    sized_more =
        All-same IsSized after (ss ++ s ∷ []) pushed
        (All-push IsSized ss s sized
        (ap (λ (ys : List ℕ). length ys) (is ∙ of_range)
        ∙ length-take-le s.part.len (drop from xs) (omega (arith, length-drop from xs, le))))

    pub bytes_more : bytes_of after ≡ take (from + s.part.len) xs
    bytes_more =
        ap bytes_of pushed ∙ bytes_of-more ss s ∙ (λ i. have i ++ (is ∙ of_range) i)
        ∙ sym (take-add from s.part.len xs)

-- ---- What they reach.

-- what holds of the parts of stretches
of_parts : (P : Part → Type 0) (ss : List Stretch) → All P (parts_of ss) → All (λ s. P s.part) ss
of_parts P [] all = All-nil (λ (s : Stretch). P s.part)
of_parts P (s ∷ ss) all =
    All-cons (λ (t : Stretch). P t.part) s ss (All-head P s.part (parts_of ss) all)
    (of_parts P ss (All-tail P s.part (parts_of ss) all))

reachable_by : (known : RootId → ℕ) (cs : List Counted) (ss : List Stretch) → All IsSized ss
    → All (λ s. IsInRoot known s.part) ss → All (λ s. 0 < counted cs s.part.root) ss → All (IsReachable known cs) ss
reachable_by known cs ss sized inside counts k d lt = record {
  counts = counts k d lt;
  inside = inside k d lt;
  bytes = sized k d lt;
}

module _ (known : RootId → ℕ) (cs : List Counted) (parts : List Part) (i n : ℕ) (usable : AreUsable known cs parts)
    (ss : List Stretch) (are : parts_of ss ≡ ranges parts i n) (sized : All IsSized ss) where
  in_ranges : (P : Part → Type 0) → ((p : Part) (i n : ℕ) → i + n ≤ p.len → P p → P (cut p i n)) → All P parts
      → All (λ s. P s.part) ss
  in_ranges P keeps all =
      of_parts P ss (All-same P (parts_of ss) (ranges parts i n) are (All-ranges P keeps parts i n all))

  pub are_reachable : All (IsReachable known cs) ss
  are_reachable =
      reachable_by known cs ss sized
      (in_ranges (IsInRoot known) (λ p i n le inside. omega (arith, le, inside)) usable.inside)
      (in_ranges (λ p. 0 < counted cs p.root) (λ p i n le lt. lt) usable.counts)

module _ (c : Composite) (at : ℕ) (ss : List Stretch) (first : Stretch) (later : Vec Stretch)
    (next : ss ≡ first ∷ later.items) (sized : All IsSized ss) where
  -- a range is set
  pub is_set : (bytes : List ℕ) → parts_of ss ≡ ranges c.parts at (length bytes) → bytes_of ss ≡ bytes
      → SetsAt c at bytes (Some (Set first later))
  is_set bytes are have known cs usable = (
    ap parts_of (sym next) ∙ are,
    ap bytes_of (sym next) ∙ have,
    (
      All-same (IsReachable known cs) (first ∷ later.items) ss (sym next)
          (are_reachable known cs c.parts at (length bytes) usable ss are sized),
      tt,
    ),
  )

  -- a range is got
  pub is_got : (len : ℕ) (got : Vec ℕ) → parts_of ss ≡ ranges c.parts at len → got.items ≡ []
      → len ≤ vec_capacity got → at + len ≤ size_of c.parts → GetsAt c at len (Some (Get first later got))
  is_got len got are none room inside known cs usable = (
    ap parts_of (sym next) ∙ are,
    none,
    (
      All-same (IsReachable known cs) (first ∷ later.items) ss (sym next)
          (are_reachable known cs c.parts at len usable ss are sized),
      omega (arith, empty, long, size, room),
    ),
  )
    where
      empty : length got.items ≡ 0
      empty = ap (λ (xs : List ℕ). length xs) none

      long : length (bytes_of (first ∷ later.items)) ≡ size_of (parts_of ss)
      long = ap (λ (ts : List Stretch). length (bytes_of ts)) (sym next) ∙ length-bytes_of ss sized

      size : size_of (parts_of ss) ≡ len
      size = same_size (parts_of ss) (ranges c.parts at len) are ∙ size_of-ranges c.parts at len inside
