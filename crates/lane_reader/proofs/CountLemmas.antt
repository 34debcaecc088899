-- Keys of roots.
use Rattle.std.proofs.Common.{◌≡◌, ℕ, suc, ◌-◌, ◌<◌, ◌≤◌, List, [], ◌∷◌, ◌++◌, length, take, drop, get_or, sym, ◌+◌, Bool, true, false, Option, Some, refl, ap, arith, ◌∙◌}
use Rattle.std.specs.Prelude.{◌==◌, ◌&&◌, if◌then◌else◌, unwrap_or, slice_get}
use Rattle.std.specs.declared.cmp.Ordering.{Ordering}
use Rattle.std.specs.declared.cmp.Ordering.TheVariants.{Less, Equal, Greater}
use Rattle.std.specs.Ordering.{nat_cmp, ordering_then, is_eq}
use Rattle.std.specs.BTreeMap.{is_at}
use Rattle.pool_law.specs.declared.id.RootId.{RootId}
use Rattle.pool_law.specs.Same.{same_root}
use Rattle.pool_law.proofs.SameLemmas.{same_root-is}
use Rattle.pool_law.proofs.NumberLemmas.{is_eq-nat}
use Rattle.pool_law.specs.declared.note.Note.{Note}
use Rattle.pool_law.specs.Counts.{count_from, count_step, note_gains, note_loses}
use Rattle.pool_law.specs.Readers.{ToldNotes}
use Rattle.object_steps.specs.declared.told.PlaceTold.{PlaceTold}
use Rattle.lane_reader.specs.Reading.{entry, untold, entries_in}
use Rattle.lane_reader.specs.Counting.{key_cmp, key_of, count_after}
use Rattle.lane_reader.proofs.ReadingLemmas.{entries-from, take-next}

is_eq-then : (p q r : Ordering) →
    is_eq (ordering_then (ordering_then p q) r) ≡ (is_eq p && (is_eq q && is_eq r))
is_eq-then Less q r = refl
is_eq-then Greater q r = refl
is_eq-then Equal Less r = refl
is_eq-then Equal Greater r = refl
is_eq-then Equal Equal r = refl

pub is_at-keys : (x y : ℕ × ℕ × ℕ) → is_at (key_cmp x) y ≡ ((x.0 == y.0) && ((x.1 == y.1) && (x.2 == y.2)))
is_at-keys x y =
    is_eq-then (nat_cmp x.0 y.0) (nat_cmp x.1 y.1) (nat_cmp x.2 y.2)
    ∙ (λ i. is_eq-nat x.0 y.0 i && (is_eq-nat x.1 y.1 i && is_eq-nat x.2 y.2 i))

pub is_at-key : (root other : RootId) → is_at (key_cmp (key_of root)) (key_of other) ≡ same_root root other
is_at-key root other = is_at-keys (key_of root) (key_of other)

pub count-put : (b : Bool) (n : ℕ) (o : Option ℕ) →
    unwrap_or (if b then Some n else o) 0 ≡ (if b then n else unwrap_or o 0)
count-put true n o = refl
count-put false n o = refl

pub count-added : (root other : RootId) (f : RootId → ℕ) (n : ℕ) → n ≡ f root + 1 →
    (if same_root root other then n else f other) ≡ (if same_root root other then f other + 1 else f other)
count-added root other f n e = go (same_root root other) refl
  where
    go : (b : Bool) → same_root root other ≡ b →
        (if same_root root other then n else f other) ≡ (if same_root root other then f other + 1 else f other)
    go true same = rw same (e ∙ ap (λ r. f r + 1) (same_root-is root other same))
    go false apart = rw apart refl

-- ---- Counts over notes.

pub count-append : (root : RootId) (k : ℕ) (xs ys : ToldNotes) →
    count_from root k (xs ++ ys) ≡ count_from root (count_from root k xs) ys
count-append root k [] ys = refl
count-append root k (x ∷ xs) ys = count-append root (count_step root k x) xs ys

-- the count after one note more
pub count-next : (root : RootId) (k : ℕ) (notes : List Note) (told : List PlaceTold) (i : ℕ) (note : Note) → i < length
    notes
    →
    note ≡ get_or notes i note →
    count_from root k (take (i + 1) (entries_in notes told))
    ≡ count_after root (count_from root k (take i (entries_in notes told))) note
count-next root k notes told i note there is =
    let es : ToldNotes = entries_in notes told in
    let more : suc i ≡ i + 1 = omega arith in
    let t : PlaceTold = unwrap_or (slice_get told i) untold in
    let first : drop i es ≡ entry note t ∷ drop (suc i) es =
    entries-from notes told i note there ∙ ap (λ (n : Note). entry n t ∷ drop (suc i) es) (sym is) in
    ap (λ (n : ℕ). count_from root k (take n es)) (sym more)
    ∙ ap (count_from root k) (take-next es i (entry note t) (drop (suc i) es) first)
    ∙ count-append root k (take i es) (entry note t ∷ [])

-- a note adds one at the most
pub count-within : (root : RootId) (k : ℕ) (note : Note) → count_after root k note ≤ k + 1
count-within root k note = go (note_gains root note) (note_loses root note)
  where
    go : (a b : Bool) → (if a then k + 1 else if b then k - 1 else k) ≤ k + 1
    go true b = omega arith
    go false true = omega arith
    go false false = omega arith
