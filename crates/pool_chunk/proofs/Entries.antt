-- The entries of a chunk's pages: with the free runs they make the chunk again, and what each change of the chunk makes
-- of them.
use Rattle.std.proofs.Common.{◌≡◌, ℕ, zero, suc, ◌+◌, ◌-◌, ◌<◌, ◌≤◌, List, [], ◌∷◌, ◌++◌, length, get_or, replicate, Some, None, refl, sym, ap, ◌∙◌, subst, arith, eq-eqb, ne_eqb, append_assoc}
use Rattle.std.specs.Prelude.{true, false, ◌==◌, slice_set}
use Rattle.std.proofs.lemmas.List.{set-append_left, set-append_right, get_or-append-add, get_or_append_left, length-append, append-nil, replicate-append-replicate, length-replicate, get_or-replicate}
use Rattle.size_classes.specs.Pages.{Run, Free, Used, Span, pages_in, total_pages, free_runs, rest_of, front_used, freed, joined, merged, replaced, taken_at, given_at, NoneEmpty}
use Rattle.size_classes.specs.Runs.{Begins}
use Rattle.size_classes.specs.Elements.{Elements}
use Rattle.pool_law.specs.Chunks.{Chunk, Use, Sub}
use Rattle.pool_chunk.specs.ChunkStates.{with_elements}
use Rattle.pool_chunk.specs.Slots.{PageEntry, entries_in, entries, runs_from}
use mathlib.Core.Logic.{inl, inr}

-- ---- the runs again

abbrev nothing : PageEntry
nothing = None

runs_from-skip : (n : ℕ) (spans : List Span) (es : List PageEntry)
    → runs_from n spans (replicate n nothing ++ es) ≡ runs_from 0 spans es
runs_from-skip zero spans es = refl
runs_from-skip (suc n) spans es = runs_from-skip n spans es

skipped : (n m : ℕ) (spans : List Span) (es : List PageEntry) → n ≡ m
    → runs_from n spans (replicate m nothing ++ es) ≡ runs_from 0 spans es
skipped n m spans es e = ap (λ (k : ℕ). runs_from k spans (replicate m nothing ++ es)) e ∙ runs_from-skip m spans es

-- the free runs and the entries of a chunk make the chunk
pub runs_from-entries : (from : ℕ) (rs : Chunk) → NoneEmpty rs → runs_from 0 (free_runs from rs) (entries rs) ≡ rs
runs_from-entries from [] ne = refl
runs_from-entries from (Free zero ∷ rs) ne = absurd (omega (arith, ne.0))
runs_from-entries from (Free (suc n) ∷ rs) ne =
    ap (λ (xs : Chunk). Free (suc n) ∷ xs)
    (skipped (suc n - 1) n (free_runs (from + suc n) rs) (entries rs) (omega arith)
    ∙ runs_from-entries (from + suc n) rs ne.1)
runs_from-entries from (Used n what ∷ rs) ne =
    ap (λ (xs : Chunk). Used n what ∷ xs)
    (runs_from-skip (n - 1) (free_runs (from + n) rs) (entries rs) ∙ runs_from-entries (from + n) rs ne.1)

-- ---- places

length-entries_in : (r : Run Use) → 0 < pages_in r → length (entries_in r) ≡ pages_in r
length-entries_in (Free n) h = length-replicate n nothing
length-entries_in (Used n what) h = omega (arith, length-replicate (n - 1) nothing, h)

-- there is one for each page
pub length-entries : (rs : Chunk) → NoneEmpty rs → length (entries rs) ≡ total_pages rs
length-entries [] ne = refl
length-entries (r ∷ rs) ne =
    omega (arith, length-append (entries_in r) (entries rs), length-entries_in r ne.0, length-entries rs ne.1)

-- the first entry of a run
abbrev pub entry_in : Run Use → PageEntry
entry_in (Free n) = None
entry_in (Used n what) = Some (n, what)

first_in : (r : Run Use) (es : List PageEntry) (d : PageEntry) → 0 < pages_in r → get_or (entries_in r ++ es) 0 d ≡
    entry_in r
first_in (Free zero) es d h = absurd (omega arith)
first_in (Free (suc n)) es d h = refl
first_in (Used n what) es d h = refl

-- the entry at the page at which a run begins
pub entries-at : (rs : Chunk) (at : ℕ) (r : Run Use) (d : PageEntry) → NoneEmpty rs → Begins at r rs
    → get_or (entries rs) at d ≡ entry_in r
entries-at [] at r d ne b = absurd b
entries-at (s ∷ rs) at r d ne (inl b) =
    ap (λ (k : ℕ). get_or (entries_in s ++ entries rs) k d) b.0 ∙ first_in s (entries rs) d ne.0 ∙ ap entry_in (sym b.1)
entries-at (s ∷ rs) at r d ne (inr b) =
    let behind : at ≡ length (entries_in s) + b.0 = omega (arith, b.1, length-entries_in s ne.0) in
    ap (λ (k : ℕ). get_or (entries_in s ++ entries rs) k d) behind
    ∙ get_or-append-add (entries_in s) (entries rs) b.0 d ∙ entries-at rs b.0 r d ne.1 b.2

-- no run begins at the other pages of one
pub entries-inside : (rs : Chunk) (at k : ℕ) (r : Run Use) (d : PageEntry) → NoneEmpty rs → Begins at r rs → at < k
    → k < at + pages_in r
    → get_or (entries rs) k d ≡ None
entries-inside [] at k r d ne b from within = absurd b
entries-inside (s ∷ rs) at k r d ne (inl b) from within =
    let below : k < pages_in s = subst (λ (q : Run Use). k < pages_in q) b.1 (omega (arith, within, b.0)) in
    get_or_append_left (entries_in s) (entries rs) d k (omega (arith, length-entries_in s ne.0, below))
    ∙ in_run s k d (omega (arith, from, b.0)) below
  where
    in_run : (s : Run Use) (k : ℕ) (d : PageEntry) → 0 < k → k < pages_in s → get_or (entries_in s) k d ≡ None
    in_run (Free n) k d some below = get_or-replicate n k nothing d below
    in_run (Used n what) zero d some below = absurd (omega (arith, some))
    in_run (Used n what) (suc k) d some below = get_or-replicate (n - 1) k nothing d (omega (arith, below))
entries-inside (s ∷ rs) at k r d ne (inr b) from within =
    let rest : k - pages_in s + length (entries_in s) ≡ k = omega (arith, b.1, from, length-entries_in s ne.0) in
    let behind : k ≡ length (entries_in s) + (k - pages_in s) = omega (arith, rest) in
    ap (λ (j : ℕ). get_or (entries_in s ++ entries rs) j d) behind
    ∙ get_or-append-add (entries_in s) (entries rs) (k - pages_in s) d
    ∙ entries-inside rs b.0 (k - pages_in s) r d ne.1 b.2 (omega (arith, b.1, from)) (omega (arith, b.1, from, within))

-- ---- changes

entries-append : (xs ys : Chunk) → entries (xs ++ ys) ≡ entries xs ++ entries ys
entries-append [] ys = refl
entries-append (x ∷ xs) ys =
    ap (λ (es : List PageEntry). entries_in x ++ es) (entries-append xs ys)
    ∙ sym (append_assoc (entries_in x) (entries xs) (entries ys))

-- where others replace a run so that its first entry alone changes, just this entry changes
pub entries-replaced : (rs : Chunk) (at : ℕ) (by : Run Use → List (Run Use)) (r : Run Use) (x : PageEntry) → NoneEmpty
    rs
    → Begins at r rs
    → entries (by r) ≡ slice_set (entries_in r) 0 x → entries (replaced at by rs) ≡ slice_set (entries rs) at x
entries-replaced [] at by r x ne b change = absurd b
entries-replaced (s ∷ rs) at by r x ne (inl b) change =
    let here : (at == 0) ≡ true = eq-eqb at 0 b.0 in
    let P : Run Use → Type 0 = λ q. entries (by q) ≡ slice_set (entries_in q) 0 x in
    let some : 0 < length (entries_in s) = omega (arith, length-entries_in s ne.0, ne.0) in
    rw (here, b.0) (
    entries-append (by s) rs
    ∙ ap (λ (es : List PageEntry). es ++ entries rs) (subst P b.1 change)
    ∙ sym (set-append_left (entries_in s) (entries rs) 0 x some)
    )
entries-replaced (s ∷ rs) at by r x ne (inr b) change =
    let not_here : (at == 0) ≡ false = ne_eqb at 0 (λ e. omega (arith, e, ne.0, b.1)) in
    let rest : at - pages_in s ≡ b.0 = omega (arith, b.1) in
    let past : pages_in s ≤ at = omega (arith, b.1) in
    rw (not_here, rest) (
    ap (λ (es : List PageEntry). entries_in s ++ es) (entries-replaced rs b.0 by r x ne.1 b.2 change)
    ∙ ap (λ (k : ℕ). entries_in s ++ slice_set (entries rs) k x) (sym rest)
    ∙ sym (set-append_right (entries_in s) (entries rs) (pages_in s) at x (length-entries_in s ne.0) past)
    )

entries-rest : (n : ℕ) → entries (rest_of n) ≡ replicate n nothing
entries-rest zero = refl
entries-rest (suc n) = append-nil (replicate (suc n) nothing)

set-first : (n : ℕ) (x : PageEntry) → 0 < n → slice_set (replicate n nothing) 0 x ≡ x ∷ replicate (n - 1) nothing
set-first zero x h = absurd (omega arith)
set-first (suc n) x h = let same : n ≡ suc n - 1 = omega arith in ap (λ (k : ℕ). x ∷ replicate k nothing) same

front-entries : (n pages : ℕ) (what : Use) → 0 < pages → pages ≤ n
    → entries (front_used pages what (Free n)) ≡ slice_set (entries_in (Free n)) 0 (Some (pages, what))
front-entries n pages what some fits =
    let sum : pages - 1 + (n - pages) ≡ n - 1 = omega (arith, some, fits) in
    ap (λ (es : List PageEntry). Some (pages, what) ∷ replicate (pages - 1) nothing ++ es) (entries-rest (n - pages))
    ∙ ap (λ (es : List PageEntry). Some (pages, what) ∷ es)
    (replicate-append-replicate (pages - 1) (n - pages) nothing ∙ ap (λ (k : ℕ). replicate k nothing) sum)
    ∙ sym (set-first n (Some (pages, what)) (omega (arith, some, fits)))

-- what begins at the page is what the front is taken for
pub entries-taken : (rs : Chunk) (at n pages : ℕ) (what : Use) → NoneEmpty rs → Begins at (Free n) rs → 0 < pages
    → pages ≤ n
    → entries (taken_at at pages what rs) ≡ slice_set (entries rs) at (Some (pages, what))
entries-taken rs at n pages what ne b some fits =
    entries-replaced rs at (front_used pages what) (Free n) (Some (pages, what)) ne b
    (front-entries n pages what some fits)

entries-joined : (r : Run Use) (rs : Chunk) → entries (joined r rs) ≡ entries_in r ++ entries rs
entries-joined (Free n) (Free m ∷ rs) =
    ap (λ (es : List PageEntry). es ++ entries rs) (sym (replicate-append-replicate n m nothing))
    ∙ append_assoc (replicate n nothing) (replicate m nothing) (entries rs)
entries-joined (Free n) (Used m what ∷ rs) = refl
entries-joined (Free n) [] = refl
entries-joined (Used n what) rs = refl

entries-merged : (rs : Chunk) → entries (merged rs) ≡ entries rs
entries-merged [] = refl
entries-merged (r ∷ rs) =
    entries-joined r (merged rs) ∙ ap (λ (es : List PageEntry). entries_in r ++ es) (entries-merged rs)

freed-entries : (n : ℕ) (what : Use) → 0 < n → entries (freed (Used n what))
    ≡ slice_set (entries_in (Used n what)) 0 nothing
freed-entries zero what h = absurd (omega arith)
freed-entries (suc n) what h =
    let same : n ≡ suc n - 1 = omega arith in
    append-nil (replicate (suc n) nothing) ∙ ap (λ (k : ℕ). nothing ∷ replicate k nothing) same

-- nothing begins at the page of a run that is given back
pub entries-given : (rs : Chunk) (at n : ℕ) (what : Use) → NoneEmpty rs → Begins at (Used n what) rs → 0 < n
    → entries (given_at at rs) ≡ slice_set (entries rs) at nothing
entries-given rs at n what ne b some =
    entries-merged (replaced at freed rs) ∙ entries-replaced rs at freed (Used n what) nothing ne b
    (freed-entries n what some)

-- and at the page of a subpage begin its elements as they are then
pub entries-elements : (rs : Chunk) (at n class : ℕ) (e f : Elements) → NoneEmpty rs
    → Begins at (Used n (Sub class e)) rs
    → entries (with_elements at class f rs) ≡ slice_set (entries rs) at (Some (n, Sub class f))
entries-elements rs at n class e f ne b =
    entries-replaced rs at (λ r. Used (pages_in r) (Sub class f) ∷ []) (Used n (Sub class e)) (Some (n, Sub class f)) ne
    b
    (ap (λ (es : List PageEntry). Some (n, Sub class f) ∷ es) (append-nil (replicate (n - 1) nothing)))
