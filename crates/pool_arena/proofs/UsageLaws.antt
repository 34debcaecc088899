-- How much of a chunk is used, before and after a run is taken or comes back.
use Rattle.std.proofs.Common.{◌≡◌, ℕ, zero, suc, ◌+◌, ◌*◌, ◌-◌, ◌/◌, ◌<◌, ◌≤◌, [], ◌∷◌, ◌++◌, refl, sym, ap, ◌∙◌, true, false, Some, None, arith, eq-eqb, ne_eqb, eqb-true, inl, inr}
use Rattle.std.specs.Prelude.{◌==◌, ◌⊎◌, if◌then◌else◌, Option, nat_le, IsSome, unwrap_or}
use Rattle.std.proofs.lemmas.Bool.{cond_both}
use Rattle.std.proofs.lemmas.Nat.{mul-le}
use Rattle.std.proofs.Math.Nat.{div-mul-le_self}
use Rattle.std.proofs.lemmas.Nat.{le-div}
use lib.Pow.{pow_pos}
use Rattle.size_classes.specs.Sizes.{Geometry, IsPage, page_of, chunk_pages, chunk_bytes}
use Rattle.size_classes.proofs.SmallClasses.{page-some}
use Rattle.std.proofs.Math.Nat.{le_of_mul-le-mul_left, mul-pos}
use Rattle.size_classes.specs.Pages.{Run, Free, Used, pages_in, total_pages, free_in, free_pages, rest_of, front_used, freed, joined, merged, replaced, taken_at, given_at, NoneEmpty, NoneSideBySide}
use Rattle.size_classes.specs.Runs.{Begins}
use Rattle.size_classes.specs.Elements.{Elements}
use Rattle.pool_law.specs.declared.report.ListName.{ListName}
use Rattle.pool_law.specs.Chunks.{Chunk, Use, Sub, IsChunk, usage_of, usage, free_bytes, new_chunk}
use Rattle.pool_law.specs.ChunkLists.{greatest, lists_above, lists_below, risen, down_to}
use Rattle.pool_chunk.specs.ChunkStates.{with_elements}
use Rattle.chunk_list.specs.Settling.{goes_to, answer_of}
use Rattle.chunk_list.specs.declared.lists.Settled.{Settled}
use Rattle.arena_laws.proofs.GiveSteps.{free-all, sunk-stays, lists_below-low, usage-nothing}

-- ---- the usage by the free bytes

pub usage-most : (free size : ℕ) → usage_of free size ≤ 100
usage-most free size =
    cond_both (free == 0) 100 (if (free * 100) / size == 0 then 99 else 100 - (free * 100) / size) (λ z. z ≤ 100)
    (λ _. omega arith)
    (λ _. cond_both ((free * 100) / size == 0) 99 (100 - (free * 100) / size) (λ z. z ≤ 100) (λ _. omega arith)
    (λ _. omega arith))

-- with less that is free, no less is used
pub usage-falls : (less free size : ℕ) → 0 < size → less ≤ free → usage_of free size ≤ usage_of less size
usage-falls less free size pos le =
    cond_both (less == 0) 100 (if (less * 100) / size == 0 then 99 else 100 - (less * 100) / size)
    (λ z. usage_of free size ≤ z)
    (λ _. usage-most free size)
    (λ some. cond_both ((less * 100) / size == 0) 99 (100 - (less * 100) / size) (λ z. usage_of free size ≤ z)
    (λ _. cond_both (free == 0) 100 (if (free * 100) / size == 0 then 99 else 100 - (free * 100) / size) (λ z. z ≤ 99)
    (λ none. absurd (none-less some none))
    (λ _. cond_both ((free * 100) / size == 0) 99 (100 - (free * 100) / size) (λ z. z ≤ 99) (λ _. omega arith)
    (λ more. omega (arith, positive ((free * 100) / size) more))))
    (λ more. cond_both (free == 0) 100 (if (free * 100) / size == 0 then 99 else 100 - (free * 100) / size)
    (λ z. z ≤ 100 - (less * 100) / size)
    (λ none. absurd (none-less some none))
    (λ _. cond_both ((free * 100) / size == 0) 99 (100 - (free * 100) / size) (λ z. z ≤ 100 - (less * 100) / size)
    (λ none. absurd (positive-not ((less * 100) / size) ((free * 100) / size) more none quotient))
    (λ _. omega (arith, quotient)))))
  where
    none-less : (less == 0) ≡ false → (free == 0) ≡ true → ⊥
    none-less some none =
        let e : free ≡ 0 = eqb-true free 0 none in absurd (cc (some, eq-eqb less 0 (omega (arith, e, le))))

    positive : (n : ℕ) → (n == 0) ≡ false → 0 < n
    positive zero e = absurd (cc (e, eq-eqb 0 0 refl))
    positive (suc n) e = omega arith

    quotient : (less * 100) / size ≤ (free * 100) / size
    quotient = le-div ((less * 100) / size) (free * 100) size pos (omega (arith, div-mul-le_self (less * 100) size, le))

    positive-not : (q r : ℕ) → (q == 0) ≡ false → (r == 0) ≡ true → q ≤ r → ⊥
    positive-not q r more none le = let e : r ≡ 0 = eqb-true r 0 none in omega (arith, positive q more, e, le)

-- ---- the free pages after a step

free-append : (xs ys : Chunk) → free_pages (xs ++ ys) ≡ free_pages xs + free_pages ys
free-append [] ys = omega arith
free-append (x ∷ xs) ys = omega (arith, free-append xs ys)

replaced-free : (rs : Chunk) (at : ℕ) (by : Run Use → Chunk) (r : Run Use) → NoneEmpty rs → Begins at r rs
    → free_pages (replaced at by rs) + free_in r ≡ free_pages rs + free_pages (by r)
replaced-free [] at by r ne b = absurd b
replaced-free (s ∷ rs) at by r ne (inl b) =
    let here : (at == 0) ≡ true = eq-eqb at 0 b.0 in
    let same : free_pages (by s) ≡ free_pages (by r) = ap (λ (q : Run Use). free_pages (by q)) (sym b.1) in
    let itself : free_in r ≡ free_in s = ap free_in b.1 in
    rw here (omega (arith, free-append (by s) rs, same, itself))
replaced-free (s ∷ rs) at by r ne (inr b) =
    let not_here : (at == 0) ≡ false = ne_eqb at 0 (λ e. omega (arith, e, ne.0, b.1)) in
    let rest : at - pages_in s ≡ b.0 = omega (arith, b.1) in
    rw (not_here, rest) (omega (arith, replaced-free rs b.0 by r ne.1 b.2))

joined-free : (r : Run Use) (rs : Chunk) → free_pages (joined r rs) ≡ free_in r + free_pages rs
joined-free (Free n) (Free m ∷ rs) = omega arith
joined-free (Free n) (Used m w ∷ rs) = refl
joined-free (Free n) [] = refl
joined-free (Used n w) rs = refl

merged-free : (rs : Chunk) → free_pages (merged rs) ≡ free_pages rs
merged-free [] = refl
merged-free (r ∷ rs) = omega (arith, joined-free r (merged rs), merged-free rs)

rest-free : (n : ℕ) → free_pages (rest_of {U = Use} n) ≡ n
rest-free zero = refl
rest-free (suc n) = omega arith

pub taken-free : (rs : Chunk) (at n pages : ℕ) (what : Use) → NoneEmpty rs → Begins at (Free n) rs → pages ≤ n
    → free_pages (taken_at at pages what rs) + pages ≡ free_pages rs
taken-free rs at n pages what ne b le =
    omega (arith, replaced-free rs at (front_used pages what) (Free n) ne b, rest-free (n - pages), le)

pub given-free : (rs : Chunk) (at n : ℕ) (what : Use) → NoneEmpty rs → Begins at (Used n what) rs
    → free_pages (given_at at rs) ≡ free_pages rs + n
given-free rs at n what ne b =
    omega (arith, merged-free (replaced at freed rs), replaced-free rs at freed (Used n what) ne b)

pub elements-free : (rs : Chunk) (at n class : ℕ) (e f : Elements) → NoneEmpty rs → Begins at (Used n (Sub class e)) rs
    → free_pages (with_elements at class f rs) ≡ free_pages rs
elements-free rs at n class e f ne b =
    omega (arith, replaced-free rs at (λ r. Used (pages_in r) (Sub class f) ∷ []) (Used n (Sub class e)) ne b)

-- ---- the usage after a step

pub size-some : (g : Geometry) → IsPage g.page → 0 < chunk_bytes g
size-some g page = mul-pos (page-some g page) (pow_pos g.order)

-- a chunk of which less is free is used no less
pub usage-rises : (g : Geometry) → IsPage g.page → (less more : Chunk) → free_pages less ≤ free_pages more
    → usage g more ≤ usage g less
usage-rises g page less more le =
    usage-falls (free_bytes g less) (free_bytes g more) (chunk_bytes g) (size-some g page)
    (mul-le (page_of g) (free_pages less) (page_of g) (free_pages more) (omega arith) le)

pub usage-same : (g : Geometry) (a b : Chunk) → free_pages a ≡ free_pages b → usage g a ≡ usage g b
usage-same g a b e = ap (λ (n : ℕ). usage_of (page_of g * n) (chunk_bytes g)) e

-- ---- where it goes to

-- a chunk that reaches the least usage of its list goes to a list
pub goes-somewhere : (percent : ℕ) (here : ListName) → 1 ≤ percent → goes_to percent (Some here) ≡ None → ⊥
goes-somewhere percent here some =
    cond_both (nat_le (greatest here) percent) (Some (risen percent here (lists_above here)))
    (down_to percent (Some here)) (λ z. z ≡ None → ⊥)
    (λ _ e. absurd (cc e))
    (λ _ e. sunk-stays percent here (lists_below here) some (lists_below-low here) e)

-- where all is free there is one free run
pub all-free : (rs : Chunk) → NoneEmpty rs → NoneSideBySide rs → total_pages rs ≤ free_pages rs → 0 < total_pages rs
    → rs ≡ Free (total_pages rs) ∷ []
all-free [] ne apart all some = absurd (omega (arith, some))
all-free (Free n ∷ []) ne apart all some = ap (λ (k : ℕ). Free k ∷ []) (omega arith)
all-free (Free n ∷ Free m ∷ rs) ne apart all some = absurd (cc apart.0)
all-free (Free n ∷ Used m w ∷ rs) ne apart all some = absurd (omega (arith, ne.1.0, all, free-all rs))
all-free (Used n w ∷ rs) ne apart all some = absurd (omega (arith, ne.0, all, free-all rs))

-- a chunk that is used for nothing has bytes
used-some : (g : Geometry) (rs : Chunk) → usage g rs < 1 → 0 < page_of g
used-some g rs none = by (page_of g) refl
  where
    by : (page : ℕ) → page_of g ≡ page → 0 < page_of g
    by zero is =
        let free : free_bytes g rs ≡ 0 = ap (λ (page : ℕ). page * free_pages rs) is ∙ omega arith in
        let all : usage g rs ≡ 100 = ap (λ (n : ℕ). usage_of n (chunk_bytes g)) free in
        absurd (omega (arith, none, all))
    by (suc page) is = omega (arith, is)

-- it is one free run
pub unused-free : (g : Geometry) (rs : Chunk) → IsChunk g rs → usage g rs < 1 → rs ≡ new_chunk g
unused-free g rs is none =
    let some = used-some g rs none in
    let size : chunk_bytes g ≤ free_bytes g rs =
    usage-nothing (free_bytes g rs) (chunk_bytes g) (mul-pos some (pow_pos g.order)) none in
    let pages : chunk_pages g ≤ free_pages rs = le_of_mul-le-mul_left size some in
    all-free rs is.none_empty is.none_side_by_side (omega (arith, pages, is.covers))
    (omega (arith, is.covers, pow_pos g.order))
    ∙ ap (λ (k : ℕ). Free k ∷ []) is.covers

-- so is a chunk that goes nowhere
pub gone-free : (g : Geometry) (rs : Chunk) (here : ListName) → IsChunk g rs → goes_to (usage g rs) (Some here) ≡ None
    → rs ≡ new_chunk g
gone-free g rs here is gone = by (lt-or (usage g rs))
  where
    lt-or : (n : ℕ) → (n < 1) ⊎ (1 ≤ n)
    lt-or n = grind arith

    by : (usage g rs < 1) ⊎ (1 ≤ usage g rs) → rs ≡ new_chunk g
    by (inl none) = unused-free g rs is none
    by (inr some) = absurd (goes-somewhere (usage g rs) here some gone)

-- where it is answered that it is destroyed it goes nowhere
pub destroyed-none : (o : Option ListName) → answer_of o ≡ Settled.Destroyed → o ≡ None
destroyed-none None e = refl
destroyed-none (Some name) e = absurd (cc e)

-- what is there, by its name
pub some-name : (o : Option ListName) → IsSome o → (name : ListName) × (o ≡ Some name)
some-name None e = absurd (cc e)
some-name (Some name) e = (name, refl)

pub some-runs : (o : Option Chunk) → IsSome o → o ≡ Some (unwrap_or o [])
some-runs None e = absurd (cc e)
some-runs (Some runs) e = refl

-- a chunk that is destroyed is one free run
pub destroyed-free : (g : Geometry) (rs : Chunk) (l : Option ListName) → IsChunk g rs → IsSome l
    → answer_of (goes_to (usage g rs) l) ≡ Settled.Destroyed → rs ≡ new_chunk g
destroyed-free g rs l is some gone =
    let there = some-name l some in
    gone-free g rs there.0 is (ap (goes_to (usage g rs)) (sym there.1) ∙ destroyed-none (goes_to (usage g rs) l) gone)
