-- What an arena keeps when a taking comes back.
use Rattle.std.proofs.lemmas.Nat.{mul-le}
use Rattle.std.proofs.Common.{div-add-mod', ltb-true, ⊎_elim, ◌≡◌, ◌≢◌, inl, inr, ℕ, ◌+◌, ◌-◌, ◌*◌, ◌/◌, ◌<◌, ◌≤◌, List, [], ◌∷◌, refl, sym, ap, subst, arith, Some, None, ◌∙◌}
use Rattle.std.specs.Prelude.{not, ◌⊎◌, nat_lt, slice_set, Option, unwrap_or, if◌then◌else◌, ◌==◌}
use Rattle.size_classes.specs.Sizes.{Geometry, page_of, chunk_pages}
use Rattle.size_classes.specs.Pages.{Run, Free, Used, total_pages, free_pages, given_at}
use Rattle.size_classes.specs.Runs.{Begins}
use Rattle.std.proofs.Math.Nat.{le_of_mul-le-mul_left, mul-pos}
use Rattle.size_classes.proofs.SmallClasses.{page-some}
use Rattle.pool_law.specs.declared.id.RegionId.{RegionId}
use Rattle.pool_law.specs.declared.report.ListName.{ListName}
use Rattle.pool_law.specs.declared.report.ListName.TheVariants.{QInit, Q000, Q025, Q050, Q075, Q100}
use Rattle.pool_law.specs.Chunks.{Chunk, Use, usage, usage_of}
use Rattle.pool_law.specs.ChunkLists.{least, lists_below, sunk, down_to, list_of}
use Rattle.pool_law.specs.Arenas.{Arena, chunk_at, unless_gone, run_given}
pub use Rattle.arena_laws.specs.Slots.{IsOne}
use Rattle.arena_laws.specs.Slots.{IsSlot, IsSound}
use Rattle.pool_law.proofs.ListLemmas.{slice_get-set_same}
use Rattle.arena_laws.proofs.ChunkSteps.{Keeps, Starts, starts, pages-pos, run_given-keeps, Elsewhere, same_or-not}
use Rattle.arena_laws.proofs.ArenaSteps.{chunk_at-same, chunk_at-other, chunk_at-below, not_empty}
use Rattle.std.proofs.lemmas.Bool.{cond_both}
use lib.Pow.{pow_pos}

pub free-all : (rs : Chunk) → free_pages rs ≤ total_pages rs
free-all [] = omega arith
free-all (Free n ∷ rs) = omega (arith, free-all rs)
free-all (Used n v ∷ rs) = omega (arith, free-all rs)

-- a run in use is not free
pub free-used : (rs : Chunk) (p m : ℕ) (w : Use) → Begins p (Used m w) rs → free_pages rs + m ≤ total_pages rs
free-used [] p m w b = absurd b
free-used (Free n ∷ rs) p m w (inl b) = absurd (cc b.1)
free-used (Free n ∷ rs) p m w (inr b) = omega (arith, free-used rs b.0 m w b.2)
free-used (Used n v ∷ rs) p m w (inl b) = let same : m ≡ n = cc b.1 in omega (arith, free-all rs)
free-used (Used n v ∷ rs) p m w (inr b) = omega (arith, free-used rs b.0 m w b.2)

-- the last list on the way down is left only by a chunk that is used for nothing
abbrev pub EndsLow : ListName → List ListName → Type 0
EndsLow here [] = least here ≤ 1
EndsLow here (next ∷ rest) = EndsLow next rest

pub lists_below-low : (here : ListName) → EndsLow here (lists_below here)
lists_below-low QInit = omega arith
lists_below-low Q000 = omega arith
lists_below-low Q025 = omega arith
lists_below-low Q050 = omega arith
lists_below-low Q075 = omega arith
lists_below-low Q100 = omega arith

pub sunk-stays : (percent : ℕ) (here : ListName) (rest : List ListName) → 1 ≤ percent → EndsLow here rest
    → sunk percent here rest ≡ None → ⊥
sunk-stays percent here [] used low =
    cond_both (nat_lt percent (least here)) None (Some here) (λ z. z ≡ None → ⊥)
    (λ yes e. omega (arith, ltb-true percent (least here) yes))
    (λ _ e. cc e)
sunk-stays percent here (next ∷ rest) used low =
    cond_both (nat_lt percent (least here)) (sunk percent next rest) (Some here) (λ z. z ≡ None → ⊥)
    (λ _ e. sunk-stays percent next rest used low e)
    (λ _ e. cc e)

-- a usage of nothing says that all is free
pub usage-nothing : (free size : ℕ) → 0 < size → usage_of free size < 1 → size ≤ free
usage-nothing free size pos =
    cond_both (free == 0) 100 (if (free * 100) / size == 0 then 99 else 100 - (free * 100) / size)
    (λ z. z < 1 → size ≤ free)
    (λ _ h. absurd (omega arith))
    (λ _. cond_both ((free * 100) / size == 0) 99 (100 - (free * 100) / size) (λ z. z < 1 → size ≤ free)
    (λ _ h. absurd (omega arith))
    (λ _ h. let quotient : 100 ≤ (free * 100) / size = omega arith in
    let product : 100 * size ≤ (free * 100) / size * size =
    mul-le 100 size ((free * 100) / size) size quotient (omega arith) in
    omega (arith, div-add-mod' (free * 100) size)))

-- a step from one arena to another: its chunks stay sound, and it keeps the slots that a fact allows
pub record Kept (g : Geometry) (a b : Arena) (P : RegionId → Type 0) : Type 0 where
  pub sound : (c : ℕ) → IsSound g (chunk_at b c)
  pub whole : (c : ℕ) → (chunk_at b c ≡ []) ⊎ (total_pages (chunk_at b c) ≡ chunk_pages g)
  pub slots : (s : RegionId) → P s → IsSlot g (chunk_at a s.place.chunk) s → IsSlot g (chunk_at b s.place.chunk) s
  pub takings : b.takings ≡ a.takings

pub no-slot-in_free : (g : Geometry) (chunk : Chunk) → IsSound g chunk → total_pages chunk ≡ chunk_pages g
    → usage g chunk < 1 → (s : RegionId) → IsSlot g chunk s → ⊥
no-slot-in_free g chunk sound total nothing s x =
    let at : Starts g chunk s = starts g chunk sound s x in
    let used : free_pages chunk + at.pages ≤ total_pages chunk = free-used chunk at.page at.pages at.what at.begins in
    let some : 0 < at.pages = pages-pos g chunk sound at.page (Used at.pages at.what) at.begins in
    let size : 0 < page_of g = page-some g sound.page in
    let all : page_of g * chunk_pages g ≤ page_of g * free_pages chunk =
    usage-nothing (page_of g * free_pages chunk) (page_of g * chunk_pages g) (mul-pos size (pow_pos g.order))
    nothing in
    let most : chunk_pages g ≤ free_pages chunk = le_of_mul-le-mul_left all size in
    omega (arith, total, used, some, most)

module _ (g : Geometry) (a : Arena) (sound : (c : ℕ) → IsSound g (chunk_at a c))
    (whole : (c : ℕ) → (chunk_at a c ≡ []) ⊎ (total_pages (chunk_at a c) ≡ chunk_pages g)) where
  pub total-here : (c p : ℕ) (r : Run Use) → Begins p r (chunk_at a c) → total_pages (chunk_at a c) ≡ chunk_pages g
  total-here c p r b = ⊎_elim (λ e. absurd (not_empty (chunk_at a c) p r b e)) (λ t. t) (whole c)

  -- a chunk is written
  pub written : (b : Arena) (c p : ℕ) (r : Run Use) (new : Chunk) (P : RegionId → Type 0) →
      Begins p r (chunk_at a c) → b.chunks ≡ slice_set a.chunks c (Some new) → Keeps g (chunk_at a c) new P
      → b.takings ≡ a.takings → Kept g a b (λ s. s.place.chunk ≡ c → P s)
  written b c p r new P begins is keeps as_many =
      record { sound = sounds; whole = wholes; slots = slot; takings = as_many }
    where
      here : chunk_at b c ≡ new
      here = chunk_at-same a b c new is (chunk_at-below a c p r begins)

      sounds : (d : ℕ) → IsSound g (chunk_at b d)
      sounds d =
          ⊎_elim
          (λ e. subst (λ k. IsSound g (chunk_at b k)) (sym e) (subst (λ x. IsSound g x) (sym here) keeps.sound))
          (λ other. subst (λ x. IsSound g x) (sym (chunk_at-other a b c d (Some new) is other)) (sound d))
          (same_or-not d c)

      wholes : (d : ℕ) → (chunk_at b d ≡ []) ⊎ (total_pages (chunk_at b d) ≡ chunk_pages g)
      wholes d =
          ⊎_elim
          (λ e. subst (λ k. (chunk_at b k ≡ []) ⊎ (total_pages (chunk_at b k) ≡ chunk_pages g)) (sym e)
          (inr (ap total_pages here ∙ keeps.total ∙ total-here c p r begins)))
          (λ other. subst (λ x. (x ≡ []) ⊎ (total_pages x ≡ chunk_pages g))
          (sym (chunk_at-other a b c d (Some new) is other)) (whole d))
          (same_or-not d c)

      slot : (s : RegionId) → (s.place.chunk ≡ c → P s) → IsSlot g (chunk_at a s.place.chunk) s
          → IsSlot g (chunk_at b s.place.chunk) s
      slot s allowed x =
          ⊎_elim
          (λ e. subst (λ k. IsSlot g (chunk_at b k) s) (sym e)
          (subst (λ y. IsSlot g y s) (sym here)
          (keeps.slots s (allowed e) (subst (λ k. IsSlot g (chunk_at a k) s) e x))))
          (λ other. subst (λ y. IsSlot g y s) (sym (chunk_at-other a b c s.place.chunk (Some new) is other)) x)
          (same_or-not s.place.chunk c)

  -- a chunk that is used for nothing is destroyed
  pub destroyed : (b : Arena) (c p : ℕ) (r : Run Use) (new : Chunk) (P : RegionId → Type 0) →
      Begins p r (chunk_at a c) → b.chunks ≡ slice_set a.chunks c None → Keeps g (chunk_at a c) new P → usage g new < 1
      → b.takings ≡ a.takings → Kept g a b (λ s. s.place.chunk ≡ c → P s)
  destroyed b c p r new P begins is keeps nothing as_many =
      record { sound = sounds; whole = wholes; slots = slot; takings = as_many }
    where
      here : chunk_at b c ≡ []
      here =
          rw is (ap (λ o. unwrap_or (unwrap_or o None) [])
          (slice_get-set_same a.chunks c None (chunk_at-below a c p r begins)))

      sounds : (d : ℕ) → IsSound g (chunk_at b d)
      sounds d =
          ⊎_elim
          (λ e. subst (λ k. IsSound g (chunk_at b k)) (sym e)
          (subst (λ x. IsSound g x) (sym here)
          (record { page = (sound 0).page; none_empty = tt; elements_fit = tt })))
          (λ other. subst (λ x. IsSound g x) (sym (chunk_at-other a b c d None is other)) (sound d))
          (same_or-not d c)

      wholes : (d : ℕ) → (chunk_at b d ≡ []) ⊎ (total_pages (chunk_at b d) ≡ chunk_pages g)
      wholes d =
          ⊎_elim
          (λ e. subst (λ k. (chunk_at b k ≡ []) ⊎ (total_pages (chunk_at b k) ≡ chunk_pages g)) (sym e) (inl here))
          (λ other. subst (λ x. (x ≡ []) ⊎ (total_pages x ≡ chunk_pages g)) (sym (chunk_at-other a b c d None is other))
          (whole d))
          (same_or-not d c)

      slot : (s : RegionId) → (s.place.chunk ≡ c → P s) → IsSlot g (chunk_at a s.place.chunk) s
          → IsSlot g (chunk_at b s.place.chunk) s
      slot s allowed x =
          ⊎_elim
          (λ e. absurd (no-slot-in_free g new keeps.sound (keeps.total ∙ total-here c p r begins) nothing s
          (keeps.slots s (allowed e) (subst (λ k. IsSlot g (chunk_at a k) s) e x))))
          (λ other. subst (λ y. IsSlot g y s) (sym (chunk_at-other a b c s.place.chunk None is other)) x)
          (same_or-not s.place.chunk c)

  -- a chunk that a run came back to is written, or destroyed where it is used for nothing
  pub settled : (b : Arena) (c p : ℕ) (r : Run Use) (new : Chunk) (P : RegionId → Type 0) (l : Option ListName) →
      Begins p r (chunk_at a c) → b.chunks ≡ slice_set a.chunks c (unless_gone l (down_to (usage g new) l) new)
      → Keeps g (chunk_at a c) new P → b.takings ≡ a.takings → Kept g a b (λ s. s.place.chunk ≡ c → P s)
  settled b c p r new P None begins is keeps as_many = written b c p r new P begins is keeps as_many
  settled b c p r new P (Some here) begins is keeps as_many =
      go (sunk (usage g new) here (lists_below here))
      (λ used. sunk-stays (usage g new) here (lists_below here) used (lists_below-low here)) is
    where
      go : (o : Option ListName) → (1 ≤ usage g new → o ≡ None → ⊥)
          → b.chunks ≡ slice_set a.chunks c (unless_gone (Some here) o new) → Kept g a b (λ s. s.place.chunk ≡ c → P s)
      go None stays gone =
          destroyed b c p r new P begins gone keeps
          (⊎_elim (λ e. omega (arith, e))
          (λ some. absurd (stays (let ne : usage g new ≢ 0 = some in omega arith) refl))
          (same_or-not (usage g new) 0)) as_many
      go (Some there) stays kept = written b c p r new P begins kept keeps as_many

  pub run_given-is : (c page m : ℕ) (what : Use) → (here : Begins page (Used m what) (chunk_at a c)) →
      Kept g a (run_given g a c page) (λ s. s.place.chunk ≡ c → Elsewhere g (chunk_at a c) (sound c) page m what here s)
  run_given-is c page m what here =
      settled (run_given g a c page) c page (Used m what) (given_at page (chunk_at a c))
      (Elsewhere g (chunk_at a c) (sound c) page m what here) (list_of a.lists c) here refl
      (run_given-keeps g (chunk_at a c) (sound c) page m what here) refl
