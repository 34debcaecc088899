-- A chunk place, by its fields.
use Rattle.std.proofs.Common.{◌≡◌, ℕ, ◌*◌, ◌-◌, ◌/◌, ◌^◌, [], refl, sym, ap, ◌∙◌, subst, Bool, true, false, Some, ap₂, ne_eqb}
use Rattle.std.specs.Prelude.{IsSome, length, replicate, unwrap_or, ◌==◌, if◌then◌else◌}
use Rattle.std.proofs.Math.Nat.{mul-div_cancel}
use Rattle.std.proofs.lemmas.List.{length-replicate}
use lib.Pow.{pow_pos}
use Rattle.ground.specs.Ground.{Segment}
use Rattle.size_classes.specs.Sizes.{Geometry, of_pages, chunk_bytes}
use Rattle.size_classes.specs.Pages.{Run, run_at}
use Rattle.pool_law.specs.Chunks.{Chunk, Use, free_bytes, usage}
use Rattle.pool_chunk.specs.ChunkStates.{ChunkState, with_runs, geometry_on}
use Rattle.pool_arena.specs.Places.{PlaceState, with_chunk, runs_of, state_of, if_used, place_in, IsPlace}
use Rattle.pool_arena.specs.declared.place.ChunkPlace.TheInside.{Inside}

-- a ground of the bytes of so many pages has the sizes that they make
pub ground-geometry : (order page n : ℕ) (s : Segment) → s.bytes ≡ replicate n 0 → n ≡ page * 2 ^ order
    → geometry_on order s ≡ of_pages order page
ground-geometry order page n s bytes size =
    ap (λ (k : ℕ). of_pages order (k / 2 ^ order)) (ap length bytes ∙ length-replicate n 0 ∙ size)
    ∙ ap (of_pages order) (mul-div_cancel page (pow_pos order))

-- where there is a chunk the place is in use
some-used : (used : Bool) (runs : Chunk) → IsSome (if_used used runs) → used ≡ true
some-used true runs some = refl
some-used false runs some = absurd (cc some)

pub place-used : (p : Inside) (v : PlaceState) → place_in p ≡ v → IsSome v.chunk → p.used ≡ true
place-used p v same some =
    some-used p.used p.chunk.runs (subst (λ (w : PlaceState). IsSome w.chunk) (sym same) some)

-- and so it is where a run begins at a page
pub run-used : (p : Inside) (v : PlaceState) (page : ℕ) (r : Run Use) → place_in p ≡ v
    → run_at page (runs_of v) ≡ Some r → p.used ≡ true
run-used p v page r same found =
    by p.used refl (subst (λ (w : PlaceState). run_at page (runs_of w) ≡ Some r) (sym same) found)
  where
    by : (used : Bool) → p.used ≡ used → run_at page (runs_of (place_in p)) ≡ Some r → p.used ≡ true
    by true is e = is
    by false is e =
        let none : run_at page (unwrap_or (if_used false p.chunk.runs) []) ≡ Some r =
        subst (λ (b : Bool). run_at page (unwrap_or (if_used b p.chunk.runs) []) ≡ Some r) is e in
        absurd (cc none)

-- the chunk of a place in use is that which is seen
pub place-chunk : (p : Inside) (v : PlaceState) → place_in p ≡ v → p.used ≡ true → p.chunk ≡ state_of v
place-chunk p v same used =
    ap (λ (b : Bool). record {
      origin = p.chunk.origin;
      geometry = p.chunk.geometry;
      runs =
          unwrap_or (if_used b p.chunk.runs) [];
    }) (sym used)
    ∙ ap state_of same

-- the place once its chunk has other runs
pub place-after : (p : Inside) (v : PlaceState) (new : ChunkState) (runs : Chunk) → place_in p ≡ v → p.used ≡ true
    → new ≡ with_runs p.chunk runs
    → place_in (record { chunk = new; deed = p.deed; used = p.used }) ≡ with_chunk v (Some runs)
place-after p v new runs same used is =
    ap (λ (c : ChunkState). place_in (record { chunk = c; deed = p.deed; used = p.used })) is
    ∙ ap (λ (b : Bool). with_chunk (place_in p) (if_used b runs)) used
    ∙ ap (λ (w : PlaceState). with_chunk w (Some runs)) same

-- the place once a step makes other runs of its own
pub place-changed : (p : Inside) (v : PlaceState) (new : ChunkState) (step : Chunk → Chunk) → place_in p ≡ v
    → p.used ≡ true
    → new ≡ with_runs p.chunk (step p.chunk.runs) → place_in (record { chunk = new; deed = p.deed; used = p.used })
    ≡ with_chunk v (Some (step (runs_of v)))
place-changed p v new step same used is =
    place-after p v new (step p.chunk.runs) same used is
    ∙ ap (λ (c : ChunkState). with_chunk v (Some (step c.runs))) (place-chunk p v same used)

-- a place in use has no fact about its chunk
pub place-held : (p : Inside) → p.deed ≡ p.chunk.origin → p.used ≡ true → IsPlace p
place-held p deed used = record { deed = deed; unused = λ unused. absurd (cc (used, unused)) }

-- the usage of a chunk of which something is free
pub usage-some : (g : Geometry) (runs : Chunk) (free size percent : ℕ) → free ≡ free_bytes g runs → size ≡ chunk_bytes g
    → (free ≡ 0 → ⊥)
    → percent ≡ (free * 100) / size → (if percent == 0 then 99 else 100 - percent) ≡ usage g runs
usage-some g runs free size percent free_is size_is some percent_is =
    ap (λ (k : ℕ). if k == 0 then 99 else 100 - k) (percent_is ∙ ap₂ (λ (f s : ℕ). (f * 100) / s) free_is size_is)
    ∙ sym (ap (λ (b : Bool). if b then 100 else if (free_bytes g runs * 100) / chunk_bytes g == 0 then 99 else 100
    - (free_bytes g runs * 100) / chunk_bytes g) (ne_eqb (free_bytes g runs) 0 (λ e. some (free_is ∙ e))))
