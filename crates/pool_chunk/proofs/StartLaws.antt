-- Where the run begins in which a page lies, by the slots of a chunk.
use Rattle.std.proofs.Common.{◌≡◌, ℕ, ◌<◌, ◌≤◌, get_or, ◌∙◌, sym, subst, arith}
use Rattle.std.specs.Prelude.{◌⊎◌, vec_len}
use Rattle.std.proofs.lemmas.Bool.{cases_lt}
use Rattle.size_classes.specs.Pages.{Used, run_start}
use Rattle.size_classes.specs.Runs.{Begins}
use Rattle.size_classes.proofs.Runs.{Begins-inside, Begins-run_at, run_start-Begins}
use Rattle.pool_chunk.specs.declared.slot.PageUse.{PageUse}
use Rattle.pool_chunk.specs.declared.chunk.Chunk.TheInside.{Inside}
use Rattle.pool_chunk.specs.ChunkStates.{IsInUse}
use Rattle.pool_chunk.specs.Held.{runs_in, state_in, IsHeld}
use Rattle.pool_chunk.proofs.SlotLaws.{length-slots, slot-some, slot-inside}
use mathlib.Core.Logic.{inl, inr}

module _ (c : Inside) (is : IsHeld c) (page : ℕ) (h : IsInUse (state_in c) page) where
  pub start-begins : Begins h.start (Used h.pages h.what) (runs_in c)
  start-begins = Begins-run_at (runs_in c) h.start (Used h.pages h.what) h.run

  -- each page up to that one has a slot
  pub start-room : (at : ℕ) → at ≤ page → at < vec_len c.slots
  start-room at le =
      omega (
        arith,
        h.within,
        le,
        Begins-inside (runs_in c) h.start (Used h.pages h.what) start-begins,
        length-slots c.classes c.map.runs c.slots.items (runs_in c) is.runs,
        c.slots.ok.0,
      )

  -- a page at which nothing begins is behind the start
  pub start-behind : (at : ℕ) (x : PageUse) → h.start ≤ at → x ≡ get_or c.slots.items at x → x ≡ PageUse.Nothing
      → h.start < at
  start-behind at x from here nothing = by (cases_lt h.start at)
    where
      by : (h.start < at) ⊎ (at ≤ h.start) → h.start < at
      by (inl lt) = lt
      by (inr le) =
          let same : at ≡ h.start = omega (arith, le, from) in
          absurd (slot-some c.classes c.map.runs c.slots.items (runs_in c) is.runs h.start h.pages h.what x start-begins
          (subst (λ (k : ℕ). x ≡ get_or c.slots.items k x) same here) nothing)

  -- the first at which something does, from the page down, is the start
  pub start-found : (at : ℕ) (x : PageUse) → h.start ≤ at → at ≤ page → x ≡ get_or c.slots.items at x
      → (x ≡ PageUse.Nothing → ⊥)
      → at ≡ run_start page (runs_in c)
  start-found at x from le here some = by (cases_lt h.start at)
    where
      by : (h.start < at) ⊎ (at ≤ h.start) → at ≡ run_start page (runs_in c)
      by (inl lt) =
          absurd (some (slot-inside c.classes c.map.runs c.slots.items (runs_in c) is.runs h.start at h.pages h.what x
          start-begins lt (omega (arith, le, h.within)) here))
      by (inr low) =
          let same : at ≡ h.start = omega (arith, low, from) in
          same ∙ sym (run_start-Begins (runs_in c) h.start page (Used h.pages h.what) start-begins h.from h.within)
