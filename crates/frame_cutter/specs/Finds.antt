-- What the slicer of a cutter found in its block.
use Rattle.std.specs.Prelude.{◌≡◌, ℕ, ◌-◌, ◌≤◌, Bool, true, false, List, [], ◌∷◌, ◌++◌, length, slice_range}
use Rattle.pool_law.specs.declared.id.RootId.{RootId}
use Rattle.pool_law.specs.declared.id.ViewData.{ViewData}
use Rattle.frame_slices.specs.declared.slicer.Found.{Found}
use Rattle.frame_slices.specs.declared.slicer.Slicer.{Slicer}
use Rattle.frame_slices.specs.Slices.{HasCut, Takes}
use Rattle.frame_cutter.specs.declared.stage.Stage.{Stage}
use Rattle.frame_cutter.specs.declared.stage.Stage.TheVariants.{Cutting, Handing}

-- the slice of a root from one place to another
abbrev pub slice_at : RootId → ℕ → ℕ → ViewData
slice_at root start end =
    record { root = root; offset = start; len = end - start; reader = 0; writer = end - start }

-- what comes next where a frame ended behind so many finds in the block, or didn't
abbrev pub stage_at : RootId → ℕ → Bool → Stage
stage_at root used true = Handing root used 0
stage_at root used false = Cutting root used

-- the bytes of the present frame, behind a part that ended it or didn't
abbrev pub own_then : Bool → List ℕ → List ℕ → List ℕ
own_then true own part = []
own_then false own part = own ++ part

-- this was found from a place of a block on, which the stream comes to behind these bytes, some of
-- them the present frame's own
pub record IsFind
    (f : Found) (block : List ℕ) (used : ℕ) (bytes own : List ℕ) (s : Slicer) : Type 0
  where
    pub start : used ≤ f.start
    pub end : f.start ≤ f.used
    pub within : f.used ≤ length block
    pub takes : Takes bytes (bytes ++ slice_range block used f.used) own
        (slice_range block f.start f.used) f.ended s

-- these finds, one behind the other, go through the block from there to its end, where the slicer is
abbrev pub GoThrough : List Found → List ℕ → ℕ → List ℕ → List ℕ → Slicer → Type 0
GoThrough [] block used bytes own s = (used ≡ length block) × HasCut s bytes own
GoThrough (f ∷ fs) block used bytes own s =
    (mid : Slicer) × (IsFind f block used bytes own mid
    × GoThrough fs block f.used (bytes ++ slice_range block used f.used)
    (own_then f.ended own (slice_range block f.start f.used)) s)
