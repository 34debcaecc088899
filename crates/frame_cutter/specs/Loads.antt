-- What came into a block, and what was found in it.
use Rattle.std.specs.Prelude.{◌≡◌, ℕ, Bool, List, ◌++◌, length, Option, Some}
use Rattle.text_ends.specs.Ends.{Rose}
use Rattle.frame_core.specs.Frames.{failure_of, refusal}
use Rattle.frame_slices.specs.declared.slicer.Found.{Found}
use Rattle.frame_slices.specs.declared.slicer.Slicer.{Slicer}
use Rattle.frame_slices.specs.Slices.{HasCut}
use Rattle.frame_cutter.specs.declared.loading.Loaded.{Loaded}
use Rattle.frame_cutter.specs.declared.loading.Loaded.TheVariants.{Block, Refused, Fault}
use Rattle.frame_cutter.specs.Finds.{GoThrough}
use Rattle.frame_cutter.specs.Gifts.{Gives}

module _ {S : Type 0} (left : S → Option (List ℕ)) (faults : S → ℕ) where
  -- by what came: the bytes at the front of the block are the source's next, and the slicer went
  -- through them with these finds, or met a refusal; or a read failed
  abbrev pub IsLoaded :
      Loaded → S → S → Slicer → Slicer → List Found → List ℕ → Type 0
  IsLoaded (Block last) old new before behind finds block =
      (bytes : List ℕ) × (rest : List ℕ) × ((block ≡ bytes ++ rest)
      × Gives left faults old new (length block) bytes last
      × ((gone own : List ℕ) → HasCut before gone own → GoThrough finds bytes 0 gone own behind))
  IsLoaded (Refused why) old new before behind finds block =
      (bytes : List ℕ) × (last : Bool) × (Gives left faults old new (length block) bytes last
      × ((gone own : List ℕ) → HasCut before gone own
      → refusal (failure_of (gone ++ bytes)) ≡ Some why))
  IsLoaded Fault old new before behind finds block = Rose (faults old) (faults new)
