-- Chunks of sixteen pages, and what the lists make of a usage.
use Rattle.std.specs.Prelude.{ℕ, true, false, List, [], ◌∷◌, map, replicate, Option, Some}
use Rattle.size_classes.specs.Pages.{Free, Used}
use Rattle.size_classes.specs.Elements.{Elements}
use Rattle.pool_law.specs.declared.report.ListName.{ListName}
use Rattle.pool_law.specs.Chunks.{Chunk, Whole, Sub}
use Rattle.pool_law.specs.ChunkLists.{risen, lists_above, down_to}

-- ten pages in use and five, and one that is free
abbrev pub merged_runs : Chunk
merged_runs = Used 10 Whole ∷ Used 5 Whole ∷ Free 1 ∷ []

-- one subpage of four elements, none of which is out
abbrev pub with_four_elements : Option ℕ → Chunk
with_four_elements remembered =
    Used 1
    (Sub 23 (record { out = false ∷ false ∷ false ∷ false ∷ []; remembered = remembered }))
    ∷ Free 15
    ∷ []

-- so many elements, all of them out
abbrev pub elements_out : ℕ → Option ℕ → Elements
elements_out count remembered = record { out = replicate count true; remembered = remembered }

-- where chunks of these usages stop, going up from a list
abbrev pub up_from : ListName → List ℕ → List ListName
up_from here usages = map (λ percent. risen percent here (lists_above here)) usages

-- where they stop, going down
abbrev pub down_from : ListName → List ℕ → List (Option ListName)
down_from here usages = map (λ percent. down_to percent (Some here)) usages
