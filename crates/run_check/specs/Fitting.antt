-- The names that commands have brought.
use Rattle.std.specs.Prelude.{◌≡◌, ℕ, Bool, not, List}
use Rattle.std.specs.List.{list_all}
use Rattle.std.specs.Ordering.{nat_cmp}
use Rattle.std.specs.BTreeSet.{BTreeSet, contains}
use Rattle.pool_law.specs.declared.command.Command.{Command}
use Rattle.pool_law.specs.Legal.{new_name, is_named}

-- none of these commands brings the name
abbrev pub is_new : List Command → ℕ → Bool
is_new earlier name = list_all (λ c. not (is_named name (new_name c))) earlier

-- these are the names that the commands bring
abbrev pub AreBrought : BTreeSet ℕ → List Command → Type 0
AreBrought names earlier = (name : ℕ) → contains nat_cmp names name ≡ not (is_new earlier name)
