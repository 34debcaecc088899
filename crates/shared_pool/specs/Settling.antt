-- What home values settle, as a pool opens with them.
use Rattle.std.specs.Prelude.{List, Option, Some, None, filter_map}
use Rattle.ground.specs.Ground.{Origin}
use Rattle.step_law.specs.Settings.{Setting}
use Rattle.shared_pool.specs.declared.home.Home.{Home}
use Rattle.shared_pool.specs.declared.home.Home.TheVariants.{Arena}

-- the grounds of an arena
abbrev pub grounds_in : Home → Option (List Origin)
grounds_in (Arena a) = Some a.value.grounds
grounds_in _ = None

-- the grounds of the arenas, in the order of the home values
abbrev pub settled_by : List Home → Setting
settled_by homes = record { grounds = filter_map grounds_in homes }
