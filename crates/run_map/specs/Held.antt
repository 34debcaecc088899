-- How a `RunMap` holds its free runs. No public clause cites this module.
use Rattle.std.specs.Prelude.{◌≡◌, ◌*◌, ◌^◌, ◌≤◌, sum}
use Rattle.size_classes.specs.Sizes.{IsPage}
use Rattle.size_classes.specs.Spans.{run_lengths}
use Rattle.run_map.specs.FreeRuns.{FreeRuns}
use Rattle.run_map.specs.Spaced.{IsRunLayout}
use Rattle.run_map.specs.Stored.{stored, IsStore}
use Rattle.run_map.specs.declared.map.RunMap.TheInside.{Inside}

abbrev pub free_runs : Inside → FreeRuns
free_runs m = record {
  origin = m.layout.site.origin;
  page = m.layout.page;
  order = m.order;
  runs = stored m.store;
}

pub record IsRunMap (m : Inside) : Type 0 where
  pub order : (3 ≤ m.order) × (m.order ≤ 11)
  pub page : IsPage m.layout.page
  pub pages : m.layout.pages ≡ 2 ^ m.order
  pub layout : IsRunLayout m.layout
  pub size : m.layout.site.origin.size ≡ m.layout.pages * m.layout.page
  pub store : IsStore m.layout m.store
  pub total : m.total ≡ sum (run_lengths (stored m.store)) * m.layout.page
